use Rattle.std.proofs.Common.{◌≡◌, ◌∙◌, true, map, subst, sym}
use Rattle.node_port.specs.Nodes.{ascend}
use Rattle.staged_nodes.specs.Staged.{change_of}
use Rattle.staged_nodes.specs.Staging.{kept_slots}
use Rattle.staged_nodes.proofs.ListLaws.{all-kept, slots_ascend, slots_listed}
use Rattle.staged_nodes.proofs.staging.Staging.changes.Goals as goal

pub returns-clause-nodes : goal.returns-clause-nodes
returns-clause-nodes c = λ F has.
    all-kept (map change_of (kept_slots c.args.self.now.slots.entries)) c.loop-nid.nodes.items c.loop-nid.nid-iterator c.loop-nid.invariant c.in-None.ensures.steps.0
    ∙ slots_listed c.args.self.now.slots F c.into_iter-nid-iterator.ensures.into_iter_gives.5 has

pub returns-clause-order : goal.returns-clause-order
returns-clause-order c =
    let all = map change_of (kept_slots c.args.self.now.slots.entries) in
    subst (λ l. ascend 0 l ≡ true) (sym (all-kept all c.loop-nid.nodes.items c.loop-nid.nid-iterator c.loop-nid.invariant c.in-None.ensures.steps.0))
    (slots_ascend c.args.self.now.slots c.into_iter-nid-iterator.ensures.into_iter_gives.5)
