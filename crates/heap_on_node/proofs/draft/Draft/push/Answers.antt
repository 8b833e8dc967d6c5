use Rattle.heap_on_node.proofs.DraftLaws.{cut-push, IsCut-push}
use Rattle.heap_on_node.proofs.draft.Draft.push.Goals as goal

pub invariant_of-self-in-Ok : goal.invariant_of-self-in-Ok
invariant_of-self-in-Ok c =
    rw (c.in-Ok.ensures.items, c.in_ok-extend_from_slice.ensures.items)
    (IsCut-push c.self.inside.sizes.items c.self.inside.bytes.items c.args.item.now c.self.invariant)

pub returns-in-Ok-clause-ok : goal.returns-in-Ok-clause-ok
returns-in-Ok-clause-ok c =
    rw (c.in-Ok.ensures.items, c.in_ok-extend_from_slice.ensures.items, ← c.self.view_is)
    (cut-push c.self.inside.sizes.items c.self.inside.bytes.items c.args.item.now c.self.invariant)
