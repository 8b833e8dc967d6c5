use Rattle.std.proofs.Common.{◌∙◌, ap, subst, sym}
use Rattle.pst_outside.proofs.Moments.{stays_settled}
use Rattle.node_port.specs.Stops.{Room}
use Rattle.mail_transactions.specs.Committing.{LeavesNodes}
use Rattle.mail_transactions.proofs.CommitLaws.{becomes_made, nodes_made, not_empty}
use Rattle.mail_transactions.proofs.committing.commit_changes.Goals as goal

pub returns-in-Ok-apply-clause-commits : goal.returns-in-Ok-apply-clause-commits
returns-in-Ok-apply-clause-commits g c = λ N held settled at_rest tells counted enough.
    let k = c.args.keeper.now in
    let v = g.W.Outside.view c.args.world.now in
    let m = g.W.Outside.view c.prepare.new.w in
    let w = g.W.Outside.view c.apply.new.w in
    let cs = c.args.changes.nodes.items in
    let counters = c.args.changes.counts.last in
    let same = c.prepare.ensures.untouched in
    let fits = c.in-Ok.ensures.fits in
    let mid = c.prepare.ensures.stays N held in
    let mid_rest : m.tells → g.K.Keeper.rests m.here = λ t. subst g.K.Keeper.rests (sym (same.stays.here t)) (at_rest (same.stays.told t)) in
    let mid_settled = stays_settled settled same in
    let room = c.prepare.ensures.room in
    let moments = subst (λ (r : Room). LeavesNodes (g.K.Keeper.stands r.found) (g.K.NodeReader.last c.prepare.new.self) m w N cs counters) room (c.apply.ensures.any_moment counters cs fits N mid mid_settled mid_rest) in
    record {
      held = c.in-Ok-apply.ensures.made counters cs fits mid_rest tells N mid;
      keeps = λ p M told. c.in-Ok-apply.ensures.pinned mid_rest tells N mid p M (c.prepare.ensures.pinned N held p M told);
      counted = c.in-Ok-apply.ensures.last counters cs fits;
      found = c.apply.ensures.found ∙ ap (λ (r : Room). r.found) room;
      pins = c.apply.ensures.pins ∙ ap (λ (r : Room). r.pins) room;
      settled = c.in-Ok-apply.ensures.settled mid_settled;
      at_rest = c.in-Ok-apply.ensures.rests mid_rest;
      written = λ t some. becomes_made (g.K.Keeper.applied (g.K.NodeReader.room k).pins cs) v m w (g.K.Keeper.cost c.in-Ok.ready) same c.apply.ensures.told t c.apply.ensures.written
          (subst (λ (r : Room). g.K.Keeper.applied r.pins cs (g.K.Keeper.cost c.in-Ok.ready) m.here w.here) room (c.in-Ok-apply.ensures.applied counters cs fits N mid mid_rest t));
      unwritten = λ t none. absurd (not_empty cs c.args.changes.nodes.len c.is_empty.result c.args.changes.nodes.ok.0 c.is_empty.ensures c.if-is_empty.false none);
      leaves = nodes_made (g.K.Keeper.stands (g.K.NodeReader.room k).found) (g.K.NodeReader.last k) v m w N cs counters settled same (g.met.K.Keeper.held_stands k c.args.world.now N held) c.apply.ensures.told
          (subst (λ l. LeavesNodes (g.K.Keeper.stands (g.K.NodeReader.room k).found) l m w N cs counters) c.prepare.ensures.last moments);
    }

pub returns-in-Err-apply-clause-commits : goal.returns-in-Err-apply-clause-commits
returns-in-Err-apply-clause-commits g c = λ N held settled at_rest tells counted enough.
    let k = c.args.keeper.now in
    let v = g.W.Outside.view c.args.world.now in
    let m = g.W.Outside.view c.prepare.new.w in
    let w = g.W.Outside.view c.apply.new.w in
    let cs = c.args.changes.nodes.items in
    let counters = c.args.changes.counts.last in
    let same = c.prepare.ensures.untouched in
    let fits = c.in-Ok.ensures.fits in
    let mid = c.prepare.ensures.stays N held in
    let mid_rest : m.tells → g.K.Keeper.rests m.here = λ t. subst g.K.Keeper.rests (sym (same.stays.here t)) (at_rest (same.stays.told t)) in
    let mid_settled = stays_settled settled same in
    let room = c.prepare.ensures.room in
    let moments = subst (λ (r : Room). LeavesNodes (g.K.Keeper.stands r.found) (g.K.NodeReader.last c.prepare.new.self) m w N cs counters) room (c.apply.ensures.any_moment counters cs fits N mid mid_settled mid_rest) in
    nodes_made (g.K.Keeper.stands (g.K.NodeReader.room k).found) (g.K.NodeReader.last k) v m w N cs counters settled same (g.met.K.Keeper.held_stands k c.args.world.now N held) c.apply.ensures.told
    (subst (λ l. LeavesNodes (g.K.Keeper.stands (g.K.NodeReader.room k).found) l m w N cs counters) c.prepare.ensures.last moments)
