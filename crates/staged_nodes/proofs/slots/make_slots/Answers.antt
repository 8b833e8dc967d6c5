use Rattle.std.proofs.Common.{◌∙◌, sym, ap, subst, take, ◌++◌, ◌∷◌, []}
use Rattle.std.proofs.lemmas.List.{take_more}
use Rattle.staged_nodes.specs.Staging.{HasSlots}
use Rattle.staged_nodes.proofs.SlotLaws.{slots_stay, one_slot_more}
use Rattle.staged_nodes.proofs.slots.make_slots.Goals as goal

pub loop-change-preserved : goal.loop-change-preserved
loop-change-preserved c =
    let old = c.loop-change.slots in
    let new = c.make_slot.new.slots in
    let before = take c.loop-change.change-index c.args.changes.now in
    let more = one_slot_more new before c.change-item.result (slots_stay old new before c.make_slot.ensures.same c.loop-change.invariant.ready) c.in_ok-make_slot.ensures.slot in
    record {
      same = λ q. ((c.make_slot.ensures.same q).0 ∙ (c.loop-change.invariant.same q).0, (λ is. (c.make_slot.ensures.same q).1 ((c.loop-change.invariant.same q).1 is)));
      ready = subst (HasSlots new) (ap (λ x. before ++ x ∷ []) c.change-item.is ∙ sym (take_more c.args.changes.now c.loop-change.change-index c.change-item.result c.loop-change-test.true)) more;
    }
