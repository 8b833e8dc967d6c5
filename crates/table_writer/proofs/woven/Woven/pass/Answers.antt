use Rattle.std.proofs.Common.{◌∙◌, ◌<◌, ◌≤◌, ◌+◌, ◌++◌, ◌∷◌, [], List, sym, ap, append_assoc, arith}
use Rattle.pst_base.specs.declared.subs.Sub.{Sub}
use Rattle.table_writer.specs.Woven.{new_id}
use Rattle.table_writer.proofs.WovenLaws.{all-above, pass-step}
use Rattle.table_writer.proofs.woven.Woven.pass.Goals as goal
use Rattle.table_writer.proofs.woven.Woven.pass.Goals.{then-first-next, else-first-next}

pub passing-preserved : goal.passing-preserved
passing-preserved c =
    let lt : c.in-Some.first.now.nid.bits < new_id c.if-first-next.next = elim c.if-first-next.branch [ then-first-next w ↦ omega (arith, w.next-is, w.if-first-next.true) | else-first-next w ↦ omega (arith, w.next-is, w.if-first-next.false, c.in-Some.ensures.1) ] in
    let low : c.passing.next ≤ c.if-first-next.next = elim c.if-first-next.branch [ then-first-next w ↦ omega (arith, w.next-is) | else-first-next w ↦ omega (arith, w.next-is) ] in
    let high : c.if-first-next.next ≤ c.passing.next + 1 = elim c.if-first-next.branch [ then-first-next w ↦ omega (arith, w.next-is) | else-first-next w ↦ omega (arith, w.next-is) ] in
    rw c.in_ok-push.ensures.items (record {
      woven = pass-step c.passing.done.items c.passing.rest.now c.in-Some.others.now c.in-Some.first.now c.in_ok-copy_sub.field-0 c.passing.next c.if-first-next.next c.passing.invariant.woven c.in-Some.ensures.0 c.in_ok-copy_sub.ensures lt low high;
      same = append_assoc c.passing.done.items (c.in_ok-copy_sub.field-0 ∷ []) c.in-Some.others.now ∙ ap (λ (s : Sub). c.passing.done.items ++ s ∷ c.in-Some.others.now) c.in_ok-copy_sub.ensures
          ∙ ap (λ (ss : List Sub). c.passing.done.items ++ ss) (sym c.in-Some.ensures.0) ∙ c.passing.invariant.same;
    })

pub returns : goal.returns
returns c = record {
  woven = c.passing.invariant.woven;
  same = c.passing.invariant.same;
  above = all-above c.passing.done.items c.passing.rest.now c.passing.next (new_id c.passing.next) c.passing.invariant.woven c.in_default.ensures;
}
