use Rattle.std.proofs.Common.{◌+◌, ◌∙◌, List, drop, sym, subst, arith}
use Rattle.std.proofs.lemmas.List.{drop_more, drop_all}
use Rattle.pst_base.specs.declared.places.Place.{Place as Places}
use Rattle.alloc_map.specs.Taken.{Taken}
use Rattle.alloc_map.proofs.TakenLaws.{taken-all}
use Rattle.alloc_map.proofs.slots.Slots.retake.Goals as goal

pub loop-place-preserved : goal.loop-place-preserved
loop-place-preserved c =
    let i = c.loop-place.place-index in
    let rest = drop (i + 1) c.args.places.now in
    let e = drop_more c.args.places.now i (record { ib = 0; len = 0 }) c.loop-place-test.true in
    record {
      left = λ after taken. c.use_free.ensures.rest after rest (subst (λ (l : List Places). Taken c.loop-place.self after l) e (c.loop-place.invariant.left after taken));
      size = c.use_free.ensures.size ∙ c.loop-place.invariant.size;
    }

pub returns-clause-taken : goal.returns-clause-taken
returns-clause-taken c = λ after taken.
    let i = c.loop-place.place-index in
    let none = drop_all i c.args.places.now (omega (arith, c.loop-place-test.false)) in
    sym (taken-all c.loop-place.self after (subst (λ (l : List Places). Taken c.loop-place.self after l) none (c.loop-place.invariant.left after taken)))
