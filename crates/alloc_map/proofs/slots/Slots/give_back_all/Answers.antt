use Rattle.std.proofs.Common.{◌+◌, List, Bool, drop, get_or, subst, arith}
use Rattle.std.proofs.lemmas.List.{drop_more, drop_all}
use Rattle.pst_base.specs.declared.places.Place.{Place as Places}
use Rattle.alloc_map.specs.Taken.{Taken}
use Rattle.alloc_map.proofs.TakenLaws.{taken-first, taken-back, taken-all}
use Rattle.alloc_map.proofs.slots.Slots.give_back_all.Goals as goal

pub give_back-requires-clause-laid : goal.give_back-requires-clause-laid
give_back-requires-clause-laid c =
    let i = c.loop-place.place-index in
    let e = drop_more c.args.places.now i (record { ib = 0; len = 0 }) c.loop-place-test.true in
    let t = c.loop-place.invariant.some in
    (taken-first t.0 c.loop-place.self (get_or c.args.places.now i (record { ib = 0; len = 0 })) (drop (i + 1) c.args.places.now) (subst (λ (l : List Places). Taken t.0 c.loop-place.self l) e t.1)).0

pub give_back-requires-clause-used : goal.give_back-requires-clause-used
give_back-requires-clause-used c =
    let i = c.loop-place.place-index in
    let e = drop_more c.args.places.now i (record { ib = 0; len = 0 }) c.loop-place-test.true in
    let t = c.loop-place.invariant.some in
    (taken-first t.0 c.loop-place.self (get_or c.args.places.now i (record { ib = 0; len = 0 })) (drop (i + 1) c.args.places.now) (subst (λ (l : List Places). Taken t.0 c.loop-place.self l) e t.1)).1

pub loop-place-preserved : goal.loop-place-preserved
loop-place-preserved c =
    let i = c.loop-place.place-index in
    let p = get_or c.args.places.now i (record { ib = 0; len = 0 }) in
    let rest = drop (i + 1) c.args.places.now in
    let e = drop_more c.args.places.now i (record { ib = 0; len = 0 }) c.loop-place-test.true in
    let step : (before : List Bool) → Taken before c.loop-place.self (drop i c.args.places.now) → Taken before c.give_back.new.self rest = λ before t.
    taken-back before c.loop-place.self c.give_back.new.self p rest (subst (λ (l : List Places). Taken before c.loop-place.self l) e t) (record { size = c.give_back.ensures.size; inside = c.give_back.ensures.inside; below = c.give_back.ensures.below; above = c.give_back.ensures.above }) in
    let t = c.loop-place.invariant.some in
    record { left = λ before taken. step before (c.loop-place.invariant.left before taken); some = (t.0, step t.0 t.1) }

pub returns : goal.returns
returns c =
    let i = c.loop-place.place-index in
    let none = drop_all i c.args.places.now (omega (arith, c.loop-place-test.false)) in
    record { back = λ before taken. taken-all before c.loop-place.self (subst (λ (l : List Places). Taken before c.loop-place.self l) none (c.loop-place.invariant.left before taken)) }
