use Rattle.std.proofs.Common.{◌+◌, List, drop, subst, arith}
use Rattle.std.proofs.lemmas.List.{drop_more, drop_all}
use Rattle.pst_base.specs.declared.places.Place.{Place as Places}
use Rattle.pst_commit.specs.Held.{opened_of}
use Rattle.file_planner.specs.Freeing.{IsLeft}
use Rattle.file_planner.proofs.FreeingLaws.{left-none}
use Rattle.file_planner.proofs.freeing.free_each.Goals as goal

pub loop-place-preserved : goal.loop-place-preserved
loop-place-preserved c = λ after left.
    let i = c.loop-place.place-index in
    let rest = drop (i + 1) c.args.places.now in
    let e = drop_more c.args.places.now i (record { ib = 0; len = 0 }) c.loop-place-test.true in
    c.free_unheld.ensures after rest (subst (λ (l : List Places). IsLeft after c.loop-place.all (opened_of c.args.pins.now) l) e (c.loop-place.invariant after left))

pub returns : goal.returns
returns c = λ after left.
    let i = c.loop-place.place-index in
    let none = drop_all i c.args.places.now (omega (arith, c.loop-place-test.false)) in
    left-none after c.loop-place.all (opened_of c.args.pins.now) (subst (λ (l : List Places). IsLeft after c.loop-place.all (opened_of c.args.pins.now) l) none (c.loop-place.invariant after left))
