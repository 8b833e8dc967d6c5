use Rattle.std.proofs.Common.{◌≡◌, Bool, List, Option, Some, sym, subst}
use Rattle.pst_commit.specs.declared.store.Pin.{Pin}
use Rattle.pst_commit.specs.Held.{IsWithHeld, opened_of}
use Rattle.alloc_map.specs.Taken.{Taken}
use Rattle.plan_placing.specs.Places.{placing_over}
use Rattle.file_planner.specs.Freeing.{IsLeft}
use Rattle.file_planner.specs.Holding.{IsHolding}
use Rattle.file_planner.proofs.FreeingLaws.{followed, left-first}
use Rattle.file_planner.proofs.held.Held.follow.Goals as goal

pub returns-in-Some-clause-holding : goal.returns-in-Some-clause-holding
returns-in-Some-clause-holding c = λ own mid after united holding takes takes_united frees.
    let pins = c.args.self.now.pins.items in
    let all = c.in-Some.all in
    let taken = c.args.taken.now in
    let freed = c.args.freed.now in
    let there : c.args.self.now.all ≡ Some all = c.in-Some.is in
    let is : IsHolding own pins (Some all) = subst (IsHolding own pins) there holding in
    let takes_all : Taken all united taken = subst (λ (o : Option (List Bool)). Taken (placing_over own o) united taken) there takes_united in
    let one : c.retake.new.self ≡ united = c.retake.ensures.taken united takes_all in
    let value : c.as_slice.result.now ≡ pins = c.as_slice.ensures.value in
    let left : IsLeft after united (opened_of pins) freed = left-first own mid after all united (opened_of pins) taken freed is.with_held takes takes_all frees in
    let here : IsLeft after c.retake.new.self (opened_of c.as_slice.result.now) freed =
    subst (λ (s : List Bool). IsLeft after s (opened_of c.as_slice.result.now) freed) (sym one) (subst (λ (ps : List (Pin × List Bool)). IsLeft after united (opened_of ps) freed) (sym value) left) in
    followed own mid after all c.free_each.new.all pins taken freed is takes frees (subst (λ (ps : List (Pin × List Bool)). IsWithHeld after (opened_of ps) c.free_each.new.all) value (c.free_each.ensures after here))
