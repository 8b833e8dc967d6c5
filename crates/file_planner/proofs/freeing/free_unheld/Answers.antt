use Rattle.std.proofs.Common.{ℕ, ◌/◌, true, subst}
use Rattle.alloc_map.specs.Slots.{AreAll}
use Rattle.pst_commit.specs.Held.{is_held, opened_of}
use Rattle.file_planner.specs.Freeing.{BecomesEach}
use Rattle.file_planner.proofs.FreeingLaws.{left-rest, left-used}
use Rattle.file_planner.proofs.freeing.free_unheld.Goals as goal

pub returns : goal.returns
returns c = λ after ps left.
    let all = c.args.all.now in
    let now = c.free_slots.new.all in
    let opened = opened_of c.args.pins.now in
    let place = c.args.place.now in
    let Q : ℕ → Type 0 = λ k. AreAll all (k / 64) (place.len / 64) true → BecomesEach all now (k / 64) (place.len / 64) (is_held opened) in
    left-rest after all now opened place ps left (subst Q c.saturating_sub-from.ensures c.free_slots.ensures.freed (left-used after all opened place ps left))
