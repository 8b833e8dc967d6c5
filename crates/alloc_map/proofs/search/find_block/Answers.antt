use Rattle.std.proofs.Common.{◌≡◌, ◌∙◌, length, length-set}
use Rattle.alloc_map.proofs.RoomLaws.{least_room, no_room, lowered}
use Rattle.alloc_map.proofs.search.find_block.Goals as goal

pub returns-in-Some-find_in_region-clause-some : goal.returns-in-Some-find_in_region-clause-some
returns-in-Some-find_in_region-clause-some c =
    least_room c.args.used.now c.loop-region.bounds c.args.n _ _ (rw c.loop-region.invariant.same c.requires.whole) c.loop-region.invariant.sound c.requires.high c.in-Some.ensures.some (rw c.from.ensures at c.in-Some-find_in_region.ensures.some)

pub returns-in-Some-find_in_region-clause-sound : goal.returns-in-Some-find_in_region-clause-sound
returns-in-Some-find_in_region-clause-sound c = rw c.first_at_least.ensures.same c.loop-region.invariant.sound

pub loop-region-preserved : goal.loop-region-preserved
loop-region-preserved c =
    let regions : length c.lower.new.self ≡ length c.args.bounds.now = rw (c.lower.ensures, c.first_at_least.ensures.same) (length-set c.loop-region.bounds _ _ ∙ c.loop-region.invariant.same) in
    record {
      same = regions;
      sound = rw (c.lower.ensures, c.first_at_least.ensures.same) (lowered c.args.used.now c.loop-region.bounds c.args.n c.in-Some.region c.loop-region.invariant.sound c.in-Some.ensures.some.within (rw c.from.ensures at c.in_default-find_in_region.ensures.none));
    }

pub returns-clause-none : goal.returns-clause-none
returns-clause-none c =
    no_room c.args.used.now c.loop-region.bounds c.args.n (rw c.loop-region.invariant.same c.requires.whole) c.loop-region.invariant.sound c.requires.high c.in_default.ensures.none

pub returns-clause-sound : goal.returns-clause-sound
returns-clause-sound c = rw c.first_at_least.ensures.same c.loop-region.invariant.sound
