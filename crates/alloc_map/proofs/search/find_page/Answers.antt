use Rattle.alloc_map.proofs.RoomLaws.{least_page, no_page}
use Rattle.alloc_map.proofs.search.find_page.Goals as goal

pub returns-in-Some-find_page_in_region-clause-some : goal.returns-in-Some-find_page_in_region-clause-some
returns-in-Some-find_page_in_region-clause-some c =
    least_page c.args.used.now c.loop-region.bounds _ _ (rw c.loop-region.invariant.same c.requires.whole) c.loop-region.invariant.sound c.in-Some.ensures.some c.in-Some-find_page_in_region.ensures.some

pub returns-clause-none : goal.returns-clause-none
returns-clause-none c =
    no_page c.args.used.now c.loop-region.bounds (rw c.loop-region.invariant.same c.requires.whole) c.loop-region.invariant.sound c.in_default.ensures.none
