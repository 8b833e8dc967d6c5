use Rattle.std.proofs.Common.{◌≡◌, ◌≤◌, ◌+◌, ◌++◌, ◌||◌, drop, map}
use Rattle.std.specs.List.{list_any}
use Rattle.mail_searches.specs.Asking.{places_around}
use Rattle.mail_searches.specs.Relisting.{Around}
use Rattle.search_results.specs.Following.{changes_at, delta_at, work_by}
use Rattle.search_results.proofs.following.follow.Given as goal

-- what was told so far, with what the other messages tell, is all, and so are the steps
abbrev pub invariant-loop-touch : goal.invariant-loop-touch
invariant-loop-touch g l =
    let d : Around = places_around l.before l.after in
    record {
      told : l.deltas.items ++ map (delta_at d l.search) (drop l.touch-index l.touches) ≡ map (delta_at d l.search) l.touches;
      concerned : (l.concerns || list_any (changes_at d l.search) (drop l.touch-index l.touches)) ≡ list_any (changes_at d l.search) l.touches;
      most : l.steps + work_by d l.search (drop l.touch-index l.touches) ≤ l.fn.steps + work_by d l.search l.touches;
    }
