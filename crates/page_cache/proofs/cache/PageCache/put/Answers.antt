use Rattle.std.proofs.Common.{ℕ, List, subst, sym, ap}
use Rattle.std.specs.List.{Contains}
use Rattle.page_cache.specs.Cache.{Holds}
use Rattle.page_cache.specs.declared.cache.Cached.{Cached}
use Rattle.page_cache.proofs.CacheLaws.{put-keeps}
use Rattle.page_cache.proofs.cache.PageCache.put.Goals as goal
use Rattle.page_cache.proofs.cache.PageCache.put.Goals.{in-Ok, in-Err}

pub returns-clause-kept : goal.returns-clause-kept
returns-clause-kept c = λ find is here ib page has.
    let inside = subst (Holds find) (sym c.self.view_is) is in
    elim c.match-put.branch [
      | in-Ok w ↦ put-keeps find c.self.inside.pages c.args.at.ib c.args.at.bid c.args.body.now inside here ib page
          (subst (λ (l : List (ℕ × Cached)). Contains l (ib, page)) (ap (λ r. r.entries) w.in-Ok.ensures.entries) has)
      | in-Err w ↦ inside ib page (subst (λ (l : List (ℕ × Cached)). Contains l (ib, page)) (ap (λ r. r.entries) w.in-Err.ensures.err) has)
    ]
