use Rattle.std.proofs.Common.{ℕ, List, ap, subst, sym, nat_eq}
use Rattle.std.specs.List.{IsDistinct}
use Rattle.std.specs.Map.{keys_of}
use Rattle.page_cache.specs.declared.cache.Cached.{Cached}
use Rattle.page_cache.specs.Cache.{Holds}
use Rattle.page_cache.proofs.CacheLaws.{forget-keeps}
use Rattle.page_cache.proofs.cache.PageCache.forget.Goals as goal

pub returns : goal.returns
returns c = λ one other is agree.
    let new = ap (λ r. r.entries) c.pop.ensures.entries in
    subst (Holds other) (sym new)
    (forget-keeps one other c.args.ib c.self.inside.pages.entries (subst (Holds one) (sym c.self.view_is) is) agree c.len-before.ensures.valid.0
    (subst (λ (l : List (ℕ × Cached)). IsDistinct nat_eq (keys_of l)) new c.len-after.ensures.valid.0))
