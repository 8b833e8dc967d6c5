use Rattle.std.proofs.Common.{◌≡◌, ℕ, Some, subst, sym, ap}
use Rattle.std.proofs.lemmas.Bool.{eqb-true}
use Rattle.lru.proofs.CallerLemmas.{Contains-lookup}
use Rattle.page_cache.specs.Cache.{Holds}
use Rattle.page_cache.proofs.CacheLaws.{promoted-keeps}
use Rattle.page_cache.proofs.cache.PageCache.get.Goals as goal

pub returns-in_default-clause-same : goal.returns-in_default-clause-same
returns-in_default-clause-same c = λ find is.
    promoted-keeps find c.args.at.ib c.self.inside.pages.entries c.promote.new.self.entries (ap (λ r. r.entries) c.promote.ensures.entries) (subst (Holds find) (sym c.self.view_is) is)

pub returns-then-page-at-clause-same : goal.returns-then-page-at-clause-same
returns-then-page-at-clause-same c = λ find is.
    promoted-keeps find c.args.at.ib c.self.inside.pages.entries c.promote.new.self.entries (ap (λ r. r.entries) c.promote.ensures.entries) (subst (Holds find) (sym c.self.view_is) is)

pub returns-clause-same : goal.returns-clause-same
returns-clause-same c = λ find is.
    promoted-keeps find c.args.at.ib c.self.inside.pages.entries c.promote.new.self.entries (ap (λ r. r.entries) c.promote.ensures.entries) (subst (Holds find) (sym c.self.view_is) is)

pub returns-clause-page : goal.returns-clause-page
returns-clause-page c = λ find is.
    let inside = promoted-keeps find c.args.at.ib c.self.inside.pages.entries c.promote.new.self.entries (ap (λ r. r.entries) c.promote.ensures.entries) (subst (Holds find) (sym c.self.view_is) is) in
    let found = Contains-lookup _ c.promote.new.self.entries c.in-Some.page.now (sym c.in-Some.ensures) in
    let at_ib : c.args.at.ib ≡ found.0 = eqb-true c.args.at.ib found.0 found.2 in
    subst (λ (n : ℕ). find (record { bid = record { bits = n }; ib = c.args.at.ib }) ≡ Some c.in-Some.page.now.body) c.if-page-at.false
    (subst (λ (n : ℕ). find (record { bid = c.in-Some.page.now.bid; ib = n }) ≡ Some c.in-Some.page.now.body) (sym at_ib) (inside found.0 c.in-Some.page.now found.1))
