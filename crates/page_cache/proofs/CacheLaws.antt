-- What a cache of pages means after a change.
use Rattle.std.proofs.Common.{◌≡◌, ⊎_elim, ℕ, Bool, true, List, Option, Some, None, cond, subst, sym, ap, ◌∙◌, nat_eq}
use Rattle.std.specs.List.{Contains}
use Rattle.std.proofs.lemmas.Bool.{eq-eqb, eqb-true}
use Rattle.std.proofs.lemmas.Map.{lookup-remove_entry}
use Rattle.std.proofs.lemmas.Map.Views.{lookup-from_Contains}
use Rattle.std.specs.Cmp.{nat_eq_equiv}
use Rattle.std.specs.Map.{lookup, remove_entry, keys_of}
use Rattle.std.specs.List.{IsDistinct}
use Rattle.lru.specs.LruCache.{LruCache, promoted, put_entries}
use Rattle.lru.proofs.CallerLemmas.{Contains-promoted, Contains-put_entries, IsPut}
use Rattle.pst_base.specs.declared.ids.Bref.{Bref}
use Rattle.pst_base.specs.declared.ids.Bid.{Bid}
use Rattle.page_cache.specs.declared.cache.Cached.{Cached}
use Rattle.lru.proofs.CallerLemmas.{Contains-remove_entry}
use Rattle.page_cache.specs.Cache.{Holds, AgreeBut}

pub promoted-keeps : (find : Bref → Option (List ℕ)) (at : ℕ) (entries new : List (ℕ × Cached)) → new ≡ promoted (nat_eq at) entries → Holds find entries → Holds find new
promoted-keeps find at entries new is holds ib page has = holds ib page (Contains-promoted (nat_eq at) entries (ib, page) (subst (λ (l : List (ℕ × Cached)). Contains l (ib, page)) is has))

pub put-keeps : (find : Bref → Option (List ℕ)) (c : LruCache ℕ Cached) (at : ℕ) (bid : Bid) (body : List ℕ) → Holds find c.entries → find (record { bid = bid; ib = at }) ≡ Some body
    → (ib : ℕ) (page : Cached) → Contains (put_entries nat_eq c at (record { bid = bid; body = body })) (ib, page) → find (record { bid = page.bid; ib = ib }) ≡ Some page.body
put-keeps find c at bid body is here ib page has =
    ⊎_elim (λ (old : Contains c.entries (ib, page)). is ib page old)
    (λ (new : IsPut nat_eq c at (record { bid = bid; body = body }) (ib, page)).
    let place : ib ≡ at = ⊎_elim (λ (e : ib ≡ at). e) (λ (e : (w : Cached) × Contains c.entries (ib, w) × (nat_eq at ib ≡ true)). sym (eqb-true at ib e.2)) new.1 in
    let same : page ≡ record { bid = bid; body = body } = new.0 in
    subst (λ (p : Cached). find (record { bid = p.bid; ib = ib }) ≡ Some p.body) (sym same) (subst (λ (n : ℕ). find (record { bid = bid; ib = n }) ≡ Some body) (sym place) here))
    (Contains-put_entries nat_eq c at (record { bid = bid; body = body }) (ib, page) has)

pub forget-keeps : (one other : Bref → Option (List ℕ)) (ib : ℕ) (entries : List (ℕ × Cached)) → Holds one entries → AgreeBut ib one other → IsDistinct nat_eq (keys_of entries) → IsDistinct nat_eq (keys_of (remove_entry (nat_eq ib) entries))
    → Holds other (remove_entry (nat_eq ib) entries)
forget-keeps one other ib entries is agree apart after q page has =
    agree (record { bid = page.bid; ib = q }) not_here ∙ is q page (Contains-remove_entry (nat_eq ib) entries (q, page) has)
  where
    not_here : q ≡ ib → ⊥
    not_here e =
        let there : lookup (nat_eq q) (remove_entry (nat_eq ib) entries) ≡ Some page = lookup-from_Contains nat_eq_equiv q page (remove_entry (nat_eq ib) entries) after has in
        let gone = lookup-remove_entry nat_eq_equiv (nat_eq ib) (λ x y h. ap (λ (n : ℕ). nat_eq n y) (eqb-true ib x h)) q entries apart in
        let same : nat_eq ib q ≡ true = eq-eqb ib q (sym e) in
        let none : ◌≡◌ {A = Option Cached} None (Some page) = sym (gone ∙ ap (λ (b : Bool). cond b None (lookup (nat_eq q) entries)) same) ∙ there in
        cc
