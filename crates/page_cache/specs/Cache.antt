-- What a cache of pages means.
use Rattle.std.specs.Prelude.{◌≡◌, ℕ, List, Option, Some}
use Rattle.std.specs.List.{Contains}
use Rattle.pst_base.specs.declared.ids.Bref.{Bref}
use Rattle.page_cache.specs.declared.cache.Cached.{Cached}

-- each page in it is the one with its id at its place
abbrev pub Holds : (Bref → Option (List ℕ)) → List (ℕ × Cached) → Type 0
Holds find entries = (ib : ℕ) (page : Cached) → Contains entries (ib, page) → find (record { bid = page.bid; ib = ib }) ≡ Some page.body

-- two contents that agree at all other places
abbrev pub AgreeBut : ℕ → (Bref → Option (List ℕ)) → (Bref → Option (List ℕ)) → Type 0
AgreeBut ib one other = (at : Bref) → (at.ib ≡ ib → ⊥) → other at ≡ one at
