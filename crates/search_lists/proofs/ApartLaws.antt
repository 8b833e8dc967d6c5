-- Searches that ascend by their ids are found by them, and no two have the same.
use Rattle.std.proofs.Common.{◌≡◌, ℕ, ◌≤◌, true, List, [], ◌∷◌, Some, suc, arith, refl}
use Rattle.std.specs.Prelude.{nat_le}
use Rattle.std.proofs.lemmas.Bool.{and_parts, eq-eqb, leb-true, ne_eqb}
use Rattle.mapi_values.specs.Keyed.{keys_ascend}
use Rattle.mail_searches.specs.Searches.{Search, find_search, search_id}
use Rattle.mail_searches.specs.Searching.{AreSearches, Each, Searching}
use Rattle.search_lists.specs.Laws.{AreApart, IsSearch}
use Rattle.search_lists.proofs.SettleLaws.{each, each-two}

-- the first is the least
first-least : (low : ℕ) (s : Search) (ss : List Search) → keys_ascend search_id low (s ∷ ss) ≡ true → (low ≤ s.nid) × (keys_ascend search_id (suc s.nid) ss ≡ true)
first-least low s ss a = let p = and_parts (nat_le low s.nid) (keys_ascend search_id (suc s.nid) ss) a in (leb-true low s.nid p.0, p.1)

each-above : (low : ℕ) (ss : List Search) → keys_ascend search_id low ss ≡ true → Each (λ s. low ≤ s.nid) ss
each-above low [] a = tt
each-above low (s ∷ ss) a = let p = first-least low s ss a in (p.0, each (λ t. suc s.nid ≤ t.nid) (λ t. low ≤ t.nid) ss (each-above (suc s.nid) ss p.1) (λ t above. omega (arith, above, p.0)))

-- each is found by its id
pub each-found : (low : ℕ) (ss : List Search) → keys_ascend search_id low ss ≡ true → Each (λ s. find_search s.nid ss ≡ Some s) ss
each-found low [] a = tt
each-found low (s ∷ ss) a =
    let p = first-least low s ss a in (
      rw (eq-eqb s.nid s.nid refl) refl,
      each-two (λ t. suc s.nid ≤ t.nid) (λ t. find_search t.nid ss ≡ Some t) (λ t. find_search t.nid (s ∷ ss) ≡ Some t) ss (each-above (suc s.nid) ss p.1) (each-found (suc s.nid) ss p.1)
          (λ t above found. rw (ne_eqb s.nid t.nid (λ e. omega (arith, e, above))) found),
    )

are-apart : (low : ℕ) (ss : List Search) → keys_ascend search_id low ss ≡ true → Each IsSearch ss → AreApart ss
are-apart low [] a are = tt
are-apart low (s ∷ ss) a are =
    let p = first-least low s ss a in
    (are.0, each (λ t. suc s.nid ≤ t.nid) (λ t. t.nid ≡ s.nid → ⊥) ss (each-above (suc s.nid) ss p.1) (λ t above e. omega (arith, e, above)), are-apart (suc s.nid) ss p.1 are.1)

-- each search of a tree has a search folder's id
pub all-searches : (X : Searching) → AreSearches X → Each IsSearch X.searches
all-searches X are = each (λ s. find_search s.nid X.searches ≡ Some s) IsSearch X.searches (each-found 0 X.searches are.ascend) (λ s found. are.kinds s.nid (are.among s.nid s found))

-- no two searches of a tree have one id
pub all-apart : (X : Searching) → AreSearches X → AreApart X.searches
all-apart X are = are-apart 0 X.searches are.ascend (all-searches X are)
