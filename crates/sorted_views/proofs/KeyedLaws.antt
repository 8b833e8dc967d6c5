-- Rows with their keys, one after another.
use Rattle.std.proofs.Common.{◌≡◌, ℕ, ◌+◌, ◌<◌, ◌≤◌, List, [], ◌∷◌, ◌++◌, append_assoc, sym, subst, length, get_or, drop, drop-cons, add-one, Option}
use Rattle.std.proofs.lemmas.List.{append-nil, drop_all}
use Rattle.mapi_values.specs.Values.{Val}
use Rattle.sorted_views.specs.Keys.{IsKey}
use Rattle.sorted_views.specs.Rows.{AreKeyed}
use Rattle.sorted_views.specs.declared.rows.ViewRow.{ViewRow}

-- with the rows of the ids that are left, those so far are all
abbrev pub Goes : (ℕ → Option Val) → List ℕ → List ViewRow → ℕ → Type 0
Goes cells ids rows i = (more : List ViewRow) → AreKeyed cells (drop i ids) more → AreKeyed cells ids (rows ++ more)

-- one more row
pub goes_on : (cells : ℕ → Option Val) (ids : List ℕ) (rows rows' : List ViewRow) (i id : ℕ) (row : ViewRow) → i < length ids → id ≡ get_or ids i 0 → row.id ≡ id → IsKey (cells id) row.key
    → rows' ≡ rows ++ row ∷ [] → Goes cells ids rows i → Goes cells ids rows' (i + 1)
goes_on cells ids rows rows' i id row h is named key pushed goes more are =
    let here = subst (λ (x : ℕ). (row.id ≡ x) × IsKey (cells x) row.key) is (named, key) in
    let rest = rw add-one at are in
    let whole = subst (λ (xs : List ℕ). AreKeyed cells xs (row ∷ more)) (sym (drop-cons ids i 0 h)) (here.0, here.1, rest) in
    let joined = subst (λ (rs : List ViewRow). AreKeyed cells ids rs) (sym (append_assoc rows (row ∷ []) more)) (goes (row ∷ more) whole) in
    subst (λ (rs : List ViewRow). AreKeyed cells ids (rs ++ more)) (sym pushed) joined

-- after the last
pub all_gone : (cells : ℕ → Option Val) (ids : List ℕ) (rows : List ViewRow) (i : ℕ) → length ids ≤ i → Goes cells ids rows i → AreKeyed cells ids rows
all_gone cells ids rows i h goes =
    let none = subst (λ (xs : List ℕ). AreKeyed cells xs []) (sym (drop_all i ids h)) tt in
    subst (λ (rs : List ViewRow). AreKeyed cells ids rs) (append-nil rows) (goes [] none)
