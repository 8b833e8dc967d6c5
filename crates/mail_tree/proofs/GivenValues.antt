-- What is found after values were put one after another.
use Rattle.std.proofs.Common.{◌≡◌, ◌∙◌, ℕ, ◌==◌, ◌||◌, Bool, true, false, List, [], ◌∷◌, refl, subst, inl, inr}
use Rattle.std.specs.List.{list_any}
use Rattle.std.proofs.lemmas.Bool.{cases_Bool, eqb-true, or_parts}
use Rattle.mapi_values.specs.Properties.{find, put}
use Rattle.mapi_values.specs.Values.{Val}
use Rattle.mail_tree.specs.Values.{is_new_id, is_own_id, is_withheld, put_all}
use Rattle.mail_tree.proofs.KeyedFinds.{find-put}

-- an id that none of them has finds what it found
pub find-put_all_other : (id : ℕ) (values props : List Val) → list_any (λ v. v.id == id) values ≡ false → find id (put_all values props) ≡ find id props
find-put_all_other id [] props none = refl
find-put_all_other id (v ∷ vs) props none =
    let p = or_parts (v.id == id) (list_any (λ x. x.id == id) vs) none in
    find-put_all_other id vs (put v props) p.1 ∙ rw (find-put (λ x. x.id) id v props, p.0) refl

-- where the same was found before, the same is found then
pub find-put_all_same : (id : ℕ) (values old new : List Val) → find id old ≡ find id new → find id (put_all values old) ≡ find id (put_all values new)
find-put_all_same id [] old new same = same
find-put_all_same id (v ∷ vs) old new same =
    find-put_all_same id vs (put v old) (put v new) (rw (find-put (λ x. x.id) id v old, find-put (λ x. x.id) id v new, same) refl)

neither : (a b : Bool) → a ≡ false → b ≡ false → (a || b) ≡ true → ⊥
neither true b first second either = cc
neither false true first second either = cc
neither false false first second either = cc

-- values that may be given have no id that a new message has of its own
none_own : (id : ℕ) (values : List Val) → (is_new_id id || is_own_id id) ≡ true → list_any is_withheld values ≡ false → list_any (λ v. v.id == id) values ≡ false
none_own id [] own none = refl
none_own id (v ∷ vs) own none =
    let p = or_parts (is_withheld v) (list_any is_withheld vs) none in
    let new = or_parts (is_new_id v.id) _ p.0 in
    let kept = or_parts (is_own_id v.id) _ new.1 in
    elim (cases_Bool (v.id == id)) [
      | inl t ↦
          let same : v.id ≡ id = eqb-true v.id id t in
          absurd (neither (is_new_id id) (is_own_id id) (subst (λ x. is_new_id x ≡ false) same new.0) (subst (λ x. is_own_id x ≡ false) same kept.0) own)
      | inr f ↦ rw f (none_own id vs own p.1)
    ]

-- such an id finds what it found
pub find_withheld : (id : ℕ) (values props : List Val) → (is_new_id id || is_own_id id) ≡ true → list_any is_withheld values ≡ false → find id (put_all values props) ≡ find id props
find_withheld id values props own none = find-put_all_other id values props (none_own id values own none)
