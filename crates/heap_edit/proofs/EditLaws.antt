-- Reading blocks that were edited.
use Rattle.std.proofs.Common.{◌≡◌, ◌≢◌, ◌∙◌, ◌<◌, ◌≤◌, ◌+◌, inl, inr, zero, suc, ℕ, Bool, true, false, cond, eqb, Ordering, Less, Equal, Greater, List, [], ◌∷◌, drop, length, get_or, Option, Some, refl, sym, ap, subst, arith}
use Rattle.std.proofs.lemmas.Bool.{cases_eq, eq-eqb, ne_eqb}
use Rattle.std.proofs.lemmas.List.{get_or_default, same_lists}
use Rattle.std.specs.Cmp.{eq_by_cmp_equiv, nat_cmp_total, ranked}
use Rattle.std.specs.Map.{lookup}
use Rattle.std.specs.BTreeMap.{is_at}
use Rattle.std.specs.Ordering.{is_eq, nat_cmp}
use Rattle.heap_edit.specs.Edits.{Edits, PutsOne, edited, edited_from, first, or_old, put_at, with_at}

-- ---- a list with another element at a position, or behind all

pub length-with_at-in : {A : Type 0} (xs : List A) (i : ℕ) (x : A) → i < length xs → length (with_at xs i x) ≡ length xs
length-with_at-in [] i x h = absurd (omega arith)
length-with_at-in (y ∷ ys) zero x h = refl
length-with_at-in (y ∷ ys) (suc i) x h = ap suc (length-with_at-in ys i x (omega arith))

pub length-with_at-end : {A : Type 0} (xs : List A) (i : ℕ) (x : A) → length xs ≤ i → length (with_at xs i x) ≡ length xs + 1
length-with_at-end [] i x h = refl
length-with_at-end (y ∷ ys) zero x h = absurd (omega arith)
length-with_at-end (y ∷ ys) (suc i) x h = omega (arith, length-with_at-end ys i x (omega arith))

pub get_or-with_at : {A : Type 0} (xs : List A) (i : ℕ) (x d : A) → i ≤ length xs → get_or (with_at xs i x) i d ≡ x
get_or-with_at [] zero x d h = refl
get_or-with_at [] (suc i) x d h = absurd (omega arith)
get_or-with_at (y ∷ ys) zero x d h = refl
get_or-with_at (y ∷ ys) (suc i) x d h = get_or-with_at ys i x d (omega arith)

pub get_or-with_at-other : {A : Type 0} (xs : List A) (i j : ℕ) (x d : A) → i ≤ length xs → j ≢ i → get_or (with_at xs i x) j d ≡ get_or xs j d
get_or-with_at-other [] zero zero x d h ne = absurd (ne refl)
get_or-with_at-other [] zero (suc j) x d h ne = refl
get_or-with_at-other [] (suc i) j x d h ne = absurd (omega arith)
get_or-with_at-other (y ∷ ys) zero zero x d h ne = absurd (ne refl)
get_or-with_at-other (y ∷ ys) zero (suc j) x d h ne = refl
get_or-with_at-other (y ∷ ys) (suc i) zero x d h ne = refl
get_or-with_at-other (y ∷ ys) (suc i) (suc j) x d h ne = get_or-with_at-other ys i j x d (omega arith) (λ e. ne (ap suc e))

-- ---- blocks after edits

pub length-edited : (p : ℕ) (es : Edits) (n : ℕ) (bs : List (List ℕ)) → length (edited_from p es n bs) ≡ n
length-edited p es zero bs = refl
length-edited p es (suc n) bs = ap suc (length-edited (p + 1) es n (drop 1 bs))

get_or-first : (bs : List (List ℕ)) → first bs ≡ get_or bs 0 []
get_or-first [] = refl
get_or-first (b ∷ bs) = refl

get_or-rest : (bs : List (List ℕ)) (k : ℕ) → get_or (drop 1 bs) k [] ≡ get_or bs (suc k) []
get_or-rest [] k = refl
get_or-rest (b ∷ bs) k = refl

get_or-from : (p k : ℕ) (es : Edits) (n : ℕ) (bs : List (List ℕ)) (d : List ℕ) → k < n → get_or (edited_from p es n bs) k d ≡ or_old (put_at es (p + k)) (get_or bs k [])
get_or-from p k es zero bs d h = absurd (omega arith)
get_or-from p zero es (suc n) bs d h =
    let q : p ≡ p + 0 = omega arith in
    ap (λ (i : ℕ). or_old (put_at es i) (first bs)) q ∙ ap (or_old (put_at es (p + 0))) (get_or-first bs)
get_or-from p (suc k) es (suc n) bs d h =
    let q : p + 1 + k ≡ p + suc k = omega arith in
    get_or-from (p + 1) k es n (drop 1 bs) d (omega arith)
    ∙ ap (λ (i : ℕ). or_old (put_at es i) (get_or (drop 1 bs) k [])) q ∙ ap (or_old (put_at es (p + suc k))) (get_or-rest bs k)

-- each block: what is put at its position, or else what was there
pub get_or-edited : (k : ℕ) (es : Edits) (n : ℕ) (bs : List (List ℕ)) (d : List ℕ) → k < n → get_or (edited es n bs) k d ≡ or_old (put_at es k) (get_or bs k [])
get_or-edited k es n bs d h = let q : 0 + k ≡ k = omega arith in get_or-from 0 k es n bs d h ∙ ap (λ (i : ℕ). or_old (put_at es i) (get_or bs k [])) q

-- with nothing put, the blocks are as they were
pub edited-none : (n : ℕ) (bs : List (List ℕ)) → length bs ≡ n → edited [] n bs ≡ bs
edited-none n bs e =
    let len = length-edited 0 [] n bs in
    same_lists (edited [] n bs) bs (omega arith) (λ j d low. get_or-edited j [] n bs d (omega arith) ∙ get_or_default bs j [] d (omega arith))

pub put-here : (p : ℕ) (b : List ℕ) (old new : Edits) → PutsOne p b old new → put_at new p ≡ Some b
put-here p b old new h = h p ∙ rw (eq-eqb p p refl) refl

pub put-other : (p q : ℕ) (b : List ℕ) (old new : Edits) → PutsOne p b old new → q ≢ p → put_at new q ≡ put_at old q
put-other p q b old new h ne = h q ∙ rw (ne_eqb q p ne) refl

-- one block more is put in place of one
pub edited-in : (p n : ℕ) (b : List ℕ) (old new : Edits) (bs : List (List ℕ)) → PutsOne p b old new → p < n → edited new n bs ≡ with_at (edited old n bs) p b
edited-in p n b old new bs h low =
    let was = length-edited 0 old n bs in
    let now = length-edited 0 new n bs in
    let len = length-with_at-in (edited old n bs) p b (omega arith) in
    same_lists (edited new n bs) (with_at (edited old n bs) p b) (omega arith) (λ j d within. get_or-edited j new n bs d (omega arith) ∙ elim (cases_eq j p) [
      | inl e ↦
          ap (λ (i : ℕ). or_old (put_at new i) (get_or bs i [])) e
          ∙ ap (λ (o : Option (List ℕ)). or_old o (get_or bs p [])) (put-here p b old new h)
          ∙ sym (ap (λ (i : ℕ). get_or (with_at (edited old n bs) p b) i d) e ∙ get_or-with_at (edited old n bs) p b d (omega arith))
      | inr ne ↦
          ap (λ (o : Option (List ℕ)). or_old o (get_or bs j [])) (put-other p j b old new h ne)
          ∙ sym (get_or-with_at-other (edited old n bs) p j b d (omega arith) ne ∙ get_or-edited j old n bs d (omega arith))
    ])

-- or behind all
pub edited-end : (p n : ℕ) (b : List ℕ) (old new : Edits) (bs : List (List ℕ)) → PutsOne p b old new → p ≡ n → edited new (n + 1) bs ≡ with_at (edited old n bs) p b
edited-end p n b old new bs h end =
    let was = length-edited 0 old n bs in
    let now = length-edited 0 new (n + 1) bs in
    let len = length-with_at-end (edited old n bs) p b (omega arith) in
    same_lists (edited new (n + 1) bs) (with_at (edited old n bs) p b) (omega arith) (λ j d within. get_or-edited j new (n + 1) bs d (omega arith) ∙ elim (cases_eq j p) [
      | inl e ↦
          ap (λ (i : ℕ). or_old (put_at new i) (get_or bs i [])) e
          ∙ ap (λ (o : Option (List ℕ)). or_old o (get_or bs p [])) (put-here p b old new h)
          ∙ sym (ap (λ (i : ℕ). get_or (with_at (edited old n bs) p b) i d) e ∙ get_or-with_at (edited old n bs) p b d (omega arith))
      | inr ne ↦
          let below : j < n = grind arith in
          ap (λ (o : Option (List ℕ)). or_old o (get_or bs j [])) (put-other p j b old new h ne)
          ∙ sym (get_or-with_at-other (edited old n bs) p j b d (omega arith) ne ∙ get_or-edited j old n bs d below)
    ])

-- ---- blocks in a map

equal-is : (r : Ordering) → is_eq r ≡ true → r ≡ Equal
equal-is Less h = cc
equal-is Equal h = refl
equal-is Greater h = cc

compared : (q k : ℕ) → is_at (nat_cmp q) k ≡ eqb k q
compared q k = elim (cases_eq k q) [
  | inl same ↦ subst (λ (n : ℕ). is_at (nat_cmp n) k ≡ eqb k n) same ((eq_by_cmp_equiv nat_cmp_total).refl k ∙ sym (eq-eqb k k refl))
  | inr other ↦ by (is_at (nat_cmp q) k) refl other ∙ sym (ne_eqb k q other)
]
  where
    by : (b : Bool) → is_at (nat_cmp q) k ≡ b → (k ≡ q → ⊥) → b ≡ false
    by false e other = refl
    by true e other = absurd (other (sym (ranked q k Equal (sym (equal-is (nat_cmp q k) e)))))

-- what a map has at a position is what is put there
pub lookup-put_at : (es : Edits) (p : ℕ) → lookup (is_at (nat_cmp p)) es ≡ put_at es p
lookup-put_at [] p = refl
lookup-put_at (e ∷ es) p = ap (λ (b : Bool). cond b (Some e.1) (lookup (is_at (nat_cmp p)) es)) (compared p e.0) ∙ ap (cond (eqb e.0 p) (Some e.1)) (lookup-put_at es p)

pub puts-one : (p : ℕ) (b : List ℕ) (old new : Edits) → ((q : ℕ) → lookup (is_at (nat_cmp q)) new ≡ cond (is_at (nat_cmp p) q) (Some b) (lookup (is_at (nat_cmp q)) old)) → PutsOne p b old new
puts-one p b old new h q =
    sym (lookup-put_at new q) ∙ h q
    ∙ ap (λ (t : Bool). cond t (Some b) (lookup (is_at (nat_cmp q)) old)) (compared p q) ∙ ap (cond (eqb q p) (Some b)) (lookup-put_at old q)
