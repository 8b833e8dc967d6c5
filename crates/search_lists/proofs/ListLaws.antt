-- What a search lists, as a list and by each message.
use Rattle.std.proofs.Common.{◌≡◌, ◌∙◌, ℕ, suc, ◌<◌, ◌≤◌, ◌==◌, ◌&&◌, Bool, T, true, false, cond, List, [], ◌∷◌, filter, map, Option, None, Some, ap, sym, refl, subst, inl, inr, arith, if◌then◌else◌, ◌||◌}
use Rattle.std.specs.Prelude.{nat_le, nat_lt}
use Rattle.std.specs.Option.{is_some}
use Rattle.std.proofs.lemmas.Bool.{eqb-true, eq-eqb, cases_Bool, ne_eqb, false≢true, leb-true, ltb-true, and_parts, le-leb}
use Rattle.std.proofs.Common.{Ordering, Less, Equal, Greater}
use Rattle.std.specs.Ordering.{nat_cmp, eq_by_cmp, is_eq, is_lt}
use Rattle.std.specs.Cmp.{nat_cmp_is, ranked}
use Rattle.std.specs.FinMap as map
use Rattle.std.specs.FinMap.Entries.{below_all}
use Rattle.mapi_values.specs.Keyed.{keys_ascend}
use Rattle.mapi_values.specs.Tables.{find_row}
use Rattle.mapi_values.specs.Values.{Val}
use Rattle.mail_objects.specs.declared.object.Object.{Object}
use Rattle.mail_tree.specs.declared.places.FolderPlace.{FolderPlace}
use Rattle.mail_tree.specs.Changing.{as_message}
use Rattle.mail_tree.specs.Tree.{Tree, object_at}
use Rattle.search_obj.specs.Scope.{is_among}
use Rattle.mail_searches.specs.Searches.{AreFresh, Search, is_listed, lists, row_ids}
use Rattle.search_lists.specs.Laws.{ListsAll}

abbrev pub ascends : ℕ → List ℕ → Bool
ascends low ids = keys_ascend (λ i. i) low ids

below-none : (low k : ℕ) (ids : List ℕ) → ascends low ids ≡ true → k < low → is_among ids k ≡ false
below-none low k [] a less = refl
below-none low k (i ∷ is) a less =
    let p = and_parts (nat_le low i) (ascends (suc i) is) a in let least : low ≤ i = leb-true low i p.0 in
    rw (ne_eqb i k (λ e. omega arith), below-none (suc i) k is p.1 (omega arith)) refl

first-in : (i : ℕ) (is : List ℕ) → is_among (i ∷ is) i ≡ true
first-in i is = rw (eq-eqb i i refl) refl

later : (i k : ℕ) (is : List ℕ) → (i ≡ k → ⊥) → is_among (i ∷ is) k ≡ is_among is k
later i k is n = rw (ne_eqb i k n) refl

-- of two lists that ascend and have the same members, no first id is below the other's
not-below : (low x y : ℕ) (xs ys : List ℕ) → ascends (suc y) ys ≡ true → ((k : ℕ) → is_among (x ∷ xs) k ≡ is_among (y ∷ ys) k) → x < y → ⊥
not-below low x y xs ys a same less =
    false≢true (sym (later y x ys (λ e. omega arith) ∙ below-none (suc y) x ys a (omega arith)) ∙ (sym (same x) ∙ first-in x xs))

-- lists that ascend and have the same members are one
pub one-list : (low : ℕ) (xs ys : List ℕ) → ascends low xs ≡ true → ascends low ys ≡ true → ((k : ℕ) → is_among xs k ≡ is_among ys k) → xs ≡ ys
one-list low [] [] a b same = refl
one-list low [] (y ∷ ys) a b same = absurd (false≢true (same y ∙ first-in y ys))
one-list low (x ∷ xs) [] a b same = absurd (false≢true (sym (same x) ∙ first-in x xs))
one-list low (x ∷ xs) (y ∷ ys) a b same =
    let p = (and_parts (nat_le low x) (ascends (suc x) xs) a).1 in let q = (and_parts (nat_le low y) (ascends (suc y) ys) b).1 in
    let up : x < y → ⊥ = not-below low x y xs ys q same in let down : y < x → ⊥ = not-below low y x ys xs p (λ k. sym (same k)) in
    let e : x ≡ y = elim (cases_Bool (x == y)) [ inl t ↦ eqb-true x y t | inr f ↦ absurd (apart x y f up down) ] in
    let q' : ascends (suc x) ys ≡ true = subst (λ z. ascends (suc z) ys ≡ true) (sym e) q in
    let rest : (k : ℕ) → is_among xs k ≡ is_among ys k = λ k. elim (cases_Bool (x == k)) [
      | inl t ↦ let xk : x ≡ k = eqb-true x k t in below-none (suc x) k xs p (omega arith) ∙ sym (below-none (suc x) k ys q' (omega arith))
      | inr f ↦ let n : x ≡ k → ⊥ = λ h. false≢true (sym f ∙ ap (λ z. x == z) (sym h) ∙ eq-eqb x x refl) in
          sym (later x k xs n) ∙ (same k ∙ later y k ys (λ h. n (e ∙ h)))
    ] in
    ap (λ z. z ∷ xs) e ∙ ap (λ zs. y ∷ zs) (one-list (suc x) xs ys p q' rest)
  where
    apart : (x y : ℕ) → (x == y) ≡ false → (x < y → ⊥) → (y < x → ⊥) → ⊥
    apart x y f up down = elim (cases_Bool (nat_lt x y)) [
      | inl t ↦ up (ltb-true x y t)
      | inr g ↦ elim (cases_Bool (nat_lt y x)) [ inl t ↦ down (ltb-true y x t) | inr h ↦ false≢true (sym f ∙ grind arith) ]
    ]

-- a row is there just where its id is among the ids
pub row-among : (rows : List (ℕ × List Val)) (k : ℕ) → is_among (row_ids rows) k ≡ is_some (find_row k rows)
row-among [] k = refl
row-among (r ∷ rows) k = one-row (r.0 == k) (is_among (row_ids rows) k) r (find_row k rows) (row-among rows k)
  where
    one-row : (b there : Bool) (r : ℕ × List Val) (o : Option (ℕ × List Val)) → there ≡ is_some o → (b || there) ≡ is_some (if b then Some r else o)
    one-row true there r o e = refl
    one-row false there r o e = e

ids-same : (low : ℕ) (rows : List (ℕ × List Val)) → ascends low (row_ids rows) ≡ keys_ascend (λ r. r.0) low rows
ids-same low [] = refl
ids-same low (r ∷ rows) = ap (λ b. nat_le low r.0 && b) (ids-same (suc r.0) rows)

tied : (x : ℕ) → eq_by_cmp nat_cmp x x ≡ true
tied x = sym (ap is_eq (nat_cmp_is x x Equal refl))

from-T : (b : Bool) → T b → b ≡ true
from-T true t = refl
from-T false t = absurd t

-- the entries of which something holds have the ids of which it holds
module _ {X : Type 0} (p : X → Bool) where
  abbrev holds-at : Option X → Bool
  holds-at None = false
  holds-at (Some x) = p x

  abbrev chosen : List (ℕ × X) → List ℕ
  chosen es = map (λ e. e.0) (filter (λ e. p e.1) es)

  none-below : (k : ℕ) (es : List (ℕ × X)) → below_all nat_cmp k es ≡ true → is_among (chosen es) k ≡ false
  none-below k [] h = refl
  none-below k (e ∷ es) h =
      let q = and_parts (is_lt (nat_cmp k e.0)) (below_all nat_cmp k es) h in
      dropped (p e.1) (ranked k e.0 Less (sym (less-is (nat_cmp k e.0) q.0))) (none-below k es q.1)
    where
      dropped : (b : Bool) → k < e.0 → is_among (chosen es) k ≡ false → is_among (map (λ e. e.0) (if b then e ∷ filter (λ e. p e.1) es else filter (λ e. p e.1) es)) k ≡ false
      dropped true less h = rw (ne_eqb e.0 k (λ x. omega arith), h) refl
      dropped false less h = h

      less-is : (r : Ordering) → is_lt r ≡ true → r ≡ Less
      less-is Less h = refl
      less-is Equal h = cc
      less-is Greater h = cc

  chosen-holds : (es : List (ℕ × X)) → map.is_sorted nat_cmp es ≡ true → (k : ℕ) → is_among (chosen es) k ≡ holds-at (map.find nat_cmp k es)
  chosen-holds [] h k = refl
  chosen-holds (e ∷ es) h k =
      let q = and_parts (below_all nat_cmp e.0 es) (map.is_sorted nat_cmp es) h in
      elim (cases_Bool (eq_by_cmp nat_cmp k e.0)) [
        | inl t ↦ let same : k ≡ e.0 = ranked k e.0 Equal (sym (equal-is (nat_cmp k e.0) t)) in
            first (p e.1) (sym same) (subst (λ x. is_among (chosen es) x ≡ false) (sym same) (none-below e.0 es q.0)) ∙ sym (ap (λ b. holds-at (cond b (Some e.1) (map.find nat_cmp k es))) t)
        | inr f ↦ other (p e.1) (λ x. false≢true (sym f ∙ ap (λ z. eq_by_cmp nat_cmp z e.0) (sym x) ∙ tied e.0)) (chosen-holds es q.1 k) ∙ sym (ap (λ b. holds-at (cond b (Some e.1) (map.find nat_cmp k es))) f)
      ]
    where
      equal-is : (r : Ordering) → is_eq r ≡ true → r ≡ Equal
      equal-is Less h = cc
      equal-is Equal h = refl
      equal-is Greater h = cc

      first : (b : Bool) → e.0 ≡ k → is_among (chosen es) k ≡ false → is_among (map (λ e. e.0) (if b then e ∷ filter (λ e. p e.1) es else filter (λ e. p e.1) es)) k ≡ b
      first true same h = rw (eq-eqb e.0 k same) refl
      first false same h = h

      other : (b : Bool) → (e.0 ≡ k → ⊥) → is_among (chosen es) k ≡ holds-at (map.find nat_cmp k es) → is_among (map (λ e. e.0) (if b then e ∷ filter (λ e. p e.1) es else filter (λ e. p e.1) es)) k ≡ holds-at (map.find nat_cmp k es)
      other true n h = rw (ne_eqb e.0 k n) h
      other false n h = h

  -- each id is at least this one
  abbrev Least : ℕ → List (ℕ × X) → Type 0
  Least low [] = Unit {0}
  Least low (e ∷ es) = (low ≤ e.0) × Least low es

  least : (k : ℕ) (es : List (ℕ × X)) → below_all nat_cmp k es ≡ true → Least (suc k) es
  least k [] h = tt
  least k (e ∷ es) h =
      let q = and_parts (is_lt (nat_cmp k e.0)) (below_all nat_cmp k es) h in
      let less : k < e.0 = ranked k e.0 Less (sym (less-is (nat_cmp k e.0) q.0)) in (omega arith, least k es q.1)
    where
      less-is : (r : Ordering) → is_lt r ≡ true → r ≡ Less
      less-is Less h = refl
      less-is Equal h = cc
      less-is Greater h = cc

  chosen-ascend : (low : ℕ) (es : List (ℕ × X)) → map.is_sorted nat_cmp es ≡ true → Least low es → ascends low (chosen es) ≡ true
  chosen-ascend low [] h l = refl
  chosen-ascend low (e ∷ es) h l =
      let q = and_parts (below_all nat_cmp e.0 es) (map.is_sorted nat_cmp es) h in
      pick (p e.1) l.0 (chosen-ascend (suc e.0) es q.1 (least e.0 es q.0)) (chosen-ascend low es q.1 l.1)
    where
      pick : (b : Bool) → low ≤ e.0 → ascends (suc e.0) (chosen es) ≡ true → ascends low (chosen es) ≡ true → ascends low (map (λ e. e.0) (if b then e ∷ filter (λ e. p e.1) es else filter (λ e. p e.1) es)) ≡ true
      pick true a b c = rw (le-leb low e.0 a) b
      pick false a b c = c

  all-least : (es : List (ℕ × X)) → Least 0 es
  all-least [] = tt
  all-least (e ∷ es) = (omega arith, all-least es)

listed-at : (places : List FolderPlace) (s : Search) (o : Option Object) → holds-at (λ x. is_listed places s (as_message (Some x))) o ≡ is_listed places s (as_message o)
listed-at places s None = refl
listed-at places s (Some o) = refl

-- the list of a search by its members
module _ (T : Tree) (s : Search) where
  abbrev test : Object → Bool
  test x = is_listed T.places s (as_message (Some x))

  sorted : map.is_sorted nat_cmp (map.entries T.objects) ≡ true
  sorted = from-T (map.is_sorted nat_cmp (map.entries T.objects)) (map.entries_sorted T.objects)

  lists-ascend : ascends 0 (lists T s) ≡ true
  lists-ascend = chosen-ascend test 0 (map.entries T.objects) sorted (all-least test (map.entries T.objects))

  members : (k : ℕ) → is_among (lists T s) k ≡ is_listed T.places s (as_message (object_at T k))
  members k = chosen-holds test (map.entries T.objects) sorted k ∙ (ap (holds-at test) (sym (map.get-entries T.objects k)) ∙ listed-at T.places s (object_at T k))

  -- rows that are those of the messages to be listed are those of the list
  pub rows-are : (rows : List (ℕ × List Val)) → keys_ascend (λ r. r.0) 0 rows ≡ true → AreFresh T.places (λ m. as_message (object_at T m)) s rows → row_ids rows ≡ lists T s
  rows-are rows a fresh = one-list 0 (row_ids rows) (lists T s) (ids-same 0 rows ∙ a) lists-ascend (λ k. row-among rows k ∙ fresh k ∙ sym (members k))

  -- and the other way round
  pub are-rows : (rows : List (ℕ × List Val)) → row_ids rows ≡ lists T s → (keys_ascend (λ r. r.0) 0 rows ≡ true) × AreFresh T.places (λ m. as_message (object_at T m)) s rows
  are-rows rows e = (
    sym (ids-same 0 rows) ∙ ap (ascends 0) e ∙ lists-ascend,
    λ k. sym (row-among rows k) ∙ ap (λ ids. is_among ids k) e ∙ members k,
  )

pub lists_all : ListsAll
lists_all = record { ascend = λ T s. lists-ascend T s; members = λ T s m. members T s m; rows = λ T s rows a fresh. rows-are T s rows a fresh; fresh = λ T s rows e. are-rows T s rows e }
