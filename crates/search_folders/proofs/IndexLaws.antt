-- The index of a new search follows those of nodes and those that rows name.
use Rattle.std.proofs.Common.{◌≡◌, ℕ, zero, suc, ◌+◌, ◌/◌, ◌%◌, ◌==◌, ◌<◌, ◌≤◌, Bool, true, false, not, ◌&&◌, cond, if◌then◌else◌, max, List, [], ◌∷◌, length, get_or, drop, drop-cons, add-one, Option, None, Some, is_some, Result, Ok, Err, refl, sym, ap, subst, ◌∙◌, inl, inr, arith, ◌||◌}
use Rattle.std.specs.Prelude.{nat_le}
use Rattle.std.specs.List.{list_all, list_any}
use Rattle.std.proofs.lemmas.Bool.{and_parts, cases_Bool, cases_lt, eq-eqb, eqb-true, ne_eqb, leb-false, leb-true}
use Rattle.pst_base.specs.Ids.{nid_of}
use Rattle.mapi_values.specs.Tables.{find_row}
use Rattle.mapi_values.specs.Values.{Val}
use Rattle.mail_objects.specs.Forms.{Tbl}
use Rattle.mail_tree.specs.declared.places.FolderPlace.{FolderPlace}
use Rattle.mail_tree.specs.Changing.{Answer, ◌>>=◌, as_table, hierarchy, known}
use Rattle.mail_tree.specs.Ids.{LAST_INDEX, greatest, is_used, next_index}
use Rattle.mail_tree.specs.Places.{is_plain, place_id}
use Rattle.mail_tree.specs.Tree.{Tree, object_at}
use Rattle.mail_folders.proofs.Steps.{now_nothing}
use Rattle.mail_draft.specs.Answers.{Says}
use Rattle.mail_draft.specs.declared.stop.Stop.{Stop}
use Rattle.mail_draft.proofs.Passes.{stop_says}
use Rattle.mail_searches.specs.Criteria.{has_list, has_row, is_row_of_folder, next_search_index, search_kinds, unless_listless}
use Rattle.search_folders.specs.Pieces.{greatest_among, greatest_at, greatest_row, row_index}

-- ---- the greatest number that passes a test

-- the greatest that passes one of two tests is the greater of both greatest
both : (a b : ℕ → Bool) (n : ℕ) → greatest (λ i. a i || b i) n ≡ max (greatest a n) (greatest b n)
unfolding greatest
both a b zero = refl
both a b (suc n) = elim (cases_Bool (a (suc n))) [
  | inl t ↦ rw t (elim (cases_Bool (b (suc n))) [ inl u ↦ rw u (omega arith) | inr u ↦ rw u (omega (arith, fits b n)) ])
  | inr t ↦ rw t (elim (cases_Bool (b (suc n))) [ inl u ↦ rw u (omega (arith, fits a n)) | inr u ↦ rw u (both a b n) ])
]
  where
    fits : (test : ℕ → Bool) (m : ℕ) → greatest test m ≤ m
    fits test zero = omega arith
    fits test (suc m) = elim (cases_Bool (test (suc m))) [ inl y ↦ rw y (omega arith) | inr k ↦ rw k (omega (arith, fits test m)) ]

-- tests that agree
same_tests : (a b : ℕ → Bool) → ((i : ℕ) → a i ≡ b i) → (n : ℕ) → greatest a n ≡ greatest b n
unfolding greatest
same_tests a b same zero = refl
same_tests a b same (suc n) = rw (same (suc n)) (ap (λ m. if b (suc n) then suc n else m) (same_tests a b same n))

-- none passes
never : (n : ℕ) → greatest (λ i. false) n ≡ 0
unfolding greatest
never zero = refl
never (suc n) = never n

-- just one number passes, if it isn't 0
just : (test : ℕ → Bool) (k n : ℕ) → ((i : ℕ) → test i ≡ true → i ≡ k) → test k ≡ true → k ≤ n → greatest test n ≡ k
unfolding greatest
just test k zero only hit le = omega arith
just test k (suc n) only hit le = elim (cases_Bool (test (suc n))) [
  | inl t ↦ rw t (only (suc n) t)
  | inr f ↦ rw f (elim (cases_lt n k) [
    | inl past ↦ let top : k ≡ suc n = omega arith in let here : test (suc n) ≡ true = ap test (sym top) ∙ hit in cc
    | inr low ↦ just test k n only hit low
  ])
]

none_at : (test : ℕ → Bool) (n : ℕ) → ((i : ℕ) → i ≤ n → test i ≡ false) → greatest test n ≡ 0
unfolding greatest
none_at test zero fails = refl
none_at test (suc n) fails = rw (fails (suc n) (omega arith)) (none_at test n (λ i le. fails i (omega (arith, le))))

-- ---- the rows of one table

-- the greatest index of the id itself
of_row : (id : ℕ) → greatest (λ i. id == nid_of 3 i) LAST_INDEX ≡ row_index id
of_row id = elim (cases_Bool (id % 32 == 3)) [
  | inl three ↦ elim (cases_Bool (nat_le (id / 32) LAST_INDEX)) [
    | inl low ↦ rw (three, low) (just (λ i. id == nid_of 3 i) (id / 32) LAST_INDEX (λ i is. let e = eqb-true id (nid_of 3 i) is in omega (arith, e)) (eq-eqb id (nid_of 3 (id / 32)) (let k = eqb-true (id % 32) 3 three in omega (arith, k))) (leb-true (id / 32) LAST_INDEX low))
    | inr high ↦ rw (three, high) (none_at (λ i. id == nid_of 3 i) LAST_INDEX (λ i le. ne_eqb id (nid_of 3 i) (λ e. let h : LAST_INDEX < id / 32 = leb-false (id / 32) LAST_INDEX high in omega (arith, e, le, h))))
  ]
  | inr other ↦ rw other (none_at (λ i. id == nid_of 3 i) LAST_INDEX (λ i le. ne_eqb id (nid_of 3 i) (λ e. let k : (id % 32) ≡ 3 = omega (arith, e) in let t : (id % 32 == 3) ≡ true = eq-eqb (id % 32) 3 k in cc)))
]

-- a row is there where it is first, or after
found_first : (k : ℕ) (r : ℕ × List Val) (rs : List (ℕ × List Val)) → is_some (find_row k (r ∷ rs)) ≡ (r.0 == k) || is_some (find_row k rs)
found_first k r rs = elim (cases_Bool (r.0 == k)) [ inl t ↦ rw t refl | inr f ↦ rw f refl ]

of_rows : (rows : List (ℕ × List Val)) → greatest (λ i. is_some (find_row (nid_of 3 i) rows)) LAST_INDEX ≡ greatest_row rows
of_rows [] = never LAST_INDEX
of_rows (r ∷ rs) =
    same_tests _ (λ i. (r.0 == nid_of 3 i) || is_some (find_row (nid_of 3 i) rs)) (λ i. found_first (nid_of 3 i) r rs) LAST_INDEX
    ∙ both (λ i. r.0 == nid_of 3 i) (λ i. is_some (find_row (nid_of 3 i) rs)) LAST_INDEX
    ∙ ap (λ n. max n (greatest (λ i. is_some (find_row (nid_of 3 i) rs)) LAST_INDEX)) (of_row r.0) ∙ ap (max (row_index r.0)) (of_rows rs)

-- ---- the tables of folders

abbrev names : Tree → FolderPlace → ℕ → Bool
names T p id = is_plain p && has_row id (as_table (object_at T (hierarchy (place_id p))))

of_table : (o : Option Tbl) (plain : Bool) → (not plain || is_some o) ≡ true
    → (cond plain (known o >>= λ t. Ok (greatest_row t.table.rows)) (Ok 0)) ≡ Ok (greatest (λ i. plain && has_row (nid_of 3 i) o) LAST_INDEX)
of_table o false e = ap Ok (sym (never LAST_INDEX))
of_table None true e = cc
of_table (Some t) true e = ap Ok (sym (of_rows t.table.rows))

of_place : (T : Tree) (p : FolderPlace) → has_list T p ≡ true → greatest_at T p ≡ Ok (greatest (λ i. names T p (nid_of 3 i)) LAST_INDEX)
unfolding greatest_at
of_place T p has = rw (now_nothing T (hierarchy (place_id p))) (of_table (as_table (object_at T (hierarchy (place_id p)))) (is_plain p) has)

of_places : (T : Tree) (ps : List FolderPlace) → list_all (has_list T) ps ≡ true → greatest_among T ps ≡ Ok (greatest (λ i. list_any (λ p. names T p (nid_of 3 i)) ps) LAST_INDEX)
of_places T [] all = ap Ok (sym (never LAST_INDEX))
of_places T (p ∷ ps) all =
    let parts = and_parts (has_list T p) (list_all (has_list T) ps) all in
    rw (of_place T p parts.0, of_places T ps parts.1) (ap Ok (sym (both (λ i. names T p (nid_of 3 i)) (λ i. list_any (λ q. names T q (nid_of 3 i)) ps) LAST_INDEX)))

-- the next index follows both
next_is : (T : Tree) (n m : ℕ) → n ≡ next_index T 3 search_kinds → m ≡ greatest (λ i. is_row_of_folder T (nid_of 3 i)) LAST_INDEX → max n (m + 1) ≡ next_search_index T
unfolding next_index next_search_index
next_is T n m after named =
    let each = both (is_used T search_kinds) (λ i. is_row_of_folder T (nid_of 3 i)) LAST_INDEX in
    omega (arith, after, named, each)

-- ---- what the calls say

pub follows_all : (T : Tree) (n m : ℕ) → Says {B = ℕ} (λ k. k) (Ok (next_index T 3 search_kinds)) (Ok n) → Says {B = ℕ} (λ k. k) (greatest_among T T.places) (Ok m)
    → Says {B = ℕ} (λ k. k) (unless_listless T >>= λ u. Ok (next_search_index T)) (Ok (max n (m + 1)))
follows_all T n m after named = elim (cases_Bool (list_all (has_list T) T.places)) [
  | inr f ↦ rw f tt
  | inl t ↦ rw t (next_is T n m after (rw (of_places T T.places t) at named))
]

pub follows_stop : (T : Tree) (stop : Stop) → Says {A = ℕ} {B = ℕ} (λ k. k) (greatest_among T T.places) (Err stop) → Says {A = ℕ} {B = ℕ} (λ k. k) (unless_listless T >>= λ u. Ok (next_search_index T)) (Err stop)
follows_stop T stop named = elim (cases_Bool (list_all (has_list T) T.places)) [
  | inr f ↦ rw f tt
  | inl t ↦ rw t (rw (of_places T T.places t) at named)
]

-- ---- a table after another

pub greatest_goes : (T : Tree) (ps : List FolderPlace) (i : ℕ) (d : FolderPlace) (n so_far : ℕ) (result : Result ℕ Stop) → i < length ps → Says {B = ℕ} (λ k. k) (greatest_at T (get_or ps i d)) (Ok n)
    → Says (λ k. k) (greatest_among T (drop (i + 1) ps) >>= λ m. Ok (max (max n so_far) m)) result → Says (λ k. k) (greatest_among T (drop i ps) >>= λ m. Ok (max so_far m)) result
greatest_goes T ps i d n so_far result h first next = rw (drop-cons ps i d) (one_more (greatest_at T (get_or ps i d)) (greatest_among T (drop (suc i) ps)) first (rw add-one at next))
  where
    one_more : (one rest : Answer ℕ) → Says {B = ℕ} (λ k. k) one (Ok n) → Says (λ k. k) (rest >>= λ m. Ok (max (max n so_far) m)) result
        → Says (λ k. k) ((one >>= λ k. rest >>= λ m. Ok (max k m)) >>= λ m. Ok (max so_far m)) result
    one_more (Ok k) (Ok m) first next = let same : max (max n so_far) m ≡ max so_far (max k m) = omega (arith, first) in subst (λ x. Says {B = ℕ} (λ k. k) (Ok x) result) same next
    one_more (Ok k) (Err e) first next = next
    one_more (Err None) rest first next = tt
    one_more (Err (Some refusal)) rest first next = absurd first

pub greatest_stops : (T : Tree) (ps : List FolderPlace) (i : ℕ) (d : FolderPlace) (so_far : ℕ) (stop : Stop) → i < length ps → Says {A = ℕ} {B = ℕ} (λ k. k) (greatest_at T (get_or ps i d)) (Err stop)
    → Says {A = ℕ} {B = ℕ} (λ k. k) (greatest_among T (drop i ps) >>= λ m. Ok (max so_far m)) (Err stop)
greatest_stops T ps i d so_far stop h first = rw (drop-cons ps i d) (stop_says (λ k. k) (λ k. k) _ _ stop (stop_says (λ k. k) (λ k. k) (greatest_at T (get_or ps i d)) _ stop first))
