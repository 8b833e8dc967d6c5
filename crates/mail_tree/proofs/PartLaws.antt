-- Attachments that a message gets, loses and changes: their ids, and the subnodes beside them.
use Rattle.std.proofs.Common.{◌≡◌, ℕ, ◌+◌, ◌*◌, ◌/◌, ◌%◌, ◌<◌, ◌==◌, Bool, true, false, not, max, nat_lt, List, [], ◌∷◌, None, Some, arith, refl, sym, ap, ◌∙◌, inl, inr, map}
use Rattle.std.specs.List.{list_any}
use Rattle.std.proofs.lemmas.Bool.{and_from, and_parts, cases_Bool, eq-eqb, eqb-true, ne_eqb, or_parts}
use Rattle.pst_base.specs.Flat.{Flat}
use Rattle.pst_base.specs.Ids.{nid_of}
use Rattle.mapi_values.specs.declared.part.Part.{Part}
use Rattle.mapi_values.specs.Keyed.{drop_key, find_key, put_key}
use Rattle.mapi_values.specs.Messages.{are_others, is_other, is_own, part_id}
use Rattle.mail_tree.specs.Parts.{greatest_kept, greatest_part, part_index}

-- the index of an attachment's id
pub index_is : (index : ℕ) → part_index (nid_of 5 index) ≡ index
unfolding part_index
index_is index =
    let k : (index * 32 + 5) % 32 ≡ 5 = omega arith in
    let i : (index * 32 + 5) / 32 ≡ index = omega arith in
    rw (eq-eqb ((index * 32 + 5) % 32) 5 k) i

-- an id of another index is another one
pub other_id : (n index : ℕ) → part_index n < index → (n == nid_of 5 index) ≡ false
other_id n index above = ne_eqb n (nid_of 5 index) (λ e. let i : part_index n ≡ index = ap part_index e ∙ index_is index in omega arith)

-- no attachment has an id of an index above all of theirs
pub past_parts : (parts : List Part) (index : ℕ) → greatest_part parts < index → find_key part_id (nid_of 5 index) parts ≡ None
past_parts [] index above = refl
past_parts (p ∷ ps) index above = rw (other_id (part_id p) index (omega arith)) (past_parts ps index (omega arith))

-- what holds of none holds of none where one is put of which it doesn't hold, or where one goes
any_put : {X : Type 0} (key : X → ℕ) (test : X → Bool) (x : X) (xs : List X) → test x ≡ false → list_any test xs ≡ false → list_any test (put_key key x xs) ≡ false
any_put key test x [] fails none = rw fails refl
any_put key test x (y ∷ ys) fails none =
    let t = or_parts (test y) (list_any test ys) none in
    elim (cases_Bool (nat_lt (key y) (key x))) [
      | inl lt ↦ rw (lt, t.0) (any_put key test x ys fails t.1)
      | inr ge ↦ rw ge (elim (cases_Bool (key y == key x)) [
        | inl same ↦ rw (same, fails) t.1
        | inr other ↦ rw (other, fails, t.0) t.1
      ])
    ]

any_drop : {X : Type 0} (key : X → ℕ) (test : X → Bool) (k : ℕ) (xs : List X) → list_any test xs ≡ false → list_any test (drop_key key k xs) ≡ false
any_drop key test k [] none = refl
any_drop key test k (y ∷ ys) none =
    let t = or_parts (test y) (list_any test ys) none in
    elim (cases_Bool (key y == k)) [ inl same ↦ rw same t.1 | inr other ↦ rw (other, t.0) (any_drop key test k ys t.1) ]

-- what holds of none doesn't hold of one that is found
none_found : {X : Type 0} (key : X → ℕ) (test : X → Bool) (k : ℕ) (xs : List X) (x : X) → list_any test xs ≡ false → find_key key k xs ≡ Some x → test x ≡ false
none_found key test k [] x none e = cc
none_found key test k (y ∷ ys) x none e =
    let t = or_parts (test y) (list_any test ys) none in
    elim (cases_Bool (key y == k)) [
      | inl same ↦ let here = rw same at e in let is : y ≡ x = cc in rw (sym is) t.0
      | inr other ↦ none_found key test k ys x t.1 (rw other at e)
    ]

-- the element that is found has the key
pub found_key : {X : Type 0} (key : X → ℕ) (k : ℕ) (xs : List X) (x : X) → find_key key k xs ≡ Some x → key x ≡ k
found_key key k [] x e = cc
found_key key k (y ∷ ys) x e = elim (cases_Bool (key y == k)) [
  | inl same ↦ let here = rw same at e in let is : y ≡ x = cc in ap key (sym is) ∙ eqb-true (key y) k same
  | inr other ↦ found_key key k ys x (rw other at e)
]

-- the ids of attachments of which one is put, or goes, are those of rows of which one is put, or goes, with that id
pub ids_put : {X Y : Type 0} (key : X → ℕ) (key' : Y → ℕ) (x : X) (y : Y) (xs : List X) (ys : List Y) → key x ≡ key' y → map key xs ≡ map key' ys → map key (put_key key x xs) ≡ map key' (put_key key' y ys)
ids_put key key' x y [] [] same all = ap (λ (k : ℕ). k ∷ []) same
ids_put key key' x y [] (b ∷ bs) same all = cc
ids_put key key' x y (a ∷ as') [] same all = cc
ids_put key key' x y (a ∷ as') (b ∷ bs) same all =
    let first : key a ≡ key' b = cc in
    let rest : map key as' ≡ map key' bs = cc in
    rw (same, first) (elim (cases_Bool (nat_lt (key' b) (key' y))) [
      | inl lt ↦ rw lt (rw first (ap (λ (ks : List ℕ). key' b ∷ ks) (ids_put key key' x y as' bs same rest)))
      | inr ge ↦ rw ge (elim (cases_Bool (key' b == key' y)) [
        | inl eq ↦ rw eq (rw (same, rest) refl)
        | inr other ↦ rw other (rw (same, first, rest) refl)
      ])
    ])

pub ids_drop : {X Y : Type 0} (key : X → ℕ) (key' : Y → ℕ) (k : ℕ) (xs : List X) (ys : List Y) → map key xs ≡ map key' ys → map key (drop_key key k xs) ≡ map key' (drop_key key' k ys)
ids_drop key key' k [] [] all = refl
ids_drop key key' k [] (b ∷ bs) all = cc
ids_drop key key' k (a ∷ as') [] all = cc
ids_drop key key' k (a ∷ as') (b ∷ bs) all =
    let first : key a ≡ key' b = cc in
    let rest : map key as' ≡ map key' bs = cc in
    rw first (elim (cases_Bool (key' b == k)) [
      | inl eq ↦ rw eq rest
      | inr other ↦ rw other (rw first (ap (λ (ks : List ℕ). key' b ∷ ks) (ids_drop key key' k as' bs rest)))
    ])

not_true : (b : Bool) → not b ≡ true → b ≡ false
not_true true e = cc
not_true false e = refl

-- a subnode that is no part of the message for the one is none for the other
other_still : (f : Flat) (old new : List Part) → ((f.level == 0) ≡ true → is_own old f.nid ≡ false → is_own new f.nid ≡ false) → is_other old f ≡ true → is_other new f ≡ true
unfolding is_other
other_still f old new own is = elim (cases_Bool (f.level == 0)) [
  | inr deep ↦ rw deep refl
  | inl direct ↦
      let no : is_own old f.nid ≡ false = not_true (is_own old f.nid) (rw direct at is) in
      rw (direct, own direct no) refl
]

own_from : (old new : List Part) (nid : ℕ) → (list_any (λ (part : Part). part.nid.bits == nid) old ≡ false → list_any (λ (part : Part). part.nid.bits == nid) new ≡ false) → is_own old nid ≡ false → is_own new nid ≡ false
own_from old new nid parts own =
    let a = or_parts (nid == 0x692) _ own in
    let b = or_parts (nid == 0x671) _ a.1 in
    rw (a.0, b.0) (parts b.1)

-- what a message keeps is still beside its attachments where one is put of an index above that of each
pub past_kept : (parts : List Part) (part : Part) (kept : List Flat) (index : ℕ) → greatest_kept kept < index → part_id part ≡ nid_of 5 index → are_others parts kept ≡ true → are_others (put_key part_id part parts) kept ≡ true
past_kept parts part [] index above is others = refl
past_kept parts part (f ∷ fs) index above is others =
    let t = and_parts (is_other parts f) (are_others parts fs) others in
    and_from (is_other (put_key part_id part parts) f) (are_others (put_key part_id part parts) fs)
    (other_still f parts (put_key part_id part parts)
    (λ direct no. own_from parts (put_key part_id part parts) f.nid
    (λ none. any_put part_id (λ (p : Part). p.nid.bits == f.nid) part parts
    (let low : part_index f.nid < index = (let g : max (part_index f.nid) (greatest_kept fs) < index = rw direct at above in omega arith) in
    ne_eqb (part_id part) f.nid (λ e. let i : part_index f.nid ≡ index = ap part_index (sym e ∙ is) ∙ index_is index in omega arith))
    none) no) t.0)
    (past_kept parts part fs index (omega arith) is t.1)

-- where it is put in place of one of its id
pub kept_still : (parts : List Part) (old part : Part) (kept : List Flat) → find_key part_id (part_id part) parts ≡ Some old → are_others parts kept ≡ true → are_others (put_key part_id part parts) kept ≡ true
kept_still parts old part [] found others = refl
kept_still parts old part (f ∷ fs) found others =
    let t = and_parts (is_other parts f) (are_others parts fs) others in
    and_from (is_other (put_key part_id part parts) f) (are_others (put_key part_id part parts) fs)
    (other_still f parts (put_key part_id part parts)
    (λ direct no. own_from parts (put_key part_id part parts) f.nid
    (λ none. any_put part_id (λ (p : Part). p.nid.bits == f.nid) part parts
    (ap (λ (n : ℕ). n == f.nid) (sym (found_key part_id (part_id part) parts old found)) ∙ none_found part_id (λ (p : Part). p.nid.bits == f.nid) (part_id part) parts old none found)
    none) no) t.0)
    (kept_still parts old part fs found t.1)

-- and where one goes
pub kept_without : (parts : List Part) (k : ℕ) (kept : List Flat) → are_others parts kept ≡ true → are_others (drop_key part_id k parts) kept ≡ true
kept_without parts k [] others = refl
kept_without parts k (f ∷ fs) others =
    let t = and_parts (is_other parts f) (are_others parts fs) others in
    and_from (is_other (drop_key part_id k parts) f) (are_others (drop_key part_id k parts) fs)
    (other_still f parts (drop_key part_id k parts)
    (λ direct no. own_from parts (drop_key part_id k parts) f.nid (any_drop part_id (λ (p : Part). p.nid.bits == f.nid) k parts) no) t.0)
    (kept_without parts k fs t.1)
