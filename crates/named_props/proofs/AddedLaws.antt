-- Names with one that was added are written and read again.
use Rattle.std.proofs.Common.{◌≡◌, ℕ, suc, zero, ◌+◌, ◌*◌, ◌/◌, ◌%◌, ◌^◌, ◌<◌, ◌≤◌, ◌==◌, Bool, true, false, List, [], ◌∷◌, ◌++◌, length, take, drop, Option, Some, refl, subst, arith, inl, inr, if◌then◌else◌, ◌||◌}
use Rattle.std.specs.Prelude.{nat_le, nat_lt}
use Rattle.std.specs.List.{list_all}
use Rattle.std.specs.Option.{is_some}
use Rattle.std.specs.Simd.{first_chunks}
use Rattle.std.proofs.lemmas.Bool.{and_from, and_parts, cases_Bool, eq-eqb, le-leb, lt-ltb, ltb-false, or_parts}
use Rattle.std.proofs.lemmas.List.{length-drop, length-take-le}
use Rattle.std.proofs.lemmas.Option.{none-some}
use Rattle.mapi_values.specs.Values.{Val}
use Rattle.named_props.specs.declared.names.Names.{Names}
use Rattle.named_props.specs.Adding.{added, guid_index, index_in, is_full, lengthens_past, new_entry, next_index}
use Rattle.named_props.specs.Entries.{entries_of, fits_id, greatest_guid, greatest_index, in_range}
use Rattle.named_props.specs.Holding.{IsWritable, entry_stream, guid_stream, is_binary_if, is_bucket, is_form, is_stream, names_in, names_of, written}
use Rattle.named_props.proofs.ListLaws.{have_length}
use Rattle.named_props.proofs.RoomLaws.{room-entry, with_name-writable}
use Rattle.named_props.proofs.WriteLaws.{names_of-written}

-- one more at the end passes too
all-more : {X : Type 0} (test : X → Bool) (xs : List X) (x : X) → list_all test xs ≡ true → test x ≡ true → list_all test (xs ++ x ∷ []) ≡ true
all-more test [] x all one = and_from (test x) true one refl
all-more test (y ∷ ys) x all one = let parts = and_parts (test y) (list_all test ys) all in and_from (test y) (list_all test (ys ++ x ∷ [])) parts.0 (all-more test ys x parts.1 one)

-- pieces that are cut of enough bytes are whole
chunks-long : (k n : ℕ) (xs : List ℕ) → k * n ≤ length xs → have_length (λ g. g) k (first_chunks k n xs) ≡ true
chunks-long k zero xs enough = refl
chunks-long k (suc n) xs enough =
    let front : length (take k xs) ≡ k = length-take-le k xs (omega arith) in
    and_from (length (take k xs) == k) (have_length (λ g. g) k (first_chunks k n (drop k xs))) (eq-eqb (length (take k xs)) k front) (chunks-long k n (drop k xs) (omega (arith, length-drop k xs)))

-- what values of the form hold
form-parts : (vs : List Val) (n : Names) → names_of vs ≡ Some n → (have_length (λ g. g) 16 n.guids ≡ true) × (list_all in_range n.entries ≡ true)
unfolding names_of is_form
form-parts vs n e = elim (cases_Bool (is_form vs)) [
  | inr f ↦ absurd (none-some n (rw f at e))
  | inl t ↦
      let same : names_in vs ≡ n = some-same (names_in vs) n (rw t at e) in
      let a = and_parts (list_all (is_binary_if (λ id. is_stream id || is_bucket id)) vs) _ t in
      let b = and_parts (length (guid_stream vs) % 16 == 0) _ a.1 in
      let d = and_parts (length (entry_stream vs) % 8 == 0) (list_all in_range (entries_of (entry_stream vs))) b.1 in (
        subst (λ (m : Names). have_length (λ g. g) 16 m.guids ≡ true) same (chunks-long 16 (length (guid_stream vs) / 16) (guid_stream vs) (omega arith)),
        subst (λ (m : Names). list_all in_range m.entries ≡ true) same d.1,
      )
]
  where
    some-same : (x y : Names) → ◌≡◌ {A = Option Names} (Some x) (Some y) → x ≡ y
    some-same x y e = cc

-- the new entry's indices are ones that a name may have
new-in_range : (n : Names) (guid : List ℕ) (number : ℕ) → is_full n guid number ≡ false → in_range (new_entry n guid number) ≡ true
unfolding is_full
new-in_range n guid number room =
    let a = or_parts (nat_lt greatest_index (next_index n.entries)) _ room in
    let b = or_parts (nat_lt greatest_guid (guid_index n.guids guid)) (lengthens_past n guid (new_entry n guid number)) a.1 in
    and_from (nat_le (guid_index n.guids guid) greatest_guid) (nat_le (next_index n.entries) greatest_index)
    (le-leb (guid_index n.guids guid) greatest_guid (ltb-false greatest_guid (guid_index n.guids guid) b.0))
    (le-leb (next_index n.entries) greatest_index (ltb-false greatest_index (next_index n.entries) a.0))

guids-long : (guids : List (List ℕ)) (guid : List ℕ) (b : Bool) → have_length (λ g. g) 16 guids ≡ true → length guid ≡ 16 → have_length (λ g. g) 16 (if b then guids else guids ++ guid ∷ []) ≡ true
guids-long guids guid true all long = all
guids-long guids guid false all long = all-more (λ g. length g == 16) guids guid all (eq-eqb (length guid) 16 long)

-- where there is room for a name, the values that hold it read back, and can be written again
pub writes-added : (vs : List Val) (n : Names) (guid : List ℕ) (number : ℕ) → names_of vs ≡ Some n → IsWritable n → list_all fits_id n.entries ≡ true → length guid ≡ 16 → number < 2 ^ 32 → is_full n guid number ≡ false
    → (names_of (written (added n guid number)) ≡ Some (added n guid number)) × IsWritable (added n guid number) × (list_all fits_id (added n guid number).entries ≡ true)
writes-added vs n guid number reads writable numbers long small room =
    let form = form-parts vs n reads in
    let e = new_entry n guid number in
    let w = with_name-writable n guid e (room-entry n guid number room) writable in
    let range = all-more in_range n.entries e form.1 (new-in_range n guid number room) in
    let fit = all-more fits_id n.entries e numbers (lt-ltb number (2 ^ 32) small) in
    (names_of-written (added n guid number) w (guids-long n.guids guid (is_some (index_in n.guids guid)) form.0 long) range fit, w, fit)
