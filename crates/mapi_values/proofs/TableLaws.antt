-- What a filter keeps, and what the rows of a table keep.
use Rattle.std.proofs.Common.{drop, ap, ◌++◌, ◌∙◌, append-nil, Result, Ok, Err, OnOk, OnErr, ◌≡◌, ℕ, ◌≤◌, ◌&&◌, Bool, true, not, List, [], ◌∷◌, length, suc, arith, refl, sym, inl, inr, ◌==◌}
use Rattle.std.specs.Prelude.{nat_le}
use Rattle.std.proofs.lemmas.Bool.{and_parts, and_from, cases_Bool, leb-true}
use Rattle.std.proofs.lemmas.List.{drop_all}
use Rattle.std.specs.List.{list_all, filter}
use Rattle.pst_base.specs.Flat.{Flat}
use Rattle.mapi_values.specs.declared.column.Column.{Column}
use Rattle.mapi_values.specs.Columns.{has_column, suits_cell, in_cell}
use Rattle.mapi_values.specs.Keyed.{keys_ascend}
use Rattle.mapi_values.specs.Values.{Val, value_fits, fits, in_field}
use Rattle.mapi_values.specs.Properties.{IsProps, ascend_from, all_fit, put}
use Rattle.mapi_values.specs.Tables.{IsTable, value_suits, cells_suit, row_suits, is_mirrored, version, mirror, put_row, drop_row}
use Rattle.mapi_values.proofs.KeyedLaws.{ascend-lower, put-ascends, put-all, drop-ascends, drop-all}
use Rattle.mapi_values.proofs.PropertyLaws.{put-props}

pub filter-ascends : {X : Type 0} (key : X → ℕ) (p : X → Bool) (low : ℕ) (xs : List X) → keys_ascend key low xs ≡ true → keys_ascend key low (filter p xs) ≡ true
filter-ascends key p low [] a = refl
filter-ascends key p low (x ∷ xs) a =
    let q = and_parts (nat_le low (key x)) (keys_ascend key (suc (key x)) xs) a in
    elim (cases_Bool (p x)) [
      | inl t ↦ rw t (and_from (nat_le low (key x)) (keys_ascend key (suc (key x)) (filter p xs)) q.0 (filter-ascends key p (suc (key x)) xs q.1))
      | inr f ↦ rw f (ascend-lower key low (suc (key x)) (filter p xs) (omega (arith, leb-true low (key x) q.0)) (filter-ascends key p (suc (key x)) xs q.1))
    ]

pub filter-all : {X : Type 0} (test p : X → Bool) (xs : List X) → list_all test xs ≡ true → list_all test (filter p xs) ≡ true
filter-all test p [] a = refl
filter-all test p (x ∷ xs) a =
    let q = and_parts (test x) (list_all test xs) a in
    elim (cases_Bool (p x)) [
      | inl t ↦ rw t (and_from (test x) (list_all test (filter p xs)) q.0 (filter-all test p xs q.1))
      | inr f ↦ rw f (filter-all test p xs q.1)
    ]

-- what follows from the test holds of all that pass it
pub filter-passes : {X : Type 0} (test p : X → Bool) (xs : List X) → ((x : X) → p x ≡ true → test x ≡ true) → list_all test (filter p xs) ≡ true
filter-passes test p [] weaker = refl
filter-passes test p (x ∷ xs) weaker =
    elim (cases_Bool (p x)) [
      | inl t ↦ rw t (and_from (test x) (list_all test (filter p xs)) (weaker x t) (filter-passes test p xs weaker))
      | inr f ↦ rw f (filter-passes test p xs weaker)
    ]

pub filter-props : (p : Val → Bool) (vs : List Val) → IsProps vs → IsProps (filter p vs)
filter-props p vs h = record { ascend = filter-ascends (λ v. v.id) p 0 vs h.ascend; fit = filter-all value_fits p vs h.fit }

-- the row version has the length of its kind
pub version-fits : value_fits version ≡ true
unfolding fits in_field
version-fits = refl

version-suits-cell : suits_cell 0x0003 4 ≡ true
unfolding suits_cell in_cell in_field
version-suits-cell = refl

version-suits : (columns : List Column) → has_column columns 0x67F3 0x0003 ≡ true → value_suits columns version ≡ true
unfolding value_suits
version-suits columns has = and_from (has_column columns 0x67F3 0x0003) (suits_cell 0x0003 4) has version-suits-cell

mirrored-suits : (columns : List Column) (v : Val) → is_mirrored columns v ≡ true → value_suits columns v ≡ true
unfolding is_mirrored
mirrored-suits columns v m = (and_parts (value_suits columns v) (not (v.id == 0x67F3) && nat_le (length v.bytes) 3580) m).0

suits-from : (columns : List Column) (vs : List Val) → IsProps vs → list_all (value_suits columns) vs ≡ true → cells_suit columns vs ≡ true
unfolding cells_suit
suits-from columns vs p s = and_from (ascend_from 0 vs) (all_fit vs && list_all (value_suits columns) vs) p.ascend
    (and_from (all_fit vs) (list_all (value_suits columns) vs) p.fit s)

-- the row that shows an object may stand in the table
pub mirror-suits : (columns : List Column) (vs : List Val) → IsProps vs → cells_suit columns (mirror columns vs) ≡ true
unfolding mirror
mirror-suits columns vs p =
    let kept : list_all (value_suits columns) (filter (is_mirrored columns) vs) ≡ true = filter-passes (value_suits columns) (is_mirrored columns) vs (mirrored-suits columns) in
    let props : IsProps (filter (is_mirrored columns) vs) = filter-props (is_mirrored columns) vs p in
    elim (cases_Bool (has_column columns 0x67F3 0x0003)) [
      | inl t ↦ rw t (suits-from columns (put version (filter (is_mirrored columns) vs)) (put-props version (filter (is_mirrored columns) vs) version-fits props)
          (put-all (λ v. v.id) (value_suits columns) version (filter (is_mirrored columns) vs) (version-suits columns t) kept))
      | inr f ↦ rw f (suits-from columns (filter (is_mirrored columns) vs) props kept)
    ]

-- a row that is put leaves a table
pub put-table : (columns : List Column) (ends : List ℕ) (kept : List Flat) (rows new : List (ℕ × List Val)) (id : ℕ) (cells : List Val)
    → new ≡ put_row id cells rows → cells_suit columns cells ≡ true → IsTable (record { columns = columns; ends = ends; rows = rows; kept = kept })
    → IsTable (record { columns = columns; ends = ends; rows = new; kept = kept })
put-table columns ends kept rows new id cells e s t = rw e (record {
  layout = t.layout;
  ascend = put-ascends (λ r. r.0) 0 (id, cells) rows (omega arith) t.ascend;
  suit = put-all (λ r. r.0) (row_suits columns) (id, cells) rows s t.suit;
})

-- a row that is dropped leaves a table
pub drop-table : (columns : List Column) (ends : List ℕ) (kept : List Flat) (rows new : List (ℕ × List Val)) (id : ℕ)
    → new ≡ drop_row id rows → IsTable (record { columns = columns; ends = ends; rows = rows; kept = kept })
    → IsTable (record { columns = columns; ends = ends; rows = new; kept = kept })
drop-table columns ends kept rows new id e t = rw e (record {
  layout = t.layout;
  ascend = drop-ascends (λ r. r.0) 0 id rows t.ascend;
  suit = drop-all (λ r. r.0) (row_suits columns) id rows t.suit;
})

-- a put that may have failed leaves a table
pub tried-table : {T E : Type 0} (r : Result T E) (columns : List Column) (ends : List ℕ) (kept : List Flat) (rows new : List (ℕ × List Val)) (id : ℕ) (cells : List Val)
    → OnOk r (new ≡ put_row id cells rows) → OnErr r (new ≡ rows) → cells_suit columns cells ≡ true → IsTable (record { columns = columns; ends = ends; rows = rows; kept = kept })
    → IsTable (record { columns = columns; ends = ends; rows = new; kept = kept })
tried-table (Ok x) columns ends kept rows new id cells ok err s t = put-table columns ends kept rows new id cells ok s t
tried-table (Err x) columns ends kept rows new id cells ok err s t = rw err t

pub same-table : (columns columns' : List Column) (ends : List ℕ) (kept kept' : List Flat) (rows rows' : List (ℕ × List Val)) → columns' ≡ columns → rows' ≡ rows
    → IsTable (record { columns = columns; ends = ends; rows = rows; kept = kept }) → IsTable (record { columns = columns'; ends = ends; rows = rows'; kept = kept' })
same-table columns columns' ends kept kept' rows rows' e f t = rw (e, f) (record { layout = t.layout; ascend = t.ascend; suit = t.suit })

-- at the end of a loop that pushes what passes
pub filtered : {X : Type 0} (p : X → Bool) (out xs : List X) (n : ℕ) → out ++ filter p (drop n xs) ≡ filter p xs → length xs ≤ n → out ≡ filter p xs
filtered p out xs n e le = sym (append-nil out) ∙ (ap (λ zs. out ++ filter p zs) (sym (drop_all n xs le)) ∙ e)

pub suits-as : (columns : List Column) (props cells : List Val) → cells ≡ mirror columns props → IsProps props → cells_suit columns cells ≡ true
suits-as columns props cells e p = rw e (mirror-suits columns props p)
