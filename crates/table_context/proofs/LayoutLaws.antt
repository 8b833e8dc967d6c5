-- What a layout says of each column, and what a header says of its columns.
use Rattle.std.proofs.Common.{◌≡◌, ◌∙◌, ◌≤◌, ◌<◌, ◌+◌, ◌*◌, ◌/◌, ◌==◌, ◌&&◌, ℕ, zero, suc, Bool, true, false, List, [], ◌∷◌, length, get_or, nat_le, Some, None, refl, sym, ap, arith, inl, inr}
use Rattle.std.proofs.lemmas.Bool.{and_parts, and_from, and_right, cases_Bool, leb-true, ltb-true, eqb-true, true≢false}
use Rattle.std.specs.Prelude.{nat_lt}
use Rattle.std.specs.List.{list_all}
use Rattle.bth_tree.proofs.OptionLaws.{none-some}
use Rattle.pst_base.specs.Fields.{number_at}
use Rattle.mapi_values.specs.declared.column.Column.{Column}
use Rattle.mapi_values.specs.Columns.{cell_width, has_column, in_cell, is_column, is_layout, is_placed, lies}
use Rattle.mapi_values.specs.Values.{in_field}
use Rattle.table_context.specs.Header.{columns_at, columns_in, columns_of, ends_in, has_form, size_in}

pub all-at : {X : Type 0} (p : X → Bool) (xs : List X) (i : ℕ) (d : X) → list_all p xs ≡ true → i < length xs → p (get_or xs i d) ≡ true
all-at p [] i d a h = absurd (omega arith)
all-at p (x ∷ xs) zero d a h = (and_parts (p x) (list_all p xs) a).0
all-at p (x ∷ xs) (suc i) d a h = all-at p xs i d (and_parts (p x) (list_all p xs) a).1 (omega arith)

-- what a layout says of a column
pub record Lies (third fourth : ℕ) (c : Column) : Type 0 where
  pub width : c.width ≡ cell_width c.tag.kind
  pub cell : c.at + c.width ≤ third
  pub bit : third + c.bit / 8 < fourth
  pub placed : is_placed c ≡ true

pub lies-parts : (third fourth : ℕ) (c : Column) → lies third fourth c ≡ true → Lies third fourth c
unfolding lies
lies-parts third fourth c h =
    let a = and_parts (c.width == cell_width c.tag.kind) (nat_le (c.at + c.width) third && (nat_lt (third + c.bit / 8) fourth && is_placed c)) h in
    let b = and_parts (nat_le (c.at + c.width) third) (nat_lt (third + c.bit / 8) fourth && is_placed c) a.1 in
    let d = and_parts (nat_lt (third + c.bit / 8) fourth) (is_placed c) b.1 in
    record {
      width = eqb-true c.width (cell_width c.tag.kind) a.0;
      cell = leb-true (c.at + c.width) third b.0;
      bit = ltb-true (third + c.bit / 8) fourth d.0;
      placed = d.1;
    }

pub lies-at : (third fourth : ℕ) (columns : List Column) (i : ℕ) (d : Column) → list_all (lies third fourth) columns ≡ true → i < length columns → Lies third fourth (get_or columns i d)
lies-at third fourth columns i d a h = lies-parts third fourth (get_or columns i d) (all-at (lies third fourth) columns i d a h)

pub width-some : (kind w : ℕ) → in_cell kind ≡ Some w → cell_width kind ≡ w
unfolding cell_width
width-some kind w e = rw e refl

pub width-none : (kind : ℕ) → in_cell kind ≡ None → cell_width kind ≡ 4
unfolding cell_width
width-none kind e = rw e refl

pub width-three : in_cell 3 ≡ Some 4
unfolding in_cell in_field
width-three = refl

-- the column of the row id lies at the front
pub id-lies : (third fourth : ℕ) (columns : List Column) → list_all (lies third fourth) columns ≡ true → has_column columns 0x67F2 0x0003 ≡ true → 4 ≤ fourth
id-lies third fourth [] a h = absurd (true≢false (sym h))
id-lies third fourth (c ∷ cs) a h =
    let p = and_parts (lies third fourth c) (list_all (lies third fourth) cs) a in
    elim (cases_Bool (is_column 0x67F2 0x0003 c)) [
      | inl t ↦
          let l = lies-parts third fourth c p.0 in
          let k : c.tag.kind ≡ 3 = eqb-true c.tag.kind 3 (and_parts (c.tag.id == 0x67F2) (c.tag.kind == 3) t).1 in
          let w : c.width ≡ 4 = l.width ∙ ap cell_width k ∙ width-some 3 4 width-three in
          omega (arith, l.cell, l.bit, w)
      | inr f ↦ id-lies third fourth cs p.1 (rw f at h)
    ]

pub form-end : (x : List ℕ) (n : ℕ) → n ≡ number_at 1 1 x → (length x == 22 + 8 * n) ≡ false → columns_of x ≡ None
unfolding columns_of has_form
form-end x n e f =
    let g : (length x == 22 + 8 * number_at 1 1 x) ≡ false = ap (λ (m : ℕ). length x == 22 + 8 * m) (sym e) ∙ f in
    rw g refl

abbrev pub fit : List Column → List ℕ → Bool
fit columns ends = nat_le 1 (get_or ends 3 0) && (nat_le (get_or ends 3 0) 8176 && is_layout columns ends)

fit-same : (x : List ℕ) (n : ℕ) (columns : List Column) (ends : List ℕ) (b : Bool) → n ≡ number_at 1 1 x → columns ≡ columns_at n 22 x → ends ≡ ends_in x → fit columns ends ≡ b → fit (columns_in x) (ends_in x) ≡ b
fit-same x n columns ends b e c d f = ap (λ (m : ℕ). fit (columns_at m 22 x) (ends_in x)) (sym e) ∙ ap (λ (cs : List Column). fit cs (ends_in x)) (sym c) ∙ ap (fit columns) (sym d) ∙ f

pub form-out : (x : List ℕ) (n : ℕ) (columns : List Column) (ends : List ℕ) → n ≡ number_at 1 1 x → columns ≡ columns_at n 22 x → ends ≡ ends_in x → fit columns ends ≡ false → columns_of x ≡ None
unfolding columns_of has_form
form-out x n columns ends e c d f =
    let g : (length x == 22 + 8 * number_at 1 1 x) && fit (columns_in x) (ends_in x) ≡ false = and_right (length x == 22 + 8 * number_at 1 1 x) (fit (columns_in x) (ends_in x)) (fit-same x n columns ends false e c d f) in
    rw g refl

pub form-in : (x : List ℕ) (n : ℕ) (columns : List Column) (ends : List ℕ) → n ≡ number_at 1 1 x → columns ≡ columns_at n 22 x → ends ≡ ends_in x
    → (length x == 22 + 8 * n) ≡ true → fit columns ends ≡ true → columns_of x ≡ Some columns
unfolding columns_of has_form
form-in x n columns ends e c d t f =
    let g : (length x == 22 + 8 * number_at 1 1 x) ≡ true = ap (λ (m : ℕ). length x == 22 + 8 * m) (sym e) ∙ t in
    let h : (length x == 22 + 8 * number_at 1 1 x) && fit (columns_in x) (ends_in x) ≡ true = and_from (length x == 22 + 8 * number_at 1 1 x) (fit (columns_in x) (ends_in x)) g (fit-same x n columns ends true e c d f) in
    let s : columns_in x ≡ columns = ap (λ (m : ℕ). columns_at m 22 x) (sym e) ∙ sym c in
    rw h (ap Some s)

-- the layout of the columns of a header
pub form-layout : (x : List ℕ) (columns : List Column) → columns_of x ≡ Some columns
    → (is_layout columns (ends_in x) ≡ true) × (1 ≤ size_in x) × (size_in x ≤ 8176)
unfolding columns_of has_form
form-layout x columns h = elim (cases_Bool ((length x == 22 + 8 * number_at 1 1 x) && fit (columns_in x) (ends_in x))) [
  | inl t ↦
      let same : Some (columns_in x) ≡ Some columns = rw t at h in
      let cs : columns_in x ≡ columns = cc in
      let a = and_parts (length x == 22 + 8 * number_at 1 1 x) (fit (columns_in x) (ends_in x)) t in
      let b = and_parts (nat_le 1 (size_in x)) (nat_le (size_in x) 8176 && is_layout (columns_in x) (ends_in x)) a.1 in
      let d = and_parts (nat_le (size_in x) 8176) (is_layout (columns_in x) (ends_in x)) b.1 in
      (ap (λ (ds : List Column). is_layout ds (ends_in x)) (sym cs) ∙ d.1, leb-true 1 (size_in x) b.0, leb-true (size_in x) 8176 d.0)
  | inr f ↦
      let none : None ≡ Some columns = rw f at h in
      absurd (none-some columns none)
]
