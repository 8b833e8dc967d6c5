-- The three ways in which a column of a row is filled.
use Rattle.std.proofs.Common.{◌≡◌, ◌∙◌, ◌<◌, ◌==◌, ◌&&◌, ◌+◌, ◌++◌, ◌∷◌, [], ℕ, Bool, true, false, not, List, length, get_or, Option, Some, refl, sym, ap, inl, inr, arith}
use Rattle.std.specs.List.{list_all}
use Rattle.std.proofs.lemmas.Bool.{and_from, and_parts, cases_Bool, eq-eqb, eqb-true, true≢false}
use Rattle.std.proofs.Math.Bool.{and-false}
use Rattle.pst_base.specs.Fields.{number_at, replaced}
use Rattle.pst_base.proofs.Numbers.{number_at-same}
use Rattle.mapi_values.specs.declared.column.Column.{Column}
use Rattle.mapi_values.specs.Columns.{cell_width, has_column, in_cell, is_apart, is_column, is_placed, lies}
use Rattle.mapi_values.specs.Values.{Val, fits}
use Rattle.table_writer.specs.declared.value.Made.{Made}
use Rattle.table_writer.specs.Bits.{bits}
use Rattle.table_writer.specs.Making.{get_of, sub_of}
use Rattle.table_context.specs.Rows.{cell_names, cell_of, cells_of, content, has_cell, is_set, names, row_names, shows_id, value_in}
use Rattle.table_context.proofs.LayoutLaws.{lies-parts, width-some, width-three}
use Rattle.table_writer.proofs.FillLaws.{apart-parts, byte-same, column-parts}

-- the row id at the front stays
first-put : (third n : ℕ) (c : Column) (bs front : List ℕ) (m w : List Bool) (cs : List Column) → third ≡ length front → lies third (third + n) c ≡ true → length bs ≡ c.width
    → list_all (is_apart c) cs ≡ true → list_all (lies third (third + n)) cs ≡ true → has_column cs 0x67F2 0x0003 ≡ true
    → (k : ℕ) → k < 4 → get_or (front ++ bits n 0 m) (0 + k) 0 ≡ get_or (replaced c.at bs front ++ bits n 0 w) (0 + k) 0
unfolding is_placed
first-put third n c bs front m w [] e lc len apart lie has k lt = absurd (true≢false (sym has))
first-put third n c bs front m w (d ∷ ds) e lc len apart lie has k lt =
    let pa = and_parts (is_apart c d) (list_all (is_apart c) ds) apart in
    let pl = and_parts (lies third (third + n) d) (list_all (lies third (third + n)) ds) lie in
    elim (cases_Bool (is_column 0x67F2 0x0003 d)) [
      | inl t ↦
          let ld = lies-parts third (third + n) d pl.0 in
          let lcp = lies-parts third (third + n) c lc in
          let p = column-parts 0x67F2 0x0003 d t in
          let placed : (d.at == 0) && (d.bit == 0) ≡ true = rw t at ld.placed in
          let at : d.at ≡ 0 = eqb-true d.at 0 (and_parts (d.at == 0) (d.bit == 0) placed).0 in
          let width : d.width ≡ 4 = ld.width ∙ ap cell_width p.1 ∙ width-some 3 4 width-three in
          let s = apart-parts c d pa.0 in
          byte-same c.at bs front m w n (0 + k) (omega (arith, lcp.cell, len, e)) (omega (arith, ld.cell, at, width, lt, e)) (elim s.1 [
            | inl a ↦ inr (omega (arith, a, len, at))
            | inr b ↦ inl (omega (arith, b, width, at, lt))
          ])
      | inr f ↦ first-put third n c bs front m w ds e lc len pa.1 pl.1 (rw f at has) k lt
    ]

shows-from : (cs : List Column) (id : ℕ) (row there : List ℕ) → (has_column cs 0x67F2 0x0003 ≡ true → number_at 4 0 there ≡ number_at 4 0 row) → shows_id cs id row ≡ true → shows_id cs id there ≡ true
unfolding shows_id
shows-from cs id row there same h = elim (cases_Bool (has_column cs 0x67F2 0x0003)) [
  | inl t ↦ let g : (number_at 4 0 row == id) ≡ true = rw t at h in rw t (ap (λ (x : ℕ). x == id) (same t) ∙ g)
  | inr f ↦ rw f refl
]

pub shows-put : (third n : ℕ) (c : Column) (bs front : List ℕ) (m w : List Bool) (cs : List Column) (id : ℕ) → third ≡ length front → lies third (third + n) c ≡ true → length bs ≡ c.width
    → list_all (is_apart c) cs ≡ true → list_all (lies third (third + n)) cs ≡ true → shows_id cs id (front ++ bits n 0 m) ≡ true → shows_id cs id (replaced c.at bs front ++ bits n 0 w) ≡ true
shows-put third n c bs front m w cs id e lc len apart lie h =
    shows-from cs id (front ++ bits n 0 m) (replaced c.at bs front ++ bits n 0 w)
    (λ has. sym (number_at-same 4 0 0 (front ++ bits n 0 m) (replaced c.at bs front ++ bits n 0 w) (first-put third n c bs front m w cs e lc len apart lie has))) h

pub shows-other : (c : Column) (cs : List Column) (id : ℕ) (row : List ℕ) → is_column 0x67F2 0x0003 c ≡ false → shows_id cs id row ≡ true → shows_id (c ∷ cs) id row ≡ true
unfolding shows_id
shows-other c cs id row f h = rw f h

pub shows-here : (c : Column) (cs : List Column) (id : ℕ) (row : List ℕ) → is_column 0x67F2 0x0003 c ≡ true → number_at 4 0 row ≡ id → shows_id (c ∷ cs) id row ≡ true
unfolding shows_id
shows-here c cs id row t e = rw t (eq-eqb (number_at 4 0 row) id e)

-- a column without a value
pub lacks-cell : (from : ℕ) (row : List ℕ) (c : Column) → is_set from row c.bit ≡ false → has_cell from row c ≡ false
unfolding has_cell
lacks-cell from row c f = rw f (and-false (not (c.tag.id == 0x67F2)))

pub lacks-id : (from : ℕ) (row : List ℕ) (c : Column) → c.tag.id ≡ 0x67F2 → has_cell from row c ≡ false
unfolding has_cell
lacks-id from row c e = rw (eq-eqb c.tag.id 0x67F2 e) refl

pub has-value : (from : ℕ) (row : List ℕ) (c : Column) → not (c.tag.id == 0x67F2) ≡ true → is_set from row c.bit ≡ true → has_cell from row c ≡ true
unfolding has_cell
has-value from row c a b = and_from (not (c.tag.id == 0x67F2)) (is_set from row c.bit) a b

pub cells-without : (get : ℕ → Option (List ℕ)) (sub : ℕ → Option (List (List ℕ))) (from : ℕ) (row : List ℕ) (c : Column) (cs : List Column) → has_cell from row c ≡ false
    → cells_of get sub from row (c ∷ cs) ≡ cells_of get sub from row cs
cells-without get sub from row c cs f = rw f refl

pub names-without : (from : ℕ) (row : List ℕ) (c : Column) (cs : List Column) → has_cell from row c ≡ false → row_names from (c ∷ cs) row ≡ row_names from cs row
unfolding cell_names
names-without from row c cs f = rw f refl

pub value-is : (c : Column) (v : Val) → v.id ≡ c.tag.id → v.kind ≡ c.tag.kind → fits v.kind (length v.bytes) ≡ true → value_in c v.bytes ≡ Some v
unfolding value_in
value-is c v a b t =
    let u : fits c.tag.kind (length v.bytes) ≡ true = ap (λ (k : ℕ). fits k (length v.bytes)) (sym b) ∙ t in
    let same : record { id = c.tag.id; kind = c.tag.kind; bytes = v.bytes } ≡ v = rw (← a, ← b) refl in
    rw u (ap Some same)

-- a column with a value
pub cells-with : (made : Made) (from : ℕ) (row : List ℕ) (c : Column) (cs : List Column) (v : Val) (vs : List Val) → has_cell from row c ≡ true → v.id ≡ c.tag.id → v.kind ≡ c.tag.kind → fits v.kind (length v.bytes) ≡ true
    → content (get_of made) (sub_of made) row c.at (in_cell c.tag.kind) ≡ Some v.bytes → cells_of (get_of made) (sub_of made) from row cs ≡ Some vs
    → cells_of (get_of made) (sub_of made) from row (c ∷ cs) ≡ Some (v ∷ vs)
unfolding cell_of
cells-with made from row c cs v vs t a b f here rest = rw (t, here, value-is c v a b f, rest) refl

pub names-with : (from : ℕ) (row : List ℕ) (c : Column) (cs : List Column) → has_cell from row c ≡ true → row_names from (c ∷ cs) row ≡ names row c.at (in_cell c.tag.kind) ++ row_names from cs row
unfolding cell_names
names-with from row c cs t = rw t refl
