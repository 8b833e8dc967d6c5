-- One more column of a row is filled.
use Rattle.std.proofs.Common.{◌≡◌, ◌∙◌, ◌≤◌, ◌<◌, ◌==◌, ◌&&◌, ◌⊎◌, ◌+◌, ◌-◌, ◌/◌, ◌++◌, ◌∷◌, [], ℕ, suc, Bool, true, false, not, List, length, get_or, set, Option, Some, None, refl, sym, ap, inl, inr, arith, length-append, append_assoc, ◌||◌}
use Rattle.std.specs.Prelude.{nat_le}
use Rattle.std.specs.List.{list_all}
use Rattle.std.specs.Option.{option_and_then, unwrap_or}
use Rattle.std.proofs.lemmas.Bool.{and_parts, cases_Bool, cases_lt, eq-eqb, eqb-true, leb-true, or_cases, true≢false}
use Rattle.std.proofs.lemmas.List.{get_or_append_left, get_or-set_other}
use Rattle.bth_tree.proofs.OptionLaws.{bind-some}
use Rattle.pst_base.specs.Fields.{number_at, replaced}
use Rattle.pst_base.proofs.CellLaws.{get_or-replaced_above, get_or-replaced_below, length-replaced}
use Rattle.pst_base.proofs.Numbers.{number_at-same}
use Rattle.mapi_values.specs.declared.column.Column.{Column}
use Rattle.mapi_values.specs.Columns.{cell_width, in_cell, is_apart, is_column, lies, tag_number}
use Rattle.mapi_values.specs.Keyed.{keys_ascend}
use Rattle.mapi_values.specs.Properties.{ascend_from}
use Rattle.mapi_values.proofs.KeyedLaws.{ascend-rise}
use Rattle.pst_base.specs.Subs.{flattened}
use Rattle.table_writer.specs.Filling.{no_column, no_value}
use Rattle.table_context.specs.Rows.{others}
use Rattle.table_writer.specs.Woven.{all_woven}
use Rattle.mapi_values.specs.Values.{Val}
use Rattle.table_writer.specs.declared.value.Made.{Made}
use Rattle.table_writer.specs.Bits.{bits}
use Rattle.table_writer.specs.Making.{Grows, get_of, sub_of}
use Rattle.node_values.proofs.NamedLaws.{named-kept}
use Rattle.table_context.specs.Rows.{cell_names, cell_of, cells_of, content, has_cell, is_set, names, row_names, subnode, value_in}
use Rattle.table_context.proofs.StepLaws.{first}
use Rattle.table_context.proofs.LayoutLaws.{lies-parts}
use Rattle.table_writer.proofs.PutLaws.{content-same, marked}

content-kept : (old new : Made) (ids : List ℕ) (row : List ℕ) (at : ℕ) (o : Option ℕ) (x : List ℕ) → Grows old new ids → content (get_of old) (sub_of old) row at o ≡ Some x
    → content (get_of new) (sub_of new) row at o ≡ Some x
content-kept old new ids row at None x g h = named-kept (get_of old) (get_of new) (sub_of old) (sub_of new) g.items g.subs (number_at 4 at row) x h
content-kept old new ids row at (Some w) x g h = h

-- the cells of columns have what they had
abbrev pub Same : Made → Made → ℕ → List ℕ → List ℕ → List Column → Type 0
Same old new third row there [] = Unit {0}
Same old new third row there (c ∷ cs) =
    (has_cell third there c ≡ has_cell third row c)
    × ((x : List ℕ) → content (get_of old) (sub_of old) row c.at (in_cell c.tag.kind) ≡ Some x → content (get_of new) (sub_of new) there c.at (in_cell c.tag.kind) ≡ Some x)
    × (names there c.at (in_cell c.tag.kind) ≡ names row c.at (in_cell c.tag.kind))
    × Same old new third row there cs

cell-same : (old new : Made) (row there : List ℕ) (c : Column) (v : Val)
    → ((x : List ℕ) → content (get_of old) (sub_of old) row c.at (in_cell c.tag.kind) ≡ Some x → content (get_of new) (sub_of new) there c.at (in_cell c.tag.kind) ≡ Some x)
    → cell_of (get_of old) (sub_of old) row c ≡ Some v → cell_of (get_of new) (sub_of new) there c ≡ Some v
unfolding cell_of
cell-same old new row there c v f h =
    let a = bind-some (value_in c) (content (get_of old) (sub_of old) row c.at (in_cell c.tag.kind)) v h in
    ap (option_and_then (value_in c)) (f a.0 a.1) ∙ a.2

pub cells-same : (old new : Made) (third : ℕ) (row there : List ℕ) (cs : List Column) (vs : List Val) → Same old new third row there cs
    → cells_of (get_of old) (sub_of old) third row cs ≡ Some vs → cells_of (get_of new) (sub_of new) third there cs ≡ Some vs
cells-same old new third row there [] vs s h = h
cells-same old new third row there (c ∷ cs) vs s h = elim (cases_Bool (has_cell third row c)) [
  | inl t ↦
      let a = bind-some (λ (v : Val). first v (cells_of (get_of old) (sub_of old) third row cs)) (cell_of (get_of old) (sub_of old) row c) vs (rw t at h) in
      let b = bind-some (λ (ws : List Val). Some (a.0 ∷ ws)) (cells_of (get_of old) (sub_of old) third row cs) vs a.2 in
      let has : has_cell third there c ≡ true = s.0 ∙ t in
      rw (has, cell-same old new row there c a.0 s.1 a.1, cells-same old new third row there cs b.0 s.3 b.1) b.2
  | inr f ↦
      let has : has_cell third there c ≡ false = s.0 ∙ f in
      rw has (cells-same old new third row there cs vs s.3 (rw f at h))
]

cell_names-same : (third : ℕ) (row there : List ℕ) (c : Column) → has_cell third there c ≡ has_cell third row c → names there c.at (in_cell c.tag.kind) ≡ names row c.at (in_cell c.tag.kind)
    → cell_names third there c ≡ cell_names third row c
unfolding cell_names
cell_names-same third row there c h n = elim (cases_Bool (has_cell third row c)) [
  | inl t ↦ let u : has_cell third there c ≡ true = h ∙ t in rw (u, t) n
  | inr f ↦ let u : has_cell third there c ≡ false = h ∙ f in rw (u, f) refl
]

pub names-same : (old new : Made) (third : ℕ) (row there : List ℕ) (cs : List Column) → Same old new third row there cs → row_names third cs there ≡ row_names third cs row
names-same old new third row there [] s = refl
names-same old new third row there (c ∷ cs) s =
    ap (λ (ns : List ℕ). ns ++ row_names third cs there) (cell_names-same third row there c s.0 s.2) ∙ ap (λ (ns : List ℕ). cell_names third row c ++ ns) (names-same old new third row there cs s.3)

-- ---- a write to one cell leaves the others

pub byte-same : (at : ℕ) (bs front : List ℕ) (m w : List Bool) (n k : ℕ) → at + length bs ≤ length front → k < length front → (k < at) ⊎ (at + length bs ≤ k)
    → get_or (front ++ bits n 0 m) k 0 ≡ get_or (replaced at bs front ++ bits n 0 w) k 0
byte-same at bs front m w n k within lt side =
    let len = length-replaced at bs front within in
    let beside : get_or (replaced at bs front) k 0 ≡ get_or front k 0 = elim side [ inl b ↦ get_or-replaced_below at bs front k within b | inr a ↦ get_or-replaced_above at bs front k within a ] in
    get_or_append_left front (bits n 0 m) 0 k lt ∙ sym beside ∙ sym (get_or_append_left (replaced at bs front) (bits n 0 w) 0 k (omega (arith, len, lt)))

not-true : (b : Bool) → not b ≡ true → b ≡ false
not-true true h = sym h
not-true false h = refl

pub apart-parts : (c d : Column) → is_apart c d ≡ true → ((c.bit == d.bit) ≡ false) × ((c.at + c.width ≤ d.at) ⊎ (d.at + d.width ≤ c.at))
unfolding is_apart
apart-parts c d h =
    let p = and_parts (not (c.bit == d.bit)) (nat_le (c.at + c.width) d.at || nat_le (d.at + d.width) c.at) h in
    let side : (c.at + c.width ≤ d.at) ⊎ (d.at + d.width ≤ c.at) = elim (or_cases (nat_le (c.at + c.width) d.at) (nat_le (d.at + d.width) c.at) p.1) [
      | inl a ↦ inl (leb-true (c.at + c.width) d.at a)
      | inr b ↦ inr (leb-true (d.at + d.width) c.at b)
    ] in
    (not-true (c.bit == d.bit) p.0, side)

pub has-same : (from : ℕ) (row there : List ℕ) (c : Column) → is_set from there c.bit ≡ is_set from row c.bit → has_cell from there c ≡ has_cell from row c
unfolding has_cell
has-same from row there c e = ap (λ (b : Bool). not (c.tag.id == 0x67F2) && b) e

pub names-put : (row there : List ℕ) (at : ℕ) (o : Option ℕ) → ((k : ℕ) → k < unwrap_or o 4 → get_or row (at + k) 0 ≡ get_or there (at + k) 0) → names there at o ≡ names row at o
names-put row there at None same = sym (ap subnode (number_at-same 4 at at row there same))
names-put row there at (Some w) same = refl

pub width-is : (kind : ℕ) → cell_width kind ≡ unwrap_or (in_cell kind) 4
unfolding cell_width
width-is kind = refl

other-bit : (m : List Bool) (i j : ℕ) → (i == j) ≡ false → get_or (set m i true) j false ≡ get_or m j false
other-bit m i j f = get_or-set_other m i j true false (λ e. true≢false (sym (eq-eqb i j (sym e)) ∙ f))

pub same-put : (old new : Made) (ids : List ℕ) (third n : ℕ) (c : Column) (bs front : List ℕ) (m : List Bool) (cs : List Column) → Grows old new ids → third ≡ length front
    → lies third (third + n) c ≡ true → length bs ≡ c.width → list_all (is_apart c) cs ≡ true → list_all (lies third (third + n)) cs ≡ true
    → Same old new third (front ++ bits n 0 m) (replaced c.at bs front ++ bits n 0 (set m c.bit true)) cs
same-put old new ids third n c bs front m [] g e lc len apart lie = tt
same-put old new ids third n c bs front m (d ∷ ds) g e lc len apart lie =
    let pa = and_parts (is_apart c d) (list_all (is_apart c) ds) apart in
    let pl = and_parts (lies third (third + n) d) (list_all (lies third (third + n)) ds) lie in
    let ld = lies-parts third (third + n) d pl.0 in
    let lcp = lies-parts third (third + n) c lc in
    let s = apart-parts c d pa.0 in
    let row = front ++ bits n 0 m in
    let there = replaced c.at bs front ++ bits n 0 (set m c.bit true) in
    let within : c.at + length bs ≤ length front = omega (arith, lcp.cell, len, e) in
    let size : length (replaced c.at bs front) ≡ length front = length-replaced c.at bs front within in
    let width : d.width ≡ unwrap_or (in_cell d.tag.kind) 4 = ld.width ∙ width-is d.tag.kind in
    let bit_low : d.bit / 8 < n = omega (arith, ld.bit) in
    let bytes : (k : ℕ) → k < unwrap_or (in_cell d.tag.kind) 4 → get_or row (d.at + k) 0 ≡ get_or there (d.at + k) 0 =
    λ k lt. byte-same c.at bs front m (set m c.bit true) n (d.at + k) within (omega (arith, ld.cell, width, lt, e)) (elim s.1 [
      | inl a ↦ inr (omega (arith, a, len))
      | inr b ↦ inl (omega (arith, b, width, lt))
    ]) in
    let marks : is_set third there d.bit ≡ is_set third row d.bit =
    marked (replaced c.at bs front) (set m c.bit true) n d.bit third (e ∙ sym size) bit_low ∙ other-bit m c.bit d.bit s.0 ∙ sym (marked front m n d.bit third e bit_low) in
    let room_row : d.at + unwrap_or (in_cell d.tag.kind) 4 ≤ length (front ++ bits n 0 m) = omega (arith, ld.cell, width, e, length-append front (bits n 0 m)) in
    let room_there : d.at + unwrap_or (in_cell d.tag.kind) 4 ≤ length (replaced c.at bs front ++ bits n 0 (set m c.bit true)) =
    omega (arith, ld.cell, width, e, size, length-append (replaced c.at bs front) (bits n 0 (set m c.bit true))) in (
      has-same third (front ++ bits n 0 m) (replaced c.at bs front ++ bits n 0 (set m c.bit true)) d marks,
      λ x h. sym (content-same (get_of new) (sub_of new) (front ++ bits n 0 m) (replaced c.at bs front ++ bits n 0 (set m c.bit true)) d.at (in_cell d.tag.kind) room_row room_there bytes)
          ∙ content-kept old new ids (front ++ bits n 0 m) d.at (in_cell d.tag.kind) x g h,
      names-put (front ++ bits n 0 m) (replaced c.at bs front ++ bits n 0 (set m c.bit true)) d.at (in_cell d.tag.kind) bytes,
      same-put old new ids third n c bs front m ds g e lc len pa.1 pl.1,
    )

-- what grows twice
pub grows-more : (a b c : Made) (x y : List ℕ) → Grows a b x → Grows b c y → Grows a c (y ++ x)
grows-more a b c x y g h = record {
  items = λ n z e. h.items n z (g.items n z e);
  subs = λ n z e. h.subs n z (g.subs n z e);
  left = λ ids. ap (λ (ns : List ℕ). others ns (flattened (all_woven c.subs))) (append_assoc y x ids) ∙ h.left (x ++ ids) ∙ g.left ids;
}

-- ---- which values have a column still

tag-above : (d c : Column) (id kind : ℕ) → d.tag.id ≡ id → d.tag.kind ≡ kind → c.tag.id < id → c.tag.kind < 65536 → tag_number c < tag_number d
tag-above d c id kind a b lt k = omega (arith, a, b, lt, k)

pub column-parts : (id kind : ℕ) (c : Column) → is_column id kind c ≡ true → (c.tag.id ≡ id) × (c.tag.kind ≡ kind)
column-parts id kind c h = let p = and_parts (c.tag.id == id) (c.tag.kind == kind) h in (eqb-true c.tag.id id p.0, eqb-true c.tag.kind kind p.1)

abbrev pub Covered : List Column → List Val → ℕ → ℕ → Type 0
Covered columns cells i j = (k : ℕ) → k < j → (m : ℕ) × (m < i) × (is_column (get_or cells k no_value).id (get_or cells k no_value).kind (get_or columns m no_column) ≡ true)

-- the last value has the last column
pub covered-match : (columns : List Column) (cells : List Val) (i j : ℕ) → ascend_from 0 cells ≡ true → suc j ≤ length cells
    → is_column (get_or cells j no_value).id (get_or cells j no_value).kind (get_or columns i no_column) ≡ true → Covered columns cells (suc i) (suc j) → Covered columns cells i j
covered-match columns cells i j ids within here cov k lt =
    let q = cov k (omega (arith, lt)) in
    elim (cases_lt q.0 i) [
      | inl low ↦ (q.0, low, q.2)
      | inr high ↦
          let at : q.0 ≡ i = omega (arith, q.1, high) in
          let a = column-parts (get_or cells k no_value).id (get_or cells k no_value).kind (get_or columns i no_column)
          (ap (λ (m : ℕ). is_column (get_or cells k no_value).id (get_or cells k no_value).kind (get_or columns m no_column)) (sym at) ∙ q.2) in
          let b = column-parts (get_or cells j no_value).id (get_or cells j no_value).kind (get_or columns i no_column) here in
          let rise = ascend-rise (λ (v : Val). v.id) 0 cells k j no_value ids lt (omega (arith, within)) in
          absurd (omega (arith, a.0, b.0, rise))
    ]

-- the last value has another column
pub covered-skip : (columns : List Column) (cells : List Val) (i j : ℕ) → ascend_from 0 cells ≡ true → keys_ascend tag_number 0 columns ≡ true → i < length columns → (get_or columns i no_column).tag.kind < 65536 → j ≤ length cells
    → ((l : ℕ) → suc l ≡ j → is_column (get_or cells l no_value).id (get_or cells l no_value).kind (get_or columns i no_column) ≡ false) → Covered columns cells (suc i) j → Covered columns cells i j
covered-skip columns cells i j ids tags inside small within other cov k lt =
    let q = cov k lt in
    elim (cases_lt q.0 i) [
      | inl low ↦ (q.0, low, q.2)
      | inr high ↦
          let at : q.0 ≡ i = omega (arith, q.1, high) in
          let here : is_column (get_or cells k no_value).id (get_or cells k no_value).kind (get_or columns i no_column) ≡ true =
          ap (λ (m : ℕ). is_column (get_or cells k no_value).id (get_or cells k no_value).kind (get_or columns m no_column)) (sym at) ∙ q.2 in
          elim (cases_lt (suc k) j) [
            | inr last ↦ absurd (true≢false (sym here ∙ other k (omega (arith, lt, last))))
            | inl before ↦
                let l = j - 1 in
                let r = cov (j - 1) (omega (arith, before)) in
                let last_is : suc (j - 1) ≡ j = omega (arith, before) in
                let off : r.0 < i = elim (cases_lt r.0 i) [
                  | inl low ↦ low
                  | inr same ↦
                      let e : r.0 ≡ i = omega (arith, r.1, same) in
                      absurd (true≢false (sym (ap (λ (m : ℕ). is_column (get_or cells (j - 1) no_value).id (get_or cells (j - 1) no_value).kind (get_or columns m no_column)) (sym e) ∙ r.2) ∙ other (j - 1) last_is))
                ] in
                let a = column-parts (get_or cells k no_value).id (get_or cells k no_value).kind (get_or columns i no_column) here in
                let b = column-parts (get_or cells (j - 1) no_value).id (get_or cells (j - 1) no_value).kind (get_or columns r.0 no_column) r.2 in
                let rise : (get_or cells k no_value).id < (get_or cells (j - 1) no_value).id = ascend-rise (λ (v : Val). v.id) 0 cells k (j - 1) no_value ids (omega (arith, before)) (omega (arith, before, within)) in
                let less : tag_number (get_or columns r.0 no_column) < tag_number (get_or columns i no_column) = ascend-rise tag_number 0 columns r.0 i no_column tags off inside in
                let more : tag_number (get_or columns i no_column) < tag_number (get_or columns r.0 no_column) =
                tag-above (get_or columns r.0 no_column) (get_or columns i no_column) (get_or cells (j - 1) no_value).id (get_or cells (j - 1) no_value).kind b.0 b.1 (omega (arith, a.0, rise)) small in
                absurd (omega (arith, less, more))
          ]
    ]
