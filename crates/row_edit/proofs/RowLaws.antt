-- A row whose cells have what its values ask for reads as these values.
use Rattle.std.proofs.Common.{◌≡◌, ◌∙◌, ◌≤◌, ◌<◌, ◌+◌, ◌*◌, ◌%◌, ◌∷◌, [], ℕ, suc, true, false, List, length, get_or, Option, Some, None, refl, sym, ap, inl, inr, arith}
use Rattle.std.specs.Prelude.{is_some, nat_le}
use Rattle.std.specs.List.{list_all}
use Rattle.std.proofs.lemmas.Bool.{and_from, and_parts, cases_Bool, eq-eqb, leb-true, true≢false}
use Rattle.pst_base.specs.Fields.{number_at}
use Rattle.mapi_values.specs.declared.column.Column.{Column}
use Rattle.mapi_values.specs.Columns.{has_column, in_cell, is_column, tag_number}
use Rattle.mapi_values.specs.Keyed.{keys_ascend}
use Rattle.mapi_values.specs.Properties.{all_fit, ascend_from}
use Rattle.mapi_values.specs.Tables.{value_suits}
use Rattle.mapi_values.specs.Values.{Val, value_fits}
use Rattle.node_values.specs.Named.{named}
use Rattle.table_context.specs.Rows.{cell_names, cell_of, cells_of, content, has_cell, names, row_names, row_of, shows_id, subnode}
use Rattle.table_writer.specs.Filling.{Suited, no_column}
use Rattle.table_writer.proofs.FillLaws.{column-parts}
use Rattle.table_writer.proofs.FoundRowLaws.{row-made}
use Rattle.table_writer.proofs.StepFillLaws.{value-is}
use Rattle.row_edit.specs.Cells.{IsCell, Stands, pick}
use Rattle.row_edit.proofs.PickLaws.{option-cases, pick-above, pick-all, pick-column, suits-parts}

-- ---- the values of columns, one by one, are all values

module _ (get : ℕ → Option (List ℕ)) (sub : ℕ → Option (List (List ℕ))) (third : ℕ) (row : List ℕ) where
  -- the column reads as its value among these
  pub record Reads (vs : List Val) (c : Column) : Type 0 where
    pub small : c.tag.kind < 65536
    pub has : has_cell third row c ≡ is_some (pick vs c)
    pub cell : (v : Val) → pick vs c ≡ Some v → cell_of get sub row c ≡ Some v

  abbrev pub AllRead : List Val → List Column → Type 0
  AllRead vs [] = Unit {0}
  AllRead vs (c ∷ cs) = Reads vs c × AllRead vs cs

  -- a tag that columns have is among them
  tag-small : (vs : List Val) (cs : List Column) (id kind : ℕ) → AllRead vs cs → has_column cs id kind ≡ true → kind < 65536
  tag-small vs [] id kind a h = absurd (true≢false (sym h))
  tag-small vs (c ∷ cs) id kind a h = elim (cases_Bool (is_column id kind c)) [
    | inl t ↦ omega (arith, (column-parts id kind c t).1, a.0.small)
    | inr f ↦ tag-small vs cs id kind a.1 (rw f at h)
  ]

  tag-low : (low : ℕ) (cs : List Column) (id kind : ℕ) → keys_ascend tag_number low cs ≡ true → has_column cs id kind ≡ true → low ≤ id * 65536 + kind
  tag-low low [] id kind a h = absurd (true≢false (sym h))
  tag-low low (c ∷ cs) id kind a h =
      let p = and_parts (nat_le low (tag_number c)) (keys_ascend tag_number (suc (tag_number c)) cs) a in
      elim (cases_Bool (is_column id kind c)) [
        | inl t ↦ let q = column-parts id kind c t in omega (arith, leb-true low (tag_number c) p.0, q.0, q.1)
        | inr f ↦ omega (arith, leb-true low (tag_number c) p.0, tag-low (suc (tag_number c)) cs id kind p.1 (rw f at h))
      ]

  -- columns behind that of a value don't have it
  read-less : (w : Val) (vs : List Val) (low : ℕ) (cs : List Column) → keys_ascend tag_number low cs ≡ true → w.id * 65536 + w.kind < low → AllRead (w ∷ vs) cs → AllRead vs cs
  read-less w vs low [] a lt h = tt
  read-less w vs low (c ∷ cs) a lt h =
      let p = and_parts (nat_le low (tag_number c)) (keys_ascend tag_number (suc (tag_number c)) cs) a in
      let le : low ≤ tag_number c = leb-true low (tag_number c) p.0 in
      elim (cases_Bool (is_column w.id w.kind c)) [
        | inl t ↦ let q = column-parts w.id w.kind c t in absurd (omega (arith, le, lt, q.0, q.1))
        | inr f ↦
            let same : pick (w ∷ vs) c ≡ pick vs c = rw f refl in
            (record { small = h.0.small; has = h.0.has ∙ ap is_some same; cell = λ v e. h.0.cell v (same ∙ e) }, read-less w vs (suc (tag_number c)) cs p.1 (omega (arith, le, lt)) h.1)
      ]

  -- values behind that of a column have another
  column-less : (c : Column) (cs : List Column) (low : ℕ) (vs : List Val) → ascend_from low vs ≡ true → c.tag.id < low → list_all (λ (v : Val). has_column (c ∷ cs) v.id v.kind) vs ≡ true
      → list_all (λ (v : Val). has_column cs v.id v.kind) vs ≡ true
  column-less c cs low [] a lt h = refl
  column-less c cs low (v ∷ vs) a lt h =
      let p = and_parts (nat_le low v.id) (ascend_from (suc v.id) vs) a in
      let le : low ≤ v.id = leb-true low v.id p.0 in
      let q = and_parts (has_column (c ∷ cs) v.id v.kind) (list_all (λ (v : Val). has_column (c ∷ cs) v.id v.kind) vs) h in
      let here : has_column cs v.id v.kind ≡ true = elim (cases_Bool (is_column v.id v.kind c)) [
        | inl t ↦ absurd (omega (arith, le, lt, (column-parts v.id v.kind c t).0))
        | inr f ↦ rw f at q.0
      ] in
      and_from (has_column cs v.id v.kind) (list_all (λ (v : Val). has_column cs v.id v.kind) vs) here (column-less c cs (suc v.id) vs p.1 (omega (arith, le, lt)) q.1)

  cells-none : (c : Column) (cs : List Column) (vs : List Val) → has_cell third row c ≡ false → cells_of get sub third row cs ≡ Some vs → cells_of get sub third row (c ∷ cs) ≡ Some vs
  cells-none c cs vs f h = rw f h

  cells-one : (c : Column) (cs : List Column) (v : Val) (vs : List Val) → has_cell third row c ≡ true → cell_of get sub row c ≡ Some v → cells_of get sub third row cs ≡ Some vs
      → cells_of get sub third row (c ∷ cs) ≡ Some (v ∷ vs)
  cells-one c cs v vs t e h = rw (t, e, h) refl

  pub cells-all : (tags ids : ℕ) (cs : List Column) (vs : List Val) → keys_ascend tag_number tags cs ≡ true → ascend_from ids vs ≡ true → list_all (λ (v : Val). has_column cs v.id v.kind) vs ≡ true
      → AllRead vs cs → cells_of get sub third row cs ≡ Some vs
  cells-all tags ids [] [] a b h r = refl
  cells-all tags ids [] (v ∷ vs) a b h r = absurd (true≢false (sym h))
  cells-all tags ids (c ∷ cs) [] a b h r =
      let p = and_parts (nat_le tags (tag_number c)) (keys_ascend tag_number (suc (tag_number c)) cs) a in
      cells-none c cs [] r.0.has (cells-all (suc (tag_number c)) ids cs [] p.1 b refl r.1)
  cells-all tags ids (c ∷ cs) (w ∷ vs) a b h r =
      let p = and_parts (nat_le tags (tag_number c)) (keys_ascend tag_number (suc (tag_number c)) cs) a in
      let q = and_parts (nat_le ids w.id) (ascend_from (suc w.id) vs) b in
      let s = and_parts (has_column (c ∷ cs) w.id w.kind) (list_all (λ (v : Val). has_column (c ∷ cs) v.id v.kind) vs) h in
      elim (cases_Bool (is_column w.id w.kind c)) [
        | inl t ↦
            let k = column-parts w.id w.kind c t in
            let some : pick (w ∷ vs) c ≡ Some w = rw t refl in
            cells-one c cs w vs (r.0.has ∙ ap is_some some) (r.0.cell w some)
            (cells-all (suc (tag_number c)) (suc w.id) cs vs p.1 q.1 (column-less c cs (suc w.id) vs q.1 (omega (arith, k.0)) s.1) (read-less w vs (suc (tag_number c)) cs p.1 (omega (arith, k.0, k.1)) r.1))
        | inr f ↦
            let behind : has_column cs w.id w.kind ≡ true = rw f at s.0 in
            let low : suc (tag_number c) ≤ w.id * 65536 + w.kind = tag-low (suc (tag_number c)) cs w.id w.kind p.1 behind in
            let small : w.kind < 65536 = tag-small (w ∷ vs) cs w.id w.kind r.1 behind in
            let less : c.tag.id < suc w.id = omega (arith, low, small) in
            let none : pick (w ∷ vs) c ≡ None = rw f (pick-above vs (suc w.id) c q.1 less) in
            cells-none c cs (w ∷ vs) (r.0.has ∙ ap is_some none) (cells-all (suc (tag_number c)) ids cs (w ∷ vs) p.1 b
            (and_from (has_column cs w.id w.kind) (list_all (λ (v : Val). has_column cs v.id v.kind) vs) behind (column-less c cs (suc w.id) vs q.1 less s.1)) r.1)
      ]

-- ---- a row all of whose cells are filled

-- the id of the column's place names the value in its cell
abbrev pub NamesIts : (ℕ → Option (List ℕ)) → (ℕ → Option (List (List ℕ))) → List Val → Column → ℕ → Type 0
NamesIts get sub values c hnid = (v : Val) → pick values c ≡ Some v → in_cell c.tag.kind ≡ None → named get sub hnid ≡ Some v.bytes

stands-content : (get : ℕ → Option (List ℕ)) (sub : ℕ → Option (List (List ℕ))) (row : List ℕ) (at : ℕ) (o : Option ℕ) (hnid : ℕ) (x : List ℕ) → Stands row at o hnid x → (o ≡ None → named get sub hnid ≡ Some x)
    → content get sub row at o ≡ Some x
stands-content get sub row at None hnid x h n = ap (named get sub) h ∙ n refl
stands-content get sub row at (Some w) hnid x h n = ap Some h

cell-reads : (get : ℕ → Option (List ℕ)) (sub : ℕ → Option (List (List ℕ))) (third id hnid : ℕ) (values : List Val) (row : List ℕ) (c : Column) (v : Val) → all_fit values ≡ true
    → IsCell third id hnid values row c → NamesIts get sub values c hnid → pick values c ≡ Some v → cell_of get sub row c ≡ Some v
unfolding cell_of
cell-reads get sub third id hnid values row c v fit s n h =
    let parts = column-parts v.id v.kind c (pick-column values c v h) in
    let here = stands-content get sub row c.at (in_cell c.tag.kind) hnid v.bytes (s.here v h) (n v h) in
    rw here (value-is c v (sym parts.0) (sym parts.1) (pick-all value_fits values c v fit h))

all-read : (get : ℕ → Option (List ℕ)) (sub : ℕ → Option (List (List ℕ))) (third id : ℕ) (values : List Val) (row : List ℕ) (cs : List Column) (ids : ℕ → ℕ) → all_fit values ≡ true
    → ((k : ℕ) → k < length cs → IsCell third id (ids k) values row (get_or cs k no_column)) → ((k : ℕ) → k < length cs → NamesIts get sub values (get_or cs k no_column) (ids k))
    → AllRead get sub third row values cs
all-read get sub third id values row [] ids fit s n = tt
all-read get sub third id values row (c ∷ cs) ids fit s n =
    let first = s 0 (omega arith) in (
      record { small = first.small; has = first.has; cell = λ v h. cell-reads get sub third id (ids 0) values row c v fit first (n 0 (omega arith)) h },
      all-read get sub third id values row cs (λ k. ids (suc k)) fit (λ k lt. s (suc k) (omega (arith, lt))) (λ k lt. n (suc k) (omega (arith, lt))),
    )

all-shown : (third id : ℕ) (values : List Val) (row : List ℕ) (cs : List Column) (ids : ℕ → ℕ) → ((k : ℕ) → k < length cs → IsCell third id (ids k) values row (get_or cs k no_column))
    → has_column cs 0x67F2 0x0003 ≡ true → number_at 4 0 row ≡ id
all-shown third id values row [] ids s h = absurd (true≢false (sym h))
all-shown third id values row (c ∷ cs) ids s h = elim (cases_Bool (is_column 0x67F2 0x0003 c)) [
  | inl t ↦ (s 0 (omega arith)).shown t
  | inr f ↦ all-shown third id values row cs (λ k. ids (suc k)) (λ k lt. s (suc k) (omega (arith, lt))) (rw f at h)
]

shows-all : (columns : List Column) (id : ℕ) (row : List ℕ) → (has_column columns 0x67F2 0x0003 ≡ true → number_at 4 0 row ≡ id) → shows_id columns id row ≡ true
unfolding shows_id
shows-all columns id row s = elim (cases_Bool (has_column columns 0x67F2 0x0003)) [
  | inl t ↦ rw t (eq-eqb (number_at 4 0 row) id (s t))
  | inr f ↦ rw f refl
]

all-have : (columns : List Column) (vs : List Val) → list_all (value_suits columns) vs ≡ true → list_all (λ (v : Val). has_column columns v.id v.kind) vs ≡ true
all-have columns [] h = refl
all-have columns (v ∷ vs) h =
    let p = and_parts (value_suits columns v) (list_all (value_suits columns) vs) h in
    and_from (has_column columns v.id v.kind) (list_all (λ (v : Val). has_column columns v.id v.kind) vs) (suits-parts columns v p.0).0 (all-have columns vs p.1)

pub row-reads : (get : ℕ → Option (List ℕ)) (sub : ℕ → Option (List (List ℕ))) (third n id : ℕ) (values : List Val) (columns : List Column) (ids : List ℕ) (row : List ℕ) → Suited third n columns values
    → ((k : ℕ) → k < length columns → IsCell third id (get_or ids k 0) values row (get_or columns k no_column))
    → ((k : ℕ) → k < length columns → NamesIts get sub values (get_or columns k no_column) (get_or ids k 0)) → row_of get sub third columns id row ≡ Some (id, values)
row-reads get sub third n id values columns ids row u s h =
    row-made get sub third columns id row values (shows-all columns id row (all-shown third id values row columns (λ k. get_or ids k 0) s))
    (cells-all get sub third row 0 0 columns values u.tags u.ids (all-have columns values u.suit) (all-read get sub third id values row columns (λ k. get_or ids k 0) u.fit s h)) u.ids

-- ---- the new row names no subnode

stands-no_names : (row : List ℕ) (at : ℕ) (o : Option ℕ) (hnid : ℕ) (x : List ℕ) → Stands row at o hnid x → (o ≡ None → hnid % 32 ≡ 0) → names row at o ≡ []
unfolding subnode
stands-no_names row at None hnid x h z =
    let zero_kind : number_at 4 at row % 32 ≡ 0 = ap (λ (n : ℕ). n % 32) h ∙ z refl in
    rw (eq-eqb (number_at 4 at row % 32) 0 zero_kind) refl
stands-no_names row at (Some w) hnid x h z = refl

cell-no_names : (third id hnid : ℕ) (values : List Val) (row : List ℕ) (c : Column) → IsCell third id hnid values row c → ((v : Val) → pick values c ≡ Some v → in_cell c.tag.kind ≡ None → hnid % 32 ≡ 0) → cell_names third row c ≡ []
unfolding cell_names
cell-no_names third id hnid values row c s z = elim (cases_Bool (has_cell third row c)) [
  | inl t ↦ elim (option-cases (pick values c)) [
    | inl some ↦ rw t (stands-no_names row c.at (in_cell c.tag.kind) hnid some.0.bytes (s.here some.0 some.1) (z some.0 some.1))
    | inr none ↦ absurd (true≢false (sym t ∙ s.has ∙ ap is_some none))
  ]
  | inr f ↦ rw f refl
]

pub row-no_names : (third id : ℕ) (values : List Val) (row : List ℕ) (cs : List Column) (ids : ℕ → ℕ) → ((k : ℕ) → k < length cs → IsCell third id (ids k) values row (get_or cs k no_column))
    → ((k : ℕ) → k < length cs → (v : Val) → pick values (get_or cs k no_column) ≡ Some v → in_cell (get_or cs k no_column).tag.kind ≡ None → ids k % 32 ≡ 0) → row_names third cs row ≡ []
row-no_names third id values row [] ids s z = refl
row-no_names third id values row (c ∷ cs) ids s z =
    rw (cell-no_names third id (ids 0) values row c (s 0 (omega arith)) (z 0 (omega arith))) (row-no_names third id values row cs (λ k. ids (suc k)) (λ k lt. s (suc k) (omega (arith, lt))) (λ k lt. z (suc k) (omega (arith, lt))))
