-- Rows that are found still where more was added.
use Rattle.std.proofs.Common.{◌≡◌, ◌∙◌, ◌≤◌, ◌<◌, ◌==◌, ◌+◌, ◌++◌, ◌∷◌, [], ℕ, zero, suc, Bool, true, false, List, length, get_or, take, Option, Some, None, refl, sym, ap, subst, inl, inr, arith, if◌then◌else◌, ◌||◌}
use Rattle.std.specs.List.{flat_map}
use Rattle.std.specs.Option.{option_and_then}
use Rattle.std.proofs.lemmas.Bool.{cases_Bool}
use Rattle.std.proofs.lemmas.List.{flat_map_more}
use Rattle.bth_tree.specs.Making.{Keeps}
use Rattle.bth_tree.proofs.OptionLaws.{bind-some, none-some}
use Rattle.pst_base.specs.Fields.{number_at}
use Rattle.pst_base.specs.Subs.{flattened}
use Rattle.mapi_values.specs.declared.column.Column.{Column}
use Rattle.mapi_values.specs.Columns.{in_cell}
use Rattle.mapi_values.specs.Properties.{ascend_from}
use Rattle.mapi_values.specs.Values.{Val}
use Rattle.write_limits.specs.Limits.{cells_bytes, long_cells, long_values, rows_bytes}
use Rattle.table_writer.specs.declared.value.Made.{Made}
use Rattle.table_writer.specs.Filling.{Fills}
use Rattle.node_values.specs.Named.{KeepsData}
use Rattle.table_writer.specs.Making.{Grows, IsMade, get_of, sub_of}
use Rattle.node_values.proofs.NamedLaws.{named-kept}
use Rattle.node_values.proofs.SubLaws.{without-same}
use Rattle.table_context.specs.Rows.{cell_of, cells_of, content, has_cell, row_names, row_of, shows_id, value_in}
use Rattle.table_context.specs.Rows.{is_among}
use Rattle.table_writer.specs.Woven.{all_woven}
use Rattle.write_limits.specs.Space.{cells_blocks, values_blocks, values_bytes}
use Rattle.table_writer.specs.Writing.{AreRows, FillsRows, HaveLength, cells_short}
use Rattle.table_context.proofs.StepLaws.{first}
use Rattle.table_writer.proofs.FillLaws.{grows-more}
use Rattle.table_writer.proofs.ColumnFillLaws.{grows-none}

module _ (get get2 : ℕ → Option (List ℕ)) (sub sub2 : ℕ → Option (List (List ℕ))) (keeps : Keeps get get2) (holds : KeepsData sub sub2) where
  content-found : (row : List ℕ) (at : ℕ) (o : Option ℕ) (x : List ℕ) → content get sub row at o ≡ Some x → content get2 sub2 row at o ≡ Some x
  content-found row at None x h = named-kept get get2 sub sub2 keeps holds (number_at 4 at row) x h
  content-found row at (Some w) x h = h

  cell-found : (row : List ℕ) (c : Column) (v : Val) → cell_of get sub row c ≡ Some v → cell_of get2 sub2 row c ≡ Some v
  unfolding cell_of
  cell-found row c v h =
      let a = bind-some (value_in c) (content get sub row c.at (in_cell c.tag.kind)) v h in
      ap (option_and_then (value_in c)) (content-found row c.at (in_cell c.tag.kind) a.0 a.1) ∙ a.2

  pub cells-found : (third : ℕ) (row : List ℕ) (cs : List Column) (vs : List Val) → cells_of get sub third row cs ≡ Some vs → cells_of get2 sub2 third row cs ≡ Some vs
  cells-found third row [] vs h = h
  cells-found third row (c ∷ cs) vs h = elim (cases_Bool (has_cell third row c)) [
    | inl t ↦
        let a = bind-some (λ (v : Val). first v (cells_of get sub third row cs)) (cell_of get sub row c) vs (rw t at h) in
        let b = bind-some (λ (ws : List Val). Some (a.0 ∷ ws)) (cells_of get sub third row cs) vs a.2 in
        rw (t, cell-found row c a.0 a.1, cells-found third row cs b.0 b.1) b.2
    | inr f ↦ rw f (cells-found third row cs vs (rw f at h))
  ]

  pub row-found : (third : ℕ) (columns : List Column) (id : ℕ) (row : List ℕ) (r : ℕ × List Val) → row_of get sub third columns id row ≡ Some r → row_of get2 sub2 third columns id row ≡ Some r
  unfolding row_of
  row-found third columns id row r h = elim (cases_Bool (shows_id columns id row)) [
    | inl t ↦
        let a = bind-some (λ (vs : List Val). if ascend_from 0 vs then Some (id, vs) else None) (cells_of get sub third row columns) r (rw t at h) in
        rw (t, cells-found third row columns a.0 a.1) a.2
    | inr f ↦ let e : None ≡ Some r = rw f at h in absurd (none-some r e)
  ]

  pub rows-found : (third : ℕ) (columns : List Column) (rs : List (ℕ × List Val)) (bs : List (List ℕ)) → AreRows get sub third columns rs bs → AreRows get2 sub2 third columns rs bs
  rows-found third columns [] [] a = a
  rows-found third columns [] (b ∷ bs) a = a
  rows-found third columns (r ∷ rs) [] a = a
  rows-found third columns (r ∷ rs) (b ∷ bs) a = (row-found third columns r.0 b r a.0, rows-found third columns rs bs a.1)

pub row-made : (get : ℕ → Option (List ℕ)) (sub : ℕ → Option (List (List ℕ))) (third : ℕ) (columns : List Column) (id : ℕ) (row : List ℕ) (cells : List Val)
    → shows_id columns id row ≡ true → cells_of get sub third row columns ≡ Some cells → ascend_from 0 cells ≡ true → row_of get sub third columns id row ≡ Some (id, cells)
unfolding row_of
row-made get sub third columns id row cells s h a = rw (s, h, a) refl

are-push : (get : ℕ → Option (List ℕ)) (sub : ℕ → Option (List (List ℕ))) (third : ℕ) (columns : List Column) (rs : List (ℕ × List Val)) (bs : List (List ℕ)) (r : ℕ × List Val) (b : List ℕ)
    → AreRows get sub third columns rs bs → row_of get sub third columns r.0 b ≡ Some r → AreRows get sub third columns (rs ++ r ∷ []) (bs ++ b ∷ [])
are-push get sub third columns [] [] r b a h = (h, tt)
are-push get sub third columns [] (x ∷ xs) r b a h = absurd a
are-push get sub third columns (s ∷ rs) [] r b a h = absurd a
are-push get sub third columns (s ∷ rs) (x ∷ xs) r b a h = (a.0, are-push get sub third columns rs xs r b a.1 h)

have-push : (size : ℕ) (bs : List (List ℕ)) (b : List ℕ) → HaveLength size bs → length b ≡ size → HaveLength size (bs ++ b ∷ [])
have-push size [] b a h = (h, tt)
have-push size (x ∷ xs) b a h = (a.0, have-push size xs b a.1 h)

bytes-push : (rs : List (ℕ × List Val)) (r : ℕ × List Val) → rows_bytes (rs ++ r ∷ []) ≡ rows_bytes rs + cells_bytes r.1
bytes-push [] r = omega arith
bytes-push (s ∷ rs) r = omega (arith, bytes-push rs r)

long-push : (rs : List (ℕ × List Val)) (r : ℕ × List Val) → long_cells (rs ++ r ∷ []) ≡ long_cells rs + long_values r.1
long-push [] r = omega arith
long-push (s ∷ rs) r = omega (arith, long-push rs r)

short-push : (rs : List (ℕ × List Val)) (r : ℕ × List Val) → cells_short (rs ++ r ∷ []) ≡ cells_short rs + values_bytes r.1
short-push [] r = omega arith
short-push (s ∷ rs) r = omega (arith, short-push rs r)

blocks-push : (rs : List (ℕ × List Val)) (r : ℕ × List Val) → cells_blocks (rs ++ r ∷ []) ≡ cells_blocks rs + values_blocks r.1
blocks-push [] r = omega arith
blocks-push (s ∷ rs) r = omega (arith, blocks-push rs r)

-- a row's share, and that of those before it
pub bytes-left : (rs : List (ℕ × List Val)) (i : ℕ) (d : ℕ × List Val) → i < length rs → rows_bytes (take i rs) + cells_bytes (get_or rs i d).1 ≤ rows_bytes rs
bytes-left [] i d h = absurd (omega (arith, h))
bytes-left (r ∷ rs) zero d h = omega arith
bytes-left (r ∷ rs) (suc i) d h = omega (arith, bytes-left rs i d (omega (arith, h)))

pub long-left : (rs : List (ℕ × List Val)) (i : ℕ) (d : ℕ × List Val) → i < length rs → long_cells (take i rs) + long_values (get_or rs i d).1 ≤ long_cells rs
long-left [] i d h = absurd (omega (arith, h))
long-left (r ∷ rs) zero d h = omega arith
long-left (r ∷ rs) (suc i) d h = omega (arith, long-left rs i d (omega (arith, h)))

-- ---- the order of ids doesn't matter

among-append : (a b : List ℕ) (n : ℕ) → is_among (a ++ b) n ≡ (is_among a n || is_among b n)
among-append [] b n = refl
among-append (x ∷ a) b n = elim (cases_Bool (x == n)) [ inl t ↦ rw t refl | inr f ↦ rw f (among-append a b n) ]

or-swap : (a b : Bool) → (a || b) ≡ (b || a)
or-swap true true = refl
or-swap true false = refl
or-swap false true = refl
or-swap false false = refl

among-swap : (a b ids : List ℕ) (n : ℕ) → is_among ((b ++ a) ++ ids) n ≡ is_among ((a ++ b) ++ ids) n
among-swap a b ids n =
    among-append (b ++ a) ids n
    ∙ ap (λ (t : Bool). t || is_among ids n) (among-append b a n ∙ or-swap (is_among b n) (is_among a n) ∙ sym (among-append a b n))
    ∙ sym (among-append (a ++ b) ids n)

pub grows-swap : (old new : Made) (a b : List ℕ) → Grows old new (a ++ b) → Grows old new (b ++ a)
grows-swap old new a b g = record {
  items = g.items;
  subs = g.subs;
  left = λ ids. without-same (is_among ((b ++ a) ++ ids)) (is_among ((a ++ b) ++ ids)) false (flattened (all_woven new.subs)) (among-swap a b ids) ∙ g.left ids;
}

-- ---- one more row

pub rows-start : (made : Made) (third size : ℕ) (columns : List Column) → IsMade made → FillsRows made made third size columns [] []
rows-start made third size columns m = record {
  made = m;
  grows = grows-none made;
  read = tt;
  sizes = tt;
  weighs = omega arith;
  count = omega arith;
  loads = omega arith;
  blocks = omega arith;
}

pub rows-step : (old mid new : Made) (third size : ℕ) (columns : List Column) (rs : List (ℕ × List Val)) (bs : List (List ℕ)) (r : ℕ × List Val) (b : List ℕ) → FillsRows old mid third size columns rs bs → IsMade new
    → Fills mid new third columns r.0 r.1 b → ascend_from 0 r.1 ≡ true → length b ≡ size → FillsRows old new third size columns (rs ++ r ∷ []) (bs ++ b ∷ [])
rows-step old mid new third size columns rs bs r b f m g a len = record {
  made = m;
  grows = subst (λ (ids : List ℕ). Grows old new ids) (flat_map_more (row_names third columns) [] bs b)
      (grows-swap old new (row_names third columns b) (flat_map (row_names third columns) bs) (grows-more old mid new (flat_map (row_names third columns) bs) (row_names third columns b) f.grows g.grows));
  read = are-push (get_of new) (sub_of new) third columns rs bs r b (rows-found (get_of mid) (get_of new) (sub_of mid) (sub_of new) g.grows.items g.grows.subs third columns rs bs f.read)
      (row-made (get_of new) (sub_of new) third columns r.0 b r.1 g.shown g.read a);
  sizes = have-push size bs b f.sizes len;
  weighs = omega (arith, f.weighs, g.weighs, bytes-push rs r);
  count = omega (arith, f.count, g.count, long-push rs r);
  loads = omega (arith, f.loads, g.loads, short-push rs r);
  blocks = omega (arith, f.blocks, g.blocks, blocks-push rs r);
}
