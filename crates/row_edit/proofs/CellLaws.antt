-- One more cell of a row is filled.
use Rattle.std.proofs.Common.{◌≡◌, ◌∙◌, ◌≤◌, ◌<◌, ◌==◌, ◌+◌, ◌*◌, ◌/◌, ◌^◌, ◌++◌, ℕ, Bool, true, false, not, List, length, get_or, set, take, drop, Option, Some, None, refl, sym, ap, subst, inl, inr, arith, length-append}
use Rattle.std.specs.Prelude.{is_some}
use Rattle.std.specs.List.{list_all}
use Rattle.std.specs.Option.{unwrap_or}
use Rattle.std.proofs.lemmas.Bool.{eq-eqb, true≢false}
use Rattle.std.proofs.lemmas.List.{get_or_append_left, get_or-set_other, get_or-set_same, length-set}
use Rattle.bth_tree.proofs.OptionLaws.{none-some, some-injective}
use Rattle.byteorder.specs.Endian.{little_bytes}
use Rattle.byteorder.specs.Numbers.{length-bytes_low_first}
use Rattle.pst_base.specs.Fields.{number_at, replaced}
use Rattle.pst_base.proofs.CellLaws.{length-replaced}
use Rattle.pst_base.proofs.Numbers.{number_at-same}
use Rattle.mapi_values.specs.declared.column.Column.{Column}
use Rattle.mapi_values.specs.Columns.{cell_width, in_cell, is_apart, is_column, lies}
use Rattle.mapi_values.specs.Tables.{value_suits}
use Rattle.mapi_values.specs.Values.{Val}
use Rattle.table_context.specs.Rows.{has_cell, is_set}
use Rattle.table_context.proofs.LayoutLaws.{lies-parts, width-none, width-some}
use Rattle.table_writer.specs.Bits.{bits}
use Rattle.table_writer.proofs.PutLaws.{content-same, marked, number-there, written-there}
use Rattle.table_writer.proofs.FillLaws.{apart-parts, byte-same, column-parts, has-same, width-is}
use Rattle.table_writer.proofs.StepFillLaws.{has-value, lacks-cell, lacks-id}
use Rattle.table_writer.proofs.ColumnFillLaws.{id-placed}
use Rattle.row_edit.specs.Cells.{FillsColumn, IsCell, PutsValue, Stands, pick}
use Rattle.row_edit.proofs.PickLaws.{pick-all, pick-column, pick-id, suits-parts}

-- the same bytes in a cell
pub stands-same : (a b : List ℕ) (at : ℕ) (o : Option ℕ) (hnid : ℕ) (x : List ℕ) → at + unwrap_or o 4 ≤ length a → at + unwrap_or o 4 ≤ length b
    → ((k : ℕ) → k < unwrap_or o 4 → get_or a (at + k) 0 ≡ get_or b (at + k) 0) → Stands a at o hnid x → Stands b at o hnid x
stands-same a b at None hnid x ra rb same h = sym (number_at-same 4 at at a b same) ∙ h
stands-same a b at (Some w) hnid x ra rb same h =
    let e : Some (take w (drop at a)) ≡ Some (take w (drop at b)) = content-same (λ n. None) (λ n. None) a b at (Some w) ra rb same in
    sym (some-injective (take w (drop at a)) (take w (drop at b)) e) ∙ h

-- a value of a width that stands in its cell
pub puts-fixed : (row there : List ℕ) (at w hnid : ℕ) (v : Val) → in_cell v.kind ≡ Some w → length v.bytes ≡ w → at + w ≤ length row → there ≡ replaced at v.bytes row → PutsValue at v hnid row there
puts-fixed row there at w hnid v e len room is = record {
  bytes = v.bytes;
  size = len ∙ sym (width-some v.kind w e);
  row_is = is;
  stands = subst (λ (o : Option ℕ). Stands there at o hnid v.bytes) (sym e)
      (ap (λ (n : ℕ). take n (drop at there)) (sym len) ∙ ap (λ (b : List ℕ). take (length v.bytes) (drop at b)) is ∙ written-there at v.bytes row (omega (arith, len, room)));
}

-- a value that its cell names
pub puts-named : (row there : List ℕ) (at hnid : ℕ) (v : Val) → in_cell v.kind ≡ None → at + 4 ≤ length row → hnid < 256 ^ 4 → there ≡ replaced at (little_bytes 4 hnid) row → PutsValue at v hnid row there
puts-named row there at hnid v e room fit is = record {
  bytes = little_bytes 4 hnid;
  size = length-bytes_low_first 0 4 hnid ∙ sym (width-none v.kind e);
  row_is = is;
  stands = subst (λ (o : Option ℕ). Stands there at o hnid v.bytes) (sym e) (ap (number_at 4 at) is ∙ number-there at hnid row room fit);
}

-- a write to one cell leaves the others
cell-other : (third n id k : ℕ) (values : List Val) (c d : Column) (bs front : List ℕ) (m : List Bool) → third ≡ length front → lies third (third + n) c ≡ true → length bs ≡ c.width
    → is_apart d c ≡ true → lies third (third + n) d ≡ true → IsCell third id k values (front ++ bits n 0 m) d → IsCell third id k values (replaced c.at bs front ++ bits n 0 (set m c.bit true)) d
cell-other third n id k values c d bs front m e lc len apart lie s =
    let ld = lies-parts third (third + n) d lie in
    let lcp = lies-parts third (third + n) c lc in
    let p = apart-parts d c apart in
    let row = front ++ bits n 0 m in
    let there = replaced c.at bs front ++ bits n 0 (set m c.bit true) in
    let within : c.at + length bs ≤ length front = omega (arith, lcp.cell, len, e) in
    let size : length (replaced c.at bs front) ≡ length front = length-replaced c.at bs front within in
    let width : d.width ≡ unwrap_or (in_cell d.tag.kind) 4 = ld.width ∙ width-is d.tag.kind in
    let bit_low : d.bit / 8 < n = omega (arith, ld.bit) in
    let bytes : (j : ℕ) → j < d.width → get_or row (d.at + j) 0 ≡ get_or there (d.at + j) 0 =
    λ j lt. byte-same c.at bs front m (set m c.bit true) n (d.at + j) within (omega (arith, ld.cell, lt, e)) (elim p.1 [
      | inl a ↦ inl (omega (arith, a, lt))
      | inr b ↦ inr (omega (arith, b, len))
    ]) in
    let bit_same : get_or (set m c.bit true) d.bit false ≡ get_or m d.bit false = get_or-set_other m c.bit d.bit true false (λ z. true≢false (sym (eq-eqb d.bit c.bit z) ∙ p.0)) in
    let marks : is_set third there d.bit ≡ is_set third row d.bit =
    marked (replaced c.at bs front) (set m c.bit true) n d.bit third (e ∙ sym size) bit_low ∙ bit_same ∙ sym (marked front m n d.bit third e bit_low) in
    let has_now : has_cell third there d ≡ has_cell third row d = has-same third row there d marks in
    let room_row : d.at + unwrap_or (in_cell d.tag.kind) 4 ≤ length (front ++ bits n 0 m) = omega (arith, ld.cell, width, e, length-append front (bits n 0 m)) in
    let room_there : d.at + unwrap_or (in_cell d.tag.kind) 4 ≤ length (replaced c.at bs front ++ bits n 0 (set m c.bit true)) =
    omega (arith, ld.cell, width, e, size, length-append (replaced c.at bs front) (bits n 0 (set m c.bit true))) in
    record {
      small = s.small;
      shown = λ t. let q = id-placed third (third + n) d lie t in
          sym (number_at-same 4 0 0 row there (λ j lt. let z : d.at + j ≡ 0 + j = omega (arith, q.0) in ap (λ (i : ℕ). get_or row i 0) (sym z) ∙ bytes j (omega (arith, q.1, lt)) ∙ ap (λ (i : ℕ). get_or there i 0) z)) ∙ s.shown t;
      has = has_now ∙ s.has;
      here = λ v h. stands-same row there d.at (in_cell d.tag.kind) k v.bytes room_row room_there (λ j lt. bytes j (omega (arith, width, lt))) (s.here v h);
    }

-- what is in front is in the row
front-stands : (third n : ℕ) (c : Column) (there : List ℕ) (m : List Bool) (hnid : ℕ) (x : List ℕ) → third ≡ length there → lies third (third + n) c ≡ true → Stands there c.at (in_cell c.tag.kind) hnid x
    → Stands (there ++ bits n 0 m) c.at (in_cell c.tag.kind) hnid x
front-stands third n c there m hnid x e lc h =
    let l = lies-parts third (third + n) c lc in
    let width : c.width ≡ unwrap_or (in_cell c.tag.kind) 4 = l.width ∙ width-is c.tag.kind in
    stands-same there (there ++ bits n 0 m) c.at (in_cell c.tag.kind) hnid x (omega (arith, l.cell, width, e)) (omega (arith, l.cell, width, e, length-append there (bits n 0 m)))
    (λ j lt. sym (get_or_append_left there (bits n 0 m) 0 (c.at + j) (omega (arith, l.cell, width, lt, e)))) h

-- a column that gets nothing
pub fills-none : (third n id hnid : ℕ) (values : List Val) (c : Column) (front : List ℕ) (m : List Bool) → third ≡ length front → lies third (third + n) c ≡ true → c.tag.kind < 65536
    → is_column 0x67F2 0x0003 c ≡ false → pick values c ≡ None → get_or m c.bit false ≡ false → FillsColumn third n id hnid values c front front m m
fills-none third n id hnid values c front m e lc small other none clear =
    let l = lies-parts third (third + n) c lc in
    let unset : is_set third (front ++ bits n 0 m) c.bit ≡ false = marked front m n c.bit third e (omega (arith, l.bit)) ∙ clear in
    record {
      here = record {
        small = small;
        shown = λ t. absurd (true≢false (sym t ∙ other));
        has = lacks-cell third (front ++ bits n 0 m) c unset ∙ sym (ap is_some none);
        here = λ v h. absurd (none-some v (sym none ∙ h));
      };
      others = λ d k a b h. h;
      clear = λ bit ne. refl;
      front_size = refl;
      marks_size = refl;
    }

-- the column of the row id
pub fills-id : (third n id hnid : ℕ) (columns : List Column) (values : List Val) (c : Column) (front there : List ℕ) (m : List Bool) → third ≡ length front → lies third (third + n) c ≡ true → c.tag.kind < 65536
    → list_all (value_suits columns) values ≡ true → is_column 0x67F2 0x0003 c ≡ true → id < 256 ^ 4 → there ≡ replaced c.at (little_bytes 4 id) front
    → FillsColumn third n id hnid values c front there m (set m c.bit true)
fills-id third n id hnid columns values c front there m e lc small suit t fit is =
    let l = lies-parts third (third + n) c lc in
    let p = id-placed third (third + n) c lc t in
    let parts = column-parts 0x67F2 0x0003 c t in
    let four : length (little_bytes 4 id) ≡ 4 = length-bytes_low_first 0 4 id in
    let within : c.at + length (little_bytes 4 id) ≤ length front = omega (arith, l.cell, four, p.1, e) in
    let size : length there ≡ length front = ap length is ∙ length-replaced c.at (little_bytes 4 id) front within in
    let row = there ++ bits n 0 (set m c.bit true) in
    let number : number_at 4 0 row ≡ id =
    number_at-same 4 0 0 row there (λ k lt. get_or_append_left there (bits n 0 (set m c.bit true)) 0 (0 + k) (omega (arith, lt, size, within, four)))
    ∙ ap (number_at 4 0) is ∙ ap (λ (a : ℕ). number_at 4 a (replaced c.at (little_bytes 4 id) front)) (sym p.0) ∙ number-there c.at id front (omega (arith, within, four)) fit in
    let none = pick-id columns values c suit parts.0 in
    record {
      here = record {
        small = small;
        shown = λ u. number;
        has = lacks-id third row c parts.0 ∙ sym (ap is_some none);
        here = λ v h. absurd (none-some v (sym none ∙ h));
      };
      others = λ d k a b h. subst (λ (ys : List ℕ). IsCell third id k values (ys ++ bits n 0 (set m c.bit true)) d) (sym is)
          (cell-other third n id k values c d (little_bytes 4 id) front m e lc (four ∙ sym p.1) a b h);
      clear = λ bit ne. get_or-set_other m c.bit bit true false ne;
      front_size = size;
      marks_size = length-set m c.bit true;
    }

-- a column whose value was put into its cell
pub fills-value : (third n id hnid : ℕ) (columns : List Column) (values : List Val) (c : Column) (v : Val) (front there : List ℕ) (m : List Bool) → third ≡ length front → lies third (third + n) c ≡ true → c.tag.kind < 65536
    → list_all (value_suits columns) values ≡ true → pick values c ≡ Some v → length m ≡ 8 * n → PutsValue c.at v hnid front there → FillsColumn third n id hnid values c front there m (set m c.bit true)
fills-value third n id hnid columns values c v front there m e lc small suit some full p =
    let l = lies-parts third (third + n) c lc in
    let parts = column-parts v.id v.kind c (pick-column values c v some) in
    let s = suits-parts columns v (pick-all (value_suits columns) values c v suit some) in
    let not_id : not (c.tag.id == 0x67F2) ≡ true = ap (λ (i : ℕ). not (i == 0x67F2)) parts.0 ∙ s.1 in
    let width : length p.bytes ≡ c.width = p.size ∙ ap cell_width (sym parts.1) ∙ sym l.width in
    let within : c.at + length p.bytes ≤ length front = omega (arith, l.cell, width, e) in
    let size : length there ≡ length front = ap length p.row_is ∙ length-replaced c.at p.bytes front within in
    let row = there ++ bits n 0 (set m c.bit true) in
    let low : c.bit / 8 < n = omega (arith, l.bit) in
    let set_now : is_set third row c.bit ≡ true = marked there (set m c.bit true) n c.bit third (e ∙ sym size) low ∙ get_or-set_same m c.bit true false (omega (arith, low, full)) in
    let there_is : Stands there c.at (in_cell c.tag.kind) hnid v.bytes = subst (λ (k : ℕ). Stands there c.at (in_cell k) hnid v.bytes) (sym parts.1) p.stands in
    record {
      here = record {
        small = small;
        shown = λ t. absurd (true≢false (sym not_id ∙ ap not (eq-eqb c.tag.id 0x67F2 (column-parts 0x67F2 0x0003 c t).0)));
        has = has-value third row c not_id set_now ∙ sym (ap is_some some);
        here = λ w h. let same : v ≡ w = some-injective v w (sym some ∙ h) in
            subst (λ (x : Val). Stands row c.at (in_cell c.tag.kind) hnid x.bytes) same (front-stands third n c there (set m c.bit true) hnid v.bytes (e ∙ sym size) lc there_is);
      };
      others = λ d k a b h. subst (λ (ys : List ℕ). IsCell third id k values (ys ++ bits n 0 (set m c.bit true)) d) (sym p.row_is)
          (cell-other third n id k values c d p.bytes front m e lc width a b h);
      clear = λ bit ne. get_or-set_other m c.bit bit true false ne;
      front_size = size;
      marks_size = length-set m c.bit true;
    }
