-- A row that is filled column by column.
use Rattle.std.proofs.Common.{◌≡◌, ◌∙◌, ◌<◌, ◌&&◌, ◌+◌, ◌-◌, ◌*◌, ◌++◌, ℕ, Bool, true, false, List, length, get_or, Option, None, refl, sym, ap, subst, inl, inr, arith, replicate}
use Rattle.std.proofs.lemmas.Bool.{and_parts, cases_lt}
use Rattle.std.specs.List.{list_all}
use Rattle.std.proofs.lemmas.List.{length-replicate}
use Rattle.mapi_values.specs.declared.column.Column.{Column}
use Rattle.mapi_values.specs.Columns.{all_apart, ends_rise, is_layout, lies, tag_number}
use Rattle.mapi_values.specs.Keyed.{keys_ascend}
use Rattle.mapi_values.specs.Tables.{cells_suit}
use Rattle.mapi_values.specs.Values.{Val}
use Rattle.table_context.proofs.LayoutLaws.{all-at}
use Rattle.table_writer.specs.Bits.{bits}
use Rattle.table_writer.specs.Filling.{Suited, no_column}
use Rattle.table_writer.proofs.ColumnFillLaws.{apart-two, bit-apart}
use Rattle.table_writer.proofs.RowFillLaws.{layout-rises, no-mark, suited}
use Rattle.row_edit.specs.Cells.{Filled, FillsColumn, IsCell, Stands}
use Rattle.row_edit.specs.Edits.{Adds, EditsRow, NamesValue, NamesValues}
use Rattle.row_edit.proofs.RowLaws.{row-no_names, row-reads}

pub filled-step : (third n id : ℕ) (values : List Val) (columns : List Column) (ids : List ℕ) (i hnid : ℕ) (front there : List ℕ) (marks now_marks : List Bool) → Suited third n columns values → i < length columns → hnid ≡ get_or ids i 0
    → Filled third n id values columns ids i front marks → FillsColumn third n id hnid values (get_or columns i no_column) front there marks now_marks → Filled third n id values columns ids (i + 1) there now_marks
filled-step third n id values columns ids i hnid front there marks now_marks s lt e f c = record {
  front_size = c.front_size ∙ f.front_size;
  marks_size = c.marks_size ∙ f.marks_size;
  clear = λ k le h. c.clear (get_or columns k no_column).bit (λ z. bit-apart (get_or columns i no_column) (get_or columns k no_column) (apart-two columns i k no_column s.apart (omega (arith, le)) h) (sym z))
      ∙ f.clear k (omega (arith, le)) h;
  cells = λ k le. elim (cases_lt k i) [
    | inl low ↦ c.others (get_or columns k no_column) (get_or ids k 0) (apart-two columns k i no_column s.apart low lt) (all-at (lies third (third + n)) columns k no_column s.lie (omega (arith, low, lt))) (f.cells k low)
    | inr high ↦
        let at : i ≡ k = omega (arith, le, high) in
        let here : IsCell third id (get_or ids i 0) values (there ++ bits n 0 now_marks) (get_or columns i no_column) = subst (λ (h : ℕ). IsCell third id h values (there ++ bits n 0 now_marks) (get_or columns i no_column)) e c.here in
        subst (λ (j : ℕ). IsCell third id (get_or ids j 0) values (there ++ bits n 0 now_marks) (get_or columns j no_column)) at here
  ];
}

pub filled-none : (third n id : ℕ) (values : List Val) (columns : List Column) (ids front : List ℕ) (marks : List Bool) → front ≡ replicate third 0 → marks ≡ replicate (8 * n) false
    → Filled third n id values columns ids 0 front marks
filled-none third n id values columns ids front marks e f = record {
  front_size = ap length e ∙ length-replicate {A = ℕ} third 0;
  marks_size = ap length f ∙ length-replicate {A = Bool} (8 * n) false;
  clear = λ k le lt. ap (λ (ms : List Bool). get_or ms (get_or columns k no_column).bit false) f ∙ no-mark (8 * n) (get_or columns k no_column).bit;
  cells = λ k lt. absurd (omega (arith, lt));
}

-- where the columns of a layout lie
pub layout-lie : (columns : List Column) (ends : List ℕ) → is_layout columns ends ≡ true → list_all (lies (get_or ends 2 0) (get_or ends 3 0)) columns ≡ true
unfolding is_layout
layout-lie columns ends h =
    let a = and_parts (ends_rise ends) (keys_ascend tag_number 0 columns && (list_all (lies (get_or ends 2 0) (get_or ends 3 0)) columns && all_apart columns)) h in
    let b = and_parts (keys_ascend tag_number 0 columns) (list_all (lies (get_or ends 2 0) (get_or ends 3 0)) columns && all_apart columns) a.1 in
    (and_parts (list_all (lies (get_or ends 2 0) (get_or ends 3 0)) columns) (all_apart columns) b.1).0

-- the columns of a layout and the values that suit them
pub layout-suited : (columns : List Column) (ends : List ℕ) (values : List Val) → is_layout columns ends ≡ true → cells_suit columns values ≡ true → Suited (get_or ends 2 0) (get_or ends 3 0 - get_or ends 2 0) columns values
layout-suited columns ends values h s = suited columns ends values (get_or ends 2 0) (get_or ends 3 0 - get_or ends 2 0) h s refl (omega (arith, layout-rises columns ends h))

-- what was named and laid is the row
pub edits : (tells : (ℕ → Option (List ℕ)) → Type 0) (get : ℕ → Option (List ℕ)) (third n : ℕ) (columns : List Column) (id : ℕ) (row : List ℕ) (values : List Val) (ids new : List ℕ) → Suited third n columns values
    → Adds tells get (λ now. NamesValues get now third row values columns ids) → length ids ≡ length columns
    → ((k : ℕ) → k < length columns → IsCell third id (get_or ids k 0) values new (get_or columns k no_column)) → EditsRow tells get third columns id row values new
edits tells get third n columns id row values ids new s a e cells =
    let is : (k : ℕ) → k < length columns → NamesValue get a.keeping.get third row values (get_or columns k no_column) (get_or ids k 0) = λ k lt. a.is k (omega (arith, lt, e)) in
    record {
      keeping = a.keeping;
      reads = λ sub. row-reads a.keeping.get sub third n id values columns ids new s cells (λ k lt v h none. (is k lt v h none).here sub);
      names = row-no_names third id values new columns (λ k. get_or ids k 0) cells (λ k lt v h none. (is k lt v h none).kind);
      same = λ k lt v h none some b d f.
          let stands : Stands new (get_or columns k no_column).at None (get_or ids k 0) v.bytes = subst (λ (o : Option ℕ). Stands new (get_or columns k no_column).at o (get_or ids k 0) v.bytes) none ((cells k lt).here v h) in
          stands ∙ (is k lt v h none).same some b d f;
    }
