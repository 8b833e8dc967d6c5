-- A row that is filled from its last column to its first.
use Rattle.std.proofs.Common.{◌≡◌, ◌∙◌, ◌≤◌, ◌<◌, ◌&&◌, ◌+◌, ◌*◌, ◌++◌, ◌∷◌, [], ℕ, zero, suc, Bool, true, false, List, length, get_or, drop, Some, refl, sym, ap, subst, inl, inr, arith, replicate}
use Rattle.std.specs.Prelude.{nat_le}
use Rattle.std.specs.List.{list_all, list_any}
use Rattle.std.proofs.lemmas.Bool.{and_parts, cases_Bool, cases_lt, leb-true}
use Rattle.std.proofs.lemmas.List.{drop_all, get_or-replicate, get_or_past, length-replicate}
use Rattle.mapi_values.specs.declared.column.Column.{Column}
use Rattle.mapi_values.specs.Columns.{all_apart, ends_rise, has_column, is_column, is_layout, lies, tag_number}
use Rattle.mapi_values.specs.Keyed.{keys_ascend}
use Rattle.mapi_values.specs.Properties.{all_fit, ascend_from}
use Rattle.mapi_values.specs.Tables.{cells_suit, value_suits}
use Rattle.mapi_values.specs.Values.{Val}
use Rattle.write_limits.specs.Limits.{cells_bytes, long_values}
use Rattle.table_writer.specs.declared.value.Made.{Made}
use Rattle.table_writer.specs.Bits.{bits}
use Rattle.table_writer.specs.Filling.{Filled, Filling, Fills, Steps, Suited, no_column, no_value}
use Rattle.table_writer.specs.Making.{Grows, IsMade, get_of, sub_of}
use Rattle.table_context.specs.Rows.{cells_of, row_names, shows_id}
use Rattle.table_context.proofs.LayoutLaws.{all-at}
use Rattle.table_writer.proofs.FillLaws.{grows-more}

pub cells-rest : (cells : List Val) (j : ℕ) → cells_bytes (drop j cells) ≤ cells_bytes cells
cells-rest [] zero = omega arith
cells-rest [] (suc j) = omega arith
cells-rest (v ∷ vs) zero = omega arith
cells-rest (v ∷ vs) (suc j) = omega (arith, cells-rest vs j)

pub long-rest : (cells : List Val) (j : ℕ) → long_values (drop j cells) ≤ long_values cells
long-rest [] zero = omega arith
long-rest [] (suc j) = omega arith
long-rest (v ∷ vs) zero = omega arith
long-rest (v ∷ vs) (suc j) = omega (arith, long-rest vs j)

pub filling-step : (old mid new : Made) (third n : ℕ) (columns : List Column) (id : ℕ) (cells : List Val) (i j next : ℕ) (front there : List ℕ) (marks now_marks : List Bool)
    → Filling old mid third n columns id cells (i + 1) j front marks → IsMade new → Steps mid new third n columns id cells i j next front there marks now_marks
    → Filling old new third n columns id cells i next there now_marks
filling-step old mid new third n columns id cells i j next front there marks now_marks f m s = record {
  inside = omega (arith, f.inside);
  filled = s.filled;
  made = m;
  grows = subst (λ (ids : List ℕ). Grows old new ids) (sym s.names) (grows-more old mid new (row_names third (drop (i + 1) columns) (front ++ bits n 0 marks)) s.added f.grows s.grows);
  weighs = omega (arith, s.weighs, f.weighs);
  count = omega (arith, s.count, f.count);
  loads = omega (arith, s.loads, f.loads);
  blocks = omega (arith, s.blocks, f.blocks);
}

pub filling-done : (old new : Made) (third n : ℕ) (columns : List Column) (id : ℕ) (cells : List Val) (i j : ℕ) (front : List ℕ) (marks : List Bool)
    → Filling old new third n columns id cells i j front marks → i ≡ 0 → Fills old new third columns id cells (front ++ bits n 0 marks)
filling-done old new third n columns id cells i j front marks f e =
    let none : j ≡ 0 = elim (cases_lt 0 j) [
      | inl some ↦ let q = f.filled.covered 0 some in absurd (omega (arith, q.1, e))
      | inr past ↦ omega (arith, past)
    ] in
    let g : Filling old new third n columns id cells 0 0 front marks = subst (λ (k : ℕ). Filling old new third n columns id cells k 0 front marks) e (subst (λ (k : ℕ). Filling old new third n columns id cells i k front marks) none f) in
    record {
      grows = g.grows;
      read = g.filled.read;
      shown = g.filled.shown;
      weighs = g.weighs;
      count = g.count;
      loads = g.loads;
      blocks = g.blocks;
    }

-- ---- the beginning: an empty row

pub suit-parts : (columns : List Column) (cells : List Val) → cells_suit columns cells ≡ true → (ascend_from 0 cells ≡ true) × (all_fit cells ≡ true) × (list_all (value_suits columns) cells ≡ true)
unfolding cells_suit
suit-parts columns cells h =
    let a = and_parts (ascend_from 0 cells) (all_fit cells && list_all (value_suits columns) cells) h in
    let b = and_parts (all_fit cells) (list_all (value_suits columns) cells) a.1 in
    (a.0, b.0, b.1)

pub suit-ascends : (columns : List Column) (cells : List Val) → cells_suit columns cells ≡ true → ascend_from 0 cells ≡ true
suit-ascends columns cells h = (suit-parts columns cells h).0

pub layout-rises : (columns : List Column) (ends : List ℕ) → is_layout columns ends ≡ true → get_or ends 2 0 ≤ get_or ends 3 0
unfolding is_layout ends_rise
layout-rises columns ends h =
    let a = and_parts (nat_le (get_or ends 0 0) (get_or ends 1 0) && (nat_le (get_or ends 1 0) (get_or ends 2 0) && nat_le (get_or ends 2 0) (get_or ends 3 0)))
    (keys_ascend tag_number 0 columns && (list_all (lies (get_or ends 2 0) (get_or ends 3 0)) columns && all_apart columns)) h in
    let b = and_parts (nat_le (get_or ends 0 0) (get_or ends 1 0)) (nat_le (get_or ends 1 0) (get_or ends 2 0) && nat_le (get_or ends 2 0) (get_or ends 3 0)) a.0 in
    leb-true (get_or ends 2 0) (get_or ends 3 0) (and_parts (nat_le (get_or ends 1 0) (get_or ends 2 0)) (nat_le (get_or ends 2 0) (get_or ends 3 0)) b.1).1

pub suited : (columns : List Column) (ends : List ℕ) (cells : List Val) (third n : ℕ) → is_layout columns ends ≡ true → cells_suit columns cells ≡ true → third ≡ get_or ends 2 0 → third + n ≡ get_or ends 3 0
    → Suited third n columns cells
unfolding is_layout
suited columns ends cells third n h s e f =
    let a = and_parts (ends_rise ends) (keys_ascend tag_number 0 columns && (list_all (lies (get_or ends 2 0) (get_or ends 3 0)) columns && all_apart columns)) h in
    let b = and_parts (keys_ascend tag_number 0 columns) (list_all (lies (get_or ends 2 0) (get_or ends 3 0)) columns && all_apart columns) a.1 in
    let d = and_parts (list_all (lies (get_or ends 2 0) (get_or ends 3 0)) columns) (all_apart columns) b.1 in
    let p = suit-parts columns cells s in
    record {
      lie = ap (λ (k : ℕ). list_all (lies k (third + n)) columns) e ∙ ap (λ (k : ℕ). list_all (lies (get_or ends 2 0) k) columns) f ∙ d.0;
      apart = d.1;
      tags = b.0;
      ids = p.0;
      suit = p.2;
      fit = p.1;
    }

any-at : (p : Column → Bool) (cs : List Column) → list_any p cs ≡ true → (m : ℕ) × (m < length cs) × (p (get_or cs m no_column) ≡ true)
any-at p [] h = absurd cc
any-at p (c ∷ cs) h = elim (cases_Bool (p c)) [
  | inl t ↦ (0, omega arith, t)
  | inr f ↦ let q = any-at p cs (rw f at h) in (suc q.0, omega (arith, q.1), q.2)
]

value-column : (columns : List Column) (cells : List Val) (k : ℕ) → list_all (value_suits columns) cells ≡ true → k < length cells
    → (m : ℕ) × (m < length columns) × (is_column (get_or cells k no_value).id (get_or cells k no_value).kind (get_or columns m no_column) ≡ true)
unfolding value_suits
value-column columns cells k suit lt =
    let p = all-at (value_suits columns) cells k no_value suit lt in
    any-at (is_column (get_or cells k no_value).id (get_or cells k no_value).kind) columns (and_parts (has_column columns (get_or cells k no_value).id (get_or cells k no_value).kind) _ p).0

pub no-mark : (n k : ℕ) → get_or (replicate n false) k false ≡ false
no-mark n k = elim (cases_lt k n) [
  | inl low ↦ get_or-replicate n k false false low
  | inr high ↦ get_or_past (replicate n false) k false (omega (arith, high, length-replicate {A = Bool} n false))
]

none-shown : (id : ℕ) (row : List ℕ) → shows_id [] id row ≡ true
unfolding shows_id
none-shown id row = refl

pub filled-none : (made : Made) (third n : ℕ) (columns : List Column) (id : ℕ) (cells : List Val) (front : List ℕ) (marks : List Bool) → Suited third n columns cells
    → front ≡ replicate third 0 → marks ≡ replicate (8 * n) false → Filled made third n columns id cells (length columns) (length cells) front marks
filled-none made third n columns id cells front marks s e f = record {
  front_size = ap length e ∙ length-replicate {A = ℕ} third 0;
  marks_size = ap length f ∙ length-replicate {A = Bool} (8 * n) false;
  within = omega arith;
  covered = λ k lt. value-column columns cells k s.suit lt;
  clear = λ k lt. ap (λ (ms : List Bool). get_or ms (get_or columns k no_column).bit false) f ∙ no-mark (8 * n) (get_or columns k no_column).bit;
  read = ap (cells_of (get_of made) (sub_of made) third (front ++ bits n 0 marks)) (drop_all (length columns) columns (omega arith)) ∙ ap Some (sym (drop_all (length cells) cells (omega arith)));
  shown = ap (λ (cs : List Column). shows_id cs id (front ++ bits n 0 marks)) (drop_all (length columns) columns (omega arith)) ∙ none-shown id (front ++ bits n 0 marks);
}

pub length-bits : (n at : ℕ) (m : List Bool) → length (bits n at m) ≡ n
length-bits zero at m = refl
length-bits (suc n) at m = ap suc (length-bits n (at + 8) m)
