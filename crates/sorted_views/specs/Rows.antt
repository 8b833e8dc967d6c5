-- Rows in the order of their keys.
use Rattle.std.specs.Prelude.{◌≡◌, ◌&&◌, ℕ, Bool, List, [], ◌∷◌, reverse, Option, None, Some}
use Rattle.std.specs.Option.{option_and_then}
use Rattle.std.specs.Ordering.{nat_cmp, ordering_then}
use Rattle.std.specs.declared.cmp.Ordering.{Ordering}
use Rattle.std.specs.declared.cmp.Ordering.TheVariants.{Less, Equal, Greater}
use Rattle.std.specs.Cmp.Lexicographic.{slice_cmp}
use Rattle.std.specs.List.Sorted.{IsPermutation, IsSorted}
use Rattle.mapi_values.specs.Columns.{has_column}
use Rattle.mapi_values.specs.Tables.{Tab, find_row}
use Rattle.mapi_values.specs.Values.{Val}
use Rattle.mapi_values.specs.declared.value.Tag.{Tag}
use Rattle.restr_eval.specs.Eval.{good_of}
use Rattle.sorted_views.specs.Keys.{IsKey, has_keys}
use Rattle.sorted_views.specs.declared.key.Key.{Key}
use Rattle.sorted_views.specs.declared.rows.Direction.{Direction}
use Rattle.sorted_views.specs.declared.rows.Direction.TheVariants.{Up, Down}
use Rattle.sorted_views.specs.declared.rows.ViewRow.{ViewRow}

-- the cell of a column in the row of an id, if there is one and its length fits its kind
abbrev pub cell_of : Tab → Tag → ℕ → Option Val
cell_of t tag id = option_and_then (λ r. good_of tag.id tag.kind r.1) (find_row id t.rows)

-- rows can be sorted by this column: the table has it, and its kind has keys
abbrev pub sorts_by : Tab → Tag → Bool
sorts_by t tag = has_column t.columns tag.id tag.kind && has_keys tag.kind

-- how keys are ordered: numbers by their size, units by the first that differs; where there is no key, below all others
abbrev pub key_cmp : Option Key → Option Key → Ordering
key_cmp None None = Equal
key_cmp None (Some b) = Less
key_cmp (Some a) None = Greater
key_cmp (Some a) (Some b) = ordering_then (nat_cmp a.number b.number) (slice_cmp nat_cmp a.units.items b.units.items)

-- how rows are: by their keys, and then by their ids
abbrev pub row_cmp : ViewRow → ViewRow → Ordering
row_cmp a b = ordering_then (key_cmp a.key b.key) (nat_cmp a.id b.id)

-- these rows have these ids and the keys of their cells
abbrev pub AreKeyed : (ℕ → Option Val) → List ℕ → List ViewRow → Type 0
AreKeyed cells [] [] = Unit {0}
AreKeyed cells (id ∷ ids) (row ∷ rows) = (row.id ≡ id) × IsKey (cells id) row.key × AreKeyed cells ids rows
AreKeyed cells [] (row ∷ rows) = ⊥
AreKeyed cells (id ∷ ids) [] = ⊥

-- up, or the other way round
abbrev pub directed : {A : Type 0} → Direction → List A → List A
directed Up rows = rows
directed Down rows = reverse rows

-- the rows of these ids, sorted
pub record IsSortedView (cells : ℕ → Option Val) (direction : Direction) (ids : List ℕ) (rows : List ViewRow) : Type 0 where
  pub keyed : List ViewRow
  pub keys : AreKeyed cells ids keyed
  pub sorted : List ViewRow
  pub permutation : IsPermutation keyed sorted
  pub ascend : IsSorted row_cmp sorted
  pub is : rows ≡ directed direction sorted
