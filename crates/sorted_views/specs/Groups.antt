-- Rows in groups: the runs of equal keys.
use Rattle.std.specs.Prelude.{ℕ, suc, Bool, List, [], ◌∷◌, if◌then◌else◌}
use Rattle.std.specs.Ordering.{is_eq}
use Rattle.sorted_views.specs.Rows.{key_cmp}
use Rattle.sorted_views.specs.declared.rows.ViewRow.{ViewRow}

-- two rows have equal keys
abbrev pub same_key : ViewRow → ViewRow → Bool
same_key a b = is_eq (key_cmp a.key b.key)

-- a row before groups: in the first one, where its key is that of this group's first row, or in one of its own
abbrev pub joined : ViewRow → List (ViewRow × ℕ) → List (ViewRow × ℕ)
joined row [] = (row, 1) ∷ []
joined row (g ∷ gs) = if same_key row g.0 then (row, suc g.1) ∷ gs else (row, 1) ∷ g ∷ gs

-- the groups of rows, each its first row and how many there are
abbrev pub groups : List ViewRow → List (ViewRow × ℕ)
groups [] = []
groups (row ∷ rows) = joined row (groups rows)

-- how many of the first rows have the key of another row
abbrev pub same_front : ViewRow → List ViewRow → ℕ
same_front row [] = 0
same_front row (other ∷ rows) = if same_key row other then suc (same_front row rows) else 0
