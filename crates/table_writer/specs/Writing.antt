-- What the writer of a table leaves: its rows, their matrix, their index, and the header.
use Rattle.std.specs.Prelude.{ℕ, suc, ◌≡◌, ◌≤◌, ◌<◌, ◌+◌, ◌-◌, ◌*◌, ◌/◌, ◌%◌, ◌^◌, ◌++◌, List, [], ◌∷◌, length, get_or, slice_get, nat_lt, if◌then◌else◌, true, Option, Some}
use Rattle.std.specs.List.{flat_map}
use Rattle.std.specs.Option.{option_and_then}
use Rattle.heap_on_node.specs.Packing.{item_in, spread}
use Rattle.bth_tree.specs.Making.{Keeps, chunks}
use Rattle.bth_tree.specs.Tree.{bth}
use Rattle.byteorder.specs.Endian.{little_bytes}
use Rattle.mapi_values.specs.declared.column.Column.{Column}
use Rattle.mapi_values.specs.Tables.{Tab}
use Rattle.mapi_values.specs.Values.{Val}
use Rattle.write_limits.specs.Limits.{long_cells, rows_bytes}
use Rattle.table_writer.specs.declared.value.Made.{Made}
use Rattle.table_context.specs.Header.{columns_of, ends_in, index_in, matrix_in, names_index}
use Rattle.write_limits.specs.Space.{cells_blocks, values_bytes}
use Rattle.table_writer.specs.Making.{Grows, IsMade, get_of, load, sub_blocks, sub_of, weight}
use Rattle.table_context.specs.Rows.{piece, row_in, row_names, row_of, subnode}
use Rattle.table_writer.specs.Woven.{all_woven}

-- the bytes of each row read as that row
abbrev pub AreRows : (ℕ → Option (List ℕ)) → (ℕ → Option (List (List ℕ))) → ℕ → List Column → List (ℕ × List Val) → List (List ℕ) → Type 0
AreRows get sub third columns [] [] = Unit {0}
AreRows get sub third columns [] (b ∷ bs) = ⊥
AreRows get sub third columns (r ∷ rs) [] = ⊥
AreRows get sub third columns (r ∷ rs) (b ∷ bs) = (row_of get sub third columns r.0 b ≡ Some r) × AreRows get sub third columns rs bs

-- each has this size
abbrev pub HaveLength : ℕ → List (List ℕ) → Type 0
HaveLength size [] = Unit {0}
HaveLength size (b ∷ bs) = (length b ≡ size) × HaveLength size bs

-- the bytes in the cells of these rows that a bound counts
abbrev pub cells_short : List (ℕ × List Val) → ℕ
cells_short [] = 0
cells_short (r ∷ rs) = values_bytes r.1 + cells_short rs

-- rows were made, with all that their cells added
pub record FillsRows (old new : Made) (third size : ℕ) (columns : List Column) (rows : List (ℕ × List Val)) (bytes : List (List ℕ)) : Type 0 where
  pub made : IsMade new
  pub grows : Grows old new (flat_map (row_names third columns) bytes)
  pub read : AreRows (get_of new) (sub_of new) third columns rows bytes
  pub sizes : HaveLength size bytes
  pub weighs : weight new.maker ≤ weight old.maker + rows_bytes rows
  pub count : length (all_woven new.subs) ≤ length (all_woven old.subs) + long_cells rows
  pub loads : load new ≤ load old + 2 * cells_short rows
  pub blocks : sub_blocks new ≤ sub_blocks old + cells_blocks rows

-- what the matrix of so many rows counts for in a heap, if it stands there
abbrev pub matrix_load : ℕ → ℕ → ℕ
matrix_load count size = if nat_lt 3580 (count * size) then 0 else 2 * (count * size) + 4

-- its subnode, with the blocks in it, if it stands there
abbrev pub matrix_blocks : ℕ → ℕ → ℕ
matrix_blocks count size = if nat_lt 3580 (count * size) then (count - 1) / (8176 / size) + 2 else 0

-- the matrix of rows was put where an id names it
pub record PutsRows (old new : Made) (size : ℕ) (rows : List (List ℕ)) (hnid : ℕ) : Type 0 where
  pub made : IsMade new
  pub grows : Grows old new (subnode hnid)
  pub here : (n : ℕ) → n < length rows → row_in (get_of new) (sub_of new) size hnid n ≡ Some (get_or rows n [])
  pub weighs : weight new.maker ≤ weight old.maker + 3584
  pub loads : load new ≤ load old + matrix_load (length rows) size
  pub blocks : sub_blocks new ≤ sub_blocks old + matrix_blocks (length rows) size

-- row n stands in the blocks, each of which has so many rows
abbrev pub row_among : ℕ → ℕ → List (List ℕ) → ℕ → Option (List ℕ)
row_among size per blocks n = option_and_then (piece size (n % per)) (slice_get blocks (n / per))

-- the records of the row index, the rows numbered from n on
abbrev pub numbered : ℕ → List (ℕ × List Val) → List (ℕ × List ℕ)
numbered n [] = []
numbered n (r ∷ rs) = (r.0, little_bytes 4 n) ∷ numbered (suc n) rs

-- the ids of rows with their bytes
abbrev pub raws_of : List (ℕ × List Val) → List (List ℕ) → List (ℕ × List ℕ)
raws_of [] bs = []
raws_of (r ∷ rs) [] = []
raws_of (r ∷ rs) (b ∷ bs) = (r.0, b) ∷ raws_of rs bs

-- the fixed fields of a header
abbrev pub front_of : ℕ → List ℕ → ℕ → ℕ → List ℕ
front_of count ends index matrix =
    little_bytes 1 0x7C ++ (little_bytes 1 count ++ (little_bytes 2 (get_or ends 0 0) ++ (little_bytes 2 (get_or ends 1 0) ++ (little_bytes 2 (get_or ends 2 0) ++ (little_bytes 2 (get_or ends 3 0)
    ++ (little_bytes 4 index ++ (little_bytes 4 matrix ++ little_bytes 4 0)))))))

-- the description of a column
abbrev pub column_bytes : Column → List ℕ
column_bytes c = little_bytes 2 c.tag.kind ++ (little_bytes 2 c.tag.id ++ (little_bytes 2 c.at ++ (little_bytes 1 c.width ++ little_bytes 1 c.bit)))

-- there are four end offsets, and they fit their fields
pub record EndsFit (ends : List ℕ) : Type 0 where
  pub count : length ends ≡ 4
  pub first : get_or ends 0 0 < 256 ^ 2
  pub second : get_or ends 1 0 < 256 ^ 2
  pub third : get_or ends 2 0 < 256 ^ 2
  pub fourth : get_or ends 3 0 < 256 ^ 2

-- the numbers of a column fit their fields
pub record ColumnFits (c : Column) : Type 0 where
  pub kind : c.tag.kind < 256 ^ 2
  pub id : c.tag.id < 256 ^ 2
  pub at : c.at < 256 ^ 2
  pub width : c.width < 256 ^ 1
  pub bit : c.bit < 256 ^ 1

-- the numbers of each column fit
abbrev pub AllFit : List Column → Type 0
AllFit [] = Unit {0}
AllFit (c ∷ cs) = ColumnFits c × AllFit cs

-- the header of a table with these columns, end offsets, row index and matrix
pub record IsHeader (x : List ℕ) (columns : List Column) (ends : List ℕ) (index matrix : ℕ) : Type 0 where
  pub size : length x ≡ 22 + 8 * length columns
  pub columns_are : columns_of x ≡ Some columns
  pub ends_are : ends_in x ≡ ends
  pub index_is : index_in x ≡ index
  pub matrix_is : matrix_in x ≡ matrix
  pub start : names_index x ≡ true

-- what the row index and the header count for: 8 bytes for each row and each column, the levels of the index, and what begins the two
abbrev pub head_load : ℕ → ℕ → ℕ
head_load rows columns = 16 * rows + 48 * chunks 447 rows + 16 * columns + 60

-- the row index and the header were added, and all other items stay
pub record PutsHead (old new : List (List (List ℕ))) (t : Tab) (matrix root : ℕ) : Type 0 where
  pub index : ℕ
  pub head : List ℕ
  pub kept : Keeps (item_in old) (item_in new)
  pub tree : bth (item_in new) index 4 4 ≡ Some (numbered 0 t.rows)
  pub here : item_in new root ≡ Some head
  pub header : IsHeader head t.columns t.ends index matrix
  pub spent : spread new ≤ spread old + head_load (length t.rows) (length t.columns)
