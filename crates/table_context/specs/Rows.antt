-- The rows of a table ([MS-PST] 2.3.4.4), as readings: get finds the items of its heap, and sub the data of the subnodes directly in its node.
use Rattle.std.specs.Prelude.{ℕ, ◌+◌, ◌-◌, ◌*◌, ◌/◌, ◌%◌, ◌^◌, ◌==◌, ◌&&◌, Bool, true, false, not, List, [], ◌∷◌, ◌++◌, length, take, drop, get_or, nat_le, slice_get, Option, None, Some, if◌then◌else◌}
use Rattle.std.specs.Option.{option_and_then}
use Rattle.std.specs.List.{flat_map, list_any}
use Rattle.byteorder.specs.Endian.{little_number}
use Rattle.pst_base.specs.Fields.{number_at}
use Rattle.mapi_values.specs.declared.column.Column.{Column}
use Rattle.mapi_values.specs.Columns.{has_column, in_cell}
use Rattle.mapi_values.specs.Properties.{ascend_from}
use Rattle.mapi_values.specs.Tags.{pid_tag_ltp_row_id}
use Rattle.mapi_values.specs.Values.{Val, fits}
use Rattle.node_values.specs.Named.{named}
use Rattle.node_values.specs.Subnodes.{without}
use Rattle.pst_base.specs.Flat.{Flat}

-- piece n of bytes that are cut into pieces of a size, if it is whole
unfoldable pub piece : ℕ → ℕ → List ℕ → Option (List ℕ)
piece size n b = if nat_le (n * size + size) (length b) then Some (take size (drop (n * size) b)) else None

-- row n of the matrix that an id names: in a heap item (there is none under the id 0), or else in a subnode, each block of which has as many rows as fit
unfoldable pub row_in : (ℕ → Option (List ℕ)) → (ℕ → Option (List (List ℕ))) → ℕ → ℕ → ℕ → Option (List ℕ)
row_in get sub size hnid n =
    if hnid % 32 == 0 then option_and_then (piece size n) (get hnid)
    else option_and_then (λ (blocks : List (List ℕ)). option_and_then (piece size (n % (8176 / size))) (slice_get blocks (n / (8176 / size)))) (sub hnid)

-- the ids of rows with their bytes, of records with a row's id and its number
abbrev pub raw_rows : (ℕ → Option (List ℕ)) → List (ℕ × List ℕ) → Option (List (ℕ × List ℕ))
raw_rows row [] = Some []
raw_rows row (r ∷ rs) =
    option_and_then (λ (x : List ℕ). option_and_then (λ (xs : List (ℕ × List ℕ)). Some ((r.0, x) ∷ xs)) (raw_rows row rs)) (row (little_number 4 r.1))

-- an existence bit is set, in a row whose existence bits begin at from
unfoldable pub is_set : ℕ → List ℕ → ℕ → Bool
is_set from row bit = get_or row (from + bit / 8) 0 / 2 ^ (7 - bit % 8) % 2 == 1

-- the row has a value in the column's cell; the row id is none
unfoldable pub has_cell : ℕ → List ℕ → Column → Bool
has_cell from row c = not (c.tag.id == pid_tag_ltp_row_id.id) && is_set from row c.bit

-- the bytes of the value in a cell at a place: those of the cell, where the kind has a width, or else those that it names
abbrev pub content : (ℕ → Option (List ℕ)) → (ℕ → Option (List (List ℕ))) → List ℕ → ℕ → Option ℕ → Option (List ℕ)
content get sub row at (Some width) = Some (take width (drop at row))
content get sub row at None = named get sub (number_at 4 at row)

-- the value of these bytes in a column, if its kind may have so many
unfoldable pub value_in : Column → List ℕ → Option Val
value_in c x = if fits c.tag.kind (length x) then Some (record { id = c.tag.id; kind = c.tag.kind; bytes = x }) else None

-- the value in a column's cell
unfoldable pub cell_of : (ℕ → Option (List ℕ)) → (ℕ → Option (List (List ℕ))) → List ℕ → Column → Option Val
cell_of get sub row c = option_and_then (value_in c) (content get sub row c.at (in_cell c.tag.kind))

-- the values in the cells of these columns
abbrev pub cells_of : (ℕ → Option (List ℕ)) → (ℕ → Option (List (List ℕ))) → ℕ → List ℕ → List Column → Option (List Val)
cells_of get sub from row [] = Some []
cells_of get sub from row (c ∷ cs) =
    if has_cell from row c
    then option_and_then (λ (v : Val). option_and_then (λ (vs : List Val). Some (v ∷ vs)) (cells_of get sub from row cs)) (cell_of get sub row c)
    else cells_of get sub from row cs

-- the row id, where it is a column, stands at the front of the row
unfoldable pub shows_id : List Column → ℕ → List ℕ → Bool
shows_id columns id row = if has_column columns pid_tag_ltp_row_id.id pid_tag_ltp_row_id.kind then number_at 4 0 row == id else true

-- the row of this id and these bytes; no two of its values have one id
unfoldable pub row_of : (ℕ → Option (List ℕ)) → (ℕ → Option (List (List ℕ))) → ℕ → List Column → ℕ → List ℕ → Option (ℕ × List Val)
row_of get sub from columns id row =
    if shows_id columns id row
    then option_and_then (λ (vs : List Val). if ascend_from 0 vs then Some (id, vs) else None) (cells_of get sub from row columns)
    else None

-- the rows of these ids and bytes
abbrev pub rows_of : (ℕ → Option (List ℕ)) → (ℕ → Option (List (List ℕ))) → ℕ → List Column → List (ℕ × List ℕ) → Option (List (ℕ × List Val))
rows_of get sub from columns [] = Some []
rows_of get sub from columns (r ∷ rs) =
    option_and_then (λ (row : ℕ × List Val). option_and_then (λ (rows : List (ℕ × List Val)). Some (row ∷ rows)) (rows_of get sub from columns rs)) (row_of get sub from columns r.0 r.1)

-- the subnode that an id names, if it names one
unfoldable pub subnode : ℕ → List ℕ
subnode hnid = if hnid % 32 == 0 then [] else hnid ∷ []

-- the subnode that a cell at a place names: none where the kind has a width
abbrev pub names : List ℕ → ℕ → Option ℕ → List ℕ
names row at (Some width) = []
names row at None = subnode (number_at 4 at row)

-- the subnode that a column's cell names, if it names one
unfoldable pub cell_names : ℕ → List ℕ → Column → List ℕ
cell_names from row c = if has_cell from row c then names row c.at (in_cell c.tag.kind) else []

-- the subnodes that the cells of a row name
abbrev pub row_names : ℕ → List Column → List ℕ → List ℕ
row_names from columns row = flat_map (cell_names from row) columns

-- the subnodes that the cells of rows name, and the one that holds the rows
unfoldable pub used : ℕ → List Column → List (ℕ × List ℕ) → ℕ → List ℕ
used from columns raws hnid = flat_map (λ (r : ℕ × List ℕ). row_names from columns r.1) raws ++ subnode hnid

-- the id is one of these
abbrev pub is_among : List ℕ → ℕ → Bool
is_among ids nid = list_any (λ id. id == nid) ids

-- the subnodes that have none of these ids, each with what stands below it
abbrev pub others : List ℕ → List Flat → List Flat
others ids subs = without (is_among ids) false subs
