-- What an edit of a row leaves.
use Rattle.std.specs.Prelude.{ℕ, ◌≡◌, ◌≢◌, ◌<◌, ◌%◌, ◌⊎◌, false, List, [], length, get_or, Option, None, Some}
use Rattle.std.specs.List.{list_all}
use Rattle.bth_tree.specs.Making.{Keeps}
use Rattle.pst_base.specs.Fields.{number_at}
use Rattle.mapi_values.specs.declared.column.Column.{Column}
use Rattle.mapi_values.specs.Columns.{in_cell}
use Rattle.mapi_values.specs.Values.{Val}
use Rattle.node_values.specs.Named.{named}
use Rattle.table_context.specs.Rows.{row_names, row_of}
use Rattle.table_writer.specs.Filling.{no_column}
use Rattle.row_edit.specs.Cells.{held, is_short, pick}
use Rattle.row_edit.specs.declared.stop.RowStop.{RowStop}
use Rattle.row_edit.specs.declared.stop.RowStop.TheVariants.{Heap, Memory, NeedsSubnode}

-- the heap tells a reading by which all that was found is found still
pub record Keeping (tells : (ℕ → Option (List ℕ)) → Type 0) (old : ℕ → Option (List ℕ)) : Type 0 where
  pub get : ℕ → Option (List ℕ)
  pub told : tells get
  pub kept : Keeps old get

-- an id of an item names bytes: the one that did so where there was one, which was held, or else 0 or that of an item that was added
pub record NamesBytes (old get : ℕ → Option (List ℕ)) (held : ℕ) (bytes : List ℕ) (hnid : ℕ) : Type 0 where
  pub here : (sub : ℕ → Option (List (List ℕ))) → named get sub hnid ≡ Some bytes
  pub kind : hnid % 32 ≡ 0
  pub same : 0 < length bytes → held ≢ 0 → held % 32 ≡ 0 → old held ≡ Some bytes → hnid ≡ held

-- the same of the value in a column's cell, where it has an id
abbrev pub NamesValue : (ℕ → Option (List ℕ)) → (ℕ → Option (List ℕ)) → ℕ → List ℕ → List Val → Column → ℕ → Type 0
NamesValue old get third row values c hnid = (v : Val) → pick values c ≡ Some v → in_cell c.tag.kind ≡ None → NamesBytes old get (held third row c) v.bytes hnid

-- an id was added to a heap, or found there, for one thing
pub record Adds (tells : (ℕ → Option (List ℕ)) → Type 0) (old : ℕ → Option (List ℕ)) (P : (ℕ → Option (List ℕ)) → Type 0) : Type 0 where
  pub keeping : Keeping tells old
  pub is : P keeping.get

-- each of the first columns has its id
abbrev pub NamesValues : (ℕ → Option (List ℕ)) → (ℕ → Option (List ℕ)) → ℕ → List ℕ → List Val → List Column → List ℕ → Type 0
NamesValues old get third row values columns ids = (k : ℕ) → k < length ids → NamesValue old get third row values (get_or columns k no_column) (get_or ids k 0)

-- a value that stands in the heap keeps its id
abbrev pub KeepsId : (ℕ → Option (List ℕ)) → ℕ → List ℕ → List Val → List ℕ → Column → Type 0
KeepsId old third row values new c =
    (v : Val) → pick values c ≡ Some v → in_cell c.tag.kind ≡ None → 0 < length v.bytes → held third row c ≢ 0 → held third row c % 32 ≡ 0 → old (held third row c) ≡ Some v.bytes
    → number_at 4 c.at new ≡ held third row c

-- the new bytes read as the row of this id and these values, whatever the subnodes are, and name none; all that was found is found still; a value that stood in the heap keeps its id
pub record EditsRow (tells : (ℕ → Option (List ℕ)) → Type 0) (old : ℕ → Option (List ℕ)) (third : ℕ) (columns : List Column) (id : ℕ) (row : List ℕ) (values : List Val) (new : List ℕ) : Type 0 where
  pub keeping : Keeping tells old
  pub reads : (sub : ℕ → Option (List (List ℕ))) → row_of keeping.get sub third columns id new ≡ Some (id, values)
  pub names : row_names third columns new ≡ []
  pub same : (k : ℕ) → k < length columns → KeepsId old third row values new (get_or columns k no_column)

-- why a row isn't edited: a stop of the heap, want of memory, or a value that is too long for a heap or stood in a subnode
abbrev pub Stops : {S : Type 0} → ℕ → List Column → List ℕ → List Val → RowStop S → Type 0
Stops third columns row values (Heap stop) = Unit {0}
Stops third columns row values Memory = Unit {0}
Stops third columns row values NeedsSubnode = (list_all is_short values ≡ false) ⊎ (row_names third columns row ≢ [])

-- the stop isn't that a subnode is needed
abbrev pub NotSubnode : {S : Type 0} → RowStop S → Type 0
NotSubnode (Heap stop) = Unit {0}
NotSubnode Memory = Unit {0}
NotSubnode NeedsSubnode = ⊥
