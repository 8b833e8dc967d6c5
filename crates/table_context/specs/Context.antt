-- The table context ([MS-PST] 2.3.4): which blocks and subnodes are which table, and what a reader answers.
use Rattle.std.specs.Prelude.{ℕ, ◌≡◌, true, List, Option, None, Some, Result, Ok, Err}
use Rattle.std.specs.Option.{option_and_then}
use Rattle.pst_base.specs.Flat.{Flat}
use Rattle.pst_base.specs.declared.stops.MemOr.{MemOr}
use Rattle.pst_base.specs.declared.stops.MemOr.TheVariants.{Memory, Refused}
use Rattle.heap_on_node.specs.Heap.{IsHeap, item}
use Rattle.bth_tree.specs.Tree.{bth}
use Rattle.mapi_values.specs.declared.column.Column.{Column}
use Rattle.mapi_values.specs.Tables.{Tab}
use Rattle.mapi_values.specs.Values.{Val}
use Rattle.pst_base.specs.Fields.{number_at}
use Rattle.table_context.specs.declared.fault.TcFault.{TcFault}
use Rattle.table_context.specs.declared.fault.TcFault.TheVariants.{Heap, Bth, Tc}
use Rattle.table_context.specs.Header.{columns_of, ends_in, index_in, matrix_in, names_index, size_in}
use Rattle.table_context.specs.Rows.{raw_rows, row_in, rows_of, used}
use Rattle.node_values.specs.Subnodes.{data_of}
use Rattle.table_context.specs.Rows.{others}

-- the table of a header with these columns, with the rows that records of the row index name
unfoldable pub table_of : (ℕ → Option (List ℕ)) → List Flat → List ℕ → List Column → List (ℕ × List ℕ) → Option Tab
table_of get subs x columns recs =
    option_and_then (λ (raws : List (ℕ × List ℕ)). option_and_then (λ (rows : List (ℕ × List Val)). Some (record {
      columns = columns;
      ends = ends_in x;
      rows = rows;
      kept = others (used (number_at 2 6 x) columns raws (matrix_in x)) subs;
    }))
    (rows_of get (data_of subs) (number_at 2 6 x) columns raws))
    (raw_rows (row_in get (data_of subs) (size_in x) (matrix_in x)) recs)

-- the same, if it is a header of a table
unfoldable pub table_in : (ℕ → Option (List ℕ)) → List Flat → List ℕ → List (ℕ × List ℕ) → Option Tab
table_in get subs x recs = option_and_then (λ (columns : List Column). table_of get subs x columns recs) (columns_of x)

-- the blocks and subnodes are this table: a heap, a row index in it, and rows that the two and the subnodes hold
pub record IsTableContext (blocks : List (List ℕ)) (subs : List Flat) (t : Tab) : Type 0 where
  pub root : ℕ
  pub heap : IsHeap blocks 0x7C root
  pub head : List ℕ
  pub header : item blocks root ≡ Some head
  pub start : names_index head ≡ true
  pub recs : List (ℕ × List ℕ)
  pub index : bth (item blocks) (index_in head) 4 4 ≡ Some recs
  pub table : table_in (item blocks) subs head recs ≡ Some t

-- the header of the table in a heap names a row index, which isn't one
pub record LacksIndex (blocks : List (List ℕ)) : Type 0 where
  pub root : ℕ
  pub heap : IsHeap blocks 0x7C root
  pub head : List ℕ
  pub header : item blocks root ≡ Some head
  pub start : names_index head ≡ true
  pub index : bth (item blocks) (index_in head) 4 4 ≡ None

-- the first that is wrong: no heap of tables, no row index where one is named, or anything else
abbrev pub Lacks : List (List ℕ) → List Flat → TcFault → Type 0
Lacks blocks subs Heap = (root : ℕ) → IsHeap blocks 0x7C root → ⊥
Lacks blocks subs Bth = LacksIndex blocks
Lacks blocks subs Tc = ((root : ℕ) × IsHeap blocks 0x7C root) × (LacksIndex blocks → ⊥) × ((t : Tab) → IsTableContext blocks subs t → ⊥)

-- what a reader answers, unless memory runs out: the table that the blocks and subnodes are, or what is wrong
abbrev pub ReadsTc : List (List ℕ) → List Flat → Result Tab (MemOr TcFault) → Type 0
ReadsTc blocks subs (Ok t) = IsTableContext blocks subs t
ReadsTc blocks subs (Err Memory) = Unit {0}
ReadsTc blocks subs (Err (Refused fault)) = Lacks blocks subs fault
