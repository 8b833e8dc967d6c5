-- What the parts of the writer leave: of a heap in the making, and of the subnodes.
use Rattle.std.specs.Prelude.{ℕ, ◌≡◌, ◌≢◌, ◌≤◌, ◌+◌, ◌*◌, ◌/◌, ◌++◌, List, [], ◌∷◌, length, get_or, Option, Some, nat_lt, if◌then◌else◌, ◌==◌, ◌||◌}
use Rattle.heap_on_node.specs.Packing.{IsPacked, item_in, spread}
use Rattle.bth_tree.specs.Making.{Keeps}
use Rattle.pst_base.specs.Subs.{flattened}
use Rattle.pst_base.specs.Fields.{replaced}
use Rattle.mapi_values.specs.Columns.{cell_width, in_cell}
use Rattle.mapi_values.specs.Values.{Val}
use Rattle.node_port.specs.Stops.{subs_size}
use Rattle.write_limits.specs.Space.{long_blocks, short_bytes}
use Rattle.write_limits.specs.Limits.{heap_bytes, long_value}
use Rattle.table_writer.specs.declared.value.Made.{Made}
use Rattle.node_values.specs.Named.{KeepsData, named}
use Rattle.table_context.specs.Rows.{content, names, subnode}
use Rattle.node_values.specs.Subnodes.{data_of}
use Rattle.table_context.specs.Rows.{others}
use Rattle.table_writer.specs.Woven.{IsWoven, all_woven}

-- the bytes of items, and 4 for each
abbrev pub weight_of : List (List ℕ) → ℕ
weight_of [] = 0
weight_of (x ∷ xs) = length x + 4 + weight_of xs

-- the same of all groups of items
abbrev pub weight : List (List (List ℕ)) → ℕ
weight [] = 0
weight (g ∷ gs) = weight_of g + weight gs

-- for each byte the id of the item that has just this byte, or 0
pub record AreSingles (get : ℕ → Option (List ℕ)) (singles : List ℕ) : Type 0 where
  pub count : length singles ≡ 256
  pub named : (byte : ℕ) → get_or singles byte 0 ≢ 0 → get (get_or singles byte 0) ≡ Some (byte ∷ [])

-- the heap is packed, the items of single bytes are known, and the subnodes are in order
pub record IsMade (m : Made) : Type 0 where
  pub packed : IsPacked m.maker
  pub singles : AreSingles (item_in m.maker) m.singles.items
  pub woven : IsWoven m.subs

-- how many bytes have no item of their own
abbrev pub missing : List ℕ → ℕ
missing [] = 0
missing (hid ∷ hids) = (if hid == 0 then 1 else 0) + missing hids

-- what the items of the heap count for, and those that single bytes may still add
abbrev pub load : Made → ℕ
load m = spread m.maker + 4 * missing m.singles.items

-- how many subnodes there are, and how many blocks in them
abbrev pub sub_blocks : Made → ℕ
sub_blocks m = subs_size (flattened (all_woven m.subs))

-- the items and the subnodes' data that are made so far
abbrev pub get_of : Made → ℕ → Option (List ℕ)
get_of m = item_in m.maker

abbrev pub sub_of : Made → ℕ → Option (List (List ℕ))
sub_of m = data_of (flattened (all_woven m.subs))

-- items and subnodes stay, and the subnodes that are new are just these
pub record Grows (old new : Made) (added : List ℕ) : Type 0 where
  pub items : Keeps (get_of old) (get_of new)
  pub subs : KeepsData (sub_of old) (sub_of new)
  pub left : (ids : List ℕ) → others (added ++ ids) (flattened (all_woven new.subs)) ≡ others ids (flattened (all_woven old.subs))

-- what bytes take in a heap
abbrev pub cost : ℕ → ℕ
cost len = if (len == 0) || nat_lt 3580 len then 0 else len + 4

-- one where so many bytes take a subnode
abbrev pub subnodes : ℕ → ℕ
subnodes len = if nat_lt 3580 len then 1 else 0

-- the bytes among so many that stand in a heap
abbrev pub in_heap : ℕ → ℕ
in_heap len = if nat_lt 3580 len then 0 else len

-- the blocks that are asked for where so many bytes take a subnode
abbrev pub in_subnode : ℕ → ℕ
in_subnode len = if nat_lt 3580 len then len / 8176 + 3 else 0

-- bytes stand where an id names them
pub record PutsValue (old new : Made) (bytes : List ℕ) (hnid : ℕ) : Type 0 where
  pub grows : Grows old new (subnode hnid)
  pub here : named (get_of new) (sub_of new) hnid ≡ Some bytes
  pub weighs : weight new.maker ≤ weight old.maker + cost (length bytes)
  pub count : length (all_woven new.subs) ≤ length (all_woven old.subs) + subnodes (length bytes)
  pub loads : load new ≤ load old + 2 * in_heap (length bytes)
  pub blocks : sub_blocks new ≤ sub_blocks old + in_subnode (length bytes)

-- a value stands in a cell, and the rest of the row stays
pub record PutsCell (old new : Made) (row there : List ℕ) (at : ℕ) (v : Val) : Type 0 where
  pub grows : Grows old new (names there at (in_cell v.kind))
  pub here : content (get_of new) (sub_of new) there at (in_cell v.kind) ≡ Some v.bytes
  pub weighs : weight new.maker ≤ weight old.maker + heap_bytes v
  pub count : length (all_woven new.subs) ≤ length (all_woven old.subs) + long_value v
  pub loads : load new ≤ load old + 2 * short_bytes v
  pub blocks : sub_blocks new ≤ sub_blocks old + long_blocks v
  pub bytes : List ℕ
  pub size : length bytes ≡ cell_width v.kind
  pub row_is : there ≡ replaced at bytes row
