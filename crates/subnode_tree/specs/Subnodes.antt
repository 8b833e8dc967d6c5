-- The subnodes of a node, as a reading of the blocks that a finder gives by their keys.
use Rattle.std.specs.Prelude.{ℕ, map, zero, suc, ◌+◌, ◌-◌, ◌*◌, ◌/◌, ◌%◌, ◌^◌, ◌==◌, ◌&&◌, nat_le, nat_lt, if◌then◌else◌, Bool, true, List, [], ◌∷◌, ◌++◌, length, Option, Result, Ok, Err}
use Rattle.pst_base.specs.declared.ids.Bid.{Bid}
use Rattle.pst_base.specs.Fields.{number_at}
use Rattle.data_tree.specs.declared.source.TreeStop.{TreeStop}
use Rattle.data_tree.specs.declared.source.TreeStop.TheVariants.{Form, Deep, Many}
use Rattle.pst_base.specs.Flat.{Flat}
use Rattle.pst_base.specs.Subs.{one_deeper}
use Rattle.data_tree.specs.Tree.{and_then, fetched, blocks_of}
use Rattle.subnode_tree.specs.declared.blocks.SubEntry.{SubEntry}
use Rattle.subnode_tree.specs.declared.blocks.Listed.{Listed}

-- ---- the blocks

-- the layout of a block of this level, with at most so many entries of so many bytes and nothing after them
unfoldable pub is_laid : ℕ → ℕ → ℕ → List ℕ → Bool
is_laid level most size b =
    nat_le 8 (length b) && ((number_at 1 0 b == 2) && ((number_at 1 1 b == level) && (nat_le (number_at 2 2 b) most && (length b == 8 + size * number_at 2 2 b))))

-- a block of level 0, which lists subnodes
abbrev pub is_leaf : List ℕ → Bool
is_leaf b = is_laid 0 340 24 b

-- a block of level 1, which lists blocks of level 0
abbrev pub is_inner : List ℕ → Bool
is_inner b = is_laid 1 510 16 b

-- an entry of a block of level 0, of a subnode that stands at this level; of the NID only the low 32 bits count
unfoldable pub entry_at : ℕ → ℕ → List ℕ → SubEntry
entry_at level at b = record { level = level; nid = record { bits = number_at 8 at b % 2 ^ 32 }; content = record { bits = number_at 8 (at + 8) b }; subnodes = record { bits = number_at 8 (at + 16) b } }

abbrev pub entries_from : ℕ → ℕ → ℕ → List ℕ → List SubEntry
entries_from level zero at b = []
entries_from level (suc n) at b = entry_at level at b ∷ entries_from level n (at + 24) b

unfoldable pub entries_of : ℕ → List ℕ → List SubEntry
entries_of level b = entries_from level (number_at 2 2 b) 8 b

-- an entry of a block of level 1
unfoldable pub listed_at : ℕ → List ℕ → Listed
listed_at at b = record { nid = record { bits = number_at 8 at b % 2 ^ 32 }; block = record { bits = number_at 8 (at + 8) b } }

abbrev pub listed_from : ℕ → ℕ → List ℕ → List Listed
listed_from zero at b = []
listed_from (suc n) at b = listed_at at b ∷ listed_from n (at + 16) b

unfoldable pub listed_of : List ℕ → List Listed
listed_of b = listed_from (number_at 2 2 b) 8 b

-- ---- the subnodes of one node

-- the NIDs ascend strictly, and the first is above one that came before
abbrev pub rise_above : ℕ → List SubEntry → Bool
rise_above last [] = true
rise_above last (entry ∷ entries) = nat_lt last (entry.nid).bits && rise_above (entry.nid).bits entries

-- the NIDs ascend strictly
abbrev pub ascend : List SubEntry → Bool
ascend [] = true
ascend (entry ∷ entries) = rise_above (entry.nid).bits entries

-- the NIDs with which a block of level 1 lists others ascend strictly, and the first is above one that came before
abbrev pub listed_rise : ℕ → List Listed → Bool
listed_rise last [] = true
listed_rise last (listed ∷ more) = nat_lt last (listed.nid).bits && listed_rise (listed.nid).bits more

-- the NIDs with which a block of level 1 lists others ascend strictly
abbrev pub listed_ascend : List Listed → Bool
listed_ascend [] = true
listed_ascend (listed ∷ more) = listed_rise (listed.nid).bits more

-- no NID is below this one
abbrev pub reach : ℕ → List SubEntry → Bool
reach low [] = true
reach low (entry ∷ entries) = nat_le low (entry.nid).bits && reach low entries

-- entries whose NIDs ascend, or the fault of the block that holds them
abbrev pub ordered : Bid → List SubEntry → Result (List SubEntry) TreeStop
ordered bid entries = if ascend entries then Ok entries else Err (Form bid)

-- a block that one of level 1 lists: the fault is its own where it isn't of level 0, or has a NID below the one that it is listed with
unfoldable pub part_in : ℕ → Listed → List ℕ → Result (List SubEntry) TreeStop
part_in level listed b =
    if is_leaf b then (if reach (listed.nid).bits (entries_of level b) then Ok (entries_of level b) else Err (Form listed.block)) else Err (Form listed.block)

abbrev pub part_of : (ℕ → Option (List ℕ)) → ℕ → Listed → Result (List SubEntry) TreeStop
part_of find level listed = and_then (fetched find listed.block) (part_in level listed)

-- all that it lists
abbrev pub parts_of : (ℕ → Option (List ℕ)) → ℕ → List Listed → Result (List SubEntry) TreeStop
parts_of find level [] = Ok []
parts_of find level (listed ∷ more) = and_then (part_of find level listed) (λ here. and_then (parts_of find level more) (λ rest. Ok (here ++ rest)))

-- the subnodes in all blocks that one of level 1 lists, whose own NIDs must ascend: the fault of an order over the whole is its own too
abbrev pub inner_in : (ℕ → Option (List ℕ)) → ℕ → Bid → List Listed → Result (List SubEntry) TreeStop
inner_in find level bid listed = if listed_ascend listed then and_then (parts_of find level listed) (ordered bid) else Err (Form bid)

-- the subnodes that a block lists, itself or by others
unfoldable pub level_in : (ℕ → Option (List ℕ)) → ℕ → Bid → List ℕ → Result (List SubEntry) TreeStop
level_in find level bid b =
    if is_leaf b then ordered bid (entries_of level b)
    else (if is_inner b then inner_in find level bid (listed_of b) else Err (Form bid))

abbrev pub level_of : (ℕ → Option (List ℕ)) → ℕ → Bid → Result (List SubEntry) TreeStop
level_of find level bid = and_then (fetched find bid) (level_in find level bid)

-- ---- the subnodes at all levels, each before those below it

-- what each entry leads to, while so many entries may still come
abbrev pub rows : {Y : Type 0} → (ℕ → SubEntry → Result (List Y) TreeStop) → ℕ → List SubEntry → Result (List Y) TreeStop
rows row room [] = Ok []
rows row room (entry ∷ entries) = and_then (row room entry) (λ here. and_then (rows row (room - length here) entries) (λ more. Ok (here ++ more)))

-- an entry and what stands below it
abbrev pub branch : (ℕ → Bid → Result (List SubEntry) TreeStop) → ℕ → SubEntry → Result (List SubEntry) TreeStop
branch below room entry = if room == 0 then Err Many else and_then (below (room - 1) entry.subnodes) (λ inner. Ok (entry ∷ inner))

-- the entries that a block leads to, where there is one
abbrev pub opened : {Y : Type 0} → (ℕ → Option (List ℕ)) → ℕ → Bid → (List SubEntry → Result (List Y) TreeStop) → Result (List Y) TreeStop
opened find level bid next = if bid.bits == 0 then Ok [] else and_then (level_of find level bid) next

-- the subnodes from a level on, below which so many levels may follow
abbrev pub tree_from : (ℕ → Option (List ℕ)) → ℕ → ℕ → Bid → Result (List SubEntry) TreeStop
tree_from find zero room bid = opened find 9 bid (rows (λ left entry. Err Deep) room)
tree_from find (suc deeper) room bid = opened find (8 - deeper) bid (rows (branch (tree_from find deeper)) room)

-- all subnodes of a node: at most 8 levels, and at most one for each 24 bytes of the file
unfoldable pub tree_of : (ℕ → Option (List ℕ)) → ℕ → Bid → Result (List SubEntry) TreeStop
tree_of find eof bid = tree_from find 8 (eof / 24) bid

-- ---- the subnodes with their data

-- an entry with its data, and what stands below it, one level deeper
abbrev pub branch_with : (ℕ → Option (List ℕ)) → ℕ → (ℕ → Bid → Result (List Flat) TreeStop) → ℕ → SubEntry → Result (List Flat) TreeStop
branch_with find eof below room entry =
    if room == 0 then Err Many
    else and_then (blocks_of find eof entry.content) (λ blocks. and_then (below (room - 1) entry.subnodes) (λ inner. Ok (record { level = 0; nid = (entry.nid).bits; blocks = blocks } ∷ map one_deeper inner)))

-- the subnodes from a level on with their data, below which so many levels may follow
abbrev pub subs_from : (ℕ → Option (List ℕ)) → ℕ → ℕ → ℕ → Bid → Result (List Flat) TreeStop
subs_from find eof zero room bid = opened find 9 bid (rows (λ left entry. Err Deep) room)
subs_from find eof (suc deeper) room bid = opened find (8 - deeper) bid (rows (branch_with find eof (subs_from find eof deeper)) room)

-- all subnodes of a node with their data
unfoldable pub subs_of : (ℕ → Option (List ℕ)) → ℕ → Bid → Result (List Flat) TreeStop
subs_of find eof bid = subs_from find eof 8 (eof / 24) bid
