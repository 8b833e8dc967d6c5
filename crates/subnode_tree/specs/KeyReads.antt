-- The keys of the blocks that subnodes reach, as readings.
use Rattle.std.specs.Prelude.{◌==◌, ℕ, if◌then◌else◌, List, [], ◌∷◌, ◌++◌, Option, Some, Result, Ok}
use Rattle.pst_base.specs.declared.ids.Bid.{Bid}
use Rattle.pst_base.specs.Ids.{key_of}
use Rattle.data_tree.specs.declared.source.TreeStop.{TreeStop}
use Rattle.data_tree.specs.Keys.{data_keys_read}
use Rattle.data_tree.specs.Tree.{and_then, fetched}
use Rattle.subnode_tree.specs.declared.blocks.SubEntry.{SubEntry}
use Rattle.subnode_tree.specs.Bids.{sub_bids_of}
use Rattle.subnode_tree.specs.Keys.{listed_in, sub_keys}
use Rattle.subnode_tree.specs.Subnodes.{tree_of}

-- a block that lists subnodes, and those that it lists
abbrev pub list_keys : (ℕ → Option (List ℕ)) → Bid → List ℕ
list_keys find bid = if bid.bits == 0 then [] else key_of bid.bits ∷ listed_in (find (key_of bid.bits))

-- the same as a reading
abbrev pub list_keys_read : (ℕ → Option (List ℕ)) → Bid → Result (List ℕ) TreeStop
list_keys_read find bid = if bid.bits == 0 then Ok [] else and_then (fetched find bid) (λ b. Ok (key_of bid.bits ∷ listed_in (Some b)))

-- the data of a subnode, and the blocks that list what stands below it
abbrev pub entry_keys_read : (ℕ → Option (List ℕ)) → SubEntry → Result (List ℕ) TreeStop
entry_keys_read find entry = and_then (data_keys_read find entry.content) (λ content. and_then (list_keys_read find entry.subnodes) (λ list. Ok (content ++ list)))

-- the same of some subnodes
abbrev pub entries_keys_read : (ℕ → Option (List ℕ)) → List SubEntry → Result (List ℕ) TreeStop
entries_keys_read find [] = Ok []
entries_keys_read find (entry ∷ entries) = and_then (entry_keys_read find entry) (λ here. and_then (entries_keys_read find entries) (λ more. Ok (here ++ more)))

-- the blocks that list a node's subnodes, and what each of these leads to
unfoldable pub walked_keys : (ℕ → Option (List ℕ)) → ℕ → Bid → Result (List ℕ) TreeStop
walked_keys find eof bid = and_then (tree_of find eof bid) (λ entries. and_then (list_keys_read find bid) (λ front. and_then (entries_keys_read find entries) (λ more. Ok (front ++ more))))

-- all blocks that a node's subnodes reach, or the fault that the reading of their ids has
abbrev pub sub_keys_read : (ℕ → Option (List ℕ)) → ℕ → Bid → Result (List ℕ) TreeStop
sub_keys_read find eof bid = and_then (sub_bids_of find eof bid) (λ all. Ok (sub_keys find bid))
