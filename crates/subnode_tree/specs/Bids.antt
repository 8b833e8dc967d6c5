-- The ids of the data blocks of a node's subnodes, as a reading of the blocks that a finder gives by their keys.
use Rattle.std.specs.Prelude.{ℕ, List, [], ◌∷◌, map, Option, Some, Result, Ok}
use Rattle.pst_base.specs.declared.ids.Bid.{Bid}
use Rattle.data_tree.specs.declared.source.TreeStop.{TreeStop}
use Rattle.data_tree.specs.Tree.{and_then, bids_of}
use Rattle.subnode_tree.specs.declared.blocks.SubEntry.{SubEntry}
use Rattle.subnode_tree.specs.Subnodes.{tree_of}

-- those of one subnode, each at its position
abbrev pub entry_bids : (ℕ → Option (List ℕ)) → SubEntry → Result (List (Option Bid)) TreeStop
entry_bids find entry = and_then (bids_of find entry.content) (λ bids. Ok (map Some bids))

-- those of some subnodes
abbrev pub bids_each : (ℕ → Option (List ℕ)) → List SubEntry → Result (List (List (Option Bid))) TreeStop
bids_each find [] = Ok []
bids_each find (entry ∷ entries) = and_then (entry_bids find entry) (λ here. and_then (bids_each find entries) (λ more. Ok (here ∷ more)))

-- those of all subnodes of a node, each before those below it
unfoldable pub sub_bids_of : (ℕ → Option (List ℕ)) → ℕ → Bid → Result (List (List (Option Bid))) TreeStop
sub_bids_of find eof bid = and_then (tree_of find eof bid) (bids_each find)
