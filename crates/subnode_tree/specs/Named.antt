-- The ids of subnodes' data blocks lead to their data.
use Rattle.std.specs.Prelude.{◌≡◌, ℕ, List, length, Option, Ok}
use Rattle.pst_base.specs.declared.ids.Bid.{Bid}
use Rattle.pst_base.specs.Flat.{Flat}
use Rattle.subnode_tree.specs.Bids.{sub_bids_of}
use Rattle.subnode_tree.specs.Plan.{SubsFound}
use Rattle.subnode_tree.specs.Subnodes.{subs_of}

-- where subnodes are read, there is a list of ids for each, and under each id stand the bytes at its position
abbrev pub SubBidsNameData : Type 0
SubBidsNameData = (find : ℕ → Option (List ℕ)) (eof : ℕ) (bid : Bid) (keep : List (List (Option Bid))) (flats : List Flat) → sub_bids_of find eof bid ≡ Ok keep → subs_of find eof bid ≡ Ok flats
    → SubsFound find keep flats × (length keep ≡ length flats)
