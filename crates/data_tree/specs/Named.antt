-- The ids of a tree's data blocks lead to its data.
use Rattle.std.specs.Prelude.{◌≡◌, ℕ, List, length, map, Option, Some, Ok}
use Rattle.pst_base.specs.declared.ids.Bid.{Bid}
use Rattle.data_tree.specs.Plan.{AreFound}
use Rattle.data_tree.specs.Tree.{bids_of, blocks_of}

-- where a tree is read, there are as many ids as data blocks, and under each id stand the bytes at its position
abbrev pub BidsNameData : Type 0
BidsNameData = (find : ℕ → Option (List ℕ)) (eof : ℕ) (bid : Bid) (bids : List Bid) (bs : List (List ℕ)) → bids_of find bid ≡ Ok bids → blocks_of find eof bid ≡ Ok bs
    → AreFound find (map Some bids) bs × (length bids ≡ length bs)
