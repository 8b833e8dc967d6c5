-- One data block of a tree, and how many it has, as a reading of the blocks that a finder gives by their keys.
use Rattle.std.specs.Prelude.{ℕ, List, length, slice_get, Option, None, Some, Result, Ok}
use Rattle.pst_base.specs.declared.ids.Bid.{Bid}
use Rattle.data_tree.specs.declared.source.TreeStop.{TreeStop}
use Rattle.data_tree.specs.Tree.{and_then, bids_of, fetched}

-- the data of the block with an id, if there is an id
abbrev pub fetched_if : (ℕ → Option (List ℕ)) → Option Bid → Result (Option (List ℕ)) TreeStop
fetched_if find None = Ok None
fetched_if find (Some bid) = and_then (fetched find bid) (λ b. Ok (Some b))

-- how many blocks these are, and the data of the one at a position
abbrev pub single_among : (ℕ → Option (List ℕ)) → ℕ → List Bid → Result (ℕ × Option (List ℕ)) TreeStop
single_among find position bids = and_then (fetched_if find (slice_get bids position)) (λ b. Ok (length bids, b))

-- how many data blocks a tree has, and the one at a position
unfoldable pub single_of : (ℕ → Option (List ℕ)) → ℕ → Bid → Result (ℕ × Option (List ℕ)) TreeStop
single_of find position bid = and_then (bids_of find bid) (single_among find position)
