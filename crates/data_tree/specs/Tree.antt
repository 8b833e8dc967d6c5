-- The data blocks of a tree, as a reading of the blocks that a finder gives by their keys.
use Rattle.std.specs.Prelude.{ℕ, zero, suc, ◌+◌, ◌*◌, ◌/◌, ◌%◌, ◌==◌, ◌&&◌, nat_le, nat_lt, not, if◌then◌else◌, Bool, true, List, [], ◌∷◌, ◌++◌, drop, length, Option, Some, None, Result, Ok, Err}
use Rattle.pst_base.specs.declared.ids.Bid.{Bid}
use Rattle.pst_base.specs.Fields.{number_at}
use Rattle.pst_base.specs.Ids.{key_of}
use Rattle.data_tree.specs.declared.source.TreeStop.{TreeStop}
use Rattle.data_tree.specs.declared.source.TreeStop.TheVariants.{Missing, Form, Long}

-- one reading after another, or the fault of the first
abbrev pub and_then : {X Y : Type 0} → Result X TreeStop → (X → Result Y TreeStop) → Result Y TreeStop
and_then (Ok x) next = next x
and_then (Err fault) next = Err fault

-- ---- a block that names others

-- the ids in n times 8 bytes
abbrev pub ids : ℕ → List ℕ → List Bid
ids zero b = []
ids (suc n) b = record { bits = number_at 8 0 b } ∷ ids n (drop 8 b)

-- the layout of a block of this level that names others, at most 1021, with nothing after them
unfoldable pub is_listing : ℕ → List ℕ → Bool
is_listing level b =
    nat_le 8 (length b) && ((number_at 1 0 b == 1) && ((number_at 1 1 b == level) && (nat_le (number_at 2 2 b) 1021 && (length b == 8 + 8 * number_at 2 2 b))))

-- the ids that it names
unfoldable pub names_of : List ℕ → List Bid
names_of b = ids (number_at 2 2 b) (drop 8 b)

-- bit 1 marks a block that names others
abbrev pub is_internal : Bid → Bool
is_internal bid = bid.bits / 2 % 2 == 1

-- none is marked so
abbrev pub are_data : List Bid → Bool
are_data [] = true
are_data (bid ∷ bids) = not (is_internal bid) && are_data bids

-- ---- the tree

-- the block that an id names, if there is one
abbrev pub named : Bid → Option (List ℕ) → Result (List ℕ) TreeStop
named bid None = Err (Missing bid)
named bid (Some b) = Ok b

-- the data of the block of this id, whose bit 0 doesn't count
abbrev pub fetched : (ℕ → Option (List ℕ)) → Bid → Result (List ℕ) TreeStop
fetched find bid = named bid (find (key_of bid.bits))

-- the data blocks that a block of level 1 names
unfoldable pub leaves : Bid → List ℕ → Result (List Bid) TreeStop
leaves bid b = if are_data (names_of b) then Ok (names_of b) else Err (Form bid)

-- the data blocks below a block that one of level 2 names: the fault is that one's where this isn't of level 1
unfoldable pub below : (ℕ → Option (List ℕ)) → Bid → Bid → Result (List Bid) TreeStop
below find parent bid =
    if is_internal bid then and_then (fetched find bid) (λ b. if is_listing 1 b then leaves bid b else Err (Form parent)) else Err (Form parent)

-- those below all that it names
abbrev pub all_below : (ℕ → Option (List ℕ)) → Bid → List Bid → Result (List Bid) TreeStop
all_below find parent [] = Ok []
all_below find parent (bid ∷ bids) = and_then (below find parent bid) (λ here. and_then (all_below find parent bids) (λ more. Ok (here ++ more)))

-- the data blocks that a block of level 1 or 2 leads to
unfoldable pub listed : (ℕ → Option (List ℕ)) → Bid → List ℕ → Result (List Bid) TreeStop
listed find bid b = if is_listing 1 b then leaves bid b else (if is_listing 2 b then all_below find bid (names_of b) else Err (Form bid))

-- the data blocks of a tree: none, the one block, or those that a block of level 1 or 2 leads to
unfoldable pub bids_of : (ℕ → Option (List ℕ)) → Bid → Result (List Bid) TreeStop
bids_of find bid = if bid.bits == 0 then Ok [] else (if is_internal bid then and_then (fetched find bid) (listed find bid) else Ok (bid ∷ []))

-- ---- its data

-- the data of these blocks, of which those before had so many bytes: together they don't pass the file's end
abbrev pub blocks_from : (ℕ → Option (List ℕ)) → ℕ → ℕ → List Bid → Result (List (List ℕ)) TreeStop
blocks_from find eof before [] = Ok []
blocks_from find eof before (bid ∷ bids) =
    and_then (fetched find bid) (λ b. if nat_lt eof (before + length b) then Err Long else and_then (blocks_from find eof (before + length b) bids) (λ more. Ok (b ∷ more)))

-- the data of a tree, block by block
unfoldable pub blocks_of : (ℕ → Option (List ℕ)) → ℕ → Bid → Result (List (List ℕ)) TreeStop
blocks_of find eof bid = and_then (bids_of find bid) (blocks_from find eof 0)
