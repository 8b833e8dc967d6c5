-- The tree of blocks that is to hold some data, and the ids of its blocks.
use Rattle.std.specs.Prelude.{◌≡◌, ℕ, zero, suc, ◌+◌, ◌-◌, ◌*◌, ◌/◌, ◌%◌, ◌<◌, ◌≤◌, ◌^◌, ◌⊎◌, nat_lt, if◌then◌else◌, List, [], ◌∷◌, ◌++◌, map, take, drop, length, Option, Some, None, Ok}
use Rattle.std.specs.List.{All}
use Rattle.byteorder.specs.Endian.{little_bytes}
use Rattle.pst_base.specs.declared.ids.Bid.{Bid}
use Rattle.pst_base.specs.Ids.{key_of}
use Rattle.data_tree.specs.Keys.{AreSame, data_keys, keys_of}
use Rattle.data_tree.specs.Tree.{bids_of, blocks_of, is_internal}

-- ---- the data

-- how many bytes the blocks have together
abbrev pub bytes_in : List (List ℕ) → ℕ
bytes_in [] = 0
bytes_in (b ∷ bs) = length b + bytes_in bs

-- data that a tree can hold: no block is too large, there are at most 1021 times 1021, and the bytes of all can be counted in 4 bytes
pub record IsContent (bs : List (List ℕ)) : Type 0 where
  pub small : All (λ b. length b ≤ 8176) bs
  pub few : length bs ≤ 1042441
  pub together : bytes_in bs < 2 ^ 32

-- ---- blocks with ids

-- blocks with the ids from a number on, each 4 above the one before; the mark is 2 for blocks that name others, and 0 for data
abbrev pub numbered : ℕ → ℕ → List (List ℕ) → List (Bid × List ℕ)
numbered mark next [] = []
numbered mark next (b ∷ bs) = (record { bits = next + mark }, b) ∷ numbered mark (next + 4) bs

-- their ids
abbrev pub bids_in : List (Bid × List ℕ) → List Bid
bids_in blocks = map (λ block. block.0) blocks

-- what they hold
abbrev pub contents : List (Bid × List ℕ) → List (List ℕ)
contents blocks = map (λ block. block.1) blocks

-- the id of the last, or 0 where there is none
abbrev pub last_id : List (Bid × List ℕ) → ℕ
last_id [] = 0
last_id (block ∷ []) = (block.0).bits
last_id (block ∷ (next ∷ blocks)) = last_id (next ∷ blocks)

-- the ids are those from a number on, each 4 above the one before but for bit 1, which is a mark
abbrev pub Rise : ℕ → List (Bid × List ℕ) → Type 0
Rise next [] = Unit {0}
Rise next (block ∷ blocks) = (((block.0).bits ≡ next) ⊎ ((block.0).bits ≡ next + 2)) × Rise (next + 4) blocks

-- what the blocks hold whose ids aren't marked
abbrev pub plain : List (Bid × List ℕ) → List (List ℕ)
plain [] = []
plain (block ∷ blocks) = if is_internal block.0 then plain blocks else block.1 ∷ plain blocks

-- ---- blocks that name others

-- ids in 8 bytes each
abbrev pub spelled : List Bid → List ℕ
spelled [] = []
spelled (bid ∷ bids) = little_bytes 8 bid.bits ++ spelled bids

-- the block of a level that names some blocks, below which there are so many bytes of data
unfoldable pub listing : ℕ → ℕ → List Bid → List ℕ
listing level total bids = 1 ∷ level ∷ (little_bytes 2 (length bids) ++ (little_bytes 4 total ++ spelled bids))

-- the first n pieces of so many elements
abbrev pub pieces : {X : Type 0} → ℕ → ℕ → List X → List (List X)
pieces size zero xs = []
pieces size (suc n) xs = take size xs ∷ pieces size n (drop size xs)

-- pieces of so many elements, and a last of what is left
unfoldable pub cut : {X : Type 0} → ℕ → List X → List (List X)
cut size xs = pieces size ((length xs + (size - 1)) / size) xs

-- the block of level 1 that names some data blocks
abbrev pub xblock : List (Bid × List ℕ) → List ℕ
xblock blocks = listing 1 (bytes_in (contents blocks)) (bids_in blocks)

-- the blocks of level 1 that name data blocks, each 1021 but the last; a block alone needs none
unfoldable pub xblocks : ℕ → List (Bid × List ℕ) → List (Bid × List ℕ)
xblocks next blocks = if nat_lt 1 (length blocks) then numbered 2 next (map xblock (cut 1021 blocks)) else []

-- the block of level 2 that names those of level 1; one alone needs none
unfoldable pub xxblock : ℕ → ℕ → List (Bid × List ℕ) → List (Bid × List ℕ)
xxblock next total xs = if nat_lt 1 (length xs) then numbered 2 next (listing 2 total (bids_in xs) ∷ []) else []

-- ---- the tree

-- the blocks of levels 1 and 2 above some data blocks
unfoldable pub above : ℕ → List (Bid × List ℕ) → List (Bid × List ℕ)
above next blocks = xblocks next blocks ++ xxblock (next + 4 * length (xblocks next blocks)) (bytes_in (contents blocks)) (xblocks next blocks)

-- the blocks of a tree of some data: the data, then those above it, of which the last is the root
unfoldable pub planned : ℕ → List (List ℕ) → List (Bid × List ℕ)
planned next bs = numbered 0 next bs ++ above (next + 4 * length bs) (numbered 0 next bs)

-- ---- what it reads as

-- the block is found under its key
abbrev pub IsFound : (ℕ → Option (List ℕ)) → Bid × List ℕ → Type 0
IsFound find block = find (key_of (block.0).bits) ≡ Some block.1

-- wherever the blocks are found, and the file is as long as the data, the tree under an id has just this data
abbrev pub ReadsAs : List (Bid × List ℕ) → Bid → List (List ℕ) → Type 0
ReadsAs blocks bid bs = (find : ℕ → Option (List ℕ)) → All (IsFound find) blocks → (eof : ℕ) → bytes_in bs ≤ eof → blocks_of find eof bid ≡ Ok bs

-- no block has more than 8176 bytes
abbrev pub AreSmall : List (Bid × List ℕ) → Type 0
AreSmall blocks = All (λ block. length block.1 ≤ 8176) blocks

-- wherever the blocks are found, the tree under an id reaches just them and those kept
abbrev pub Reaches : List (Bid × List ℕ) → List Bid → Bid → Type 0
Reaches blocks kept bid = (find : ℕ → Option (List ℕ)) → All (IsFound find) blocks → AreSame (data_keys find bid) (keys_of kept ++ keys_of (bids_in blocks))

-- ---- data of which some blocks are kept

-- the id that the first block keeps, if it keeps one; behind the list's end none is kept
abbrev pub first_kept : List (Option Bid) → Option Bid
first_kept [] = None
first_kept (kept ∷ keep) = kept

-- the data blocks with their ids: those kept have their own, the others ids from a number on, each 4 above the one before
abbrev pub placed : ℕ → List (Option Bid) → List (List ℕ) → List (Bid × List ℕ)
placed next keep [] = []
placed next [] (b ∷ bs) = (record { bits = next }, b) ∷ placed (next + 4) [] bs
placed next (Some bid ∷ keep) (b ∷ bs) = (bid, b) ∷ placed next keep bs
placed next (None ∷ keep) (b ∷ bs) = (record { bits = next }, b) ∷ placed (next + 4) keep bs

-- the data of the blocks that aren't kept
abbrev pub unkept : List (Option Bid) → List (List ℕ) → List (List ℕ)
unkept keep [] = []
unkept [] (b ∷ bs) = b ∷ bs
unkept (Some bid ∷ keep) (b ∷ bs) = unkept keep bs
unkept (None ∷ keep) (b ∷ bs) = b ∷ unkept keep bs

-- the ids of the blocks that are kept
abbrev pub kept_bids : List (Option Bid) → List (List ℕ) → List Bid
kept_bids keep [] = []
kept_bids [] (b ∷ bs) = []
kept_bids (Some bid ∷ keep) (b ∷ bs) = bid ∷ kept_bids keep bs
kept_bids (None ∷ keep) (b ∷ bs) = kept_bids keep bs

-- the bytes of the kept ones stand under their ids
abbrev pub AreFound : (ℕ → Option (List ℕ)) → List (Option Bid) → List (List ℕ) → Type 0
AreFound find keep [] = Unit {0}
AreFound find [] (b ∷ bs) = Unit {0}
AreFound find (Some bid ∷ keep) (b ∷ bs) = (find (key_of bid.bits) ≡ Some b) × AreFound find keep bs
AreFound find (None ∷ keep) (b ∷ bs) = AreFound find keep bs

-- ids that may be kept: of data blocks, with keys above 0 and below a number
abbrev pub MayKeep : ℕ → List (Option Bid) → Type 0
MayKeep next [] = Unit {0}
MayKeep next (Some bid ∷ keep) = (bid.bits / 2 % 2 ≡ 0) × (2 ≤ bid.bits) × (bid.bits < next) × MayKeep next keep
MayKeep next (None ∷ keep) = MayKeep next keep

-- the new data blocks of some data
abbrev pub fresh : ℕ → List (Option Bid) → List (List ℕ) → List (Bid × List ℕ)
fresh next keep bs = numbered 0 next (unkept keep bs)

-- the blocks above all data blocks, kept or new
unfoldable pub above_kept : ℕ → List (Option Bid) → List (List ℕ) → List (Bid × List ℕ)
above_kept next keep bs = above (next + 4 * length (fresh next keep bs)) (placed next keep bs)

-- the id of the root
abbrev pub root_kept : ℕ → List (Option Bid) → List (List ℕ) → ℕ
root_kept next keep bs = last_id (placed next keep bs ++ above_kept next keep bs)

-- wherever the new blocks are found, the tree under an id names each data block at its position: the kept ones by their own ids, the others by the new ones
abbrev pub NamesKept : List (Bid × List ℕ) → ℕ → List (Option Bid) → Bid → List (List ℕ) → Type 0
NamesKept blocks next keep bid bs = (find : ℕ → Option (List ℕ)) → All (IsFound find) blocks → bids_of find bid ≡ Ok (bids_in (placed next keep bs))

-- wherever the new blocks are found, and under each id that is kept the bytes at its position, and the file is as long as the data, the tree under an id has just this data
abbrev pub ReadsKept : List (Bid × List ℕ) → List (Option Bid) → Bid → List (List ℕ) → Type 0
ReadsKept blocks keep bid bs =
    (find : ℕ → Option (List ℕ)) → All (IsFound find) blocks → AreFound find keep bs → (eof : ℕ) → bytes_in bs ≤ eof → blocks_of find eof bid ≡ Ok bs
