-- The blocks that are to hold a node's subnodes, at all levels.
use Rattle.std.specs.Prelude.{◌≡◌, ℕ, zero, suc, ◌+◌, ◌*◌, ◌<◌, ◌≤◌, ◌^◌, ◌==◌, ◌&&◌, nat_lt, if◌then◌else◌, Bool, true, List, [], ◌∷◌, ◌++◌, drop, length, map, Option, Some, Ok}
use Rattle.std.specs.List.{All, flat_map}
use Rattle.pst_base.specs.declared.ids.Bid.{Bid}
use Rattle.pst_base.specs.Flat.{Flat}
use Rattle.data_tree.specs.Keys.{AreSame, keys_of}
use Rattle.data_tree.specs.Plan.{AreFound, AreSmall, IsContent, IsFound, Rise, above_kept, bids_in, bytes_in, contents, fresh, kept_bids, placed, plain, unkept}
use Rattle.data_tree.specs.Tree.{and_then}
use Rattle.subnode_tree.specs.Bids.{bids_each, sub_bids_of}
use Rattle.subnode_tree.specs.Keys.{sub_keys, sub_keys_from}
use Rattle.subnode_tree.specs.Subnodes.{subs_from, subs_of, tree_from}

-- ---- the subnodes

-- each number is above the one before it, and the first above one that came before
abbrev pub rise_from : ℕ → List ℕ → Bool
rise_from last [] = true
rise_from last (x ∷ xs) = nat_lt last x && rise_from x xs

-- the numbers ascend strictly
abbrev pub ascending : List ℕ → Bool
ascending [] = true
ascending (x ∷ xs) = rise_from x xs

-- the ids of those that stand at a level
abbrev pub nids_at : ℕ → List Flat → List ℕ
nids_at level [] = []
nids_at level (f ∷ flats) = if f.level == level then f.nid ∷ nids_at level flats else nids_at level flats

-- the data of all
abbrev pub data_in : List Flat → List (List ℕ)
data_in flats = flat_map (λ f. f.blocks) flats

-- subnodes that can be written: the data of each fits a tree, there are at most 8 levels, and where none stands above a level, those at it are of one subnode or of the node: their ids ascend strictly, and they are at most 340 times 510
pub record IsForm (flats : List Flat) : Type 0 where
  pub fits : All (λ f. IsContent f.blocks) flats
  pub levels : All (λ f. f.level < 8) flats
  pub beside : (before here after : List Flat) → flats ≡ before ++ (here ++ after) → (level : ℕ) → All (λ f. level ≤ f.level) here
      → (ascending (nids_at level here) ≡ true) × (length (nids_at level here) ≤ 173400)

-- ---- data of which some blocks are kept

-- the ids that the first subnode keeps; behind the list's end none are kept
abbrev pub first_list : List (List (Option Bid)) → List (Option Bid)
first_list [] = []
first_list (own ∷ keep) = own

-- that nothing is kept of so many subnodes
abbrev pub nothing : ℕ → List (List (Option Bid))
nothing zero = []
nothing (suc n) = [] ∷ nothing n

-- each subnode's data, with the ids that are kept of it
abbrev pub paired : List (List (Option Bid)) → List Flat → List (List (Option Bid) × List (List ℕ))
paired keep [] = []
paired keep (f ∷ flats) = (first_list keep, f.blocks) ∷ paired (drop 1 keep) flats

-- the data of all blocks that aren't kept
abbrev pub unkept_in : List (List (Option Bid)) → List Flat → List (List ℕ)
unkept_in keep flats = flat_map (λ pair. unkept pair.0 pair.1) (paired keep flats)

-- the ids of all blocks that are kept
abbrev pub kept_in : List (List (Option Bid)) → List Flat → List Bid
kept_in keep flats = flat_map (λ pair. kept_bids pair.0 pair.1) (paired keep flats)

-- the bytes of the kept ones stand under their ids
abbrev pub SubsFound : (ℕ → Option (List ℕ)) → List (List (Option Bid)) → List Flat → Type 0
SubsFound find keep flats = All (λ pair. AreFound find pair.0 pair.1) (paired keep flats)

-- ---- the blocks

-- among blocks with the ids from a number on stand those that are to be written for some data, laid out as for a node's data
pub record IsAmong (next : ℕ) (blocks : List (Bid × List ℕ)) (keep : List (Option Bid)) (bs : List (List ℕ)) : Type 0 where
  pub before : List (Bid × List ℕ)
  pub after : List (Bid × List ℕ)
  pub first : ℕ
  pub at : first ≡ next + 4 * length before
  pub parts : blocks ≡ before ++ ((fresh first keep bs ++ above_kept first keep bs) ++ after)

-- each subnode's data is laid out so
abbrev pub AreAmong : ℕ → List (Bid × List ℕ) → List (List (Option Bid)) → List Flat → Type 0
AreAmong next blocks keep flats = All (λ pair. IsAmong next blocks pair.0 pair.1) (paired keep flats)

-- the ids of some data, block by block: the blocks that are kept have their own, the others those of the new blocks that lie so among these
abbrev pub IsPlaced : ℕ → List (Bid × List ℕ) → List (Option Bid) → List (List ℕ) → List (Option Bid) → Type 0
IsPlaced next blocks keep bs ids = (among : IsAmong next blocks keep bs) × (ids ≡ map Some (bids_in (placed among.first keep bs)))

-- the same of each subnode's data
abbrev pub ArePlaced : ℕ → List (Bid × List ℕ) → List (List (Option Bid) × List (List ℕ)) → List (List (Option Bid)) → Type 0
ArePlaced next blocks [] [] = Unit {0}
ArePlaced next blocks [] (own ∷ ids) = ⊥
ArePlaced next blocks (pair ∷ pairs) [] = ⊥
ArePlaced next blocks (pair ∷ pairs) (own ∷ ids) = IsPlaced next blocks pair.0 pair.1 own × ArePlaced next blocks pairs ids

-- wherever the blocks are found, and the file is long enough for each subnode's entry, the ids of the data of all subnodes under an id are just these: each block that is kept has its own at its position, and each other that of its new block
pub record SubsNameKept (next : ℕ) (blocks : List (Bid × List ℕ)) (keep : List (List (Option Bid))) (bid : Bid) (flats : List Flat) : Type 0 where
  pub ids : List (List (Option Bid))
  pub placed : ArePlaced next blocks (paired keep flats) ids
  pub named : (find : ℕ → Option (List ℕ)) → All (IsFound find) blocks → (eof : ℕ) → 24 * length flats ≤ eof → sub_bids_of find eof bid ≡ Ok ids

-- wherever the blocks are found, and the file is long enough for each subnode's entry and data, the subnodes under an id are just these
abbrev pub SubsReadAs : List (Bid × List ℕ) → Bid → List Flat → Type 0
SubsReadAs blocks bid flats =
    (find : ℕ → Option (List ℕ)) → All (IsFound find) blocks → (eof : ℕ) → 24 * length flats ≤ eof → All (λ f. bytes_in f.blocks ≤ eof) flats → subs_of find eof bid ≡ Ok flats

-- the same where some blocks are kept, and under each id that is kept stand the bytes at its position
abbrev pub SubsReadKept : List (Bid × List ℕ) → List (List (Option Bid)) → Bid → List Flat → Type 0
SubsReadKept blocks keep bid flats =
    (find : ℕ → Option (List ℕ)) → All (IsFound find) blocks → SubsFound find keep flats → (eof : ℕ) → 24 * length flats ≤ eof → All (λ f. bytes_in f.blocks ≤ eof) flats → subs_of find eof bid ≡ Ok flats

-- wherever the blocks are found, the subnodes under an id reach just them and those kept
abbrev pub SubsReach : List (Bid × List ℕ) → List Bid → Bid → Type 0
SubsReach blocks kept bid = (find : ℕ → Option (List ℕ)) → All (IsFound find) blocks → AreSame (sub_keys find bid) (keys_of kept ++ keys_of (bids_in blocks))

-- blocks with the ids from a number on hold these subnodes: those that aren't marked have the data that isn't kept in order, and under the id they read as them, and have the ids of their data, where so many levels and so many subnodes may follow
pub record Plans (keep : List (List (Option Bid))) (flats : List Flat) (next : ℕ) (bid : Bid) (blocks : List (Bid × List ℕ)) : Type 0 where
  pub rise : Rise next blocks
  pub marks : plain blocks ≡ unkept_in keep flats
  pub within : bid.bits < 2 ^ 64
  pub small : AreSmall blocks
  pub most : 2 * length blocks ≤ 2 * length (unkept_in keep flats) + length (data_in flats) + 2 * length flats
  pub room : 24 * length flats ≤ bytes_in (contents blocks)
  pub ids : List (List (Option Bid))
  pub placed : ArePlaced next blocks (paired keep flats) ids
  pub names : (find : ℕ → Option (List ℕ)) → All (IsFound find) blocks → (deeper room : ℕ) → deeper ≤ 8 → All (λ f. f.level < deeper) flats → length flats ≤ room
      → and_then (tree_from find deeper room bid) (bids_each find) ≡ Ok ids
  pub reads : (find : ℕ → Option (List ℕ)) → All (IsFound find) blocks → SubsFound find keep flats → (eof deeper room : ℕ) → deeper ≤ 8 → All (λ f. f.level < deeper) flats → length flats ≤ room
      → All (λ f. bytes_in f.blocks ≤ eof) flats → subs_from find eof deeper room bid ≡ Ok flats
  pub keys : (find : ℕ → Option (List ℕ)) → All (IsFound find) blocks → (deeper : ℕ) → deeper ≤ 8 → All (λ f. f.level < deeper) flats
      → AreSame (sub_keys_from find deeper bid) (keys_of (kept_in keep flats) ++ keys_of (bids_in blocks))
