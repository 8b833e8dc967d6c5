-- Which data blocks stay where they are when data is written anew.
use Rattle.std.specs.Prelude.{◌≡◌, ◌==◌, ◌&&◌, ◌≤◌, not, nat_le, nat_lt, ℕ, Bool, true, false, if◌then◌else◌, List, [], ◌∷◌, ◌++◌, drop, length, take, Option, None, Some, ◌||◌}
use Rattle.std.specs.BTreeSet.{BTreeSet, contains}
use Rattle.std.specs.List.{flat_map}
use Rattle.std.specs.Ordering.{nat_cmp}
use Rattle.pst_base.specs.declared.ids.Bid.{Bid}
use Rattle.pst_base.specs.Flat.{Flat}
use Rattle.pst_base.specs.Ids.{key_of}
use Rattle.data_tree.specs.Keys.{count_of}
use Rattle.data_tree.specs.Plan.{MayKeep}
use Rattle.data_tree.specs.Tree.{is_internal}
use Rattle.node_layout.specs.Joined.{kept_keys}
use Rattle.subnode_tree.specs.Plan.{paired}

-- the bytes are the same
abbrev pub same_bytes : List ℕ → List ℕ → Bool
same_bytes [] [] = true
same_bytes [] (b ∷ bs) = false
same_bytes (a ∷ rest) [] = false
same_bytes (a ∷ rest) (b ∷ bs) = (a == b) && same_bytes rest bs

-- a key stands in a list
abbrev pub has_key : ℕ → List ℕ → Bool
has_key key [] = false
has_key key (k ∷ ks) = (k == key) || has_key key ks

-- the set has just these keys
abbrev pub HasKeys : BTreeSet ℕ → List ℕ → Type 0
HasKeys set keys = (key : ℕ) → contains nat_cmp set key ≡ has_key key keys

-- an id of a data block, with a key above 0 and below a number
unfoldable pub may_stay : ℕ → Bid → Bool
may_stay next bid = not (is_internal bid) && (nat_le 2 bid.bits && nat_lt bid.bits next)

-- A block stays at a position where its bytes stay, unless its key is 0 or it stays at a position before: keys has those that do.
abbrev pub kept_one : ℕ → List ℕ → Option Bid → List ℕ → List ℕ → Option Bid
kept_one next keys None was now = None
kept_one next keys (Some bid) was now = if may_stay next bid && (not (has_key (key_of bid.bits) keys) && same_bytes was now) then Some bid else None

-- with one more that stays
abbrev pub keys_with : List ℕ → Option Bid → List ℕ
keys_with keys None = keys
keys_with keys (Some bid) = keys ++ key_of bid.bits ∷ []

-- what stays of data with these ids and bytes where others are put, position by position
abbrev pub kept_from : ℕ → List ℕ → List (Option Bid) → List (List ℕ) → List (List ℕ) → List (Option Bid)
kept_from next keys [] was now = []
kept_from next keys (id ∷ ids) [] now = []
kept_from next keys (id ∷ ids) (w ∷ was) [] = []
kept_from next keys (id ∷ ids) (w ∷ was) (b ∷ now) = kept_one next keys id w b ∷ kept_from next (keys_with keys (kept_one next keys id w b)) ids was now

-- what stays of one data tree
abbrev pub kept_list : ℕ → List (Option Bid) → List (List ℕ) → List (List ℕ) → List (Option Bid)
kept_list next ids was now = kept_from next [] ids was now

-- ids that may be kept of one data tree: none is named twice, and none behind the data's end
pub record Keeps (next : ℕ) (keep : List (Option Bid)) (bs : List (List ℕ)) : Type 0 where
  pub may : MayKeep next keep
  pub once : (key : ℕ) → count_of key (kept_keys keep) ≤ 1
  pub short : length keep ≤ length bs

-- ---- subnodes

-- The path of a subnode: as many ids of the path before it as subnodes stand above it, and its own id.
abbrev pub path_after : List ℕ → Flat → List ℕ
path_after last f = take f.level last ++ f.nid ∷ []

-- the path of each subnode, where one with a path comes before the first
abbrev pub paths_after : List ℕ → List Flat → List (List ℕ)
paths_after last [] = []
paths_after last (f ∷ flats) = path_after last f ∷ paths_after (path_after last f) flats

-- the path of each subnode of a node
abbrev pub paths_of : List Flat → List (List ℕ)
paths_of flats = paths_after [] flats

-- the ids are the same
abbrev pub same_path : List ℕ → List ℕ → Bool
same_path a b = same_bytes a b

-- What stays of data that is put for a subnode with a path, where others had these paths, ids and data: what stays of the first with the same path, or nothing.
abbrev pub kept_among : ℕ → List (List ℕ) → List (List (Option Bid) × List (List ℕ)) → List ℕ → List (List ℕ) → List (Option Bid)
kept_among next [] had path now = []
kept_among next (p ∷ paths) [] path now = []
kept_among next (p ∷ paths) (one ∷ had) path now = if same_path p path then kept_list next one.0 one.1 now else kept_among next paths had path now

-- the same, where a node had these subnodes, with these ids of their data
abbrev pub kept_at : ℕ → List (List (Option Bid)) → List Flat → List ℕ → List (List ℕ) → List (Option Bid)
kept_at next ids was path now = kept_among next (paths_of was) (paired ids was) path now

-- what stays of each of some subnodes with these paths
abbrev pub kept_each : (List ℕ → List (List ℕ) → List (Option Bid)) → List (List ℕ) → List Flat → List (List (Option Bid))
kept_each kept [] new = []
kept_each kept (p ∷ paths) [] = []
kept_each kept (p ∷ paths) (f ∷ new) = kept p f.blocks ∷ kept_each kept paths new

-- What stays of the data of all subnodes of a node, where it had others with these ids: of each what stays of the subnode with the same path.
abbrev pub kept_subs : ℕ → List (List (Option Bid)) → List Flat → List Flat → List (List (Option Bid))
kept_subs next ids was new = kept_each (kept_at next ids was) (paths_of new) new

-- the keys of all that stays of subnodes
abbrev pub all_kept_keys : List (List (Option Bid)) → List ℕ
all_kept_keys keep = flat_map kept_keys keep

-- the first number, if there is one, is below another
abbrev pub first_below : List ℕ → ℕ → Bool
first_below [] n = true
first_below (k ∷ ks) n = nat_lt k n

-- Subnodes beside each other ascend strictly by their ids: each has a higher one than the last before it at its level and below the same.
abbrev pub ascend_after : List ℕ → List Flat → Bool
ascend_after last [] = true
ascend_after last (f ∷ flats) = first_below (drop f.level last) f.nid && ascend_after (path_after last f) flats

-- the same of all subnodes of a node
abbrev pub subs_ascend : List Flat → Bool
subs_ascend flats = ascend_after [] flats
