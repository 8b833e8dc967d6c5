-- The blocks that a data tree reaches, as their keys: each place that names one gives it once.
use Rattle.std.specs.Prelude.{◌≡◌, ◌==◌, ℕ, ◌+◌, if◌then◌else◌, List, [], ◌∷◌, ◌++◌, map, Option, None, Some, Result, Ok}
use Rattle.pst_base.specs.declared.ids.Bid.{Bid}
use Rattle.pst_base.specs.Ids.{key_of}
use Rattle.data_tree.specs.declared.source.TreeStop.{TreeStop}
use Rattle.data_tree.specs.Tree.{all_below, and_then, below, bids_of, fetched, is_internal, is_listing, leaves, listed, names_of}

-- the keys of some ids
abbrev pub keys_of : List Bid → List ℕ
keys_of bids = map (λ (bid : Bid). key_of bid.bits) bids

-- the blocks that a block of level 1 names
abbrev pub named_in : Option (List ℕ) → List ℕ
named_in None = []
named_in (Some b) = keys_of (names_of b)

-- blocks of level 1, each with those that it names
abbrev pub under : (ℕ → Option (List ℕ)) → List Bid → List ℕ
under find [] = []
under find (bid ∷ bids) = key_of bid.bits ∷ (named_in (find (key_of bid.bits)) ++ under find bids)

-- what a block of level 1 or 2 leads to
abbrev pub led_from : (ℕ → Option (List ℕ)) → Option (List ℕ) → List ℕ
led_from find None = []
led_from find (Some b) = if is_listing 1 b then keys_of (names_of b) else (if is_listing 2 b then under find (names_of b) else [])

-- the blocks of a data tree, those that name others too
unfoldable pub data_keys : (ℕ → Option (List ℕ)) → Bid → List ℕ
data_keys find bid = if bid.bits == 0 then [] else key_of bid.bits ∷ (if is_internal bid then led_from find (find (key_of bid.bits)) else [])

-- as readings, which have the faults of the ids' own: one of the blocks that one of level 2 names, with those that it names
abbrev pub below_keys : (ℕ → Option (List ℕ)) → Bid → Bid → Result (List ℕ) TreeStop
below_keys find parent bid = and_then (below find parent bid) (λ here. Ok (key_of bid.bits ∷ keys_of here))

-- all that it names
abbrev pub under_keys : (ℕ → Option (List ℕ)) → Bid → List Bid → Result (List ℕ) TreeStop
under_keys find parent bids = and_then (all_below find parent bids) (λ here. Ok (under find bids))

-- what a block of level 1 names
abbrev pub leaf_keys : Bid → List ℕ → Result (List ℕ) TreeStop
leaf_keys bid b = and_then (leaves bid b) (λ here. Ok (keys_of here))

-- what a block of level 1 or 2 leads to
unfoldable pub led_keys : (ℕ → Option (List ℕ)) → Bid → List ℕ → Result (List ℕ) TreeStop
led_keys find bid b = and_then (listed find bid b) (λ here. Ok (led_from find (Some b)))

-- such a block with what it leads to
abbrev pub marked_keys : (ℕ → Option (List ℕ)) → Bid → Result (List ℕ) TreeStop
marked_keys find bid = and_then (fetched find bid) (λ b. and_then (led_keys find bid b) (λ more. Ok (key_of bid.bits ∷ more)))

-- the whole tree: the fault of a block that names others, or all keys
abbrev pub data_keys_read : (ℕ → Option (List ℕ)) → Bid → Result (List ℕ) TreeStop
data_keys_read find bid = and_then (bids_of find bid) (λ bids. Ok (data_keys find bid))

-- how often a key stands in a list
abbrev pub count_of : ℕ → List ℕ → ℕ
count_of key [] = 0
count_of key (k ∷ ks) = (if k == key then 1 else 0) + count_of key ks

-- each key stands in both as often
abbrev pub AreSame : List ℕ → List ℕ → Type 0
AreSame xs ys = (key : ℕ) → count_of key xs ≡ count_of key ys
