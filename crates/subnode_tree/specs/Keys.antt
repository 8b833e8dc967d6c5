-- The blocks that a node's subnodes reach, as their keys: each place that names one gives it once.
use Rattle.std.specs.Prelude.{◌==◌, ℕ, zero, suc, ◌-◌, if◌then◌else◌, List, [], ◌∷◌, ◌++◌, map, Option, None, Some, Result, Ok, Err}
use Rattle.pst_base.specs.declared.ids.Bid.{Bid}
use Rattle.pst_base.specs.Ids.{key_of}
use Rattle.data_tree.specs.declared.source.TreeStop.{TreeStop}
use Rattle.data_tree.specs.Keys.{data_keys}
use Rattle.subnode_tree.specs.declared.blocks.SubEntry.{SubEntry}
use Rattle.subnode_tree.specs.Subnodes.{is_leaf, is_inner, listed_of, level_of}

-- a subnode, as a block lists it
abbrev pub Entry : Type 0
Entry = SubEntry

-- the blocks of level 0 that one of level 1 lists
abbrev pub listed_in : Option (List ℕ) → List ℕ
listed_in None = []
listed_in (Some b) = if is_leaf b then [] else (if is_inner b then map (λ l. key_of (l.block).bits) (listed_of b) else [])

-- the entries that a reading gives, or none
abbrev pub ok_entries : Result (List SubEntry) TreeStop → List SubEntry
ok_entries (Ok entries) = entries
ok_entries (Err stop) = []

-- what each entry leads to
abbrev pub each_keys : (SubEntry → List ℕ) → List SubEntry → List ℕ
each_keys keys [] = []
each_keys keys (entry ∷ entries) = keys entry ++ each_keys keys entries

-- the blocks of a tree of subnodes, and of their data and subnodes, while so many levels may follow
abbrev pub sub_keys_from : (ℕ → Option (List ℕ)) → ℕ → Bid → List ℕ
sub_keys_from find zero bid = if bid.bits == 0 then [] else key_of bid.bits ∷ listed_in (find (key_of bid.bits))
sub_keys_from find (suc deeper) bid =
    if bid.bits == 0 then []
    else key_of bid.bits ∷ (listed_in (find (key_of bid.bits)) ++ each_keys (λ (entry : SubEntry). data_keys find entry.content ++ sub_keys_from find deeper entry.subnodes) (ok_entries (level_of find (8 - deeper) bid)))

-- all blocks that the subnodes of a node reach, those that name or list others too
unfoldable pub sub_keys : (ℕ → Option (List ℕ)) → Bid → List ℕ
sub_keys find bid = sub_keys_from find 8 bid
