-- How often the blocks of a file are referred to, before and after edits of its nodes.
use Rattle.std.specs.Prelude.{◌≡◌, ◌≤◌, ℕ, ◌+◌, ◌-◌, Bool, true, false, if◌then◌else◌, List, [], ◌∷◌, Option, None, Some}
use Rattle.btree_pages.specs.declared.entry.BlockEntry.{BlockEntry}
use Rattle.btree_pages.specs.declared.entry.NodeEntry.{NodeEntry}
use Rattle.file_blocks.specs.Blocks.{entry_key}
use Rattle.tree_edit.specs.Edits.{entry_with, of_some}
use Rattle.node_layout.specs.Lookups.{edit_at, or_old, sum_of}
use Rattle.node_reach.specs.Reach.{node_keys}
use Rattle.data_tree.specs.Keys.{count_of}
use Rattle.node_layout.specs.Joined.{node_id, Recounts}

-- there is an edit
abbrev pub is_edit : {E : Type 0} → Option (Option E) → Bool
is_edit None = false
is_edit (Some o) = true

-- the sum over those entries that are chosen
abbrev pub sum_if : {E : Type 0} → (E → Bool) → (E → ℕ) → List E → ℕ
sum_if p f [] = 0
sum_if p f (e ∷ es) = (if p e then f e else 0) + sum_if p f es

-- the sum over the entries that edits put
abbrev pub sum_put : {E : Type 0} → (E → ℕ) → List (ℕ × Option E) → ℕ
sum_put f [] = 0
sum_put f (d ∷ ds) = of_some f d.1 + sum_put f ds

-- an entry whose key has an edit
abbrev pub is_edited : {E : Type 0} → (E → ℕ) → List (ℕ × Option E) → E → Bool
is_edited key ds e = is_edit (edit_at (key e) ds)

-- how often a node reaches a block
abbrev pub uses : (ℕ → Option (List ℕ)) → ℕ → NodeEntry → ℕ
uses find key e = count_of key (node_keys find e)

-- the numbers are those of the references to each block
abbrev pub AreRefs : (ℕ → Option (List ℕ)) → List NodeEntry → (ℕ → ℕ) → Type 0
AreRefs find es refs = (key : ℕ) → refs key ≡ sum_of (uses find key) es

-- how many references the nodes with an edit have now
abbrev pub taken : (ℕ → Option (List ℕ)) → List NodeEntry → List (ℕ × Option NodeEntry) → ℕ → ℕ
taken find es ds key = sum_if (is_edited node_id ds) (uses find key) es

-- and how many those that are put will have
abbrev pub put : (ℕ → Option (List ℕ)) → List (ℕ × Option NodeEntry) → ℕ → ℕ
put find ds key = sum_put (uses find key) ds

-- the numbers after them
abbrev pub refs_after : (refs taken put : ℕ → ℕ) → ℕ → ℕ
refs_after refs taken put key = (refs key - taken key) + put key

-- An edit takes a block away just where it was referred to and is so no more; any other of an old block changes only its number of references.
pub record FreesUnused (old : List BlockEntry) (ds : List (ℕ × Option BlockEntry)) (refs after : ℕ → ℕ) : Type 0 where
  pub kept : (key : ℕ) (e : BlockEntry) → 1 ≤ after key → entry_with entry_key key old ≡ Some e → Recounts e (or_old (edit_at key ds) (Some e))
  pub freed : (key : ℕ) → after key ≡ 0 → 1 ≤ refs key → edit_at key ds ≡ Some None
  pub fresh : (key : ℕ) (e : BlockEntry) → entry_with entry_key key old ≡ None → edit_at key ds ≡ Some (Some e) → 1 ≤ after key

-- No block is left that nothing refers to, but one to which nothing referred before.
abbrev pub NoneUnused : List BlockEntry → List BlockEntry → (refs after : ℕ → ℕ) → Type 0
NoneUnused old new refs after = (key : ℕ) (e : BlockEntry) → entry_with entry_key key new ≡ Some e → after key ≡ 0 → (refs key ≡ 0) × ((f : BlockEntry) × (entry_with entry_key key old ≡ Some f))
