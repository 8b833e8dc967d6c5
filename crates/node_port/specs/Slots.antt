-- Nodes in slots of which some are empty.
use Rattle.std.specs.Prelude.{◌≡◌, ℕ, ◌<◌, ◌-◌, ◌^◌, ◌⊎◌, Bool, List, [], ◌∷◌, Option, None, Some, IsSome, is_some}
use Rattle.std.specs.Ordering.{nat_cmp}
use Rattle.std.specs.BTreeMap as tree
use Rattle.pst_base.specs.declared.ids.Nid.{Nid}
use Rattle.node_port.specs.declared.node.NodeRec.{NodeRec}
use Rattle.node_port.specs.Nodes.{Nodes, node_at}

abbrev pub Slots : Type 0
Slots = tree.BTreeMap ℕ (Option NodeRec)

-- what is in a slot that may be missing
abbrev pub kept : Option (Option NodeRec) → Option NodeRec
kept None = None
kept (Some slot) = slot

-- the slots have just these nodes
abbrev pub Keeps : Slots → Nodes → Type 0
Keeps m N = (q : ℕ) → node_at N q ≡ kept (tree.get nat_cmp m q)

-- the nodes and the slots that were there are there
abbrev pub SameNodes : Slots → Slots → Type 0
SameNodes m n = (q : ℕ) → (kept (tree.get nat_cmp n q) ≡ kept (tree.get nat_cmp m q)) × (IsSome (tree.get nat_cmp m q) → IsSome (tree.get nat_cmp n q))

-- there is a slot for each change
abbrev pub HasSlots : Slots → List (Nid × Option NodeRec) → Type 0
HasSlots m [] = Unit {0}
HasSlots m (c ∷ cs) = IsSome (tree.get nat_cmp m (c.0).bits) × HasSlots m cs

-- above this number, or any for none
abbrev pub IsAbove : Option ℕ → ℕ → Type 0
IsAbove None q = Unit {0}
IsAbove (Some nid) q = nid < q

-- the first slot above a number, and whether a node is in it; or there is none
abbrev pub IsNextSlot : Slots → Option ℕ → Option (ℕ × Bool) → Type 0
IsNextSlot m after None = (q : ℕ) → IsAbove after q → kept (tree.get nat_cmp m q) ≡ None
IsNextSlot m after (Some slot) = IsAbove after slot.0 × (is_some (kept (tree.get nat_cmp m slot.0)) ≡ slot.1) × ((q : ℕ) → IsAbove after q → q < slot.0 → kept (tree.get nat_cmp m q) ≡ None)

-- the first slot above a number that has a node; or there is none
abbrev pub IsNextKept : Slots → Option ℕ → Option ℕ → Type 0
IsNextKept m after None = (q : ℕ) → IsAbove after q → kept (tree.get nat_cmp m q) ≡ None
IsNextKept m after (Some nid) = IsAbove after nid × IsSome (kept (tree.get nat_cmp m nid)) × ((q : ℕ) → IsAbove after q → q < nid → kept (tree.get nat_cmp m q) ≡ None)

-- from one number to another there are slots without nodes alone
abbrev pub Passes : Slots → Option ℕ → Option ℕ → Type 0
Passes m from to = ((q : ℕ) → IsAbove to q → IsAbove from q) × ((q : ℕ) → IsAbove from q → (kept (tree.get nat_cmp m q) ≡ None) ⊎ IsAbove to q)

-- how many numbers of 4 bytes, and none, may still come
abbrev pub left : Option ℕ → ℕ
left None = 2 ^ 32
left (Some nid) = 2 ^ 32 - 1 - nid
