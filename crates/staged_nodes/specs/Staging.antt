-- How a transaction keeps its changes.
use Rattle.std.specs.Prelude.{◌≡◌, ◌≤◌, ◌<◌, ◌^◌, ◌-◌, ◌⊎◌, ℕ, Bool, true, false, min, List, [], ◌∷◌, Option, None, Some, IsSome}
use Rattle.std.specs.BTreeMap as tree
use Rattle.std.specs.FinMap as map
use Rattle.std.specs.Ordering.{nat_cmp}
use Rattle.pst_base.specs.declared.ids.Nid.{Nid}
use Rattle.node_port.specs.Nodes.{IsAfter, Nodes, node_at}
use Rattle.node_port.specs.declared.node.NodeRec.{NodeRec}
use Rattle.staged_nodes.specs.declared.slots.Slot.{Slot}
use Rattle.staged_nodes.specs.declared.slots.Slot.TheVariants.{Empty, Changed}
use Rattle.staged_nodes.specs.declared.staging.StagedReady.{StagedReady}
use Rattle.staged_nodes.specs.declared.staging.Staging.{Staging}
use Rattle.staged_nodes.specs.Sizes.{MOST_STAGED}
use Rattle.staged_nodes.specs.Staged.{Staged, over, staged_size, with_changes}

abbrev pub Slots : Type 0
Slots = tree.BTreeMap ℕ Slot

-- what a slot says of a node, where there is one: nothing, or what became of it
abbrev pub said_by : Option Slot → Option (Option NodeRec)
said_by None = None
said_by (Some Empty) = None
said_by (Some (Changed node)) = Some node

-- what the slots say of the node of an id
abbrev pub change_at : Slots → ℕ → Option (Option NodeRec)
change_at m q = said_by (tree.get nat_cmp m q)

-- the slots have just these changes
abbrev pub HasChanges : Slots → Staged → Type 0
HasChanges m F = (q : ℕ) → map.get F q ≡ change_at m q

-- the slots say the same, and those that were there are there
abbrev pub SameChanges : Slots → Slots → Type 0
SameChanges m n = (q : ℕ) → (change_at n q ≡ change_at m q) × (IsSome (tree.get nat_cmp m q) → IsSome (tree.get nat_cmp n q))

-- there is a slot for each of these changes
abbrev pub HasSlots : Slots → List (Nid × Option NodeRec) → Type 0
HasSlots m [] = Unit {0}
HasSlots m (c ∷ cs) = IsSome (tree.get nat_cmp m (c.0).bits) × HasSlots m cs

-- the node of an id is put
abbrev pub IsPut : Slots → ℕ → Type 0
IsPut m q = (node : NodeRec) × (change_at m q ≡ Some (Some node))

-- the nodes M are the nodes N with the changes of the slots
abbrev pub LiesOver : Nodes → Slots → Nodes → Type 0
LiesOver N m M = (q : ℕ) → node_at M q ≡ over (change_at m q) (node_at N q)

-- A transaction has just these changes, and knows how much they put, which isn't too much.
pub record IsStaged (s : Staging) (F : Staged) : Type 0 where
  pub changes : HasChanges s.slots F
  pub size : s.size ≡ staged_size F
  pub few : s.size ≤ MOST_STAGED

-- a plan of these changes and counters over a transaction, which tells how much would be put, up to 2^60
pub record Fits (s : Staging) (ready : StagedReady) (last : List ℕ) (cs : List (Nid × Option NodeRec)) : Type 0 where
  pub nodes : ready.nodes.items ≡ cs
  pub counters : ready.counts.last ≡ last
  pub size : (F : Staged) → IsStaged s F → ready.size ≡ min (staged_size (with_changes F cs)) (2 ^ 60)

-- the least id above one whose node is put; or there is none
abbrev pub IsNextPut : Slots → Option Nid → Option Nid → Type 0
IsNextPut m after None = (q : ℕ) → IsAfter after q → IsPut m q → ⊥
IsNextPut m after (Some next) = IsAfter after next.bits × IsPut m next.bits × ((q : ℕ) → IsAfter after q → q < next.bits → IsPut m q → ⊥)

-- above this number, or any for none
abbrev pub IsAbove : Option ℕ → ℕ → Type 0
IsAbove None q = Unit {0}
IsAbove (Some nid) q = nid < q

-- whether a slot, where there is one, puts a node
abbrev pub puts : Option Slot → Bool
puts None = false
puts (Some Empty) = false
puts (Some (Changed None)) = false
puts (Some (Changed (Some node))) = true

-- the first slot above a number, and whether it puts a node; or there is none
abbrev pub IsNextSlot : Slots → Option ℕ → Option (ℕ × Bool) → Type 0
IsNextSlot m after None = (q : ℕ) → IsAbove after q → tree.get nat_cmp m q ≡ None
IsNextSlot m after (Some slot) = IsAbove after slot.0 × (puts (tree.get nat_cmp m slot.0) ≡ slot.1) × ((q : ℕ) → IsAbove after q → q < slot.0 → tree.get nat_cmp m q ≡ None)

-- the first number above one whose slot puts a node; or there is none
abbrev pub IsNextFull : Slots → Option ℕ → Option ℕ → Type 0
IsNextFull m after None = (q : ℕ) → IsAbove after q → IsPut m q → ⊥
IsNextFull m after (Some nid) = IsAbove after nid × IsPut m nid × ((q : ℕ) → IsAbove after q → q < nid → IsPut m q → ⊥)

-- from one number to another there are slots that put none alone
abbrev pub Passes : Slots → Option ℕ → Option ℕ → Type 0
Passes m from to = ((q : ℕ) → IsAbove to q → IsAbove from q) × ((q : ℕ) → IsAbove from q → (IsPut m q → ⊥) ⊎ IsAbove to q)

-- how many numbers of 4 bytes, and none, may still come
abbrev pub left : Option ℕ → ℕ
left None = 2 ^ 32
left (Some nid) = 2 ^ 32 - 1 - nid

-- the same of ids
abbrev pub ids_left : Option Nid → ℕ
ids_left None = 2 ^ 32
ids_left (Some nid) = 2 ^ 32 - 1 - nid.bits

-- the node of an id is gone
abbrev pub IsGone : Slots → ℕ → Type 0
IsGone m q = change_at m q ≡ Some None

-- no node of these is left at an id
abbrev pub NoneLeft : Nodes → Slots → ℕ → Type 0
NoneLeft N m q = (node_at N q ≡ None) ⊎ IsGone m q

-- the least id above one of a node of these that isn't gone; or there is none
abbrev pub IsNextBelow : Nodes → Slots → Option Nid → Option Nid → Type 0
IsNextBelow N m after None = (q : ℕ) → IsAfter after q → NoneLeft N m q
IsNextBelow N m after (Some next) = IsAfter after next.bits × IsSome (node_at N next.bits) × (IsGone m next.bits → ⊥) × ((q : ℕ) → IsAfter after q → q < next.bits → NoneLeft N m q)

-- from one id to another no node of these is left
abbrev pub PassesBelow : Nodes → Slots → Option Nid → Option Nid → Type 0
PassesBelow N m from to = ((q : ℕ) → IsAfter to q → IsAfter from q) × ((q : ℕ) → IsAfter from q → NoneLeft N m q ⊎ IsAfter to q)

-- an id that came is above the one before
abbrev pub Rises : Option Nid → Option Nid → Type 0
Rises after None = Unit {0}
Rises after (Some next) = IsAfter after next.bits

-- the changes that slots have, in their order
abbrev pub kept_slots : List (ℕ × Slot) → List (ℕ × Option NodeRec)
kept_slots [] = []
kept_slots ((q, Empty) ∷ es) = kept_slots es
kept_slots ((q, Changed node) ∷ es) = (q, node) ∷ kept_slots es
