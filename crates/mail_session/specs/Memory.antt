-- Nodes in memory with pins, each of which has its own copy of them.
use Rattle.std.specs.Prelude.{◌≡◌, ◌==◌, ◌<◌, ◌-◌, ◌^◌, ◌⊎◌, if◌then◌else◌, ℕ, Bool, List, [], ◌∷◌, map, Option, None, Some, IsSome}
use Rattle.std.specs.Ordering.{nat_cmp}
use Rattle.std.specs.BTreeMap as tree
use Rattle.pst_base.specs.declared.ids.Nid.{Nid}
use Rattle.node_port.specs.declared.node.NodeRec.{NodeRec}
use Rattle.node_port.specs.Nodes.{IsAfter, IsNext, Nodes, node_at}
use Rattle.node_port.specs.Pins.{Pins}
use Rattle.node_port.specs.Slots.{Keeps}
use Rattle.node_port.specs.Stops.{Room, SameSpace, ample}
use Rattle.pst_outside.specs.World.{Image, World}
use Rattle.file_filling.specs.store_session.Disks.{Effects, effects_of}
use Rattle.mail_session.specs.declared.memory.MemoryKeeper.{MemoryKeeper}
use Rattle.mail_session.specs.declared.copied.MemoryPin.{MemoryPin}

-- nodes by the bits of their ids
abbrev pub Copied : Type 0
Copied = tree.BTreeMap ℕ NodeRec

-- just these nodes were copied
abbrev pub Copies : Copied → Nodes → Type 0
Copies m N = (q : ℕ) → node_at N q ≡ tree.get nat_cmp m q

-- the first of them above an id; or there is none
abbrev pub IsNextCopied : Copied → Option Nid → Option Nid → Type 0
IsNextCopied m after None = (q : ℕ) → IsAfter after q → tree.get nat_cmp m q ≡ None
IsNextCopied m after (Some next) = IsAfter after next.bits × IsSome (tree.get nat_cmp m next.bits) × ((q : ℕ) → IsAfter after q → q < next.bits → tree.get nat_cmp m q ≡ None)

-- the least node above an id, with its content; or there is none
abbrev pub IsNextNode : Nodes → Option Nid → Option (Nid × NodeRec) → Type 0
IsNextNode N after None = IsNext N after None
IsNextNode N after (Some next) = IsNext N after (Some next.0) × (node_at N (next.0).bits ≡ Some next.1)

-- an id is above that one, if there is a node
abbrev pub IsBeyond : Option Nid → Option (Nid × NodeRec) → Type 0
IsBeyond after None = Unit {0}
IsBeyond after (Some next) = IsAfter after (next.0).bits

-- the nodes up to an id were copied, and none above it
abbrev pub CopiesTo : Option Nid → Copied → Nodes → Type 0
CopiesTo passed m N = (q : ℕ) → (IsAfter passed q → tree.get nat_cmp m q ≡ None) × (IsAfter passed q ⊎ (node_at N q ≡ tree.get nat_cmp m q))

-- how many numbers of 4 bytes may still come behind an id
abbrev pub ids_left : Option Nid → ℕ
ids_left None = 2 ^ 32
ids_left (Some nid) = 2 ^ 32 - 1 - nid.bits

-- the pin of a number
abbrev pub pin_at : ℕ → List MemoryPin → Option MemoryPin
pin_at p [] = None
pin_at p (pin ∷ pins) = if pin.number == p then Some pin else pin_at p pins

-- the pins without that of a number
abbrev pub pins_without : ℕ → List MemoryPin → List MemoryPin
pins_without p [] = []
pins_without p (pin ∷ pins) = if pin.number == p then pins else pin ∷ pins_without p pins

-- a pin that is there tells these nodes
abbrev pub TellsCopy : Option MemoryPin → Nodes → Type 0
TellsCopy None N = ⊥
TellsCopy (Some pin) N = Copies pin.nodes N

-- a pin as a keeper tells it: in memory it holds no slots of a file
abbrev pub told_of : MemoryPin → ℕ × List Bool
told_of pin = (pin.number, [])

-- the pins as a keeper tells them
abbrev pub pins_of : ℕ → List MemoryPin → Pins
pins_of given pins = record { given = given; opened = map told_of pins }

-- ---- what a keeper in memory is to a session

abbrev pub memory_holds : MemoryKeeper → World → Nodes → Type 0
memory_holds k v = Keeps k.nodes.nodes

abbrev pub memory_last : MemoryKeeper → List ℕ
memory_last k = k.nodes.counts.last

-- more room than any change needs, beside its pins
abbrev pub memory_room : MemoryKeeper → Room
memory_room k = record ample { pins = pins_of k.given k.pins.items }

abbrev pub memory_pinned : MemoryKeeper → World → ℕ → Nodes → Type 0
memory_pinned k v p N = TellsCopy (pin_at p k.pins.items) N

-- there is no disk, of which nothing is asked
abbrev pub memory_stands : List ℕ → Image → Nodes → List ℕ → Type 0
memory_stands found image N last = Unit {0}

abbrev pub memory_rests : Image → Type 0
memory_rests image = Unit {0}

-- neither a commit nor a save writes
abbrev pub StaysImage : ℕ → Image → Image → Type 0
StaysImage bytes old new = (new ≡ old) × (bytes ≡ 0)

abbrev pub memory_effects : Pins → Effects
memory_effects pins = effects_of pins (λ image room. SameSpace ample room) (λ held cs. StaysImage) StaysImage
