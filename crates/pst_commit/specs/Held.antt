-- Trees of a file that are held beside those that its header names: what an earlier header named, while commits go on.
use Rattle.std.specs.Prelude.{◌≡◌, ◌==◌, ◌*◌, if◌then◌else◌, ℕ, Bool, List, [], ◌∷◌, map, length, Option, None, Some, ◌||◌}
use Rattle.std.specs.Option.{option_map}
use Rattle.std.specs.List.{list_any}
use Rattle.pst_base.specs.declared.ids.Bref.{Bref}
use Rattle.pst_header.specs.declared.header.Header.{Header}
use Rattle.alloc_map.specs.Slots.{is_used}
use Rattle.alloc_map.specs.Standing.{occupied, IsCovered}
use Rattle.file_layout.specs.Nodes.{NodeMap, Lays, places_of}
use Rattle.node_port.specs.Nodes.{Nodes}
use Rattle.lays_kept.specs.Stands.{AreThose}
use Rattle.pst_commit.specs.declared.store.Pin.{Pin}

-- the header with other roots of both trees
abbrev pub rooted : Header → Bref → Bref → Header
rooted header nbt bbt = record header { nbt = nbt; bbt = bbt }

-- The trees with these roots stand in a file with a header for these nodes, and just the slots of their pages and blocks and of all fixed pages are used.
pub record HoldsTrees (header : Header) (file : List ℕ) (nbt bbt : Bref) (used : List Bool) (N : Nodes) : Type 0 where
  pub m : NodeMap
  pub lays : Lays (rooted header nbt bbt) file m
  pub those : AreThose m N
  pub size : length used ≡ 3968 * 8192
  pub covered : IsCovered (occupied (places_of lays.blocks lays.nodes) 8192) used

-- trees of these slots that stand in the one file stand in the other
abbrev pub KeepsTrees : Header → Header → List ℕ → List ℕ → List Bool → Type 0
KeepsTrees old new file other used = (nbt bbt : Bref) (N : Nodes) → HoldsTrees old file nbt bbt used N → HoldsTrees new other nbt bbt used N

-- the slot is one that a pin holds
abbrev pub is_held : List (ℕ × List Bool) → ℕ → Bool
is_held opened slot = list_any (λ (pin : ℕ × List Bool). is_used pin.1 slot) opened

-- just the slots are used that the file uses or that a pin holds
pub record IsWithHeld (used : List Bool) (opened : List (ℕ × List Bool)) (all : List Bool) : Type 0 where
  pub size : length all ≡ length used
  pub either : (slot : ℕ) → is_used all slot ≡ (is_used used slot || is_held opened slot)

-- all trees that stand in the one file stand in the other
abbrev pub LeavesTrees : Header → Header → List ℕ → List ℕ → Type 0
LeavesTrees old new file other = (used : List Bool) → KeepsTrees old new file other used

-- ---- pins of a file

-- the pins as a keeper tells them: the number of each, and the slots that it holds
abbrev pub opened_of : List (Pin × List Bool) → List (ℕ × List Bool)
opened_of held = map (λ (pin : Pin × List Bool). (pin.0.number, pin.1)) held

-- the pin of a number, with its slots
abbrev pub held_at : ℕ → List (Pin × List Bool) → Option (Pin × List Bool)
held_at p [] = None
held_at p (pin ∷ held) = if pin.0.number == p then Some pin else held_at p held

-- the pin of a number
abbrev pub pin_at : ℕ → List (Pin × List Bool) → Option Pin
pin_at p held = option_map (λ (pin : Pin × List Bool). pin.0) (held_at p held)

-- the pins without that of a number
abbrev pub held_without : ℕ → List (Pin × List Bool) → List (Pin × List Bool)
held_without p [] = []
held_without p (pin ∷ held) = if pin.0.number == p then held else pin ∷ held_without p held

-- the trees of a pin that may be there stand in a file with a header
abbrev pub StandsAt : Header → List ℕ → Option (Pin × List Bool) → Nodes → Type 0
StandsAt header file None N = ⊥
StandsAt header file (Some pin) N = HoldsTrees header file pin.0.nbt pin.0.bbt pin.1 N

-- the trees of each pin that stand in the one file stand in the other
abbrev pub KeepsEach : Header → Header → List ℕ → List ℕ → List (Pin × List Bool) → Type 0
KeepsEach old new file other [] = Unit {0}
KeepsEach old new file other (pin ∷ held) = KeepsTrees old new file other pin.1 × KeepsEach old new file other held
