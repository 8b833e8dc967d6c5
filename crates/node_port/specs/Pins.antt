-- The pins of a keeper: each keeps the nodes that were told when it was made.
use Rattle.std.specs.Prelude.{◌≡◌, ◌⊎◌, ◌==◌, ◌<◌, ◌≤◌, ◌+◌, ◌-◌, ◌^◌, if◌then◌else◌, ℕ, Bool, List, [], ◌∷◌, ◌++◌, length}
use Rattle.std.specs.List.{list_any}
use Rattle.pst_base.specs.declared.stops.MemOr.{MemOr}
use Rattle.pst_base.specs.declared.stops.MemOr.TheVariants as mem
use Rattle.node_port.specs.declared.pinner.PinsFull.{PinsFull}

-- how many numbers were given, and of each pin that is open its number and which slots of 64 bytes its file uses
pub record Pins : Type 0 where
  pub given : ℕ
  pub opened : List (ℕ × List Bool)

abbrev pub no_pins : Pins
no_pins = record { given = 0; opened = [] }

-- a pin of this number is open
abbrev pub has_pin : ℕ → Pins → Bool
has_pin p pins = list_any (λ (pin : ℕ × List Bool). pin.0 == p) pins.opened

-- no pin can be made: 16 are open, or all numbers of 32 bits were given
abbrev pub ArePinsFull : Pins → Type 0
ArePinsFull pins = (16 ≤ length pins.opened) ⊎ (2 ^ 32 - 1 ≤ pins.given)

-- a pin was made, with the next number, where fewer than 16 were open and a number was left
pub record AddsPin (old new : Pins) (p : ℕ) : Type 0 where
  pub few : length old.opened < 16
  pub left : old.given < 2 ^ 32 - 1
  pub number : p ≡ old.given + 1
  pub used : List Bool
  pub is : new ≡ record { given = p; opened = old.opened ++ (p, used) ∷ [] }

-- the open pins without that of a number
abbrev pub opened_without : ℕ → List (ℕ × List Bool) → List (ℕ × List Bool)
opened_without p [] = []
opened_without p (pin ∷ opened) = if pin.0 == p then opened else pin ∷ opened_without p opened

-- the pins without that of a number, which isn't given again
abbrev pub without_pin : ℕ → Pins → Pins
without_pin p pins = record { given = pins.given; opened = opened_without p pins.opened }

-- why no pin was made
abbrev pub PinStops : Pins → MemOr PinsFull → Type 0
PinStops pins mem.Memory = Unit {0}
PinStops pins (mem.Refused full) = ArePinsFull pins
