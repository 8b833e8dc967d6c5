-- The slots that pins hold beside a file's own.
use Rattle.std.specs.Prelude.{◌≡◌, ℕ, Bool, true, List, [], length, Option, None, All}
use Rattle.alloc_map.specs.Slots.{is_used}
use Rattle.pst_commit.specs.declared.store.Pin.{Pin}
use Rattle.pst_commit.specs.Held.{IsWithHeld, opened_of}
use Rattle.plan_placing.specs.Places.{placing_over}

-- each pin has as many slots
abbrev pub AreLong : ℕ → List (Pin × List Bool) → Type 0
AreLong n pins = All (λ (pin : Pin × List Bool). length pin.1 ≡ n) pins

-- The slots of each pin are as many as the file's own, and so are those of the union, which is there where a pin is kept.
pub record AreSized (own : List Bool) (pins : List (Pin × List Bool)) (all : Option (List Bool)) : Type 0 where
  pub each : AreLong (length own) pins
  pub whole : length (placing_over own all) ≡ length own
  pub none : all ≡ None → pins ≡ []

-- The same, and a plan places beside just the file's own slots and those of pins.
pub record IsHolding (own : List Bool) (pins : List (Pin × List Bool)) (all : Option (List Bool)) : Type 0 where
  pub sized : AreSized own pins all
  pub with_held : IsWithHeld own (opened_of pins) (placing_over own all)

-- as many slots are used, and others besides
pub record IsOver (used all : List Bool) : Type 0 where
  pub size : length all ≡ length used
  pub each : (slot : ℕ) → is_used used slot ≡ true → is_used all slot ≡ true
