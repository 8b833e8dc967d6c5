-- What is known of open pins, by their numbers.
use Rattle.std.specs.Prelude.{◌==◌, ℕ, List, Option, None, Some, position}
use Rattle.pinned_session.specs.declared.pins.PinView.{PinView}

-- the place of the pin that a line names, if it is open
abbrev pub place_of : Option ℕ → List PinView → Option ℕ
place_of None views = None
place_of (Some p) views = position (λ (view : PinView). view.number == p) views
