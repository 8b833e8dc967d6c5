-- The state of a session over a store: the tree with its searches as it is now, the pins that are open, each with the tree of the moment when it was made, and the views that are open.
use Rattle.std.specs.Prelude.{◌==◌, ◌<◌, ◌≤◌, if◌then◌else◌, ℕ, Bool, List, [], ◌∷◌, map, Option, None, Some}
use Rattle.node_port.specs.Pins.{Pins}
use Rattle.mail_searches.specs.Searching.{Searching}
use Rattle.pinned_session.specs.Viewing.{Viewing, standing}

-- an open pin: its number, which slots of 64 bytes it holds, and the tree with its searches that it keeps
pub record OpenPin : Type 0 where
  pub number : ℕ
  pub used : List Bool
  pub tree : Searching

-- the present tree with its searches, how many numbers of pins were given, the open pins, and the views
pub record Sitting : Type 0 where
  pub now : Searching
  pub given : ℕ
  pub pins : List OpenPin
  pub views : Viewing

-- a session that begins has no pins and no views
abbrev pub begins : Searching → Sitting
begins X = record { now = X; given = 0; pins = []; views = record { given = 0; opened = [] } }

-- another tree is there: the views whose folder is gone are closed
abbrev pub with_tree : Searching → Sitting → Sitting
with_tree Y S = record S { now = Y; views = standing Y.tree.places S.views }

-- what a keeper tells of a pin
abbrev pub slots_of : OpenPin → ℕ × List Bool
slots_of pin = (pin.number, pin.used)

-- the pins as a keeper tells them
abbrev pub pins_of : Sitting → Pins
pins_of S = record { given = S.given; opened = map slots_of S.pins }

-- the tree of the pin of a number, if that is open
abbrev pub tree_of : ℕ → List OpenPin → Option Searching
tree_of p [] = None
tree_of p (pin ∷ pins) = if pin.number == p then Some pin.tree else tree_of p pins

-- the same of a number that a line names, or of one that no pin has
abbrev pub tree_at : Option ℕ → Sitting → Option Searching
tree_at None S = None
tree_at (Some p) S = tree_of p S.pins

-- the pins without that of a number
abbrev pub pins_without : ℕ → List OpenPin → List OpenPin
pins_without p [] = []
pins_without p (pin ∷ pins) = if pin.number == p then pins else pin ∷ pins_without p pins

-- the state without that pin
abbrev pub without_pin : Option ℕ → Sitting → Sitting
without_pin None S = S
without_pin (Some p) S = record S { pins = pins_without p S.pins }

-- the numbers of pins ascend strictly, from above the one to the other at most
abbrev pub AreNumbered : ℕ → ℕ → List OpenPin → Type 0
AreNumbered low last [] = low ≤ last
AreNumbered low last (pin ∷ pins) = (low < pin.number) × AreNumbered pin.number last pins
