-- What making a pin and giving one up come to.
use Rattle.std.specs.Prelude.{◌≡◌, ◌⊎◌, ℕ, List, Option}
use Rattle.line_server.specs.Spoken.{no_memory_text}
use Rattle.session_lines.specs.Texts.{pin_text}
use Rattle.session_lines.specs.declared.line.PinReply.TheVariants.{Pinned, PinsFull}
use Rattle.pinned_session.specs.Run.{IsFull, MakesPin, unpinned_text}
use Rattle.pinned_session.specs.Sitting.{Sitting, tree_at, without_pin}

-- a pin was made, or can't be, or there was no memory
abbrev pub PinsAs : (Sitting → Type 0) → Sitting → List ℕ → Type 0
PinsAs has S said =
    ((Z : Sitting) × MakesPin S Z × (said ≡ pin_text (Pinned Z.given)) × has Z)
    ⊎ ((IsFull S × (said ≡ pin_text PinsFull) × has S)
    ⊎ ((said ≡ no_memory_text) × has S))

-- a pin was given up, or is none, or there was no memory
abbrev pub UnpinsAs : (Sitting → Type 0) → Sitting → Option ℕ → List ℕ → Type 0
UnpinsAs has S pin said = ((said ≡ unpinned_text (tree_at pin S)) × has (without_pin pin S)) ⊎ ((said ≡ no_memory_text) × has S)
