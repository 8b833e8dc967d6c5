-- A text that is read character by character.
use Rattle.std.specs.Prelude.{◌≡◌, ℕ, ◌<◌, List, ◌∷◌, length, Option, Some, IsUtf8, chars}

-- the character c stood at the front, and new is what follows it
pub record TakesFirst (old : List ℕ) (c : ℕ) (new : List ℕ) : Type 0 where
  pub first : chars old ≡ c ∷ chars new
  pub utf8 : IsUtf8 new
  pub shorter : length new < length old

-- read is what stood at the front, and new is what follows it
pub record TakesFront (read : Option (ℕ × List ℕ)) (old : List ℕ) (value : ℕ) (new : List ℕ) : Type 0 where
  pub front : read ≡ Some (value, chars new)
  pub utf8 : IsUtf8 new
  pub shorter : length new < length old
