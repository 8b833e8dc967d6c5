-- What is said to a piece, as bytes.
use Rattle.std.specs.Prelude.{◌≡◌, ℕ, List, [], codes, ◌++◌, ◌∷◌}
use Rattle.line_server.specs.Lines.{Piece, line, too_long, further}
use Rattle.line_server.specs.declared.spoken.Spoken.{Spoken}
use Rattle.line_server.specs.declared.spoken.Spoken.TheVariants.{Reply, NoMemory, TooLong, Nothing}

-- what is said where there was no memory
abbrev pub no_memory_text : List ℕ
no_memory_text = codes "no memory" ++ 10 ∷ []

-- what is said to a line that is too long
abbrev pub too_long_text : List ℕ
too_long_text = codes "no limit line" ++ 10 ∷ []

abbrev pub spoken_text : Spoken → List ℕ
spoken_text (Reply text) = text
spoken_text NoMemory = no_memory_text
spoken_text TooLong = too_long_text
spoken_text Nothing = []

-- what is said to a piece that is no line: to the first of a line that is too long, that it is, and to a further one nothing
abbrev pub IsSaidTo : Piece → List ℕ → Type 0
IsSaidTo (line bytes) said = ⊥
IsSaidTo too_long said = said ≡ too_long_text
IsSaidTo further said = said ≡ []
