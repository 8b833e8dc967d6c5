-- What a server of lines has done: its turns, one after another.
use Rattle.std.specs.Prelude.{◌≡◌, ℕ, List, [], ◌∷◌}
use Rattle.pst_outside.specs.World.{World}
use Rattle.line_server.specs.Lines.{Piece, line, too_long, further}
use Rattle.line_server.specs.Spoken.{IsSaidTo}
use Rattle.line_server.specs.Worlds.{Listens, Quiet, SaysFront, Speaks}

-- from a state over a world, a line was answered by a text, which left a state over a world
abbrev pub Answering : Type 0 → Type 0 → Type 1
Answering S W = S → W → List ℕ → List ℕ → S → W → Type 0

-- from a state over a world, a line was answered by a stop, which left a state over a world
abbrev pub Stopping : Type 0 → Type 0 → Type 0 → Type 1
Stopping S W Stop = S → W → List ℕ → Stop → S → W → Type 0

-- a piece was answered: a line by the answerer, and what is no line without it
abbrev pub Answers : {S W : Type 0} → Answering S W → Piece → S → W → List ℕ → S → W → Type 0
Answers answers (line bytes) a v said b w = answers a v bytes said b w
Answers answers too_long a v said b w = IsSaidTo too_long said × (b ≡ a) × (w ≡ v)
Answers answers further a v said b w = IsSaidTo further said × (b ≡ a) × (w ≡ v)

-- a piece was answered by a stop: only a line can be
abbrev pub StopsAt : {S W Stop : Type 0} → Stopping S W Stop → Piece → S → W → Stop → S → W → Type 0
StopsAt stops (line bytes) a v stop b w = stops a v bytes stop b w
StopsAt stops too_long a v stop b w = ⊥
StopsAt stops further a v stop b w = ⊥

-- The answerer says nothing itself, whatever it answers.
pub record Hushes {S W Stop : Type 0} (view : W → World) (answers : Answering S W) (stops : Stopping S W Stop) : Type 0 where
  pub answering : (a b : S) (v w : W) (bytes said : List ℕ) → answers a v bytes said b w → (view w).tells → (view w).here.said ≡ (view v).here.said
  pub stopping : (a b : S) (v w : W) (bytes : List ℕ) (stop : Stop) → stops a v bytes stop b w → (view w).tells → (view w).here.said ≡ (view v).here.said

-- One turn: input was taken where that was wanted, a piece was answered, and then its reply was said: all of it, if it is to be whole.
pub record Turn {S W : Type 0} (view : W → World) (answers : Answering S W) (whole : Type 0) (piece : Piece) (reply : List ℕ) (a : S) (v : W) (b : S) (w : W) : Type 0 where
  pub heard : W
  pub hears : Listens (view v) (view heard)
  pub answered : W
  pub answer : Answers answers piece a heard reply b answered
  pub quiet : Quiet (view heard) (view answered)
  pub says : SaysFront reply (view answered) (view w)
  pub all_said : whole → Speaks reply (view answered) (view w)

-- Turns, one after another, each of these pieces and with these replies, and at the end maybe more input. All replies were said whole,
-- the last of them if it is to be.
abbrev pub Turns : {S W : Type 0} → (W → World) → Answering S W → Type 0 → List Piece → List (List ℕ) → S → W → S → W → Type 0
Turns view answers whole [] [] a v b w = (b ≡ a) × Listens (view v) (view w)
Turns {S} {W} view answers whole (piece ∷ pieces) (reply ∷ replies) a v b w =
    (mid : S) × (between : W) × Turn view answers (pieces ≡ [] → whole) piece reply a v mid between × Turns view answers whole pieces replies mid between b w
Turns view answers whole [] (reply ∷ replies) a v b w = ⊥
Turns view answers whole (piece ∷ pieces) [] a v b w = ⊥

-- The turn with which the answerer stopped: input was taken where that was wanted, and a piece was answered by a stop. Nothing was said.
pub record StopTurn {S W Stop : Type 0} (view : W → World) (stops : Stopping S W Stop) (stop : Stop) (piece : Piece) (a : S) (v : W) (b : S) (w : W) : Type 0 where
  pub heard : W
  pub hears : Listens (view v) (view heard)
  pub stopped : StopsAt stops piece a heard stop b w
  pub quiet : Quiet (view heard) (view w)
