-- How a server of lines goes on and ends.
use Rattle.std.specs.Prelude.{◌≡◌, ◌⊎◌, ℕ, ◌<◌, ◌≤◌, Bool, true, false, List, [], ◌∷◌, ◌++◌, length, take}
use Rattle.std.specs.List.{concat, list_any}
use Rattle.pst_outside.specs.World.{World}
use Rattle.pst_outside.specs.Calls.{NeverFall, Rose}
use Rattle.line_server.specs.declared.end.ServerEnd.{ServerEnd}
use Rattle.line_server.specs.declared.end.ServerEnd.TheVariants.{Done, Input, Output, Lines, Stopped}
use Rattle.line_server.specs.History.{Answering, Hushes, Stopping, StopTurn, Turns}
use Rattle.line_server.specs.Lines.{Piece, cut, is_quit, lines}
use Rattle.line_server.specs.Step.{State, IsAllowed}

-- how many lines a server takes
abbrev pub LINES : ℕ
LINES = 4294967296

-- A server that has taken nothing.
pub record Starts (state : State) : Type 0 where
  pub nothing_held : state.held ≡ []
  pub short : state.long ≡ false
  pub unended : state.ended ≡ false

-- From its start on a server has answered the lines of the input that it has taken, but for what it holds, and has said their replies.
pub record SoFar {S W Stop : Type 0} (view : W → World) (answers : Answering S W) (stops : Stopping S W Stop) (a : S) (first : W) (b : S) (now : W) (state : State) (count : ℕ) : Type 0 where
  pub counts : NeverFall (view first) (view now)
  pub told : (view now).tells → (view first).tells
  pub taken : List ℕ
  pub done : List Piece
  pub replies : List (List ℕ)
  pub turns : Turns view answers (Unit {0}) done replies a first b now
  pub counted : length done ≡ count
  pub no_quit : list_any is_quit done ≡ false
  pub cuts : (all : Bool) (more : List ℕ) → IsAllowed state.ended all more → cut all false [] (taken ++ more) ≡ done ++ cut all state.long [] (state.held ++ more)
  pub input : (view now).tells → (view first).input ≡ taken ++ (view now).input
  pub end : state.ended ≡ true → (view now).tells → (view now).input ≡ []
  pub said : Hushes view answers stops → (view now).tells → (view now).here.said ≡ (view first).here.said ++ concat replies

-- What came behind the turns, where these pieces are left: a turn with which the answerer stopped, for the first of them, or nothing.
abbrev pub Closes : {S W Stop : Type 0} → (W → World) → Stopping S W Stop → List Piece → S → W → S → W → ServerEnd Stop → Type 0
Closes view stops left a v b w (Stopped stop) = (piece : Piece) × (rest : List Piece) × (left ≡ piece ∷ rest) × StopTurn view stops stop piece a v b w
Closes view stops left a v b w Done = (b ≡ a) × (w ≡ v)
Closes view stops left a v b w Input = (b ≡ a) × (w ≡ v)
Closes view stops left a v b w Output = (b ≡ a) × (w ≡ v)
Closes view stops left a v b w Lines = (b ≡ a) × (w ≡ v)

-- How a server of lines ends, from an answerer over a world to what they are then: it has answered the first of the lines that it has
-- taken, each once and in their order, and has said their replies.
pub record ServerEnds {S W Stop : Type 0} (view : W → World) (answers : Answering S W) (stops : Stopping S W Stop) (a : S) (first : W) (b : S) (now : W) (end : ServerEnd Stop) : Type 0 where
  pub counts : NeverFall (view first) (view now)
  pub told : (view now).tells → (view first).tells
  -- what was taken of the input, and whether it was all
  pub taken : List ℕ
  pub input : (view now).tells → (view first).input ≡ taken ++ (view now).input
  pub all : Bool
  pub spent_input : all ≡ true → (view now).tells → (view now).input ≡ []
  -- its lines, those that were answered first
  pub done : List Piece
  pub left : List Piece
  pub cuts : lines all taken ≡ done ++ left
  -- each of them has its turn, and the replies are those of the answerer
  pub replies : List (List ℕ)
  pub behind : S
  pub last : W
  pub turns : Turns view answers (end ≡ Output → ⊥) done replies a first behind last
  -- the turn with which the answerer stopped, if it did, is for the first line that is left
  pub closes : Closes view stops left behind last b now end
  -- A front of the replies was said, and all of them unless the output failed, and nothing else if the answerer says nothing.
  pub front : Hushes view answers stops → (view now).tells → (k : ℕ) × ((view now).here.said ≡ (view first).here.said ++ take k (concat replies))
  pub whole : Hushes view answers stops → (end ≡ Output → ⊥) → (view now).tells → (view now).here.said ≡ (view first).here.said ++ concat replies
  -- the ends and their causes
  pub finished : end ≡ Done → (left ≡ []) × ((all ≡ true) ⊎ (list_any is_quit done ≡ true))
  pub input_failed : end ≡ Input → Rose (view first).in_faults (view now).in_faults × (left ≡ []) × (all ≡ false) × (length done < LINES)
  pub output_failed : end ≡ Output → Rose (view first).out_faults (view now).out_faults
  pub spent : end ≡ Lines → (length done ≡ LINES) × (list_any is_quit done ≡ false)
  pub few : length done ≤ LINES
