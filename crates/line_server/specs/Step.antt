-- What a server of lines does at a turn.
use Rattle.std.specs.Prelude.{◌≡◌, ◌⊎◌, ℕ, Bool, true, false, List, [], ◌∷◌, ◌++◌, Option, Some, None, Result, Ok, Err}
use Rattle.pst_outside.specs.World.{World}
use Rattle.pst_outside.specs.Calls.{Rose}
use Rattle.line_server.specs.declared.lines.Front.TheVariants.{Open}
use Rattle.line_server.specs.declared.end.ServerEnd.{ServerEnd}
use Rattle.line_server.specs.declared.end.ServerEnd.TheVariants.{Done, Input, Output, Lines, Stopped}
use Rattle.line_server.specs.declared.pieces.Answer.{Answer}
use Rattle.line_server.specs.Fronts.{StandsAt}
use Rattle.line_server.specs.History.{Answering, Answers, Stopping, StopsAt}
use Rattle.line_server.specs.Lines.{Piece, cut, is_quit}
use Rattle.line_server.specs.Spoken.{IsSaidTo, spoken_text}
use Rattle.line_server.specs.Taking.{GoesOn, EndsIn}
use Rattle.line_server.specs.Worlds.{Listens, Quiet, SaysFront, Speaks}

-- where the input has ended, these bytes are all that comes, and nothing is behind them
pub record IsAllowed (ended : Bool) (all : Bool) (more : List ℕ) : Type 0 where
  pub all_of_it : ended ≡ true → all ≡ true
  pub none : ended ≡ true → more ≡ []

-- A piece stands at the front of what was held: it, and the pieces of what is held now and of whatever comes behind, are the pieces from before.
abbrev pub Passes : Bool → List ℕ → Bool → Piece → List ℕ → Bool → Type 0
Passes ended held long piece held' long' = (all : Bool) (more : List ℕ) → IsAllowed ended all more → cut all long [] (held ++ more) ≡ piece ∷ cut all long' [] (held' ++ more)

-- A piece at the front was passed that is no line.
pub record PassesOverlong (held : List ℕ) (long : Bool) (held' : List ℕ) (long' : Bool) (reply : List ℕ) (quit : Bool) : Type 0 where
  pub piece : Piece
  pub passes : Passes false held long piece held' long'
  pub said : IsSaidTo piece reply
  pub quits : quit ≡ is_quit piece

-- A piece at the front was passed and answered.
pub record AnswersPiece {S W : Type 0} (view : W → World) (answers : Answering S W) (ended : Bool) (a : S) (v : W) (held : List ℕ) (long : Bool) (b : S) (w : W) (held' : List ℕ) (long' : Bool) (reply : List ℕ) (quit : Bool) : Type 0 where
  pub piece : Piece
  pub passes : Passes ended held long piece held' long'
  pub answer : Answers answers piece a v reply b w
  pub quiet : Quiet (view v) (view w)
  pub quits : quit ≡ is_quit piece

-- A piece at the front was passed and answered by a stop.
pub record StopsPiece {S W Stop : Type 0} (view : W → World) (stops : Stopping S W Stop) (ended : Bool) (a : S) (v : W) (held : List ℕ) (long : Bool) (b : S) (w : W) (held' : List ℕ) (long' : Bool) (stop : Stop) : Type 0 where
  pub piece : Piece
  pub passes : Passes ended held long piece held' long'
  pub stopped : StopsAt stops piece a v stop b w
  pub quiet : Quiet (view v) (view w)

-- What stands at the front was answered, or by a stop; or nothing stood there, at the end of the input.
abbrev pub AnswersFront : {S W Stop : Type 0} → (W → World) → Answering S W → Stopping S W Stop → Bool → S → W → List ℕ → Bool → S → W → List ℕ → Bool → Result (Option Answer) Stop → Type 0
AnswersFront view answers stops ended a v held long b w held' long' (Ok (Some answer)) = AnswersPiece view answers ended a v held long b w held' long' (spoken_text answer.spoken) answer.quit
AnswersFront view answers stops ended a v held long b w held' long' (Ok None) = (held ≡ []) × (ended ≡ true) × (b ≡ a) × (w ≡ v)
AnswersFront view answers stops ended a v held long b w held' long' (Err stop) = StopsPiece view stops ended a v held long b w held' long' stop

-- A server between two lines: the bytes that it has taken and not answered, whether they go on with a line that is too long, and whether the input has ended.
pub record State : Type 0 where
  pub held : List ℕ
  pub long : Bool
  pub ended : Bool

-- More input was taken.
pub record Hears (old : State) (holds : List ℕ) (ended : Bool) (before after : World) : Type 0 where
  pub listens : Listens before after
  pub goes_on : GoesOn old.ended old.held holds before after
  pub ends : EndsIn old.ended ended before after

-- A piece was answered, after more input was taken where that was wanted, and its reply was said: all of it, if it is to be whole.
pub record TurnsOn {S W : Type 0} (view : W → World) (answers : Answering S W) (whole : Type 0) (old new : State) (quit : Bool) (a : S) (v : W) (b : S) (w : W) : Type 0 where
  pub reply : List ℕ
  pub taken : List ℕ
  pub heard : W
  pub hears : Hears old taken new.ended (view v) (view heard)
  pub answered : W
  pub answers_it : AnswersPiece view answers new.ended a heard taken old.long b answered new.held new.long reply quit
  pub says : SaysFront reply (view answered) (view w)
  pub all_said : whole → Speaks reply (view answered) (view w)

-- A piece was answered by a stop, after more input was taken where that was wanted.
pub record StopsOn {S W Stop : Type 0} (view : W → World) (stops : Stopping S W Stop) (old new : State) (a : S) (v : W) (b : S) (w : W) (stop : Stop) : Type 0 where
  pub taken : List ℕ
  pub heard : W
  pub hears : Hears old taken new.ended (view v) (view heard)
  pub stops_it : StopsPiece view stops new.ended a heard taken old.long b w new.held new.long stop

-- The input has ended, and all of it was answered.
pub record TurnsOut {S : Type 0} (old : State) (a b : S) (before after : World) : Type 0 where
  pub hears : Hears old [] true before after
  pub same : b ≡ a

-- The input failed, with no line held.
pub record BreaksOff {S : Type 0} (old : State) (a b : S) (before after : World) : Type 0 where
  pub taken : List ℕ
  pub hears : Hears old taken false before after
  pub stands : StandsAt Open taken
  pub rose : Rose before.in_faults after.in_faults
  pub same : b ≡ a

-- One turn: it goes on, or the server ends.
abbrev pub Steps : {S W Stop : Type 0} → (W → World) → Answering S W → Stopping S W Stop → State → State → S → W → S → W → Option (ServerEnd Stop) → Type 0
Steps view answers stops old new a v b w None = TurnsOn view answers (Unit {0}) old new false a v b w
Steps view answers stops old new a v b w (Some Done) = TurnsOn view answers (Unit {0}) old new true a v b w ⊎ TurnsOut old a b (view v) (view w)
Steps view answers stops old new a v b w (Some Input) = BreaksOff old a b (view v) (view w)
Steps view answers stops old new a v b w (Some Output) = (quit : Bool) × TurnsOn view answers ⊥ old new quit a v b w × Rose (view v).out_faults (view w).out_faults
Steps view answers stops old new a v b w (Some Lines) = ⊥
Steps view answers stops old new a v b w (Some (Stopped stop)) = StopsOn view stops old new a v b w stop

-- An answer was said: the server goes on, or ends with it, or the output failed.
abbrev pub Spoke : {Stop : Type 0} → Answer → World → World → Option (ServerEnd Stop) → Type 0
Spoke answer before after None = (answer.quit ≡ false) × SaysFront (spoken_text answer.spoken) before after × Speaks (spoken_text answer.spoken) before after
Spoke answer before after (Some Done) = (answer.quit ≡ true) × SaysFront (spoken_text answer.spoken) before after × Speaks (spoken_text answer.spoken) before after
Spoke answer before after (Some Output) = SaysFront (spoken_text answer.spoken) before after × Rose before.out_faults after.out_faults
Spoke answer before after (Some Input) = ⊥
Spoke answer before after (Some Lines) = ⊥
Spoke answer before after (Some (Stopped stop)) = ⊥
