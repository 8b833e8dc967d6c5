-- A turn, put together from the input that it takes, the answer and what is said.
use Rattle.std.proofs.Common.{◌≡◌, ℕ, inl, sym, subst, Bool, List, Option, Some, None, arith}
use Rattle.pst_outside.specs.World.{World}
use Rattle.pst_outside.specs.Calls.{NeverFall}
use Rattle.line_server.specs.declared.end.ServerEnd.{ServerEnd}
use Rattle.line_server.specs.declared.end.ServerEnd.TheVariants.{Done, Input, Output, Lines, Stopped}
use Rattle.line_server.specs.declared.pieces.Answer.{Answer}
use Rattle.line_server.specs.History.{Answering, Stopping}
use Rattle.line_server.specs.Spoken.{spoken_text}
use Rattle.line_server.specs.Step.{State, Hears, AnswersPiece, StopsPiece, Steps, Spoke}
use Rattle.line_server.specs.Taking.{GoesOn, EndsIn}
use Rattle.line_server.specs.Worlds.{Listens}

-- a turn with an answer
answered_by : {S W Stop : Type 0} (view : W → World) (answers : Answering S W) (stops : Stopping S W Stop) (old new : State) (holds : List ℕ) (a b : S) (first heard mid last : W) (answer : Answer) (result : Option (ServerEnd Stop))
    → Hears old holds new.ended (view first) (view heard)
    → AnswersPiece view answers new.ended a heard holds old.long b mid new.held new.long (spoken_text answer.spoken) answer.quit
    → NeverFall (view first) (view mid)
    → Spoke answer (view mid) (view last) result → Steps view answers stops old new a first b last result
answered_by view answers stops old new holds a b first heard mid last answer None hears answered counts spoke = record {
  reply = spoken_text answer.spoken;
  taken = holds;
  heard = heard;
  hears = hears;
  answered = mid;
  answers_it = subst (AnswersPiece view answers new.ended a heard holds old.long b mid new.held new.long (spoken_text answer.spoken)) spoke.0 answered;
  says = spoke.1;
  all_said = λ is. spoke.2;
}
answered_by view answers stops old new holds a b first heard mid last answer (Some Done) hears answered counts spoke = inl record {
  reply = spoken_text answer.spoken;
  taken = holds;
  heard = heard;
  hears = hears;
  answered = mid;
  answers_it = subst (AnswersPiece view answers new.ended a heard holds old.long b mid new.held new.long (spoken_text answer.spoken)) spoke.0 answered;
  says = spoke.1;
  all_said = λ is. spoke.2;
}
answered_by view answers stops old new holds a b first heard mid last answer (Some Output) hears answered counts spoke = (
  answer.quit,
  record {
    reply = spoken_text answer.spoken;
    taken = holds;
    heard = heard;
    hears = hears;
    answered = mid;
    answers_it = answered;
    says = spoke.0;
    all_said = λ is. absurd is;
  },
  omega (arith, counts.out_faults, spoke.1),
)
answered_by view answers stops old new holds a b first heard mid last answer (Some Input) hears answered counts spoke = absurd spoke
answered_by view answers stops old new holds a b first heard mid last answer (Some Lines) hears answered counts spoke = absurd spoke
answered_by view answers stops old new holds a b first heard mid last answer (Some (Stopped stop)) hears answered counts spoke = absurd spoke

-- the same, where the answer left what is known of the input's end
pub answered_turn : {S W Stop : Type 0} (view : W → World) (answers : Answering S W) (stops : Stopping S W Stop) (is : Bool) (old new : State) (holds : List ℕ) (a b : S) (first heard mid last : W) (answer : Answer) (result : Option (ServerEnd Stop))
    → new.ended ≡ is → GoesOn old.ended old.held holds (view first) (view heard) → EndsIn old.ended is (view first) (view heard) → Listens (view first) (view heard)
    → AnswersPiece view answers is a heard holds old.long b mid new.held new.long (spoken_text answer.spoken) answer.quit
    → Spoke answer (view mid) (view last) result → Steps view answers stops old new a first b last result
answered_turn view answers stops is old new holds a b first heard mid last answer result same held ends listens answered spoke =
    let counts : NeverFall (view first) (view mid) = record { in_faults = omega (arith, listens.counts.in_faults, answered.quiet.counts.in_faults); out_faults = omega (arith, listens.counts.out_faults, answered.quiet.counts.out_faults); disk_faults = omega (arith, listens.counts.disk_faults, answered.quiet.counts.disk_faults) } in
    answered_by view answers stops old new holds a b first heard mid last answer result
    (record { listens = listens; goes_on = held; ends = subst (λ e. EndsIn old.ended e (view first) (view heard)) (sym same) ends })
    (subst (λ e. AnswersPiece view answers e a heard holds old.long b mid new.held new.long (spoken_text answer.spoken) answer.quit) (sym same) answered)
    counts spoke

-- and one with a stop
pub stopped_turn : {S W Stop : Type 0} (view : W → World) (answers : Answering S W) (stops : Stopping S W Stop) (is : Bool) (old new : State) (holds : List ℕ) (a b : S) (first heard last : W) (stop : Stop)
    → new.ended ≡ is → GoesOn old.ended old.held holds (view first) (view heard) → EndsIn old.ended is (view first) (view heard) → Listens (view first) (view heard)
    → StopsPiece view stops is a heard holds old.long b last new.held new.long stop → Steps view answers stops old new a first b last (Some (Stopped stop))
stopped_turn view answers stops is old new holds a b first heard last stop same held ends listens stopped = record {
  taken = holds;
  heard = heard;
  hears = record { listens = listens; goes_on = held; ends = subst (λ e. EndsIn old.ended e (view first) (view heard)) (sym same) ends };
  stops_it = subst (λ e. StopsPiece view stops e a heard holds old.long b last new.held new.long stop) (sym same) stopped;
}
