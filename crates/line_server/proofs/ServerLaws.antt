-- How a server of lines goes on from its start, and ends.
use Rattle.std.proofs.Common.{◌≡◌, ◌∙◌, ℕ, ◌+◌, ◌<◌, inl, inr, ap, sym, refl, arith, Bool, true, false, cond, List, [], ◌∷◌, ◌++◌, length, take, append_assoc, Some}
use Rattle.std.proofs.lemmas.Bool.{true≢false}
use Rattle.std.proofs.lemmas.List.{append-nil, take_all}
use Rattle.std.specs.List.{concat, list_any}
use Rattle.pst_outside.specs.World.{World}
use Rattle.pst_outside.specs.Calls.{NeverFall}
use Rattle.line_server.specs.declared.end.ServerEnd.{ServerEnd}
use Rattle.line_server.specs.declared.end.ServerEnd.TheVariants.{Done, Input, Output, Lines, Stopped}
use Rattle.line_server.specs.History.{Answering, Answers, Hushes, Stopping, StopsAt, Turn, Turns}
use Rattle.line_server.specs.Lines.{Piece, line, too_long, further, cut, is_quit, up_to_quit, lines}
use Rattle.line_server.specs.Server.{SoFar, ServerEnds, Starts, LINES}
use Rattle.line_server.specs.Step.{State, IsAllowed, Hears, TurnsOn, TurnsOut, BreaksOff, Steps, StopsOn}
use Rattle.line_server.proofs.Hearing.{falls_along, falls_started, listens_started}
use Rattle.line_server.proofs.PieceLaws.{nothing_cuts, broken_cuts}
use Rattle.line_server.proofs.Quits.{no_quit_on, quit_on, up_to_quit-past, concat_on, length_on, take-append_past}
use Rattle.line_server.proofs.TurnLaws.{turns_heard, turns_on, turns_weaker}

-- before the first turn
pub started : {S W Stop : Type 0} (view : W → World) (answers : Answering S W) (stops : Stopping S W Stop) (a : S) (first : W) (state : State) → Starts state → SoFar view answers stops a first a first state 0
started view answers stops a first state starts = record {
  counts = falls_started (view first);
  told = λ t. t;
  taken = [];
  done = [];
  replies = [];
  turns = (refl, listens_started (view first));
  counted = refl;
  no_quit = refl;
  cuts = λ all more allowed. λ i. cut all (sym starts.short i) [] (sym starts.nothing_held i ++ more);
  input = λ t. refl;
  end = λ is t. absurd (true≢false (sym is ∙ starts.unended));
  said = λ h t. sym (append-nil _);
}

-- an answerer that says nothing keeps what was said, whatever piece is answered
hushed : {S W Stop : Type 0} (view : W → World) (answers : Answering S W) (stops : Stopping S W Stop) (piece : Piece) (said : List ℕ) (a b : S) (v w : W) → Hushes view answers stops → Answers answers piece a v said b w
    → (view w).tells → (view w).here.said ≡ (view v).here.said
hushed view answers stops (line bytes) said a b v w h is told = h.answering a b v w bytes said is told
hushed view answers stops too_long said a b v w h is told = ap (λ x. (view x).here.said) is.2
hushed view answers stops further said a b v w h is told = ap (λ x. (view x).here.said) is.2

hushed_stop : {S W Stop : Type 0} (view : W → World) (answers : Answering S W) (stops : Stopping S W Stop) (piece : Piece) (stop : Stop) (a b : S) (v w : W) → Hushes view answers stops → StopsAt stops piece a v stop b w
    → (view w).tells → (view w).here.said ≡ (view v).here.said
hushed_stop view answers stops (line bytes) stop a b v w h is told = h.stopping a b v w bytes stop is told
hushed_stop view answers stops too_long stop a b v w h is told = absurd is
hushed_stop view answers stops further stop a b v w h is told = absurd is

-- The lines so far and one more, of what was taken by then; `reply` is what is said to it.
pub record Goes {S W Stop : Type 0} (view : W → World) (answers : Answering S W) (stops : Stopping S W Stop) (whole : Type 0) (a : S) (first : W) (b : S) (now : W) (new : State) (count : ℕ) (quit : Bool) : Type 0 where
  pub counts : NeverFall (view first) (view now)
  pub told : (view now).tells → (view first).tells
  pub taken : List ℕ
  pub before : List Piece
  pub piece : Piece
  pub replies : List (List ℕ)
  pub reply : List ℕ
  pub turns : Turns view answers whole (before ++ piece ∷ []) (replies ++ reply ∷ []) a first b now
  pub counted : length before ≡ count
  pub no_quit : list_any is_quit before ≡ false
  pub quits : quit ≡ is_quit piece
  pub cuts : (all : Bool) (more : List ℕ) → IsAllowed new.ended all more → cut all false [] (taken ++ more) ≡ before ++ piece ∷ cut all new.long [] (new.held ++ more)
  pub input : (view now).tells → (view first).input ≡ taken ++ (view now).input
  pub end : new.ended ≡ true → (view now).tells → (view now).input ≡ []
  pub said_some : Hushes view answers stops → (view now).tells → (k : ℕ) × ((view now).here.said ≡ (view first).here.said ++ take k (concat (replies ++ reply ∷ [])))
  pub said_all : Hushes view answers stops → whole → (view now).tells → (view now).here.said ≡ (view first).here.said ++ concat (replies ++ reply ∷ [])

-- what comes behind what was taken at a turn came behind what was held
allowed_before : (old : Bool) (is : Bool) (taken more : List ℕ) (all : Bool) → (old ≡ true → is ≡ true) → (old ≡ true → taken ≡ []) → IsAllowed is all more → IsAllowed old all (taken ++ more)
allowed_before old is taken more all stays none allowed = record {
  all_of_it = λ o. allowed.all_of_it (stays o);
  none = λ o. (λ i. none o i ++ allowed.none (stays o) i);
}

pub goes : {S W Stop : Type 0} (view : W → World) (answers : Answering S W) (stops : Stopping S W Stop) (whole : Type 0) (a b c : S) (first mid now : W) (old new : State) (count : ℕ) (quit : Bool)
    → SoFar view answers stops a first b mid old count → TurnsOn view answers whole old new quit b mid c now → Goes view answers stops whole a first c now new count quit
goes view answers stops whole a b c first mid now old new count quit so_far next =
    let more' = next.hears.goes_on.more in
    let turn : Turn view answers whole next.answers_it.piece next.reply b mid c now = record {
      heard = next.heard;
      hears = next.hears.listens;
      answered = next.answered;
      answer = next.answers_it.answer;
      quiet = next.answers_it.quiet;
      says = next.says;
      all_said = next.all_said;
    } in
    let told_answered : (view now).tells → (view next.answered).tells = next.says.stays.told in
    let told_heard : (view now).tells → (view next.heard).tells = λ t. next.answers_it.quiet.told (told_answered t) in
    let told_mid : (view now).tells → (view mid).tells = λ t. next.hears.listens.stays.told (told_heard t) in
    let input_same : (view now).tells → (view now).input ≡ (view next.heard).input = λ t. next.says.stays.input t ∙ next.answers_it.quiet.input (told_answered t) in
    let said_before : Hushes view answers stops → (view now).tells → (view next.answered).here.said ≡ (view first).here.said ++ concat so_far.replies =
    λ h t. hushed view answers stops next.answers_it.piece next.reply b c next.heard next.answered h next.answers_it.answer (told_answered t) ∙ ap (λ i. i.said) (next.hears.listens.stays.here (told_heard t)) ∙ so_far.said h (told_mid t) in
    record {
      counts = falls_along so_far.counts (falls_along next.hears.listens.counts (falls_along next.answers_it.quiet.counts next.says.counts));
      told = λ t. so_far.told (told_mid t);
      taken = so_far.taken ++ more';
      before = so_far.done;
      piece = next.answers_it.piece;
      replies = so_far.replies;
      reply = next.reply;
      turns = turns_on view answers whole so_far.done so_far.replies next.answers_it.piece next.reply a b c first mid now so_far.turns turn;
      counted = so_far.counted;
      no_quit = so_far.no_quit;
      quits = next.answers_it.quits;
      cuts = λ all more allowed.
          let before = allowed_before old.ended new.ended more' more all next.hears.ends.stays next.hears.goes_on.none allowed in
          ap (λ x. cut all false [] x) (append_assoc so_far.taken more' more)
          ∙ so_far.cuts all (more' ++ more) before
          ∙ ap (λ x. so_far.done ++ cut all old.long [] x) (sym (append_assoc old.held more' more) ∙ ap (λ x. x ++ more) (sym next.hears.goes_on.behind))
          ∙ ap (λ x. so_far.done ++ x) (next.answers_it.passes all more allowed);
      input = λ t. so_far.input (told_mid t) ∙ ap (λ x. so_far.taken ++ x) (next.hears.goes_on.input (told_heard t) ∙ ap (λ x. more' ++ x) (sym (input_same t))) ∙ sym (append_assoc so_far.taken more' _);
      end = λ is t. input_same t ∙ next.hears.ends.end so_far.end is (told_heard t);
      said_some = λ h t.
          let front = next.says.front t in
          let k = front.0 in (
            length (concat so_far.replies) + k,
            front.2 ∙ ap (λ x. x ++ take k next.reply) (said_before h t) ∙ append_assoc (view first).here.said (concat so_far.replies) (take k next.reply)
                ∙ ap (λ x. (view first).here.said ++ x) (sym (take-append_past (concat so_far.replies) next.reply k) ∙ ap (take (length (concat so_far.replies) + k)) (sym (concat_on so_far.replies next.reply))),
          );
      said_all = λ h is t. next.all_said is t ∙ ap (λ x. x ++ next.reply) (said_before h t) ∙ append_assoc (view first).here.said (concat so_far.replies) next.reply
          ∙ ap (λ x. (view first).here.said ++ x) (sym (concat_on so_far.replies next.reply));
    }

-- a turn more
pub goes_on : {S W Stop : Type 0} (view : W → World) (answers : Answering S W) (stops : Stopping S W Stop) (a b c : S) (first mid now : W) (old new : State) (count : ℕ)
    → SoFar view answers stops a first b mid old count → TurnsOn view answers (Unit {0}) old new false b mid c now → SoFar view answers stops a first c now new (count + 1)
goes_on view answers stops a b c first mid now old new count so_far turn =
    let g = goes view answers stops (Unit {0}) a b c first mid now old new count false so_far turn in
    record {
      counts = g.counts;
      told = g.told;
      taken = g.taken;
      done = g.before ++ g.piece ∷ [];
      replies = g.replies ++ g.reply ∷ [];
      turns = g.turns;
      counted = length_on g.before g.piece ∙ ap (λ n. n + 1) g.counted;
      no_quit = no_quit_on g.before g.piece g.no_quit (sym g.quits);
      cuts = λ all more allowed. g.cuts all more allowed ∙ sym (append_assoc g.before (g.piece ∷ []) _);
      input = g.input;
      end = g.end;
      said = λ h. g.said_all h tt;
    }

-- nothing more comes than what was taken, where the input has ended, and else nothing is known to come
here_allowed : (is : Bool) → IsAllowed is is []
here_allowed is = record { all_of_it = λ i. i; none = λ i. refl }

-- the lines of what was taken, up to the one that was answered last
abbrev pub left_of : Piece → List Piece → List Piece
left_of piece rest = cond (is_quit piece) [] (up_to_quit rest)

lines_are : (taken held : List ℕ) (long ended : Bool) (before : List Piece) (piece : Piece) → list_any is_quit before ≡ false
    → ((all : Bool) (more : List ℕ) → IsAllowed ended all more → cut all false [] (taken ++ more) ≡ before ++ piece ∷ cut all long [] (held ++ more))
    → lines ended taken ≡ (before ++ piece ∷ []) ++ left_of piece (cut ended long [] (held ++ []))
lines_are taken held long ended before piece no_quit cuts =
    let rest = cut ended long [] (held ++ []) in
    ap (λ x. up_to_quit (cut ended false [] x)) (sym (append-nil taken))
    ∙ ap up_to_quit (cuts ended [] (here_allowed ended))
    ∙ up_to_quit-past before (piece ∷ rest) no_quit
    ∙ sym (append_assoc before (piece ∷ []) (left_of piece rest))

-- all of a text is a front of it
all_front : (said first text : List ℕ) → said ≡ first ++ text → (k : ℕ) × (said ≡ first ++ take k text)
all_front said first text is = (length text, is ∙ ap (λ x. first ++ x) (sym (take_all _ text (omega arith))))

-- the output didn't fail
abbrev pub IsNoOutput : {Stop : Type 0} → ServerEnd Stop → Type 0
IsNoOutput end = end ≡ Output → ⊥

-- `quit` was answered
pub ends_by_quit : {S W Stop : Type 0} (view : W → World) (answers : Answering S W) (stops : Stopping S W Stop) (a b c : S) (first mid now : W) (old new : State) (count : ℕ) → count < LINES
    → SoFar view answers stops a first b mid old count → TurnsOn view answers (Unit {0}) old new true b mid c now → ServerEnds view answers stops a first c now Done
ends_by_quit view answers stops a b c first mid now old new count few so_far turn =
    let g = goes view answers stops (Unit {0}) a b c first mid now old new count true so_far turn in
    let quit : is_quit g.piece ≡ true = sym g.quits in
    let rest = cut new.ended new.long [] (new.held ++ []) in
    let none : left_of g.piece rest ≡ [] = ap (λ b. cond b [] (up_to_quit rest)) quit in
    record {
      counts = g.counts;
      told = g.told;
      taken = g.taken;
      input = g.input;
      all = new.ended;
      spent_input = g.end;
      done = g.before ++ g.piece ∷ [];
      left = left_of g.piece rest;
      cuts = lines_are g.taken new.held new.long new.ended g.before g.piece g.no_quit g.cuts;
      replies = g.replies ++ g.reply ∷ [];
      behind = c;
      last = now;
      turns = turns_heard view answers _ _ _ a c c first now now g.turns refl (listens_started (view now));
      closes = (refl, refl);
      front = g.said_some;
      whole = λ h no. g.said_all h tt;
      finished = λ is. (none, inr (quit_on g.before g.piece quit));
      input_failed = λ is. absurd (cc);
      output_failed = λ is. absurd (cc);
      spent = λ is. absurd (cc);
      few = omega (arith, length_on g.before g.piece, g.counted);
    }

-- the lines of what was taken, where a turn found no line more
rests : (taken held more holds : List ℕ) (done : List Piece) (long was is : Bool) → list_any is_quit done ≡ false
    → ((all : Bool) (behind : List ℕ) → IsAllowed was all behind → cut all false [] (taken ++ behind) ≡ done ++ cut all long [] (held ++ behind))
    → IsAllowed was is (more ++ []) → holds ≡ held ++ more → cut is long [] holds ≡ [] → lines is (taken ++ more) ≡ done ++ []
rests taken held more holds done long was is no_quit cuts allowed behind none =
    ap (λ x. up_to_quit (cut is false [] x)) (ap (λ x. taken ++ x) (sym (append-nil more)))
    ∙ ap up_to_quit (cuts is (more ++ []) allowed
    ∙ ap (λ x. done ++ cut is long [] x) (ap (λ x. held ++ x) (append-nil more) ∙ sym behind)
    ∙ ap (λ x. done ++ x) none)
    ∙ up_to_quit-past done [] no_quit

-- what is known at an end with no line more
pub record Rests {S W Stop : Type 0} (view : W → World) (answers : Answering S W) (stops : Stopping S W Stop) (whole : Type 0) (a : S) (first : W) (b : S) (now : W) (all : Bool) (count : ℕ) : Type 0 where
  pub counts : NeverFall (view first) (view now)
  pub told : (view now).tells → (view first).tells
  pub taken : List ℕ
  pub input : (view now).tells → (view first).input ≡ taken ++ (view now).input
  pub spent_input : all ≡ true → (view now).tells → (view now).input ≡ []
  pub done : List Piece
  pub counted : length done ≡ count
  pub cuts : lines all taken ≡ done ++ []
  pub replies : List (List ℕ)
  pub turns : Turns view answers whole done replies a first b now
  pub said : Hushes view answers stops → (view now).tells → (view now).here.said ≡ (view first).here.said ++ concat replies

rested : {S W Stop : Type 0} (view : W → World) (answers : Answering S W) (stops : Stopping S W Stop) (whole : Type 0) (a b c : S) (first mid now : W) (old : State) (count : ℕ) (holds : List ℕ) (is : Bool)
    → SoFar view answers stops a first b mid old count → Hears old holds is (view mid) (view now) → c ≡ b → cut is old.long [] holds ≡ [] → Rests view answers stops whole a first c now is count
rested view answers stops whole a b c first mid now old count holds is so_far hears same none =
    let told = hears.listens.stays.told in
    let more = hears.goes_on.more in
    record {
      counts = falls_along so_far.counts hears.listens.counts;
      told = λ t. so_far.told (told t);
      taken = so_far.taken ++ more;
      input = λ t. so_far.input (told t) ∙ ap (λ x. so_far.taken ++ x) (hears.goes_on.input t) ∙ sym (append_assoc so_far.taken more _);
      spent_input = hears.ends.end so_far.end;
      done = so_far.done;
      counted = so_far.counted;
      cuts = rests so_far.taken old.held more holds so_far.done old.long old.ended is so_far.no_quit so_far.cuts
          (allowed_before old.ended is more [] is hears.ends.stays hears.goes_on.none (here_allowed is)) hears.goes_on.behind none;
      replies = so_far.replies;
      turns = turns_heard view answers whole so_far.done so_far.replies a b c first mid now so_far.turns same hears.listens;
      said = λ h t. ap (λ i. i.said) (hears.listens.stays.here t) ∙ so_far.said h (told t);
    }

-- the input has ended
pub ends_by_end : {S W Stop : Type 0} (view : W → World) (answers : Answering S W) (stops : Stopping S W Stop) (a b c : S) (first mid now : W) (old : State) (count : ℕ) → count < LINES
    → SoFar view answers stops a first b mid old count → TurnsOut old b c (view mid) (view now) → ServerEnds view answers stops a first c now Done
ends_by_end {Stop = Stop} view answers stops a b c first mid now old count few so_far turn =
    let r = rested view answers stops (IsNoOutput {Stop = Stop} Done) a b c first mid now old count [] true so_far turn.hears turn.same (nothing_cuts true old.long) in
    record {
      counts = r.counts;
      told = r.told;
      taken = r.taken;
      input = r.input;
      all = true;
      spent_input = r.spent_input;
      done = r.done;
      left = [];
      cuts = r.cuts;
      replies = r.replies;
      behind = c;
      last = now;
      turns = r.turns;
      closes = (refl, refl);
      front = λ h t. all_front _ _ _ (r.said h t);
      whole = λ h no. r.said h;
      finished = λ is. (refl, inl refl);
      input_failed = λ is. absurd (cc);
      output_failed = λ is. absurd (cc);
      spent = λ is. absurd (cc);
      few = omega (arith, r.counted);
    }

-- the input failed
pub ends_by_input : {S W Stop : Type 0} (view : W → World) (answers : Answering S W) (stops : Stopping S W Stop) (a b c : S) (first mid now : W) (old : State) (count : ℕ) → count < LINES
    → SoFar view answers stops a first b mid old count → BreaksOff old b c (view mid) (view now) → ServerEnds view answers stops a first c now Input
ends_by_input {Stop = Stop} view answers stops a b c first mid now old count few so_far turn =
    let r = rested view answers stops (IsNoOutput {Stop = Stop} Input) a b c first mid now old count turn.taken false so_far turn.hears turn.same (broken_cuts old.long turn.taken turn.stands.0 turn.stands.1) in
    record {
      counts = r.counts;
      told = r.told;
      taken = r.taken;
      input = r.input;
      all = false;
      spent_input = r.spent_input;
      done = r.done;
      left = [];
      cuts = r.cuts;
      replies = r.replies;
      behind = c;
      last = now;
      turns = r.turns;
      closes = (refl, refl);
      front = λ h t. all_front _ _ _ (r.said h t);
      whole = λ h no. r.said h;
      finished = λ is. absurd (cc);
      input_failed = λ is. (omega (arith, so_far.counts.in_faults, turn.rose), refl, refl, omega (arith, r.counted));
      output_failed = λ is. absurd (cc);
      spent = λ is. absurd (cc);
      few = omega (arith, r.counted);
    }

-- the output failed
pub ends_by_output : {S W Stop : Type 0} (view : W → World) (answers : Answering S W) (stops : Stopping S W Stop) (a b c : S) (first mid now : W) (old new : State) (count : ℕ) → count < LINES
    → SoFar view answers stops a first b mid old count → Steps view answers stops old new b mid c now (Some Output) → ServerEnds view answers stops a first c now Output
ends_by_output {Stop = Stop} view answers stops a b c first mid now old new count few so_far turn =
    let g = goes view answers stops ⊥ a b c first mid now old new count turn.0 so_far turn.1 in
    let rest = cut new.ended new.long [] (new.held ++ []) in
    record {
      counts = g.counts;
      told = g.told;
      taken = g.taken;
      input = g.input;
      all = new.ended;
      spent_input = g.end;
      done = g.before ++ g.piece ∷ [];
      left = left_of g.piece rest;
      cuts = lines_are g.taken new.held new.long new.ended g.before g.piece g.no_quit g.cuts;
      replies = g.replies ++ g.reply ∷ [];
      behind = c;
      last = now;
      turns = turns_weaker view answers ⊥ (IsNoOutput {Stop = Stop} Output) _ _ a c first now (λ no. no refl) g.turns;
      closes = (refl, refl);
      front = g.said_some;
      whole = λ h no t. absurd (no refl);
      finished = λ is. absurd (cc);
      input_failed = λ is. absurd (cc);
      output_failed = λ is. omega (arith, so_far.counts.out_faults, turn.2);
      spent = λ is. absurd (cc);
      few = omega (arith, length_on g.before g.piece, g.counted);
    }

-- the answerer stopped
pub ends_by_stop : {S W Stop : Type 0} (view : W → World) (answers : Answering S W) (stops : Stopping S W Stop) (a b c : S) (first mid now : W) (old new : State) (count : ℕ) (stop : Stop) → count < LINES
    → SoFar view answers stops a first b mid old count → StopsOn view stops old new b mid c now stop → ServerEnds view answers stops a first c now (Stopped stop)
ends_by_stop view answers stops a b c first mid now old new count stop few so_far turn =
    let more' = turn.hears.goes_on.more in
    let told_heard : (view now).tells → (view turn.heard).tells = turn.stops_it.quiet.told in
    let told_mid : (view now).tells → (view mid).tells = λ t. turn.hears.listens.stays.told (told_heard t) in
    let said : Hushes view answers stops → (view now).tells → (view now).here.said ≡ (view first).here.said ++ concat so_far.replies =
    λ h t. hushed_stop view answers stops turn.stops_it.piece stop b c turn.heard now h turn.stops_it.stopped t ∙ ap (λ i. i.said) (turn.hears.listens.stays.here (told_heard t)) ∙ so_far.said h (told_mid t) in
    let rest = cut new.ended new.long [] (new.held ++ []) in
    record {
      counts = falls_along so_far.counts (falls_along turn.hears.listens.counts turn.stops_it.quiet.counts);
      told = λ t. so_far.told (told_mid t);
      taken = so_far.taken ++ more';
      input = λ t. so_far.input (told_mid t) ∙ ap (λ x. so_far.taken ++ x) (turn.hears.goes_on.input (told_heard t) ∙ ap (λ x. more' ++ x) (sym (turn.stops_it.quiet.input t))) ∙ sym (append_assoc so_far.taken more' _);
      all = new.ended;
      spent_input = λ is t. turn.stops_it.quiet.input t ∙ turn.hears.ends.end so_far.end is (told_heard t);
      done = so_far.done;
      left = turn.stops_it.piece ∷ left_of turn.stops_it.piece rest;
      cuts = lines_are (so_far.taken ++ more') new.held new.long new.ended so_far.done turn.stops_it.piece so_far.no_quit (λ all more allowed.
          let before = allowed_before old.ended new.ended more' more all turn.hears.ends.stays turn.hears.goes_on.none allowed in
          ap (λ x. cut all false [] x) (append_assoc so_far.taken more' more)
          ∙ so_far.cuts all (more' ++ more) before
          ∙ ap (λ x. so_far.done ++ cut all old.long [] x) (sym (append_assoc old.held more' more) ∙ ap (λ x. x ++ more) (sym turn.hears.goes_on.behind))
          ∙ ap (λ x. so_far.done ++ x) (turn.stops_it.passes all more allowed))
          ∙ append_assoc so_far.done (turn.stops_it.piece ∷ []) (left_of turn.stops_it.piece rest);
      replies = so_far.replies;
      behind = b;
      last = mid;
      turns = turns_weaker view answers (Unit {0}) (IsNoOutput (Stopped stop)) so_far.done so_far.replies a b first mid (λ is. tt) so_far.turns;
      closes = (turn.stops_it.piece, left_of turn.stops_it.piece rest, refl, record { heard = turn.heard; hears = turn.hears.listens; stopped = turn.stops_it.stopped; quiet = turn.stops_it.quiet });
      front = λ h t. all_front _ _ _ (said h t);
      whole = λ h no. said h;
      finished = λ is. absurd (cc);
      input_failed = λ is. absurd (cc);
      output_failed = λ is. absurd (cc);
      spent = λ is. absurd (cc);
      few = omega (arith, so_far.counted);
    }

-- as many lines were taken as a server takes
pub ends_by_lines : {S W Stop : Type 0} (view : W → World) (answers : Answering S W) (stops : Stopping S W Stop) (a b : S) (first now : W) (state : State) → SoFar view answers stops a first b now state LINES → ServerEnds view answers stops a first b now Lines
ends_by_lines {Stop = Stop} view answers stops a b first now state so_far = record {
  counts = so_far.counts;
  told = so_far.told;
  taken = so_far.taken;
  input = so_far.input;
  all = state.ended;
  spent_input = so_far.end;
  done = so_far.done;
  left = up_to_quit (cut state.ended state.long [] (state.held ++ []));
  cuts = ap (λ x. up_to_quit (cut state.ended false [] x)) (sym (append-nil so_far.taken)) ∙ ap up_to_quit (so_far.cuts state.ended [] (here_allowed state.ended)) ∙ up_to_quit-past so_far.done _ so_far.no_quit;
  replies = so_far.replies;
  behind = b;
  last = now;
  turns = turns_heard view answers (IsNoOutput {Stop = Stop} Lines) so_far.done so_far.replies a b b first now now so_far.turns refl (listens_started (view now));
  closes = (refl, refl);
  front = λ h t. all_front _ _ _ (so_far.said h t);
  whole = λ h no. so_far.said h;
  finished = λ is. absurd (cc);
  input_failed = λ is. absurd (cc);
  output_failed = λ is. absurd (cc);
  spent = λ is. (so_far.counted, so_far.no_quit);
  few = omega (arith, so_far.counted);
}

-- the turn with which a server ends
pub ends : {S W Stop : Type 0} (view : W → World) (answers : Answering S W) (stops : Stopping S W Stop) (a b c : S) (first mid now : W) (old new : State) (count : ℕ) (end : ServerEnd Stop) → count < LINES
    → SoFar view answers stops a first b mid old count → Steps view answers stops old new b mid c now (Some end) → ServerEnds view answers stops a first c now end
ends view answers stops a b c first mid now old new count Done few so_far turn =
    elim turn [ inl quit ↦ ends_by_quit view answers stops a b c first mid now old new count few so_far quit | inr out ↦ ends_by_end view answers stops a b c first mid now old count few so_far out ]
ends view answers stops a b c first mid now old new count Input few so_far turn = ends_by_input view answers stops a b c first mid now old count few so_far turn
ends view answers stops a b c first mid now old new count Output few so_far turn = ends_by_output view answers stops a b c first mid now old new count few so_far turn
ends view answers stops a b c first mid now old new count Lines few so_far turn = absurd turn
ends view answers stops a b c first mid now old new count (Stopped stop) few so_far turn = ends_by_stop view answers stops a b c first mid now old new count stop few so_far turn
