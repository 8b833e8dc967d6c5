-- A piece at the front is answered.
use Rattle.std.proofs.Common.{◌≡◌, ◌∙◌, ℕ, ◌+◌, ◌<◌, ◌≤◌, ap, sym, Bool, true, false, List, [], ◌∷◌, ◌++◌, length, get_or, take, drop, arith, refl, Result, Ok, Err, IfOk, IfErr}
use Rattle.std.proofs.lemmas.List.{append-nil, drop_all}
use Rattle.std.proofs.lemmas.Bool.{true≢false}
use Rattle.pst_outside.specs.World.{World}
use Rattle.line_server.specs.Lines.{Piece, line, too_long, further, cut, ending, full, last_piece, is_quit, NoFeedBelow, LINE_LIMIT}
use Rattle.line_server.specs.Spoken.{IsSaidTo, spoken_text}
use Rattle.line_server.specs.History.{Answering, Answers, Stopping, StopsAt}
use Rattle.line_server.specs.Step.{AnswersPiece, Passes, PassesOverlong, StopsPiece}
use Rattle.line_server.specs.Worlds.{Quiet}
use Rattle.line_server.specs.declared.pieces.Answer.{Answer}
use Rattle.line_server.proofs.Hearing.{quiet_started}
use Rattle.line_server.proofs.PieceLaws.{feed_cuts, overlong_cuts, last_cuts, nothing_cuts}

pub fed : (held held' front : List ℕ) (long : Bool) (feed : ℕ) → front ≡ held → held' ≡ drop (feed + 1) held
    → length held ≤ 1048577 → feed < length held → get_or held feed 0 ≡ 10 → NoFeedBelow feed held
    → Passes false held long (ending long (take feed front)) held' false
fed held held' front long feed same rest few low at clean =
    λ all more allowed. feed_cuts all long held more feed few low at clean ∙ (λ i. ending long (take feed (sym same i)) ∷ cut all false [] (sym rest i ++ more))

pub filled : (held held' reply : List ℕ) (long quit : Bool) (n : ℕ) → held' ≡ drop n held → n ≡ LINE_LIMIT → length held ≡ n + 1 → NoFeedBelow (length held) held
    → IsSaidTo (full long) reply → quit ≡ is_quit (full long) → PassesOverlong held long held' true reply quit
filled held held' reply long quit n rest limit size clean said quits = record {
  piece = full long;
  passes = λ all more allowed. overlong_cuts n all long held more limit size clean ∙ ap (λ h. full long ∷ cut all true [] (h ++ more)) (sym rest);
  said = said;
  quits = quits;
}

pub ended : (held held' front : List ℕ) (long : Bool) → front ≡ held → held' ≡ drop (length front) held → length held ≤ LINE_LIMIT
    → NoFeedBelow (length held) held → 0 < length held → Passes true held long (last_piece long front) held' false
ended held held' front long same rest few clean some =
    λ all more allowed.
    (λ i. cut (allowed.all_of_it refl i) long [] (held ++ allowed.none refl i))
    ∙ ap (λ x. cut true long [] x) (append-nil held)
    ∙ last_cuts long held few clean some
    ∙ (λ i. last_piece long (sym same i) ∷ sym (nothing_cuts true false) i)
    ∙ (λ i. last_piece long front ∷ cut (sym (allowed.all_of_it refl) i) false [] (sym (none_left) i ++ sym (allowed.none refl) i))
  where
    none_left : held' ≡ []
    none_left = rest ∙ ap (λ (x : List ℕ). drop (length x) held) same ∙ drop_all (length held) held (omega arith)

-- what is no line is answered without the answerer
pub unasked : {S W : Type 0} (answers : Answering S W) (piece : Piece) (said : List ℕ) (a : S) (v : W) → IsSaidTo piece said → Answers answers piece a v said a v
unasked answers (line bytes) said a v is = absurd is
unasked answers too_long said a v is = (is, refl, refl)
unasked answers further said a v is = (is, refl, refl)

-- what holds wherever the input may go on holds at its end too
anywhere : (is : Bool) (held : List ℕ) (long : Bool) (piece : Piece) (held' : List ℕ) (long' : Bool) → Passes false held long piece held' long' → Passes is held long piece held' long'
anywhere is held long piece held' long' p = λ all more allowed. p all more (record { all_of_it = λ no. absurd (true≢false (sym no)); none = λ no. absurd (true≢false (sym no)) })

pub overlong : {S W : Type 0} (view : W → World) (answers : Answering S W) (is : Bool) (a : S) (v : W) {held held' reply : List ℕ} {long long' quit : Bool} → PassesOverlong held long held' long' reply quit
    → AnswersPiece view answers is a v held long a v held' long' reply quit
overlong view answers is a v {held} {held'} {reply} {long} {long'} p = record {
  piece = p.piece;
  passes = anywhere is held long p.piece held' long' p.passes;
  answer = unasked answers p.piece reply a v p.said;
  quiet = quiet_started (view v);
  quits = p.quits;
}

-- the answer to a piece that was passed
pub passed : {S W Stop : Type 0} (view : W → World) (answers : Answering S W) (ended : Bool) (a b : S) (v w : W) (held held' : List ℕ) (long long' : Bool) (piece : Piece) (r : Result Answer Stop)
    → Passes ended held long piece held' long' → Quiet (view v) (view w) → IfOk r (λ answer. Answers answers piece a v (spoken_text answer.spoken) b w × (answer.quit ≡ is_quit piece))
    → IfOk r (λ answer. AnswersPiece view answers ended a v held long b w held' long' (spoken_text answer.spoken) answer.quit)
passed view answers ended a b v w held held' long long' piece (Ok answer) passes quiet is = record { piece = piece; passes = passes; answer = is.0; quiet = quiet; quits = is.1 }
passed view answers ended a b v w held held' long long' piece (Err stop) passes quiet is = tt

-- and the stop at one
pub stopped : {S W Stop : Type 0} (view : W → World) (stops : Stopping S W Stop) (ended : Bool) (a b : S) (v w : W) (held held' : List ℕ) (long long' : Bool) (piece : Piece) (r : Result Answer Stop)
    → Passes ended held long piece held' long' → Quiet (view v) (view w) → IfErr r (λ stop. StopsAt stops piece a v stop b w)
    → IfErr r (λ stop. StopsPiece view stops ended a v held long b w held' long' stop)
stopped view stops ended a b v w held held' long long' piece (Ok answer) passes quiet is = tt
stopped view stops ended a b v w held held' long long' piece (Err stop) passes quiet is = record { piece = piece; passes = passes; stopped = is; quiet = quiet }
