-- Turns, one after another.
use Rattle.std.proofs.Common.{◌≡◌, ◌∙◌, ℕ, subst, refl, List, [], ◌∷◌, ◌++◌}
use Rattle.pst_outside.specs.World.{World}
use Rattle.line_server.specs.History.{Answering, Turn, Turns}
use Rattle.line_server.specs.Lines.{Piece}
use Rattle.line_server.specs.Worlds.{Listens}
use Rattle.line_server.proofs.Hearing.{listens_along, listens_started}

-- a turn, before which more input was taken
pub heard_before : {S W : Type 0} (view : W → World) (answers : Answering S W) (whole : Type 0) (piece : Piece) (reply : List ℕ) (a b c : S) (u v w : W)
    → b ≡ a → Listens (view u) (view v) → Turn view answers whole piece reply b v c w → Turn view answers whole piece reply a u c w
heard_before view answers whole piece reply a b c u v w same listens turn = subst (λ (s : _). Turn view answers whole piece reply s u c w) same record {
  heard = turn.heard;
  hears = listens_along listens turn.hears;
  answered = turn.answered;
  answer = turn.answer;
  quiet = turn.quiet;
  says = turn.says;
  all_said = turn.all_said;
}

-- the same turn, whose reply is to be whole only if it was to be before
pub reworded : {S W : Type 0} (view : W → World) (answers : Answering S W) (some other : Type 0) (piece : Piece) (reply : List ℕ) (a b : S) (v w : W)
    → (other → some) → Turn view answers some piece reply a v b w → Turn view answers other piece reply a v b w
reworded view answers some other piece reply a b v w only turn = record {
  heard = turn.heard;
  hears = turn.hears;
  answered = turn.answered;
  answer = turn.answer;
  quiet = turn.quiet;
  says = turn.says;
  all_said = λ is. turn.all_said (only is);
}

-- turns whose replies are all whole, and one more
pub turns_on : {S W : Type 0} (view : W → World) (answers : Answering S W) (whole : Type 0) (ps : List Piece) (rs : List (List ℕ)) (piece : Piece) (reply : List ℕ) (a b c : S) (u v w : W)
    → Turns view answers (Unit {0}) ps rs a u b v → Turn view answers whole piece reply b v c w → Turns view answers whole (ps ++ piece ∷ []) (rs ++ reply ∷ []) a u c w
turns_on view answers whole [] [] piece reply a b c u v w turns turn =
    (c, w, reworded view answers whole _ piece reply a c u w (λ only. only refl) (heard_before view answers whole piece reply a b c u v w turns.0 turns.1 turn), (refl, listens_started (view w)))
turns_on view answers whole (q ∷ ps) (r ∷ rs) piece reply a b c u v w turns turn =
    (turns.0, turns.1, reworded view answers _ _ q r a turns.0 u turns.1 (λ other is. tt) turns.2, turns_on view answers whole ps rs piece reply turns.0 b c turns.1 v w turns.3 turn)
turns_on view answers whole [] (r ∷ rs) piece reply a b c u v w turns turn = absurd turns
turns_on view answers whole (q ∷ ps) [] piece reply a b c u v w turns turn = absurd turns

-- more input was taken
pub turns_heard : {S W : Type 0} (view : W → World) (answers : Answering S W) (whole : Type 0) (ps : List Piece) (rs : List (List ℕ)) (a b c : S) (u v w : W)
    → Turns view answers (Unit {0}) ps rs a u b v → c ≡ b → Listens (view v) (view w) → Turns view answers whole ps rs a u c w
turns_heard view answers whole [] [] a b c u v w turns same listens = (same ∙ turns.0, listens_along turns.1 listens)
turns_heard view answers whole (q ∷ ps) (r ∷ rs) a b c u v w turns same listens =
    (turns.0, turns.1, reworded view answers _ _ q r a turns.0 u turns.1 (λ other is. tt) turns.2, turns_heard view answers whole ps rs turns.0 b c turns.1 v w turns.3 same listens)
turns_heard view answers whole [] (r ∷ rs) a b c u v w turns same listens = absurd turns
turns_heard view answers whole (q ∷ ps) [] a b c u v w turns same listens = absurd turns

-- the same turns, of which the last reply is to be whole only if it was to be before
pub turns_weaker : {S W : Type 0} (view : W → World) (answers : Answering S W) (some other : Type 0) (ps : List Piece) (rs : List (List ℕ)) (a b : S) (u v : W)
    → (other → some) → Turns view answers some ps rs a u b v → Turns view answers other ps rs a u b v
turns_weaker view answers some other [] [] a b u v only turns = turns
turns_weaker view answers some other (q ∷ ps) (r ∷ rs) a b u v only turns =
    (turns.0, turns.1, reworded view answers _ _ q r a turns.0 u turns.1 (λ last is. only (last is)) turns.2, turns_weaker view answers some other ps rs turns.0 b turns.1 v only turns.3)
turns_weaker view answers some other [] (r ∷ rs) a b u v only turns = absurd turns
turns_weaker view answers some other (q ∷ ps) [] a b u v only turns = absurd turns
