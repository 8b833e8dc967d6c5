-- Calls on a desk where there are searches, one after another.
use Rattle.std.proofs.Common.{◌≡◌, Result, Ok, Err, refl, subst, sym}
use Rattle.std.specs.Result.{IsErrAnd}
use Rattle.mail_tree.specs.Changing.{Answer, Changed, ◌>>=◌}
use Rattle.mail_tree.specs.Folders.{Outcome}
use Rattle.mail_tree.specs.Tree.{Tree}
use Rattle.mail_draft.specs.declared.coming.Coming as tree
use Rattle.mail_draft.specs.declared.stop.Stop.{Stop}
use Rattle.mail_draft.specs.Answers.{Says}
use Rattle.mail_draft.specs.Desks.{Comes}
use Rattle.mail_draft.specs.Desks as desks
use Rattle.mail_draft.specs.Sight.{Answers, Reads, Sight}
use Rattle.mail_draft.proofs.DeskCalls.{no_ok}
use Rattle.mail_draft.proofs.Passes.{stop_says, then_says}
use Rattle.mail_folders.proofs.Steps.{stopped}
use Rattle.mail_searches.specs.Criteria as defined
use Rattle.mail_searches.specs.Criteria.{staying}
use Rattle.mail_searches.specs.Searching.{Searching}
use Rattle.mail_searches.specs.declared.known.KnownSearches.{KnownSearches}
use Rattle.search_folders.specs.Comings.{ComesAmong, KnowsSearches, coming_of}
use Rattle.search_folders.specs.Pieces.{stays_after}
use Rattle.search_folders.specs.declared.coming.Coming.{Coming}

-- a call's stop, where it is so of each tree with its searches
pub among_exits : {A : Type 0} {old new : Sight A} {known : KnownSearches} {step : Searching → Answer defined.Coming} (stop : Stop) (result : Result Coming Stop)
    → ((X : Searching) → old.shows X.tree → KnowsSearches X known → Says (coming_of X new.changed) (step X) (Err stop)) → IsErrAnd result (λ e. e ≡ stop) → ComesAmong old new known step result
among_exits {new = new} {step = step} stop result says is = record { says = λ X s k. stopped (coming_of X new.changed) (step X) stop result is (says X s k); fits = no_ok _ _ result is }

-- the same in the tree
pub comes_exits : {A : Type 0} {old new : Sight A} {step : Tree → Changed → Answer Outcome} (stop : Stop) (result : Result tree.Coming Stop)
    → ((T : Tree) → old.shows T → Says (desks.coming_of T new.changed) (step T old.changed) (Err stop)) → IsErrAnd result (λ e. e ≡ stop) → Comes old new step result
comes_exits {old = old} {new = new} {step = step} stop result says is = record {
  says = λ T s. stopped (desks.coming_of T new.changed) (step T old.changed) stop result is (says T s);
  fits = no_ok _ _ result is;
}

-- what is known of a tree with its searches, and what comes after it
pub among_said : {A X Y : Type 0} {old new : Sight A} {known : KnownSearches} {result : Result Coming Stop} (view : Y → X) (step : Searching → Answer X) (y : Y) (f : Searching → X → Answer defined.Coming)
    → ((X : Searching) → old.shows X.tree → KnowsSearches X known → Says view (step X) (Ok y)) → ComesAmong old new known (λ X. f X (view y)) result → ComesAmong old new known (λ X. step X >>= f X) result
among_said {new = new} {result = result} view step y f first a = record {
  says = λ X s k. then_says view (coming_of X new.changed) (step X) (f X) y result (first X s k) (a.says X s k);
  fits = a.fits;
}

-- its stop is that of the whole
pub among_stops : {A X Y : Type 0} {old new : Sight A} {known : KnownSearches} {result : Result Coming Stop} (view : Y → X) (step : Searching → Answer X) (stop : Stop) (f : Searching → X → Answer defined.Coming)
    → ((X : Searching) → old.shows X.tree → KnowsSearches X known → Says view (step X) (Err stop)) → IsErrAnd result (λ e. e ≡ stop) → ComesAmong old new known (λ X. step X >>= f X) result
among_stops {new = new} {result = result} view step stop f first is = among_exits stop result (λ X s k. stop_says view (coming_of X new.changed) (step X) (f X) stop (first X s k)) is

-- a call that only looks, and what comes after it
pub among_then : {A X Y : Type 0} {old mid new : Sight A} {known : KnownSearches} {view : Y → X} {step : Tree → Changed → Answer X} {y : Y} {result : Result Coming Stop} (f : Searching → X → Answer defined.Coming)
    → Answers old view step (Ok y) → Reads {R = Y} old mid (Ok y) → ComesAmong mid new known (λ X. f X (view y)) result → ComesAmong old new known (λ X. step X.tree old.changed >>= f X) result
among_then {old = old} {new = new} {view = view} {step = step} {y = y} {result = result} f first reads a = record {
  says = λ X s k. then_says view (coming_of X new.changed) (step X.tree old.changed) (f X) y result (first.says X.tree s) (a.says X (reads.shows X.tree s) k);
  fits = a.fits;
}

pub among_exit : {A X Y : Type 0} {old new : Sight A} {known : KnownSearches} {view : Y → X} {step : Tree → Changed → Answer X} {stop : Stop} {result : Result Coming Stop} (f : Searching → X → Answer defined.Coming)
    → Answers old view step (Err stop) → IsErrAnd result (λ e. e ≡ stop) → ComesAmong old new known (λ X. step X.tree old.changed >>= f X) result
among_exit {old = old} {view = view} {step = step} {stop = stop} f first is = among_stops view (λ X. step X.tree old.changed) stop f (λ X s k. first.says X.tree s) is

-- the same by another way to what comes, where it is known of the searches
pub among_as : {A : Type 0} {old new : Sight A} {known : KnownSearches} {step step' : Searching → Answer defined.Coming} {result : Result Coming Stop}
    → ((X : Searching) → KnowsSearches X known → (view : Coming → defined.Coming) → Says view (step X) result → Says view (step' X) result) → ComesAmong old new known step result → ComesAmong old new known step' result
among_as {new = new} way a = record { says = λ X s k. way X k (coming_of X new.changed) (a.says X s k); fits = a.fits }

-- the searches stay
pub comes_stays : {A : Type 0} {old new : Sight A} {known : KnownSearches} {step : Tree → Changed → Answer Outcome} {coming : tree.Coming} {result : Coming} (step' : Searching → Answer Outcome)
    → ((X : Searching) → KnowsSearches X known → (D : Type 0) (view : D → Outcome) (r : Result D Stop) → Says view (step X.tree old.changed) r → Says view (step' X) r) → Comes old new step (Ok coming)
    → ((X : Searching) (D : Changed) → staying X (desks.coming_of X.tree D coming) ≡ Ok (coming_of X D result)) → ComesAmong old new known (λ X. stays_after X (step' X)) (Ok result)
comes_stays {old = old} {new = new} {coming = coming} {result = result} step' way a stays = record {
  says = λ X s k. then_says (desks.coming_of X.tree new.changed) (coming_of X new.changed) (step' X) (staying X) coming (Ok result) (way X k _ (desks.coming_of X.tree new.changed) (Ok coming) (a.says X.tree s)) (said X);
  fits = a.fits;
}
  where
    said : (X : Searching) → Says (coming_of X new.changed) (staying X (desks.coming_of X.tree new.changed coming)) (Ok result)
    said X = subst (λ (a : Answer defined.Coming). Says (coming_of X new.changed) a (Ok result)) (sym (stays X new.changed)) refl

pub comes_stays_exit : {A : Type 0} {old new : Sight A} {known : KnownSearches} {step : Tree → Changed → Answer Outcome} {stop : Stop} {result : Result Coming Stop} (step' : Searching → Answer Outcome)
    → ((X : Searching) → KnowsSearches X known → (D : Type 0) (view : D → Outcome) (r : Result D Stop) → Says view (step X.tree old.changed) r → Says view (step' X) r) → Comes old new step (Err stop)
    → IsErrAnd result (λ e. e ≡ stop) → ComesAmong old new known (λ X. stays_after X (step' X)) result
comes_stays_exit {old = old} {new = new} {stop = stop} {result = result} step' way a is = record {
  says = λ X s k. stopped (coming_of X new.changed) (stays_after X (step' X)) stop result is
      (stop_says (desks.coming_of X.tree new.changed) (coming_of X new.changed) (step' X) (staying X) stop (way X k _ (desks.coming_of X.tree new.changed) (Err stop) (a.says X.tree s)));
  fits = no_ok _ _ result is;
}
