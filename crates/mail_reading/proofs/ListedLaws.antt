-- The ids of the messages that rows name, one after another.
use Rattle.std.proofs.Common.{◌≡◌, ◌∙◌, ℕ, ◌+◌, ◌<◌, ◌≤◌, suc, Bool, true, false, List, [], ◌∷◌, ◌++◌, append_assoc, add-one, ap, drop, drop-cons, get_or, inl, inr, is_some, length, refl, subst, sym, Result, Ok, Err, if◌then◌else◌}
use Rattle.std.proofs.lemmas.Bool.{cases_Bool}
use Rattle.std.proofs.lemmas.List.{append-nil, drop_all}
use Rattle.std.specs.Ordering.{nat_cmp}
use Rattle.std.specs.FinMap as finmap
use Rattle.mapi_values.specs.Values.{Val}
use Rattle.mail_tree.specs.Changing.{Answer, ◌>>=◌, as_message, nothing}
use Rattle.mail_tree.specs.Tree.{Tree, object_at}
use Rattle.mail_searches.specs.Relisting.{is_unclear, is_untold, unless_unclear}
use Rattle.search_folders.specs.mail_draft.Answers.{Says}
use Rattle.search_folders.specs.mail_draft.declared.stop.Stop.{Stop}
use Rattle.search_folders.proofs.mail_draft_laws.Passes.{stop_says, then_says}
use Rattle.mail_reading.specs.Viewed.{listed_ids, named_ids, with_named}

unclear_is : (T : Tree) (q : ℕ) → is_unclear T nothing q ≡ is_untold T q
unclear_is T q = rw (finmap.get-empty nat_cmp q) refl

-- the ids so far, with those of the rows that are left
abbrev pub named_from : Tree → List ℕ → List (ℕ × List Val) → Answer (List ℕ)
named_from T ids [] = Ok ids
named_from T ids (r ∷ rows) = with_named T ids r.0 >>= λ more. named_from T more rows

-- the id at the end, if it is that of a message
abbrev with_id : List ℕ → ℕ → Bool → List ℕ
with_id ids q there = if there then ids ++ q ∷ [] else ids

all_after : (T : Tree) (before : List ℕ) (rows : List (ℕ × List Val)) → named_from T before rows ≡ (unless_unclear T nothing rows >>= λ u. Ok (before ++ named_ids T rows))
unfolding with_named
all_after T before [] = ap Ok (sym (append-nil before))
all_after T before (r ∷ rs) = elim (cases_Bool (is_untold T r.0)) [
  | inl t ↦ rw (unclear_is T r.0, t) refl
  | inr f ↦ rw (unclear_is T r.0, f) (all_after T (with_id before r.0 (is_some (as_message (object_at T r.0)))) rs ∙ rest (unless_unclear T nothing rs) (is_some (as_message (object_at T r.0))))
]
  where
    rest : (a : Answer (Unit {0})) (there : Bool) → (a >>= λ u. Ok (with_id before r.0 there ++ named_ids T rs)) ≡ (a >>= λ u. Ok (before ++ (if there then r.0 ∷ named_ids T rs else named_ids T rs)))
    rest (Err e) there = refl
    rest (Ok u) true = ap Ok (append_assoc before (r.0 ∷ []) (named_ids T rs))
    rest (Ok u) false = refl

pub all_named : (T : Tree) (rows : List (ℕ × List Val)) → named_from T [] rows ≡ listed_ids T rows
unfolding listed_ids
all_named T rows = all_after T [] rows

-- at a row
pub goes_on : {D : Type 0} (view : D → List ℕ) (T : Tree) (before : List ℕ) (rows : List (ℕ × List Val)) (i : ℕ) (row : ℕ × List Val) (out : D) (result : Result D Stop) → i < length rows → row ≡ get_or rows i row
    → Says view (with_named T before row.0) (Ok out) → Says view (named_from T (view out) (drop (i + 1) rows)) result → Says view (named_from T before (drop i rows)) result
goes_on view T before rows i row out result h is first rest =
    let here = subst (λ (x : ℕ × List Val). Says view (with_named T before x.0) (Ok out)) is first in
    rw (drop-cons rows i row) (then_says view view (with_named T before (get_or rows i row).0) (λ more. named_from T more (drop (suc i) rows)) out result here (rw add-one at rest))

pub goes_stop : {D : Type 0} (view : D → List ℕ) (T : Tree) (before : List ℕ) (rows : List (ℕ × List Val)) (i : ℕ) (row : ℕ × List Val) (stop : Stop) → i < length rows → row ≡ get_or rows i row
    → Says {B = D} view (with_named T before row.0) (Err stop) → Says view (named_from T before (drop i rows)) (Err stop)
goes_stop view T before rows i row stop h is first =
    let here = subst (λ (x : ℕ × List Val). Says view (with_named T before x.0) (Err stop)) is first in
    rw (drop-cons rows i row) (stop_says view view (with_named T before (get_or rows i row).0) (λ more. named_from T more (drop (suc i) rows)) stop here)

-- after the last
pub all_gone : {D : Type 0} (view : D → List ℕ) (T : Tree) (rows : List (ℕ × List Val)) (i : ℕ) (out : D) → length rows ≤ i → Says view (named_from T (view out) (drop i rows)) (Ok out)
all_gone view T rows i out h = rw (drop_all i rows h) refl

-- what is said of all rows one after another is said of all
pub of_all : {D : Type 0} (view : D → List ℕ) (T : Tree) (rows : List (ℕ × List Val)) (result : Result D Stop) → Says view (named_from T [] rows) result → Says view (listed_ids T rows) result
of_all view T rows result said = subst (λ a. Says view a result) (all_named T rows) said
