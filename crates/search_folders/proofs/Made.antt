-- What a new search comes to, step by step.
use Rattle.std.proofs.Common.{◌≡◌, ℕ, List, Option, None, Some, Result, Ok, Err, refl, subst, sym, if◌then◌else◌}
use Rattle.std.specs.Prelude.{false}
use Rattle.std.specs.List.{list_all}
use Rattle.mapi_values.specs.Characters.{folded}
use Rattle.mapi_values.specs.Keyed.{put_key}
use Rattle.mail_tree.specs.Changing.{Answer, ◌>>=◌, hierarchy, known, refused_if}
use Rattle.mail_tree.specs.Folders.{Outcome, folder_in, unless_full, unless_named, unless_plain}
use Rattle.mail_tree.specs.Ids.{new_id}
use Rattle.mail_tree.specs.declared.places.FolderPlace.{FolderPlace}
use Rattle.mail_tree.specs.Places.{children, is_deep}
use Rattle.mail_tree.specs.Tree.{Tree}
use Rattle.mail_draft.specs.Answers.{Says}
use Rattle.mail_draft.specs.Sight.{Answers, Sight}
use Rattle.mail_draft.specs.declared.stop.Stop.{Stop}
use Rattle.mail_folders.specs.Pieces.{plain_in}
use Rattle.mail_folders.proofs.Steps.{from_plain}
use Rattle.mail_searches.specs.Criteria.{Coming, has_list, made_search, making_search, making_search_in, next_search_index, unless_listless}
use Rattle.mail_searches.specs.Searching.{Searching}
use Rattle.search_folders.specs.Pieces.{unless_refused}

-- what is answered after a plain folder
pub answers_plain : {A E R : Type 0} {desk : Sight A} {view : R → E} {result : Result R Stop} (f : ℕ) (g : Tree → FolderPlace → Answer E)
    → Answers desk view (λ T D. plain_in T f >>= g T) result → Answers desk view (λ T D. folder_in T f >>= λ p. unless_plain p >>= λ u. g T p) result
answers_plain {view = view} {result = result} f g a = record { says = λ T s. from_plain view T f (g T) result (a.says T s) }

grouped_last : {B C D E F : Type 0} (b : Answer B) (c : Answer C) (d : Answer D) (e : Answer E) (f : Answer F) → (b >>= λ u. c >>= λ v. d >>= λ w. e >>= λ x. f) ≡ ((b >>= λ u. c >>= λ v. d >>= λ w. e) >>= λ x. f)
grouped_last (Err r) c d e f = refl
grouped_last (Ok u) (Err r) d e f = refl
grouped_last (Ok u) (Ok v) (Err r) e f = refl
grouped_last (Ok u) (Ok v) (Ok w) e f = refl

grouped : {A B C D E F : Type 0} (a : Answer A) (b : A → Answer B) (c : Answer C) (d : Answer D) (e : Answer E) (f : Answer F)
    → (a >>= λ p. b p >>= λ u. c >>= λ v. d >>= λ w. e >>= λ x. f) ≡ ((a >>= λ p. b p >>= λ u. c >>= λ v. d >>= λ w. e) >>= λ x. f)
grouped (Err r) b c d e f = refl
grouped (Ok p) b c d e f = grouped_last (b p) c d e f

-- the refusals first
refused_first : (T : Tree) (parent : ℕ) (name : List ℕ) (index : ℕ) → making_search_in T parent name index ≡ (unless_refused T parent name >>= λ x. making_search T parent name index)
unfolding making_search_in unless_refused
refused_first T parent name index = grouped (folder_in T parent) unless_plain (unless_named T (folded false name) (children parent T.places)) (refused_if (is_deep T.places parent) _) (unless_full T (hierarchy parent)) (making_search T parent name index)

-- what the command comes to, where the search of this index came to this in the tree
abbrev pub made_by : Searching → ℕ → Outcome → Coming
made_by X index o = record { outcome = o; own = put_key (λ f. f) (new_id 3 index) X.own; searches = X.searches }

-- what is said after a test that something is of its form
from_known : {B C D : Type 0} (view : D → C) (o : Option (Unit {0})) (a : Answer (Unit {0})) (b m : Answer B) (g : B → Answer C) (result : Result D Stop) → m ≡ (a >>= λ u. b)
    → (known o ≡ Ok tt → Says view (a >>= λ u. b >>= g) result) → Says view (known o >>= λ u. m >>= g) result
from_known view None a b m g result same said = tt
from_known view (Some u) (Ok v) b m g result same said = subst (λ k. Says view (k >>= g) result) (sym same) (said refl)
from_known view (Some u) (Err e) b m g result same said = subst (λ k. Says view (k >>= g) result) (sym same) (said refl)

-- it is said where it is said of a tree whose plain folders have their tables
pub made_says : {D : Type 0} (view : D → Coming) (X : Searching) (parent : ℕ) (name : List ℕ) (result : Result D Stop)
    → (unless_listless X.tree ≡ Ok tt → Says view (unless_refused X.tree parent name >>= λ u. making_search X.tree parent name (next_search_index X.tree) >>= λ o. Ok (made_by X (next_search_index X.tree) o)) result)
    → Says view (made_search X parent name) result
unfolding made_search
made_says view X parent name result said =
    from_known view (if list_all (has_list X.tree) X.tree.places then Some tt else None) (unless_refused X.tree parent name) (making_search X.tree parent name (next_search_index X.tree))
    (making_search_in X.tree parent name (next_search_index X.tree)) (λ o. Ok (made_by X (next_search_index X.tree) o)) result (refused_first X.tree parent name (next_search_index X.tree)) said

-- the index that was given
pub index_given : (T : Tree) (n : ℕ) → unless_listless T ≡ Ok tt → Says {B = ℕ} (λ k. k) (unless_listless T >>= λ u. Ok (next_search_index T)) (Ok n) → n ≡ next_search_index T
index_given T n e said = rw e at said
