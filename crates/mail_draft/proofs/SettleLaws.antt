-- What a folder's counts and rows come from.
use Rattle.std.proofs.Common.{◌≡◌, ◌≢◌, ℕ, Bool, List, length, Option, Result, Ok, Err, ap, ◌∙◌, subst}
use Rattle.std.proofs.lemmas.Bool.{eq-eqb, ne_eqb}
use Rattle.std.specs.List.{list_any}
use Rattle.mapi_values.specs.Values.{Val}
use Rattle.mail_objects.specs.Forms.{Ctx, Tbl}
use Rattle.mail_objects.specs.declared.object.Object.{Object}
use Rattle.mail_tree.specs.declared.places.FolderPlace.{FolderPlace}
use Rattle.mail_tree.specs.Places.{ROOT, is_child}
use Rattle.mail_tree.specs.Tree.{Tree}
use Rattle.mail_tree.specs.Values.{with_counts}
use Rattle.mail_tree.specs.Changing.{Answer, Changed, ◌>>=◌, as_table, context_at, hierarchy, known, put_shown}
use Rattle.mail_tree.specs.Settling.{message_ids, mirrored, above_as_is, table_as_is, unread_among, with_context}
use Rattle.mail_draft.specs.declared.draft.Draft.{Draft}
use Rattle.mail_draft.specs.declared.stop.Stop.{Stop}
use Rattle.mail_draft.specs.Answers.{Says}
use Rattle.mail_draft.specs.Drafts.{changed_of}
use Rattle.mail_draft.specs.Listed.{listed_in}

-- a call at the same place
pub says_at : {X A B : Type 0} (view : B → A) (ask : X → Answer A) (x y : X) (r : Result B Stop) → x ≡ y → Says view (ask x) r → Says view (ask y) r
says_at view ask x y r e s = subst (λ z. Says view (ask z) r) e s

-- a folder whose table lists these messages is counted
abbrev pub counted_of : Tree → List FolderPlace → ℕ → Changed → Ctx → List ℕ → Answer Changed
counted_of T places f D c ids = unread_among T D ids >>= λ unread. Ok (with_context f c (with_counts (length ids) unread (list_any (is_child f) places) c.props) D)

-- what comes of the ids that a table lists, comes of the table
pub from_listed : {C D : Type 0} (view : D → C) (object : Option Object) (f : List ℕ → Answer C) (r : Result D Stop)
    → Says view (listed_in object >>= f) r → Says view (known (as_table object) >>= λ t. f (message_ids t.table)) r
from_listed {C} view object f r = regroup (known (as_table object))
  where
    regroup : (a : Answer Tbl) → Says view ((a >>= λ t. Ok (message_ids t.table)) >>= f) r → Says view (a >>= λ t. f (message_ids t.table)) r
    regroup (Ok t) h = h
    regroup (Err e) h = h

-- a folder that was counted
pub counted_put : (q : ℕ) (c : Ctx) (places : List FolderPlace) (n unread : ℕ) (has : Bool) (ids : List ℕ) (old props : List Val) (D D' : Changed)
    → n ≡ length ids → has ≡ list_any (is_child q) places → old ≡ c.props → props ≡ with_counts n unread has old
    → D' ≡ with_context q c props D → D' ≡ with_context q c (with_counts (length ids) unread (list_any (is_child q) places) c.props) D
counted_put q c places n unread has ids old props D D' len child same counts put =
    put ∙ ap (λ p. with_context q c p D) (counts
    ∙ ap (λ k. with_counts k unread has old) len
    ∙ ap (λ b. with_counts (length ids) unread b old) child
    ∙ ap (with_counts (length ids) unread (list_any (is_child q) places)) same)

-- the table of folders that lists the root is its own
root_table : (f q : ℕ) → f ≡ ROOT → q ≡ hierarchy f → q ≡ hierarchy ROOT
root_table f q e table = table ∙ ap hierarchy e

-- the root has no row
pub mirrors_root : (T : Tree) (f q : ℕ) (D : Changed) (r : Result Draft Stop) → f ≡ ROOT → q ≡ hierarchy f → Says changed_of (table_as_is T q D) r → Says changed_of (mirrored T f D) r
unfolding mirrored
mirrors_root T f q D r e table h = rw (eq-eqb f ROOT e) (says_at changed_of (λ x. table_as_is T x D) q (hierarchy ROOT) r (root_table f q e table) h)

-- the root is listed by none, and stands for its own parent
pub above_root : (T : Tree) (f q : ℕ) (D : Changed) (r : Result Draft Stop) → f ≡ ROOT → q ≡ hierarchy f → Says changed_of (table_as_is T q D) r → Says changed_of (above_as_is T f D) r
unfolding above_as_is
above_root T f q D r e table h = rw (eq-eqb f ROOT e) (says_at changed_of (λ x. table_as_is T x D) q (hierarchy ROOT) r (root_table f q e table) h)

-- another folder is listed by its parent
pub above_other : (T : Tree) (f : ℕ) (D : Changed) (r : Result Draft Stop) → f ≢ ROOT
    → Says changed_of (context_at T D f >>= λ c. table_as_is T (hierarchy c.parent) D) r → Says changed_of (above_as_is T f D) r
unfolding above_as_is
above_other T f D r n h = rw (ne_eqb f ROOT n) h

-- another folder has one
pub mirrors_other : (T : Tree) (f : ℕ) (D : Changed) (r : Result Draft Stop) → f ≢ ROOT
    → Says changed_of (context_at T D f >>= λ c. put_shown T (hierarchy c.parent) f c.props D) r → Says changed_of (mirrored T f D) r
unfolding mirrored
mirrors_other T f D r n h = rw (ne_eqb f ROOT n) h

-- the row of the same object in the same table
pub puts_same : (T : Tree) (q q' id : ℕ) (props props' : List Val) (D : Changed) (r : Result Draft Stop) → q ≡ q' → props ≡ props'
    → Says changed_of (put_shown T q id props D) r → Says changed_of (put_shown T q' id props' D) r
puts_same T q q' id props props' D r same values h =
    subst (λ vs. Says changed_of (put_shown T q' id vs D) r) values (subst (λ z. Says changed_of (put_shown T z id props D) r) same h)
