-- A folder's own table, or that of the one above, and its counts.
use Rattle.std.proofs.Common.{◌≡◌, ◌≢◌, ℕ, Bool, List, Result, Ok, length, ap, ◌∙◌}
use Rattle.std.proofs.lemmas.Bool.{eq-eqb, ne_eqb}
use Rattle.mail_objects.specs.Forms.{Ctx}
use Rattle.mail_tree.specs.Places.{ROOT}
use Rattle.mail_tree.specs.Changing.{◌>>=◌, context_at, hierarchy, now_at, put_shown, table_at}
use Rattle.mail_tree.specs.Settling.{above_as_is, message_ids, mirrored, table_as_is, unread_among, with_context}
use Rattle.mail_tree.specs.Values.{with_counts}
use Rattle.mail_draft.specs.declared.stop.Stop.{Stop}
use Rattle.mail_draft.specs.Listed.{listed_in}
use Rattle.mail_draft.specs.Sight.{Changes, Sight}
use Rattle.mail_draft.proofs.DeskCalls.{changes_at}
use Rattle.mail_draft.proofs.SettleLaws.{from_listed}

-- the root is listed by none, and stands for its own parent
pub above_root : {A R : Type 0} {old new : Sight A} {f q : ℕ} {r : Result R Stop} → f ≡ ROOT → q ≡ hierarchy f → Changes old new (λ T. table_as_is T q) r → Changes old new (λ T. above_as_is T f) r
unfolding above_as_is
above_root {f = f} e table h = record { says = λ T s. rw (eq-eqb f ROOT e) ((changes_at (λ x T. table_as_is T x) (table ∙ ap hierarchy e) h).says T s) }

pub above_other : {A R : Type 0} {old new : Sight A} {f : ℕ} {r : Result R Stop} → f ≢ ROOT
    → Changes old new (λ T D. context_at T D f >>= λ c. table_as_is T (hierarchy c.parent) D) r → Changes old new (λ T. above_as_is T f) r
unfolding above_as_is
above_other {f = f} e h = record { says = λ T s. rw (ne_eqb f ROOT e) (h.says T s) }

-- the root has no row, and another folder has one
pub mirrors_root : {A R : Type 0} {old new : Sight A} {f q : ℕ} {r : Result R Stop} → f ≡ ROOT → q ≡ hierarchy f → Changes old new (λ T. table_as_is T q) r → Changes old new (λ T. mirrored T f) r
unfolding mirrored
mirrors_root {f = f} e table h = record { says = λ T s. rw (eq-eqb f ROOT e) ((changes_at (λ x T. table_as_is T x) (table ∙ ap hierarchy e) h).says T s) }

pub mirrors_other : {A R : Type 0} {old new : Sight A} {f : ℕ} {r : Result R Stop} → f ≢ ROOT
    → Changes old new (λ T D. context_at T D f >>= λ c. put_shown T (hierarchy c.parent) f c.props D) r → Changes old new (λ T. mirrored T f) r
unfolding mirrored
mirrors_other {f = f} e h = record { says = λ T s. rw (ne_eqb f ROOT e) (h.says T s) }

-- the ids that a table lists are those of the table
pub counts_listed : {A R : Type 0} {old new : Sight A} {r : Result R Stop} (f q : ℕ) (c : Ctx) (has_folders : Bool)
    → Changes old new (λ T D. listed_in (now_at T D q) >>= λ ids. unread_among T D ids >>= λ unread. Ok (with_context f c (with_counts (length ids) unread has_folders c.props) D)) r
    → Changes old new (λ T D. table_at T D q >>= λ t. unread_among T D (message_ids t.table) >>= λ unread. Ok (with_context f c (with_counts (length (message_ids t.table)) unread has_folders c.props) D)) r
counts_listed {old = old} {new = new} {r = r} f q c has_folders h = record {
  says = λ T s. from_listed (λ w. new.changed) (now_at T old.changed q)
      (λ (ids : List ℕ). unread_among T old.changed ids >>= λ unread. Ok (with_context f c (with_counts (length ids) unread has_folders c.props) old.changed)) r (h.says T s);
}
