-- What a chain of steps leaves of the messages, where it answers.
use Rattle.std.proofs.Common.{◌≡◌, ℕ, ◌%◌, ◌<◌, ◌==◌, Bool, true, false, List, Option, Some, IfOk, Ok, Err, arith, refl, subst, ◌∙◌, inl, inr, None}
use Rattle.std.proofs.lemmas.Bool.{cases_Bool}
use Rattle.mapi_values.specs.Tables.{drop_row}
use Rattle.mapi_values.specs.Values.{Val}
use Rattle.command_text.specs.declared.reply.CommandRefusal.{CommandRefusal}
use Rattle.command_text.specs.declared.reply.CommandRefusal.TheVariants.{Ids}
use Rattle.command_text.specs.declared.reply.Reply.{Reply}
use Rattle.mail_objects.specs.Forms.{Ctx}
use Rattle.mail_objects.specs.declared.object.Object.{Object}
use Rattle.mail_objects.specs.declared.object.Object.TheVariants.{Context, Table}
use Rattle.mail_tree.specs.declared.places.FolderPlace.{FolderPlace}
use Rattle.mail_tree.specs.Places.{ROOT}
use Rattle.mail_tree.specs.Tree.{Tree}
use Rattle.mail_tree.specs.Changing.{Answer, Changed, ◌>>=◌, add_shown, beside, contents, context_at, drop_shown, found, hierarchy, now_at, overfills, put_shown, refused_if, shown_row, table_at, with_rows, within_limits}
use Rattle.mail_tree.specs.Settling.{counted, message_ids, mirrored, table_as_is, settled, unread_among, with_context}
use Rattle.mail_tree.specs.Folders.{Outcome, changing, making, moving, nid, replied, replying}
use Rattle.command_text.specs.declared.reply.LastLine.TheVariants.{Made}
use Rattle.mail_tree.specs.Ids.{is_spent, new_id}
use Rattle.mail_tree.specs.Whole.{Fine}
use Rattle.mail_tree.proofs.AfterTree.{puts_object}
use Rattle.mail_tree.proofs.Nearly.{Puts}
use Rattle.mail_tree.proofs.KindsOfPuts.{beside_kind}
use Rattle.pst_base.specs.declared.ids.Nid.{Nid}

-- a step, and what follows it
pub if_then : {A B : Type 0} (P : A → Type 0) (Q : B → Type 0) (a : Answer A) (f : A → Answer B) → IfOk a P → ((x : A) → P x → IfOk (f x) Q) → IfOk (a >>= f) Q
if_then P Q (Ok x) f first next = next x first
if_then P Q (Err e) f first next = tt

pub if_any : {A : Type 0} (a : Answer A) → IfOk a (λ x. Unit {0})
if_any (Ok x) = tt
if_any (Err e) = tt

-- what holds of each answer where the thing is there holds where it is asked for
pub if_found : {A B : Type 0} (Q : B → Type 0) (refusal : CommandRefusal) (o : Option A) (f : A → Answer B) → ((x : A) → o ≡ Some x → IfOk (f x) Q) → IfOk (found refusal o >>= f) Q
if_found Q refusal None f h = tt
if_found Q refusal (Some x) f h = h x refl

-- a test that refuses answers nothing
pub if_test : {B : Type 0} (Q : B → Type 0) (b : Bool) (refusal : CommandRefusal) (f : Unit {0} → Answer B) → IfOk (f tt) Q → IfOk (refused_if b refusal >>= f) Q
if_test Q true refusal f h = tt
if_test Q false refusal f h = h

-- where no index is left nothing is made
pub never_made : (T : Tree) (places : List FolderPlace) (kind index : ℕ) (Q : Outcome → Type 0) (a : Answer Changed) → is_spent index ≡ true → IfOk (a >>= making T places kind index) Q
never_made T places kind index Q a spent = if_then (λ D. Unit {0}) Q a (making T places kind index) (if_any a) (λ D u. if_then (λ v. Unit {0}) Q (within_limits T _ D) _ (if_any (within_limits T _ D)) (λ v v'. rw spent tt))

-- what holds without another reason against it holds where there may be one
pub if_replying : (T : Tree) (a : Answer Changed) (reason : Option CommandRefusal) (reply : Reply) (Q : Outcome → Type 0) → IfOk (a >>= changing T reply) Q → IfOk (a >>= replying T reason reply) Q
if_replying T (Err e) reason reply Q k = tt
if_replying T (Ok D) None reply Q k = k
if_replying T (Ok D) (Some refusal) reply Q k = if_then (λ u. Unit {0}) Q (within_limits T _ D) _ (if_any (within_limits T _ D)) (λ u v. tt)

pub from_fine : {A : Type 0} (P : A → Type 0) (a : Answer A) → Fine a P → IfOk a P
from_fine P (Ok x) h = h
from_fine P (Err e) h = tt

-- two facts of one answer
pub both : {A : Type 0} (P Q R : A → Type 0) (a : Answer A) → IfOk a P → IfOk a Q → ((x : A) → P x → Q x → R x) → IfOk a R
both P Q R (Ok x) p q r = r x p q
both P Q R (Err e) p q r = tt

pub if_weaker : {A : Type 0} (P Q : A → Type 0) (a : Answer A) → IfOk a P → ((x : A) → P x → Q x) → IfOk a Q
if_weaker P Q (Ok x) p f = f x p
if_weaker P Q (Err e) p f = tt

-- at each of these ids stands what stood there
abbrev pub Kept : (ℕ → Type 0) → (ℕ → Option Object) → (ℕ → Option Object) → Type 0
Kept S at at' = (k : ℕ) → S k → at' k ≡ at k

pub kept_put : (S : ℕ → Type 0) (at at' : ℕ → Option Object) (q : ℕ) (o : Option Object) → Puts at at' q o → (S q → ⊥) → Kept S at at'
kept_put S at at' q o puts other k is = puts.others k (λ e. other (subst S e is))

-- the ids of messages
abbrev pub Four : ℕ → Type 0
Four k = k % 32 ≡ 4

pub no_table : (g : ℕ) → Four (hierarchy g) → ⊥
no_table g e = omega (arith, beside_kind g 13 (omega arith))

-- one message is now so, and each other as it was
pub record PutsMessage (at at' : ℕ → Option Object) (m : ℕ) (o : Option Object) : Type 0 where
  pub here : at' m ≡ o
  pub others : (k : ℕ) → k % 32 ≡ 4 → (k ≡ m → ⊥) → at' k ≡ at k

pub kept_after : (at at' at'' : ℕ → Option Object) (m : ℕ) (o : Option Object) → m % 32 ≡ 4 → Puts at at' m o → Kept Four at' at'' → PutsMessage at at'' m o
kept_after at at' at'' m o four puts kept = record { here = kept m four ∙ puts.here; others = λ k four other. kept k four ∙ puts.others k other }

pub table_apart : (f kind : ℕ) → kind < 32 → 4 < kind → beside f kind % 32 ≡ 4 → ⊥
table_apart f kind high low e = omega (arith, beside_kind f kind high)

-- changes keep what stands at these ids
abbrev pub KeepsAt : (ℕ → Type 0) → Tree → Changed → Changed → Type 0
KeepsAt S T D D' = Kept S (now_at T D) (now_at T D')

module _ (S : ℕ → Type 0) (no_hierarchy : (g : ℕ) → S (hierarchy g) → ⊥) (T : Tree) where
  pub put_keeps : (q id : ℕ) (props : List Val) (D : Changed) → (S q → ⊥) → IfOk (put_shown T q id props D) (KeepsAt S T D)
  unfolding put_shown
  put_keeps q id props D other = if_then (λ t. Unit {0}) (KeepsAt S T D) (table_at T D q) _ (if_any (table_at T D q)) (λ t u. kept_put S _ _ q _ (puts_object T D q (Some (with_rows (shown_row id props t.table) t))) other)

  pub add_keeps : (q id : ℕ) (props : List Val) (D : Changed) → (S q → ⊥) → IfOk (add_shown T q id props D) (KeepsAt S T D)
  unfolding add_shown
  add_keeps q id props D other = if_then (λ t. Unit {0}) (KeepsAt S T D) (table_at T D q) _ (if_any (table_at T D q)) (λ t u. elim (cases_Bool (overfills t.table.rows (shown_row id props t.table))) [
    | inl b ↦ rw b tt
    | inr b ↦ rw b (kept_put S _ _ q _ (puts_object T D q (Some (with_rows (shown_row id props t.table) t))) other)
  ])

  pub drop_keeps : (q id : ℕ) (D : Changed) → (S q → ⊥) → IfOk (drop_shown T q id D) (KeepsAt S T D)
  unfolding drop_shown
  drop_keeps q id D other = if_then (λ t. Unit {0}) (KeepsAt S T D) (table_at T D q) _ (if_any (table_at T D q)) (λ t u. kept_put S _ _ q _ (puts_object T D q (Some (with_rows (drop_row id t.table.rows) t))) other)

  context_keeps : (f : ℕ) (c : Ctx) (props : List Val) (D : Changed) → (S f → ⊥) → KeepsAt S T D (with_context f c props D)
  context_keeps f c props D other = kept_put S _ _ f _ (puts_object T D f (Some (Context (record c { props = props })))) other

  counted_keeps : (places : List FolderPlace) (f : ℕ) (D : Changed) → (S f → ⊥) → IfOk (counted T places f D) (KeepsAt S T D)
  unfolding counted
  counted_keeps places f D other =
      if_then (λ c. Unit {0}) (KeepsAt S T D) (context_at T D f) _ (if_any (context_at T D f)) (λ c u.
      if_then (λ t. Unit {0}) (KeepsAt S T D) (table_at T D (contents f)) _ (if_any (table_at T D (contents f))) (λ t u.
      if_then (λ n. Unit {0}) (KeepsAt S T D) (unread_among T D (message_ids t.table)) _ (if_any (unread_among T D (message_ids t.table))) (λ n u.
      context_keeps f c _ D other)))

  -- a table is put as it is
  same_keeps : (q : ℕ) (D : Changed) → (S q → ⊥) → IfOk (table_as_is T q D) (KeepsAt S T D)
  unfolding table_as_is
  same_keeps q D other = if_then (λ t. Unit {0}) (KeepsAt S T D) (table_at T D q) _ (if_any (table_at T D q)) (λ t u. kept_put S _ _ q _ (puts_object T D q (Some (Table t))) other)

  pub mirrored_keeps : (f : ℕ) (D : Changed) → IfOk (mirrored T f D) (KeepsAt S T D)
  unfolding mirrored
  mirrored_keeps f D = elim (cases_Bool (f == ROOT)) [
    | inl b ↦ rw b (same_keeps (hierarchy ROOT) D (no_hierarchy ROOT))
    | inr b ↦ rw b (if_then (λ c. Unit {0}) (KeepsAt S T D) (context_at T D f) _ (if_any (context_at T D f)) (λ c u. put_keeps (hierarchy c.parent) f c.props D (no_hierarchy c.parent)))
  ]

  pub settled_keeps : (places : List FolderPlace) (f : ℕ) (D : Changed) → (S f → ⊥) → IfOk (settled T places f D) (KeepsAt S T D)
  unfolding settled
  settled_keeps places f D other = if_then (KeepsAt S T D) (KeepsAt S T D) (counted T places f D) (mirrored T f) (counted_keeps places f D other) (λ D' k. if_weaker (KeepsAt S T D') (KeepsAt S T D) (mirrored T f D') (mirrored_keeps f D') (λ D'' k' m four. k' m four ∙ k m four))

  -- settled too
  pub then_settled : (places : List FolderPlace) (f : ℕ) (D : Changed) (a : Answer Changed) → (S f → ⊥) → IfOk a (KeepsAt S T D) → IfOk (a >>= settled T places f) (KeepsAt S T D)
  then_settled places f D a other h = if_then (KeepsAt S T D) (KeepsAt S T D) a (settled T places f) h (λ D' k. if_weaker (KeepsAt S T D') (KeepsAt S T D) (settled T places f D') (settled_keeps places f D' other) (λ D'' k' m four. k' m four ∙ k m four))

  -- what a command comes to
  pub record Comes (D : Changed) (places : List FolderPlace) (reply : Reply) (o : Outcome) : Type 0 where
    pub keeps : KeepsAt S T D o.changed
    pub places_are : o.places ≡ places
    pub reply_is : o.reply ≡ reply

  limited : {B : Type 0} (new : Option Nid) (Q : B → Type 0) (D : Changed) (f : Unit {0} → Answer B) → IfOk (f tt) Q → IfOk (within_limits T new D >>= f) Q
  limited new Q D f h = if_then (λ u. Unit {0}) Q (within_limits T new D) f (if_any (within_limits T new D)) (λ u v. h)

  pub then_changing : (D : Changed) (a : Answer Changed) (reply : Reply) → IfOk a (KeepsAt S T D) → IfOk (a >>= changing T reply) (Comes D T.places reply)
  then_changing D a reply h = if_then (KeepsAt S T D) (Comes D T.places reply) a (changing T reply) h (λ D' k. limited _ (Comes D T.places reply) D' _ (record { keeps = k; places_are = refl; reply_is = refl }))

  pub then_moving : (D : Changed) (a : Answer Changed) (places : List FolderPlace) (reply : Reply) → IfOk a (KeepsAt S T D) → IfOk (a >>= moving T places reply) (Comes D places reply)
  then_moving D a places reply h = if_then (KeepsAt S T D) (Comes D places reply) a (moving T places reply) h (λ D' k. limited _ (Comes D places reply) D' _ (record { keeps = k; places_are = refl; reply_is = refl }))

  pub then_making : (D : Changed) (a : Answer Changed) (places : List FolderPlace) (kind index : ℕ) → IfOk a (KeepsAt S T D) → IfOk (a >>= making T places kind index) (Comes D places (replied (Made (nid (new_id kind index)))))
  then_making D a places kind index h = if_then (KeepsAt S T D) (Comes D places (replied (Made (nid (new_id kind index))))) a (making T places kind index) h
      (λ D' k. limited _ (Comes D places (replied (Made (nid (new_id kind index))))) D' _
      (if_test (Comes D places (replied (Made (nid (new_id kind index))))) (is_spent index) Ids _ (record { keeps = k; places_are = refl; reply_is = refl })))
