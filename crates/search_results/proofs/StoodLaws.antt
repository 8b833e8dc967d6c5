-- A message that a command names stood there before, and one that it makes didn't.
use Rattle.std.proofs.Common.{◌≡◌, ℕ, zero, suc, ◌<◌, ◌≤◌, ◌==◌, not, Bool, true, false, min, max, nat_lt, get_or, List, Option, None, Some, Ok, Err, IfOk, is_some, arith, refl, sym, ap, ◌∙◌, subst, inl, inr}
use Rattle.std.proofs.lemmas.Bool.{cases_Bool, cases_eq, ltb-false, or_parts}
use Rattle.std.specs.Ordering.{nat_cmp}
use Rattle.std.specs.FinMap as map
use Rattle.node_port.specs.Nodes.{node_at}
use Rattle.pst_base.specs.Ids.{kind_of, nid_of}
use Rattle.mapi_values.specs.Messages.{Mes}
use Rattle.mapi_values.specs.Tables.{find_row}
use Rattle.mapi_values.specs.Values.{Val}
use Rattle.command_text.specs.declared.command.Command.{Command}
use Rattle.command_text.specs.declared.command.Command.TheVariants.{MakeFolder, RenameFolder, MoveFolder, RemoveFolder, ListFolder, NewMessage, SetProperty, UnsetProperty, GetProperty, ListProperties, MoveMessage, CopyMessage, RemoveMessage, AddRecipient, RemoveRecipient, AddAttachment, AppendData, RemoveAttachment, FetchData, NameProperty, MakeSearch, SetCriteria, GetCriteria, Save, Quit, SetEmbedded}
use Rattle.command_text.specs.declared.reply.CommandRefusal.TheVariants.{Object as NoObject}
use Rattle.mail_objects.specs.declared.object.Object.{Object}
use Rattle.mail_tree.specs.Changing.{Answer, Changed, ◌>>=◌, as_message, contents, context_at, found, known, message_at, newest, nothing, now_at, refused_if, table_at, within_limits}
use Rattle.mail_tree.specs.Folders.{Outcome, folder_in, making, unless_full, unless_plain}
use Rattle.mail_tree.specs.Ids.{LAST_INDEX, greatest, is_spent, is_taken, is_used, message_kinds, new_id, next_index}
use Rattle.mail_tree.specs.Messages.{added_attachment, added_recipient, appended_data, copied_message, copying, making_message, message_in, moved_message, new_message, parent_at, removed_attachment, removed_message, removed_recipient, set_value, unset_value, given_message, set_embedded}
use Rattle.mail_tree.specs.Places.{find_place, is_plain}
use Rattle.mail_tree.specs.Step.{outcome}
use Rattle.mail_tree.specs.Tree.{Tree, object_at}
use Rattle.mail_draft.specs.declared.stop.Stop.{Stop}
use Rattle.mail_draft.specs.Answers.{IsNoMatter, Says}
use Rattle.search_results.specs.declared.forms.TouchForm.{TouchForm}
use Rattle.search_results.specs.Forms.{IsNew, Stood, form_of}

-- what is so of whatever comes next
if_next : {A B : Type 0} (P : B → Type 0) (a : Answer A) (f : A → Answer B) → ((x : A) → IfOk (f x) P) → IfOk (a >>= f) P
if_next P (Ok x) f next = next x
if_next P (Err e) f next = tt

-- whatever was answered
always : {A : Type 0} (a : Answer A) → IfOk a (λ x. Unit {0})
always (Ok x) = tt
always (Err e) = tt

module _ (T : Tree) where
  pub now_nothing : (q : ℕ) → now_at T nothing q ≡ object_at T q
  now_nothing q = ap (λ (r : Option (Option Object)). newest r (object_at T q)) (map.get-empty nat_cmp q)

  -- a message was there
  abbrev WasThere : ℕ → Type 0
  WasThere m = is_some (as_message (object_at T m)) ≡ true

  abbrev There : {A : Type 0} → ℕ → A → Type 0
  There m x = WasThere m

  is_there : (m : ℕ) → IfOk (message_at T nothing m) (There m)
  is_there m = subst (λ o. IfOk (known (as_message o)) (There m)) (sym (now_nothing m)) (pick (as_message (object_at T m)))
    where
      pick : (o : Option Mes) → IfOk (known o) (λ (x : Mes). is_some o ≡ true)
      pick None = tt
      pick (Some M) = refl

  found_there : (m : ℕ) → IfOk (message_in T m) (There m)
  unfolding message_in
  found_there m =
      if_next (There m) (refused_if (not (kind_of m == 4)) NoObject) _ (λ u. if_next (There m) (found NoObject (parent_at T m)) _ (λ f. if_next (There m) (found NoObject (find_place f T.places)) _ (λ p.
      if_next (There m) (refused_if (not (is_plain p)) NoObject) _ (λ v. if_next (There m) (table_at T nothing (contents f)) _ (λ t. if_next (There m) (refused_if (not (is_some (find_row m t.table.rows))) NoObject) _ (λ w. is_there m))))))

  after_message : {B : Type 0} (m : ℕ) (f : Mes → Answer B) → IfOk (message_in T m >>= f) (There m)
  after_message {B} m f = pick (message_in T m) (found_there m)
    where
      next : (a : Answer B) → WasThere m → IfOk a (λ (x : B). WasThere m)
      next (Ok y) h = h
      next (Err e) h = tt

      pick : (a : Answer Mes) → IfOk a (There m) → IfOk (a >>= f) (There m)
      pick (Ok M) h = next (f M) h
      pick (Err e) h = tt

  -- a number above the greatest that passes fails
  above_fails : (test : ℕ → Bool) (n k : ℕ) → greatest test n < k → k ≤ n → test k ≡ false
  unfolding greatest
  above_fails test zero k more less = absurd (omega arith)
  above_fails test (suc n) k more less = elim (cases_Bool (test (suc n))) [
    | inl t ↦ absurd (let top : suc n < k = (rw t at more) in omega arith)
    | inr t ↦ elim (cases_eq k (suc n)) [
      | inl same ↦ rw same t
      | inr other ↦ above_fails test n k (rw t at more) (omega arith)
    ]
  ]

  next_above : (counter g last : ℕ) → nat_lt last (suc (max counter g)) ≡ false → (g < suc (max counter g)) × (suc (max counter g) ≤ last)
  next_above counter g last e = let le = ltb-false last (suc (max counter g)) e in (omega arith, le)

  not_there : {A : Type 0} (o : Option A) → is_some o ≡ false → o ≡ None
  not_there None e = refl
  not_there (Some x) e = cc

  -- nothing stands at the id of a new message
  free : is_spent (next_index T 4 message_kinds) ≡ false → as_message (object_at T (new_id 4 (next_index T 4 message_kinds))) ≡ None
  unfolding next_index
  free e =
      let p = next_above (get_or T.last 4 0) (greatest (is_used T message_kinds) LAST_INDEX) LAST_INDEX e in
      let index = suc (max (get_or T.last 4 0) (greatest (is_used T message_kinds) LAST_INDEX)) in
      let unused : is_used T message_kinds index ≡ false = above_fails (is_used T message_kinds) LAST_INDEX index p.0 p.1 in
      let id : new_id 4 index ≡ nid_of 4 index = (let m : min index LAST_INDEX ≡ index = omega (arith, p.1) in rw m refl) in
      let none : object_at T (nid_of 4 index) ≡ None = not_there (object_at T (nid_of 4 index)) (or_parts _ (is_some (node_at T.others (nid_of 4 index))) (or_parts (is_taken T (nid_of 4 index)) false unused).0).0 in
      ap (λ q. as_message (object_at T q)) id ∙ ap as_message none

  abbrev New : Outcome → Type 0
  New o = IsNew T o.reply.last

  made_new : (D : Changed) → IfOk (making T T.places 4 (next_index T 4 message_kinds) D) New
  made_new D = if_next New (within_limits T _ D) _ (λ u. elim (cases_Bool (is_spent (next_index T 4 message_kinds))) [
    | inl b ↦ rw b tt
    | inr b ↦ rw b (free b)
  ])

  then_making : (a : Answer Changed) → IfOk (a >>= making T T.places 4 (next_index T 4 message_kinds)) New
  then_making a = if_next New a _ made_new

  new_is_new : (folder : ℕ) (class : List ℕ) (time : ℕ) (values : List Val) → IfOk (new_message T folder class time values) New
  unfolding new_message given_message making_message
  new_is_new folder class time values =
      if_next New _ _ (λ g. if_next New (folder_in T folder) _ (λ p. if_next New (unless_plain p) _ (λ u. if_next New (context_at T nothing 0x21) _ (λ store. if_next New (unless_full T (contents folder)) _ (λ v. then_making _)))))

  copy_is_new : (m folder : ℕ) → IfOk (copied_message T m folder) New
  unfolding copied_message copying
  copy_is_new m folder =
      if_next New (message_in T m) _ (λ M. if_next New (folder_in T folder) _ (λ p. if_next New (unless_plain p) _ (λ u. if_next New _ _ (λ v. if_next New (unless_full T (contents folder)) _ (λ w. then_making _)))))

  pub stood : (c : Command) → IfOk (outcome T c) (Stood T (form_of c))
  unfolding outcome set_value unset_value moved_message removed_message added_recipient removed_recipient added_attachment appended_data set_embedded removed_attachment
  stood (MakeFolder parent name) = always (outcome T (MakeFolder parent name))
  stood (RenameFolder folder name) = always (outcome T (RenameFolder folder name))
  stood (MoveFolder folder parent) = always (outcome T (MoveFolder folder parent))
  stood (RemoveFolder folder) = always (outcome T (RemoveFolder folder))
  stood (ListFolder folder) = always (outcome T (ListFolder folder))
  stood (NewMessage folder class time values) = new_is_new folder.bits class time values
  stood (SetProperty message value) = after_message message.bits _
  stood (UnsetProperty message tag) = after_message message.bits _
  stood (GetProperty message tag) = always (outcome T (GetProperty message tag))
  stood (ListProperties message) = always (outcome T (ListProperties message))
  stood (MoveMessage message folder) = after_message message.bits _
  stood (CopyMessage message folder) = copy_is_new message.bits folder.bits
  stood (RemoveMessage message) = after_message message.bits _
  stood (AddRecipient message kind address name) = after_message message.bits _
  stood (RemoveRecipient message row) = after_message message.bits _
  stood (AddAttachment message name held) = after_message message.bits _
  stood (AppendData message attachment bytes) = after_message message.bits _
  stood (SetEmbedded message attachment node) = after_message message.bits _
  stood (RemoveAttachment message attachment) = after_message message.bits _
  stood (FetchData message attachment) = always (outcome T (FetchData message attachment))
  stood (NameProperty guid number) = always (outcome T (NameProperty guid number))
  stood (MakeSearch parent name) = tt
  stood (SetCriteria search flags scope restriction) = tt
  stood (GetCriteria search) = tt
  stood Save = tt
  stood Quit = tt

-- a command that came to this
pub stood_before : (T : Tree) (c : Command) (o : Outcome) → outcome T c ≡ Ok o → Stood T (form_of c) o
stood_before T c o e = subst (λ (a : Answer Outcome). IfOk a (Stood T (form_of c))) e (stood T c)

pub stood_form : (T : Tree) (c : Command) (o : Outcome) (form : TouchForm) → outcome T c ≡ Ok o → form ≡ form_of c → Stood T form o
stood_form T c o form e same = subst (λ f. Stood T f o) (sym same) (stood_before T c o e)

-- a message that stood there is the one that was read
pub was_message : (T : Tree) (m : ℕ) (M : Mes) → is_some (as_message (object_at T m)) ≡ true → Says (λ x. x) (message_at T nothing m) (Ok M) → as_message (object_at T m) ≡ Some M
was_message T m M there said = pick (as_message (object_at T m)) there (subst (λ (o : Option Object). Says (λ x. x) (known (as_message o)) (Ok M)) (now_nothing T m) said)
  where
    pick : (o : Option Mes) → is_some o ≡ true → Says (λ x. x) (known o) (Ok M) → o ≡ Some M
    pick None there said = cc
    pick (Some N) there said = ap Some (sym said)

-- and where it couldn't be read, that is no matter of the tree
pub was_stop : (T : Tree) (m : ℕ) (stop : Stop) → is_some (as_message (object_at T m)) ≡ true → Says {B = Mes} (λ x. x) (message_at T nothing m) (Err stop) → IsNoMatter stop
was_stop T m stop there said = pick (as_message (object_at T m)) there (subst (λ (o : Option Object). Says {B = Mes} (λ x. x) (known (as_message o)) (Err stop)) (now_nothing T m) said)
  where
    pick : (o : Option Mes) → is_some o ≡ true → Says {B = Mes} (λ x. x) (known o) (Err stop) → IsNoMatter stop
    pick None there said = cc
    pick (Some N) there said = said
