-- After each command no other node stands beside a plain folder.
use Rattle.std.proofs.Common.{◌≡◌, ℕ, ◌%◌, arith, Bool, true, false, cond, List, Option, None, Some, is_some, IfOk, Ok, Err, refl, sym, subst, ap, ◌∙◌, inl, inr}
use Rattle.std.proofs.lemmas.Bool.{cases_Bool, cases_eq}
use Rattle.std.proofs.lemmas.Option.{none-some}
use Rattle.std.specs.Ordering.{nat_cmp}
use Rattle.std.specs.FinMap as map
use Rattle.node_port.specs.Nodes.{Nodes, node_at}
use Rattle.node_port.specs.declared.node.NodeRec.{NodeRec}
use Rattle.command_text.specs.declared.command.Command.{Command}
use Rattle.command_text.specs.declared.command.Command.TheVariants.{MakeFolder, RenameFolder, MoveFolder, RemoveFolder, ListFolder, NewMessage, SetProperty, UnsetProperty, GetProperty, ListProperties, MoveMessage, CopyMessage, RemoveMessage, AddRecipient, RemoveRecipient, AddAttachment, AppendData, RemoveAttachment, FetchData, Save, Quit, NameProperty, MakeSearch, SetCriteria, GetCriteria, SetEmbedded}
use Rattle.mapi_values.specs.Messages.{Mes}
use Rattle.mail_objects.specs.declared.object.Object.{Object}
use Rattle.mail_tree.specs.declared.places.FolderPlace.{FolderPlace}
use Rattle.mail_tree.specs.Places.{find_place, is_plain}
use Rattle.mail_tree.specs.Tree.{Tree}
use Rattle.mail_tree.specs.Names.{named_property}
use Rattle.mail_laws.proofs.NameSteps.{PutsNames, puts_names_after}
use Rattle.mail_tree.specs.Changing.{Answer, associated, nothing, now_at}
use Rattle.mail_tree.specs.Folders.{Outcome, moved_folder, made_folder, place, removed_folder, renamed_folder, unchanged}
use Rattle.mail_tree.specs.Messages.{copied_message, moved_message, new_message, removed_message, set_value, unset_value, added_recipient, removed_recipient, added_attachment, appended_data, removed_attachment, set_embedded}
use Rattle.mail_tree.specs.Step.{after, outcome, without_changed}
use Rattle.mail_tree.specs.Whole.{AreWhole, Fine, HasNoStray, IsWhole}
use Rattle.mail_tree.proofs.AfterLaws.{get-without_changed}
use Rattle.mail_tree.proofs.AfterTree.{after_now}
use Rattle.mail_laws.proofs.CommandSteps.{keeps_whole}
use Rattle.mail_laws.proofs.FolderSteps.{fine_made_folder}
use Rattle.mail_tree.proofs.Nearly.{nearly, plain_id}
use Rattle.mail_laws.proofs.Effects.{Changes, Copied, MadeNew, Moved, copies, makes, moves, removes, sets, unsets, adds_recipient, removes_recipient, adds_attachment, appends_data, removes_attachment, sets_embedded}
use Rattle.mail_tree.proofs.FineLaws.{cases_Option}
use Rattle.mail_laws.proofs.Keeping.{both, from_fine, if_weaker}
use Rattle.mail_laws.proofs.LawSteps.{before, reads_only}
use Rattle.mail_laws.proofs.MessageSteps.{Before, Keeps}
use Rattle.mail_laws.proofs.PlaceEffects.{MadeFolder, Placed, Renamed, makes_folder, moves_folder, removes_folder, renames_folder}

-- where no other node stood none stands after changes
pub no_node_comes : (cs : List (ℕ × Option Object)) (others : Nodes) (q : ℕ) → node_at others q ≡ None → node_at (without_changed cs others) q ≡ None
no_node_comes cs others q none = get-without_changed cs others q ∙ either (is_some (map.find nat_cmp q cs)) (node_at others q) none
  where
    either : (b : Bool) (other : Option NodeRec) → other ≡ None → cond b None other ≡ None
    either true other e = refl
    either false other e = e

-- beside what is a plain folder after a command no other node stood before it, and search folders stand where they stood
pub record Clear (T : Tree) (o : Outcome) : Type 0 where
  pub free : (f : ℕ) (p : FolderPlace) → find_place f o.places ≡ Some p → is_plain p ≡ true → node_at T.others (associated f) ≡ None
  pub searches : (f : ℕ) → f % 32 ≡ 3 → find_place f o.places ≡ find_place f T.places

clear_after : (T : Tree) (o : Outcome) → Clear T o → HasNoStray (after T o)
clear_after T o clear f p e plain = no_node_comes (map.entries o.changed.objects) T.others (associated f) (clear.free f p e plain)

-- places stay
clear_places : (T : Tree) (o : Outcome) → HasNoStray T → o.places ≡ T.places → Clear T o
clear_places T o clear same = record {
  free = λ f p e plain. clear f p (sym (ap (find_place f) same) ∙ e) plain;
  searches = λ f three. ap (find_place f) same;
}

-- one place changes, that of no search folder, and it is clear
clear_placed : (T : Tree) (f : ℕ) (now : Option FolderPlace) (o : Outcome) → HasNoStray T → Placed T f now o → (f % 32 ≡ 3 → now ≡ find_place f T.places) → ((p : FolderPlace) → now ≡ Some p → is_plain p ≡ true → node_at T.others (associated f) ≡ None) → Clear T o
clear_placed T f now o clear placed same here = record {
  free = λ g p e plain. elim (cases_eq g f) [
    | inl one ↦ ap (λ x. node_at T.others (associated x)) one ∙ here p (sym placed.here ∙ sym (ap (λ x. find_place x o.places) one) ∙ e) plain
    | inr other ↦ clear g p (sym (placed.others g other) ∙ e) plain
  ];
  searches = λ g three. elim (cases_eq g f) [
    | inl one ↦ ap (λ x. find_place x o.places) one ∙ placed.here ∙ same (ap (λ x. x % 32) (sym one) ∙ three) ∙ ap (λ x. find_place x T.places) (sym one)
    | inr other ↦ placed.others g other
  ];
}

-- a fact that doesn't hang on the answer
if_sure : {A : Type 0} (Q : Type 0) (a : Answer A) → Q → IfOk a (λ x. Q)
if_sure Q (Ok x) q = q
if_sure Q (Err e) q = tt

-- a folder that moves, or goes, is a plain one: no other node stands beside it
abbrev IsPlain : Tree → ℕ → Type 0
IsPlain T f = (f % 32 ≡ 2) × (node_at T.others (associated f) ≡ None)

is_plain_there : (T : Tree) (f : ℕ) (p : FolderPlace) → Before T → HasNoStray T → find_place f T.places ≡ Some p → is_plain p ≡ true → IsPlain T f
is_plain_there T f p w clear e plain = (plain_id (nearly (λ x. ⊥) T.places (now_at T nothing) w) f p e plain, clear f p e plain)

plain_moves : (T : Tree) (f parent : ℕ) → Before T → HasNoStray T → IfOk (moved_folder T f parent) (λ o. IsPlain T f)
unfolding moved_folder
plain_moves T f parent w clear = elim (cases_Option (find_place f T.places)) [
  | inl e ↦ rw e tt
  | inr p ↦ elim (cases_Bool (is_plain p.0)) [
    | inl plain ↦ if_sure (IsPlain T f) _ (is_plain_there T f p.0 w clear p.1 plain)
    | inr plain ↦ rw p.1 (elim (cases_Option (find_place parent T.places)) [ inl e ↦ rw e tt | inr q ↦ rw (q.1, plain) tt ])
  ]
]

plain_goes : (T : Tree) (f : ℕ) → Before T → HasNoStray T → IfOk (removed_folder T f) (λ o. IsPlain T f)
unfolding removed_folder
plain_goes T f w clear = elim (cases_Option (find_place f T.places)) [
  | inl e ↦ rw e tt
  | inr p ↦ elim (cases_Bool (is_plain p.0)) [
    | inl plain ↦ if_sure (IsPlain T f) _ (is_plain_there T f p.0 w clear p.1 plain)
    | inr plain ↦ rw (p.1, plain) tt
  ]
]

module _ (T : Tree) (w : Before T) (clear : HasNoStray T) where
  -- a command that only looks
  looks : (o : Outcome) → o ≡ unchanged T o.reply → Clear T o
  looks o same = clear_places T o clear (ap (λ (x : Outcome). x.places) same)

  -- a command that changes one message
  changes_one : (m : ℕ) (now : Option Mes) (o : Outcome) → Changes T m now o → Clear T o
  changes_one m now o k = clear_places T o clear k.places_are

  -- no other node stood beside what is a plain folder after a command
  pub stays_clear : (c : Command) → IfOk (outcome T c) (Clear T)
  unfolding outcome
  stays_clear (MakeFolder parent name) =
      both (Keeps T) (MadeFolder T parent.bits name) (Clear T) (made_folder T parent.bits name) (from_fine (Keeps T) (made_folder T parent.bits name) (fine_made_folder T parent.bits name w)) (makes_folder T parent.bits name w)
      (λ o h k. let two = h.kinds k.0 (place k.0 parent.bits) k.3.here in clear_placed T k.0 (Some (place k.0 parent.bits)) o clear k.3 (λ three. absurd (omega arith)) (λ p e plain. k.5))
  stays_clear (RenameFolder folder name) = if_weaker (Renamed T folder.bits name) (Clear T) (renamed_folder T folder.bits name) (renames_folder T folder.bits name w)
      (λ o k. clear_placed T folder.bits (Some k.0) o clear k.2 (λ three. sym k.1) (λ p e plain. clear folder.bits p (k.1 ∙ e) plain))
  stays_clear (MoveFolder folder parent) =
      both (Placed T folder.bits (Some (place folder.bits parent.bits))) (λ o. IsPlain T folder.bits) (Clear T) (moved_folder T folder.bits parent.bits)
      (moves_folder T folder.bits parent.bits w) (plain_moves T folder.bits parent.bits w clear) (λ o k is. let two = is.0 in clear_placed T folder.bits _ o clear k (λ three. absurd (omega arith)) (λ p e plain. is.1))
  stays_clear (RemoveFolder folder) =
      both (Placed T folder.bits None) (λ o. IsPlain T folder.bits) (Clear T) (removed_folder T folder.bits)
      (removes_folder T folder.bits w) (plain_goes T folder.bits w clear) (λ o k is. let two = is.0 in clear_placed T folder.bits None o clear k (λ three. absurd (omega arith)) (λ p e plain. absurd (none-some p e)))
  stays_clear (NewMessage folder class time values) = if_weaker (MadeNew T folder.bits class time values) (Clear T) (new_message T folder.bits class time values) (makes T folder.bits class time values w) (λ o k. changes_one _ _ o k.5.changes_it)
  stays_clear (SetProperty message value) = if_weaker _ (Clear T) (set_value T message.bits value) (sets T message.bits value w) (λ o k. changes_one _ _ o k.0.3)
  stays_clear (UnsetProperty message tag) = if_weaker _ (Clear T) (unset_value T message.bits tag) (unsets T message.bits tag w) (λ o k. changes_one _ _ o k.0.3)
  stays_clear (MoveMessage message folder) = if_weaker (Moved T message.bits folder.bits) (Clear T) (moved_message T message.bits folder.bits) (moves T message.bits folder.bits w) (λ o k. changes_one _ _ o k.2)
  stays_clear (CopyMessage message folder) = if_weaker (Copied T message.bits folder.bits) (Clear T) (copied_message T message.bits folder.bits) (copies T message.bits folder.bits w) (λ o k. changes_one _ _ o k.4.changes_it)
  stays_clear (RemoveMessage message) = if_weaker (Changes T message.bits None) (Clear T) (removed_message T message.bits) (removes T message.bits w) (λ o k. changes_one _ _ o k)
  stays_clear (ListFolder folder) = if_weaker _ (Clear T) (outcome T (ListFolder folder)) (reads_only T (ListFolder folder) refl) looks
  stays_clear (GetProperty message tag) = if_weaker _ (Clear T) (outcome T (GetProperty message tag)) (reads_only T (GetProperty message tag) refl) looks
  stays_clear (ListProperties message) = if_weaker _ (Clear T) (outcome T (ListProperties message)) (reads_only T (ListProperties message) refl) looks
  stays_clear (AddRecipient message kind address name) = if_weaker _ (Clear T) (added_recipient T message.bits kind address name) (adds_recipient T message.bits kind address name w) (λ o k. changes_one _ _ o k.1.3)
  stays_clear (RemoveRecipient message row) = if_weaker _ (Clear T) (removed_recipient T message.bits row) (removes_recipient T message.bits row w) (λ o k. changes_one _ _ o k.3)
  stays_clear (AddAttachment message name held) = if_weaker _ (Clear T) (added_attachment T message.bits name held) (adds_attachment T message.bits name held w) (λ o k. changes_one _ _ o k.1.3)
  stays_clear (AppendData message attachment bytes) = if_weaker _ (Clear T) (appended_data T message.bits attachment.bits bytes) (appends_data T message.bits attachment.bits bytes w) (λ o k. changes_one _ _ o k.1.3)
  stays_clear (SetEmbedded message attachment node) = if_weaker _ (Clear T) (set_embedded T message.bits attachment.bits node) (sets_embedded T message.bits attachment.bits node w) (λ o k. changes_one _ _ o k.1.3)
  stays_clear (RemoveAttachment message attachment) = if_weaker _ (Clear T) (removed_attachment T message.bits attachment.bits) (removes_attachment T message.bits attachment.bits w) (λ o k. changes_one _ _ o k.3)
  stays_clear (FetchData message attachment) = if_weaker _ (Clear T) (outcome T (FetchData message attachment)) (reads_only T (FetchData message attachment) refl) looks
  stays_clear (NameProperty guid number) = if_weaker (PutsNames T) (Clear T) (named_property T guid number) (puts_names_after T guid number w) (λ o k. clear_places T o clear k.places_are)
  stays_clear (MakeSearch parent name) = tt
  stays_clear (SetCriteria folder flags scope restriction) = tt
  stays_clear (GetCriteria folder) = tt
  stays_clear Save = clear_places T _ clear refl
  stays_clear Quit = clear_places T _ clear refl

-- an answer is fine, and has a fact besides
pub fine_with : {A : Type 0} (P Q R : A → Type 0) (a : Answer A) → Fine a P → IfOk a Q → ((x : A) → P x → Q x → R x) → Fine a R
fine_with P Q R (Ok x) p q next = next x p q
fine_with P Q R (Err None) p q next = p
fine_with P Q R (Err (Some refusal)) p q next = tt

-- the tree is whole after each command
pub whole_after : (T : Tree) (c : Command) → IsWhole T → Fine (outcome T c) (λ o. IsWhole (after T o))
whole_after T c w =
    let b = before T w in
    fine_with (Keeps T) (Clear T) (λ o. IsWhole (after T o)) (outcome T c) (keeps_whole T c b w.no_stray) (stays_clear T b w.no_stray c)
    (λ o k clear. record { objects = subst (AreWhole o.places) (after_now T o) k; no_stray = clear_after T o clear })
