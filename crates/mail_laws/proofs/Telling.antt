-- After each command that makes or changes a message it tells of itself rightly.
use Rattle.std.proofs.Common.{◌≡◌, ℕ, ◌%◌, not, List, Option, None, Some, is_some, IfOk, refl, subst, inl, inr}
use Rattle.std.proofs.lemmas.Bool.{cases_Bool}
use Rattle.std.proofs.lemmas.Option.{none-some, same_Some}
use Rattle.mapi_values.specs.Messages.{Mes}
use Rattle.mapi_values.specs.Properties.{put, remove_id}
use Rattle.mapi_values.specs.Values.{Val}
use Rattle.mapi_values.specs.declared.value.Tag.{Tag}
use Rattle.command_text.specs.declared.command.Command.{Command}
use Rattle.command_text.specs.declared.command.Held.{Held}
use Rattle.command_text.specs.declared.command.Command.TheVariants.{SetProperty, UnsetProperty, AddRecipient, RemoveRecipient, AddAttachment, AppendData, RemoveAttachment, SetEmbedded}
use Rattle.command_text.specs.declared.reply.CommandRefusal.{CommandRefusal}
use Rattle.command_text.specs.declared.reply.CommandRefusal.TheVariants.{Limit, Object as NoObject, Property as NoProperty}
use Rattle.command_text.specs.declared.reply.LastLine.{LastLine}
use Rattle.command_text.specs.declared.reply.LastLine.TheVariants.{Attached, Done, Row}
use Rattle.command_text.specs.declared.reply.Limit.TheVariants.{Rows}
use Rattle.mail_objects.specs.declared.object.Object.TheVariants.{Message}
use Rattle.mail_tree.specs.Changing.{Answer, ◌>>=◌, as_message, nothing, now_at}
use Rattle.mail_tree.specs.Folders.{Outcome, replied}
use Rattle.mail_tree.specs.Messages.{added_attachment, added_recipient, adding_attachment, adding_recipient, appended_data, appending, changed_message, message_in, remaking, removed_attachment, removed_recipient, set_value, spent_index, spent_row, too_long, unset_value, set_embedded}
use Rattle.mail_tree.specs.Names.{unless_nameless}
use Rattle.mail_tree.specs.Parts.{attachment_tags, has_recipient, is_full, is_wide, lengthened, new_part, new_row, next_part, next_row, part_in, part_nid, part_with, recipient_props, recipient_tags, room_for, rows_of, with_attachment, with_bytes, with_part, with_recipient, without_attachment, without_recipient, part_holding}
use Rattle.mail_tree.specs.Step.{outcome}
use Rattle.mail_tree.specs.Tree.{Tree}
use Rattle.mail_tree.specs.Values.{bytes_of, finished, is_set_protected, is_unset_protected, with_props}
use Rattle.mail_laws.specs.MessageLaws.{changes}
use Rattle.mail_laws.proofs.Effects.{Changes, remakes}
use Rattle.mail_laws.proofs.Keeping.{from_fine, if_any, if_found, if_test, if_then, if_weaker}
use Rattle.mail_laws.proofs.MessageSteps.{Before, fine_message_in}
use Rattle.pst_base.specs.declared.subs.Sub.{Sub}

-- the message was made right
abbrev pub MadeRight : Tree → ℕ → Outcome → Type 0
MadeRight T m o = (M : Mes) × (as_message (now_at T o.changed m) ≡ Some (finished M))

module _ (T : Tree) (w : Before T) where
  makes_right : (m : ℕ) (M new : Mes) (reason : Option CommandRefusal) (last : LastLine) → now_at T nothing m ≡ Some (Message M) → m % 32 ≡ 4 → new.nid ≡ M.nid → new.folder ≡ M.folder → IfOk (remaking T new reason last) (MadeRight T m)
  makes_right m M new reason last is four same there =
      if_weaker (λ o. Changes T m (Some (finished new)) o × (o.reply ≡ replied last)) (MadeRight T m) (remaking T new reason last) (remakes T m M new reason last w is four same there) (λ o k. (new, k.0.here))

  -- what a message that is found becomes
  after_found : (m : ℕ) (f : Mes → Answer Outcome) → ((M : Mes) → now_at T nothing m ≡ Some (Message M) → m % 32 ≡ 4 → IfOk (f M) (MadeRight T m)) → IfOk (message_in T m >>= f) (MadeRight T m)
  after_found m f next = if_then _ (MadeRight T m) (message_in T m) f (from_fine _ (message_in T m) (fine_message_in T m w)) (λ M h. next M h.0 h.1)

  adds_recipient : (m kind : ℕ) (address name : List ℕ) → IfOk (added_recipient T m kind address name) (MadeRight T m)
  unfolding added_recipient adding_recipient
  adds_recipient m kind address name = after_found m _ (λ M is four.
      let row = next_row (rows_of M.recipients) in
      if_test (MadeRight T m) (is_full M.recipients) (Limit Rows) _ (if_test (MadeRight T m) (is_wide recipient_tags M.recipients) (Limit Rows) _
      (makes_right m M (with_recipient (new_row row) (recipient_props kind address name) M) (spent_row row) (Row (new_row row)) is four refl refl)))

  removes_recipient : (m row : ℕ) → IfOk (removed_recipient T m row) (MadeRight T m)
  unfolding removed_recipient
  removes_recipient m row = after_found m _ (λ M is four. if_test (MadeRight T m) (not (has_recipient row M)) NoObject _ (makes_right m M (without_recipient row M) None Done is four refl refl))

  adds_attachment : (m : ℕ) (name : List ℕ) (held : Held) → IfOk (added_attachment T m name held) (MadeRight T m)
  unfolding added_attachment adding_attachment
  adds_attachment m name held = after_found m _ (λ M is four.
      let index = next_part M in
      if_test (MadeRight T m) (is_full M.attachments) (Limit Rows) _ (if_test (MadeRight T m) (is_wide attachment_tags M.attachments) (Limit Rows) _
      (makes_right m M (with_attachment (new_part (part_nid index) name held) (room_for index M)) (spent_index index) (Attached (part_nid index)) is four refl refl)))

  appends_data : (m n : ℕ) (more : List ℕ) → IfOk (appended_data T m n more) (MadeRight T m)
  unfolding appended_data appending
  appends_data m n more = after_found m _ (λ M is four.
      if_found (MadeRight T m) NoObject (part_in n M) _ (λ part is_part. if_found (MadeRight T m) NoProperty (bytes_of 0x3701 0x0102 part.props) _ (λ old is_old.
      let props = with_bytes (lengthened old more) part.props in
      makes_right m M (with_part (part_with props part) M) (too_long old more) Done is four refl refl)))

  sets_embedded : (m n : ℕ) (node : Sub) → IfOk (set_embedded T m n node) (MadeRight T m)
  unfolding set_embedded
  sets_embedded m n node = after_found m _ (λ M is four.
      if_found (MadeRight T m) NoObject (part_in n M) _ (λ part is_part.
      makes_right m M (with_part (part_holding node part) M) None Done is four refl refl))

  removes_attachment : (m n : ℕ) → IfOk (removed_attachment T m n) (MadeRight T m)
  unfolding removed_attachment
  removes_attachment m n = after_found m _ (λ M is four. if_test (MadeRight T m) (not (is_some (part_in n M))) NoObject _ (makes_right m M (without_attachment n M) None Done is four refl refl))

  sets : (m : ℕ) (v : Val) → IfOk (set_value T m v) (MadeRight T m)
  unfolding set_value changed_message
  sets m v = after_found m _ (λ M is four. elim (cases_Bool (is_set_protected v.id M.props)) [
    | inl t ↦ rw t tt
    | inr t ↦ rw t (if_then (λ u. Unit {0}) (MadeRight T m) (unless_nameless T v.id) _ (if_any (unless_nameless T v.id)) (λ u x. makes_right m M (with_props (put v M.props) M) None Done is four refl refl))
  ])

  unsets : (m : ℕ) (tag : Tag) → IfOk (unset_value T m tag) (MadeRight T m)
  unfolding unset_value changed_message
  unsets m tag = after_found m _ (λ M is four. elim (cases_Bool (is_unset_protected tag.id tag.kind M.props)) [
    | inl t ↦ rw t tt
    | inr t ↦ rw t (elim (cases_Bool (is_some (bytes_of tag.id tag.kind M.props))) [
      | inr u ↦ rw u tt
      | inl u ↦ rw u (makes_right m M (with_props (remove_id tag.id M.props) M) None Done is four refl refl)
    ])
  ])

  pub made_right : (c : Command) (m : ℕ) → changes c ≡ Some m → IfOk (outcome T c) (MadeRight T m)
  unfolding outcome
  made_right (SetProperty message value) m e = subst (λ x. IfOk (set_value T message.bits value) (MadeRight T x)) (same_Some message.bits m e) (sets message.bits value)
  made_right (UnsetProperty message tag) m e = subst (λ x. IfOk (unset_value T message.bits tag) (MadeRight T x)) (same_Some message.bits m e) (unsets message.bits tag)
  made_right (AddRecipient message kind address name) m e = subst (λ x. IfOk (added_recipient T message.bits kind address name) (MadeRight T x)) (same_Some message.bits m e) (adds_recipient message.bits kind address name)
  made_right (RemoveRecipient message row) m e = subst (λ x. IfOk (removed_recipient T message.bits row) (MadeRight T x)) (same_Some message.bits m e) (removes_recipient message.bits row)
  made_right (AddAttachment message name held) m e = subst (λ x. IfOk (added_attachment T message.bits name held) (MadeRight T x)) (same_Some message.bits m e) (adds_attachment message.bits name held)
  made_right (AppendData message attachment bytes) m e = subst (λ x. IfOk (appended_data T message.bits attachment.bits bytes) (MadeRight T x)) (same_Some message.bits m e) (appends_data message.bits attachment.bits bytes)
  made_right (SetEmbedded message attachment node) m e = subst (λ x. IfOk (set_embedded T message.bits attachment.bits node) (MadeRight T x)) (same_Some message.bits m e) (sets_embedded message.bits attachment.bits node)
  made_right (RemoveAttachment message attachment) m e = subst (λ x. IfOk (removed_attachment T message.bits attachment.bits) (MadeRight T x)) (same_Some message.bits m e) (removes_attachment message.bits attachment.bits)
  made_right other m e = absurd (none-some m e)
