-- After each command rows mirror attachments, where they did before.
use Rattle.std.proofs.Common.{◌≡◌, ℕ, ◌++◌, true, List, Option, None, Some, IfOk, refl, sym, subst, ap, ◌∙◌, inl, inr}
use Rattle.std.proofs.lemmas.Bool.{cases_eq}
use Rattle.std.proofs.lemmas.Option.{none-some, same_Some}
use Rattle.mapi_values.specs.Messages.{Mes}
use Rattle.mapi_values.specs.Properties.{put, remove_id}
use Rattle.mapi_values.specs.Values.{Val}
use Rattle.command_text.specs.declared.command.Command.{Command}
use Rattle.command_text.specs.declared.command.Command.TheVariants.{MakeFolder, RenameFolder, MoveFolder, RemoveFolder, ListFolder, NewMessage, SetProperty, UnsetProperty, GetProperty, ListProperties, MoveMessage, CopyMessage, RemoveMessage, AddRecipient, RemoveRecipient, AddAttachment, AppendData, RemoveAttachment, FetchData, Save, Quit, NameProperty, MakeSearch, SetCriteria, GetCriteria, SetEmbedded}
use Rattle.mail_tree.specs.declared.places.FolderPlace.{FolderPlace}
use Rattle.mail_tree.specs.Changing.{as_message, now_at}
use Rattle.mail_tree.specs.Folders.{Outcome, place, unchanged}
use Rattle.mail_tree.specs.Ids.{new_id}
use Rattle.mail_tree.specs.Messages.{copy_of, in_folder, plain_message}
use Rattle.mail_tree.specs.Names.{NAMES, named_property}
use Rattle.mail_tree.specs.Parts.{new_part, part_with, recipient_props, with_attachment, with_bytes, with_part, with_recipient, without_attachment, without_recipient, part_holding}
use Rattle.mail_tree.specs.Step.{after, outcome}
use Rattle.mail_tree.specs.Tree.{Tree, object_at}
use Rattle.mail_tree.specs.Values.{finished, with_props}
use Rattle.mail_tree.specs.Whole.{IsWhole}
use Rattle.mail_tree.proofs.AfterTree.{after_now, now_nothing}
use Rattle.mail_laws.specs.AttachmentLaws.{MirrorsAttachments}
use Rattle.mail_laws.specs.Laws.{message_with, only_reads}
use Rattle.mail_laws.proofs.Effects.{Appended, Changes, ChangedValues, Copied, GotAttachment, GotRecipient, MadeNew, Moved, Remade, adds_attachment, adds_recipient, appends_data, copies, makes, moves, only_message, removes, removes_attachment, removes_recipient, sets, unsets, HasEmbedded, sets_embedded}
use Rattle.mail_laws.proofs.Keeping.{if_weaker}
use Rattle.mail_laws.proofs.LawSteps.{before, both_hold, reads_only, was_message, was_nothing}
use Rattle.mail_laws.proofs.MessageSteps.{Keeps}
use Rattle.mail_laws.proofs.NameSteps.{PutsNames, puts_names_after}
use Rattle.mail_laws.proofs.PartRows.{with_one, with_other, without_one}
use Rattle.mail_laws.proofs.PlaceEffects.{MadeFolder, Placed, Renamed, makes_folder, moves_folder, only_place, removes_folder, renames_folder}

bare : (m folder : ℕ) (props : List Val) → MirrorsAttachments (finished (plain_message m folder props))
unfolding finished
bare m folder props = refl

-- of these messages, rows mirror attachments; what is new is one of them only where all are
module _ (T : Tree) (w : IsWhole T) (D : ℕ → Type 0) (shown : (k : ℕ) (M : Mes) → D k → message_with T k ≡ Some M → MirrorsAttachments M) (fresh : (q : ℕ) → D q → object_at T q ≡ None → (x : ℕ) → D x) where
  abbrev pub Mirror : Outcome → Type 0
  Mirror o = (k : ℕ) (M : Mes) → D k → message_with (after T o) k ≡ Some M → MirrorsAttachments M

  -- one message is so now
  changes : (m : ℕ) (N : Option Mes) (o : Outcome) → Keeps T o → Changes T m N o → ((M : Mes) → D m → N ≡ Some M → MirrorsAttachments M) → Mirror o
  changes m N o k c next =
      let only = only_message T m N o (before T w) k c in
      λ q M d e. elim (cases_eq q m) [
        | inl same ↦ next M (subst D same d) (sym only.here ∙ ap (message_with (after T o)) (sym same) ∙ e)
        | inr other ↦ shown q M d (sym (only.others q other) ∙ e)
      ]

  remade : (m : ℕ) (make : Mes → Mes) (o : Outcome) → Keeps T o → (r : Remade T m make o) → (MirrorsAttachments r.0 → MirrorsAttachments (make r.0)) → Mirror o
  remade m make o k r next = changes m (Some (with_props r.1 (make r.0))) o k r.3 (λ M d e.
      subst MirrorsAttachments (same_Some (with_props r.1 (make r.0)) M e) (next (shown m r.0 d (was_message T m r.0 r.2))))

  revalued : (m : ℕ) (values : Mes → List Val) (o : Outcome) → Keeps T o → ChangedValues T m values o → Mirror o
  revalued m values o k r = changes m (Some (with_props r.1 r.0)) o k r.3 (λ M d e.
      subst MirrorsAttachments (same_Some (with_props r.1 r.0) M e) (shown m r.0 d (was_message T m r.0 r.2)))

  placed : (f : ℕ) (now : Option FolderPlace) (o : Outcome) → Keeps T o → Placed T f now o → Mirror o
  placed f now o k c = let only = only_place T f now o (before T w) k c in λ q M d e. shown q M d (sym (only.messages q) ∙ e)

  reads : (c : Command) → only_reads c ≡ true → IfOk (outcome T c) Mirror
  reads c e = if_weaker (λ o. o ≡ unchanged T o.reply) Mirror (outcome T c) (reads_only T c e) (λ o same q M d is.
      let objects : object_at (after T o) ≡ object_at T = sym (after_now T o) ∙ ap (λ (x : Outcome). now_at T x.changed) same ∙ now_nothing T in
      shown q M d (ap (λ g. as_message (g q)) (sym objects) ∙ is))

  names : (guid : List ℕ) (number : ℕ) → IfOk (named_property T guid number) Mirror
  names guid number = if_weaker (PutsNames T) Mirror (named_property T guid number) (puts_names_after T guid number (before T w)) (λ o k q M d is.
      let now : as_message (now_at T o.changed q) ≡ Some M = ap (λ g. as_message (g q)) (after_now T o) ∙ is in
      elim (cases_eq q NAMES) [
        | inl same ↦ absurd (none-some M (sym (ap as_message (ap (now_at T o.changed) same ∙ k.puts.here)) ∙ now))
        | inr other ↦ shown q M d (ap (λ g. as_message (g q)) (sym (now_nothing T)) ∙ sym (ap as_message (k.puts.others q other)) ∙ now)
      ])

  pub mirror_after : (c : Command) → IfOk (outcome T c) Mirror
  unfolding outcome
  mirror_after (MakeFolder parent name) = both_hold T (MakeFolder parent name) w (MadeFolder T parent.bits name) Mirror (makes_folder T parent.bits name (before T w)) (λ o k r. placed r.0 (Some (place r.0 parent.bits)) o k r.3)
  mirror_after (RenameFolder folder name) = both_hold T (RenameFolder folder name) w (Renamed T folder.bits name) Mirror (renames_folder T folder.bits name (before T w)) (λ o k r. placed folder.bits (Some r.0) o k r.2)
  mirror_after (MoveFolder folder parent) = both_hold T (MoveFolder folder parent) w (Placed T folder.bits (Some (place folder.bits parent.bits))) Mirror (moves_folder T folder.bits parent.bits (before T w)) (λ o k r. placed folder.bits (Some (place folder.bits parent.bits)) o k r)
  mirror_after (RemoveFolder folder) = both_hold T (RemoveFolder folder) w (Placed T folder.bits None) Mirror (removes_folder T folder.bits (before T w)) (λ o k r. placed folder.bits None o k r)
  mirror_after (NewMessage folder class time values) = both_hold T (NewMessage folder class time values) w (MadeNew T folder.bits class time values) Mirror (makes T folder.bits class time values (before T w)) (λ o k r.
      changes r.1.nid (Some r.1) o k r.5.changes_it (λ M d e. subst MirrorsAttachments (sym r.6.2 ∙ same_Some r.1 M e) (bare (new_id 4 r.0) folder.bits _)))
  mirror_after (SetProperty message value) = both_hold T (SetProperty message value) w _ Mirror (sets T message.bits value (before T w)) (λ o k r. revalued message.bits (λ M. put value M.props) o k r.0)
  mirror_after (UnsetProperty message tag) = both_hold T (UnsetProperty message tag) w _ Mirror (unsets T message.bits tag (before T w)) (λ o k r. revalued message.bits (λ M. remove_id tag.id M.props) o k r.0)
  mirror_after (MoveMessage message folder) = both_hold T (MoveMessage message folder) w (Moved T message.bits folder.bits) Mirror (moves T message.bits folder.bits (before T w)) (λ o k r.
      changes message.bits (Some (in_folder folder.bits r.0)) o k r.2 (λ M d e. subst MirrorsAttachments (same_Some (in_folder folder.bits r.0) M e) (shown message.bits r.0 d (was_message T message.bits r.0 r.1))))
  mirror_after (CopyMessage message folder) = both_hold T (CopyMessage message folder) w (Copied T message.bits folder.bits) Mirror (copies T message.bits folder.bits (before T w)) (λ o k r.
      let n = new_id 4 r.1 in let N = copy_of n folder.bits r.0 in
      changes n (Some N) o k r.4.changes_it (λ M d e. subst MirrorsAttachments (same_Some N M e) (shown message.bits r.0 (fresh n d (was_nothing T n r.3) message.bits) (was_message T message.bits r.0 r.2))))
  mirror_after (RemoveMessage message) = both_hold T (RemoveMessage message) w (Changes T message.bits None) Mirror (removes T message.bits (before T w)) (λ o k r. changes message.bits None o k r (λ M d e. absurd (none-some M e)))
  mirror_after (AddRecipient message kind address name) = both_hold T (AddRecipient message kind address name) w (GotRecipient T message.bits kind address name) Mirror (adds_recipient T message.bits kind address name (before T w))
      (λ o k r. remade message.bits (with_recipient r.0 (recipient_props kind address name)) o k r.1 (λ s. s))
  mirror_after (RemoveRecipient message row) = both_hold T (RemoveRecipient message row) w (Remade T message.bits (without_recipient row)) Mirror (removes_recipient T message.bits row (before T w))
      (λ o k r. remade message.bits (without_recipient row) o k r (λ s. s))
  mirror_after (AddAttachment message name held) = both_hold T (AddAttachment message name held) w (GotAttachment T message.bits name held) Mirror (adds_attachment T message.bits name held (before T w))
      (λ o k r. let part = new_part r.0 name held in remade message.bits (with_attachment part) o k r.1 (λ s. with_one part r.1.0 s))
  mirror_after (AppendData message attachment bytes) = both_hold T (AppendData message attachment bytes) w (Appended T message.bits attachment.bits bytes) Mirror (appends_data T message.bits attachment.bits bytes (before T w))
      (λ o k r. let part = part_with (with_bytes (r.0.1 ++ bytes) r.0.0.props) r.0.0 in remade message.bits (with_part part) o k r.1 (λ s. with_other part attachment.bits r.0.0 r.1.0 r.2.0 s))
  mirror_after (SetEmbedded message attachment node) = both_hold T (SetEmbedded message attachment node) w (HasEmbedded T message.bits attachment.bits node) Mirror (sets_embedded T message.bits attachment.bits node (before T w))
      (λ o k r. let part = part_holding node r.0 in remade message.bits (with_part part) o k r.1 (λ s. with_other part attachment.bits r.0 r.1.0 r.2 s))
  mirror_after (RemoveAttachment message attachment) = both_hold T (RemoveAttachment message attachment) w (Remade T message.bits (without_attachment attachment.bits)) Mirror (removes_attachment T message.bits attachment.bits (before T w))
      (λ o k r. remade message.bits (without_attachment attachment.bits) o k r (λ s. without_one attachment.bits r.0 s))
  mirror_after (NameProperty guid number) = names guid number
  mirror_after (ListFolder folder) = reads (ListFolder folder) refl
  mirror_after (GetProperty message tag) = reads (GetProperty message tag) refl
  mirror_after (ListProperties message) = reads (ListProperties message) refl
  mirror_after (FetchData message attachment) = reads (FetchData message attachment) refl
  mirror_after (MakeSearch parent name) = tt
  mirror_after (SetCriteria folder flags scope restriction) = tt
  mirror_after (GetCriteria folder) = tt
  mirror_after Save = reads Save refl
  mirror_after Quit = reads Quit refl
