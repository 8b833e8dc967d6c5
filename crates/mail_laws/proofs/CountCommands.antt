-- After each command counts are right, where they were so before or were set anew.
use Rattle.command_text.specs.declared.reply.LastLine.{LastLine}
use Rattle.command_text.specs.declared.reply.Limit.TheVariants.{Rows}
use Rattle.command_text.specs.declared.reply.CommandRefusal.{CommandRefusal}
use Rattle.std.proofs.Common.{◌≡◌, ℕ, ◌%◌, ◌<◌, ◌==◌, Bool, true, false, not, filter, List, [], Option, None, Some, IfOk, IsSome, is_some, arith, refl, sym, subst, ap, ◌∙◌, ◌⊎◌, inl, inr, Ok, Err, ◌||◌}
use Rattle.std.proofs.lemmas.Bool.{and_left, cases_Bool, cases_eq, ne_eqb, eqb-true}
use Rattle.std.proofs.lemmas.Option.{none-some, same_Some}
use Rattle.mapi_values.specs.Characters.{folded}
use Rattle.mapi_values.specs.Keyed.{drop_key, put_key}
use Rattle.mapi_values.specs.Messages.{Mes}
use Rattle.mapi_values.specs.Properties.{find, put, remove_id}
use Rattle.mapi_values.specs.Tables.{find_row}
use Rattle.mapi_values.specs.Values.{Val}
use Rattle.mapi_values.specs.declared.value.Tag.{Tag}
use Rattle.command_text.specs.declared.command.Command.{Command}
use Rattle.command_text.specs.declared.command.Held.{Held}
use Rattle.command_text.specs.declared.command.Command.TheVariants.{MakeFolder, RenameFolder, MoveFolder, RemoveFolder, ListFolder, NewMessage, SetProperty, UnsetProperty, GetProperty, ListProperties, MoveMessage, CopyMessage, RemoveMessage, AddRecipient, RemoveRecipient, AddAttachment, AppendData, RemoveAttachment, FetchData, Save, Quit, NameProperty, MakeSearch, SetCriteria, GetCriteria, SetEmbedded}
use Rattle.command_text.specs.declared.reply.LastLine.TheVariants.{Attached, Done, Made, Row}
use Rattle.command_text.specs.declared.reply.Reply.{Reply}
use Rattle.mail_objects.specs.Forms.{Ctx, Tbl}
use Rattle.mail_objects.specs.declared.object.Object.{Object}
use Rattle.mail_objects.specs.declared.object.Object.TheVariants.{Context, Table, Message}
use Rattle.mail_tree.specs.declared.places.FolderPlace.{FolderPlace}
use Rattle.mail_tree.specs.Places.{ROOT, children, find_place, is_child, is_deep, is_plain, is_within, moves_deep, place_id}
use Rattle.mail_tree.specs.Tree.{Tree}
use Rattle.mail_tree.specs.Values.{bytes_of, finished, folder_props, is_set_protected, is_unset_protected, message_props, name_of, text, truth, with_props, is_withheld}
use Rattle.command_text.specs.declared.reply.CommandRefusal.TheVariants.{Ids, Limit, Object as NoObject, Property as NoProperty, Protected}
use Rattle.mail_tree.specs.Names.{NAMES, named_property, unless_nameless}
use Rattle.mail_laws.proofs.NameSteps.{PutsNames, puts_names_after}
use Rattle.mail_tree.specs.Changing.{Answer, Changed, ◌>>=◌, add_shown, associated, beside, contents, context_at, drop_shown, hierarchy, nothing, now_at, put_shown, table_at, with_object, within_limits}
use Rattle.mail_tree.specs.Columns.{contents_table, hierarchy_table}
use Rattle.mail_tree.specs.Settling.{message_ids, mirrored, settled, with_context, touched}
use Rattle.mail_tree.specs.Ids.{folder_kinds, is_spent, is_taken, message_kinds, new_id, next_index}
use Rattle.mail_tree.specs.Folders.{Outcome, associated_in, changing, folder_lines, has_associated, has_rows, listing, made_folder, making, making_folder, moved_between, moved_folder, nid, place, removed_folder, without_folder, without_node, message_lines, moving, renamed_folder, replied, siblings, unless_full, unless_named, unless_protected, with_folder}
use Rattle.mail_tree.specs.Messages.{added_attachment, added_message, added_recipient, adding_attachment, adding_recipient, appended_data, appending, fetched_data, removed_attachment, spent_index, too_long, changed_message, copied_message, copy_of, copying, details, in_folder, is_overfull, making_message, message_in, moved_message, new_message, plain_message, remaking, removed_message, removed_recipient, set_value, spent_row, unset_value, value_in, value_of, given_message, set_embedded}
use Rattle.mail_tree.specs.Parts.{attachment_tags, data_tag, has_recipient, is_full, is_wide, lengthened, new_part, new_row, next_part, next_row, part_in, part_nid, part_with, recipient_props, recipient_tags, room_for, rows_of, with_attachment, with_bytes, with_part, with_recipient, without_attachment, without_recipient, part_holding}
use Rattle.mail_laws.specs.Laws.{AreCountedBut, IsCounted}
use Rattle.mail_tree.proofs.AfterTree.{puts_object}
use Rattle.mail_tree.proofs.FineLaws.{cases_Option}
use Rattle.mapi_values.proofs.KeyedLaws.{put-ascends}
use Rattle.std.specs.List.{list_any}
use Rattle.mail_tree.proofs.KeyedFinds.{find-put_same, find-put_other, find-drop_other, find-drop_same}
use Rattle.mail_laws.proofs.FolderSteps.{beside_apart, fine_protected, not_placed}
use Rattle.mail_laws.proofs.NewIds.{new_folder_id}
use Rattle.mail_tree.specs.Step.{outcome}
use Rattle.mail_laws.proofs.Keeping.{from_fine, if_any, if_found, if_test, if_then, if_weaker, never_made, if_replying}
use Rattle.mail_tree.proofs.KindsOfPuts.{beside_kind, same_table}
use Rattle.mail_laws.proofs.MessageSteps.{Before, fine_message_in, finished_folder, finished_id, home_of, new_message_id, fine_home}
use Rattle.mail_laws.proofs.Touches.{if_context}
use Rattle.mail_laws.proofs.CountSteps.{PlainIds, add_counts, any_drop, any_put, counted_fewer, counted_places, counted_put, counted_too, drop_counts, mirrored_counts, no_contents, none_passes, own_contents, put_counts, then_counts, values_put}
use Rattle.mail_tree.proofs.Nearly.{Puts, nearly, plain_id}
use Rattle.mail_tree.proofs.Settles.{store_of}
use Rattle.pst_base.specs.declared.ids.Nid.{Nid}
use Rattle.pst_base.specs.declared.subs.Sub.{Sub}

module _ (T : Tree) (w : Before T) (E : ℕ → Type 0) (s : AreCountedBut E T.places (now_at T nothing)) where
  -- the counts of this folder are right too
  unfoldable pub Ends : ℕ → Outcome → Type 0
  Ends F o = AreCountedBut (λ x. E x × (x ≡ F → ⊥)) o.places (now_at T o.changed)

  -- counts that were right are so still
  unfoldable pub Keeps : Outcome → Type 0
  Keeps o = AreCountedBut E o.places (now_at T o.changed)

  -- the counts of these two folders are right too
  unfoldable pub EndsBoth : ℕ → ℕ → Outcome → Type 0
  EndsBoth F G o = AreCountedBut (λ x. (E x × (x ≡ F → ⊥)) × (x ≡ G → ⊥)) o.places (now_at T o.changed)

  both_fewer : (F G : ℕ) (o : Outcome) → EndsBoth F G o → Keeps o
  unfolding EndsBoth Keeps
  both_fewer F G o k = counted_fewer (λ x. (E x × (x ≡ F → ⊥)) × (x ≡ G → ⊥)) E o.places (now_at T o.changed) (λ x h. h.0.0) k

  ids : PlainIds T.places
  ids f p e plain = plain_id (nearly (λ x. ⊥) T.places (now_at T nothing) w) f p e plain

  limited : {B : Type 0} (new : Option Nid) (Q : B → Type 0) (D : Changed) (f : Unit {0} → Answer B) → IfOk (f tt) Q → IfOk (within_limits T new D >>= f) Q
  limited new Q D f h = if_then (λ u. Unit {0}) Q (within_limits T new D) f (if_any (within_limits T new D)) (λ u v. h)

  -- but for these counts are right after changes
  abbrev In : List FolderPlace → (ℕ → Type 0) → Changed → Type 0
  In places E' D = AreCountedBut E' places (now_at T D)

  -- a folder that was counted anew
  ended : (E' : ℕ → Type 0) (F : ℕ) (places : List FolderPlace) (D : Changed) → In places (λ x. (E' x ⊎ (x ≡ F)) × (x ≡ F → ⊥)) D → In places (λ x. E' x × (x ≡ F → ⊥)) D
  ended E' F places D k = counted_fewer (λ x. (E' x ⊎ (x ≡ F)) × (x ≡ F → ⊥)) (λ x. E' x × (x ≡ F → ⊥)) places (now_at T D) (λ x h. (elim h.0 [ inl e ↦ e | inr e ↦ absurd (h.1 e) ], h.1)) k

  changing_ends : (F : ℕ) (a : Answer Changed) (reply : Reply) → IfOk a (In T.places (λ x. (E x ⊎ (x ≡ F)) × (x ≡ F → ⊥))) → IfOk (a >>= changing T reply) (Ends F)
  unfolding Ends
  changing_ends F a reply h = if_then (In T.places (λ x. (E x ⊎ (x ≡ F)) × (x ≡ F → ⊥))) (Ends F) a (changing T reply) h (λ D k. limited _ (Ends F) D _ (ended E F T.places D k))

  making_ends : (F : ℕ) (a : Answer Changed) (kind index : ℕ) → IfOk a (In T.places (λ x. (E x ⊎ (x ≡ F)) × (x ≡ F → ⊥))) → IfOk (a >>= making T T.places kind index) (Ends F)
  unfolding Ends
  making_ends F a kind index h = if_then (In T.places (λ x. (E x ⊎ (x ≡ F)) × (x ≡ F → ⊥))) (Ends F) a (making T T.places kind index) h (λ D k. limited _ (Ends F) D _ (if_test (Ends F) (is_spent index) Ids _ (ended E F T.places D k)))

  -- a message is put
  message_put : (D D' : Changed) (m F : ℕ) (o : Option Object) → m % 32 ≡ 4 → In T.places E D → Puts (now_at T D) (now_at T D') m o → ((c : Ctx) → o ≡ Some (Context c) → ⊥)
      → ((f : ℕ) (q : FolderPlace) (u : Tbl) → find_place f T.places ≡ Some q → is_plain q ≡ true → now_at T D (contents f) ≡ Some (Table u) → IsSome (find_row m u.table.rows) → f ≡ F)
      → In T.places (λ x. E x ⊎ (x ≡ F)) D'
  message_put D D' m F o four k puts no_context only = counted_put (λ x. E x ⊎ (x ≡ F)) T.places (now_at T D) (now_at T D') m o (counted_fewer E (λ x. E x ⊎ (x ≡ F)) T.places (now_at T D) (λ x e. inl e) k) puts
      (λ f p c e plain free same is. absurd (no_context c is))
      (λ f p e plain free same. omega (arith, beside_kind f 14 (omega arith)))
      (λ f p t e plain free is row four. free (inr (only f p t e plain is row)))

  only_home : (m : ℕ) (M : Mes) → now_at T nothing m ≡ Some (Message M) → m % 32 ≡ 4 → (f : ℕ) (q : FolderPlace) (u : Tbl) → find_place f T.places ≡ Some q → is_plain q ≡ true → now_at T nothing (contents f) ≡ Some (Table u) → IsSome (find_row m u.table.rows) → f ≡ M.folder
  only_home m M is four f q u e plain at_u row =
      let v = w.listed f q u m e plain at_u row four in
      let same : v.0 ≡ M = cc in
      sym v.2 ∙ ap (λ x. x.folder) same

  contents_high : (f : ℕ) → 4 < contents f % 32
  contents_high f = omega (arith, beside_kind f 14 (omega arith))

  hierarchy_high : (f : ℕ) → 4 < hierarchy f % 32
  hierarchy_high f = omega (arith, beside_kind f 13 (omega arith))

  unfoldable pub Home : ℕ → Outcome → Type 0
  Home m o = (M : Mes) × (now_at T nothing m ≡ Some (Message M)) × Ends M.folder o

  pub removes : (m : ℕ) → IfOk (removed_message T m) (Home m)
  unfolding removed_message Home
  removes m = if_then _ (Home m) (message_in T m) _ (from_fine _ (message_in T m) (fine_message_in T m w)) (λ M h.
      let D = with_object m None nothing in let v = home_of T w m M h.0 in let F = M.folder in
      let two = ids F v.1 v.2 v.3 in
      let a = drop_shown T (contents F) m D in
      let E1 : ℕ → Type 0 = λ x. E x ⊎ (x ≡ F) in
      if_weaker (Ends F) (Home m) (a >>= settled T T.places F >>= changing T (replied Done))
      (changing_ends F (a >>= settled T T.places F) (replied Done) (then_counts T T.places ids E1 a F two
      (drop_counts T T.places ids E1 D (contents F) m (contents_high F) (own_contents T T.places ids E1 F two (inr refl))
      (message_put nothing D m F None h.1 s (puts_object T nothing m None) (λ c e. none-some (Context c) e) (only_home m M h.0 h.1)))))
      (λ o k. (M, h.0, k)))

  remakes : (m : ℕ) (M new : Mes) (reason : Option CommandRefusal) (last : LastLine) → now_at T nothing m ≡ Some (Message M) → m % 32 ≡ 4 → new.nid ≡ M.nid → new.folder ≡ M.folder → IfOk (remaking T new reason last) (Ends M.folder)
  unfolding remaking
  remakes m M new reason last is four same there =
      let N = finished new in
      let D0 = nothing in
      let D = with_object N.nid (Some (Message N)) D0 in let v = home_of T w m M is in
      let nid : N.nid ≡ m = finished_id new ∙ same ∙ v.0 in
      let four' : N.nid % 32 ≡ 4 = ap (λ x. x % 32) nid ∙ four in
      let folder : N.folder ≡ M.folder = finished_folder new ∙ there in
      let F = N.folder in
      let found : find_place F T.places ≡ Some v.1 = ap (λ x. find_place x T.places) folder ∙ v.2 in
      let two = ids F v.1 found v.3 in
      let E1 : ℕ → Type 0 = λ x. E x ⊎ (x ≡ F) in
      let a = put_shown T (contents F) N.nid N.props D in
      if_replying T (a >>= settled T T.places F) reason (replied last) (Ends M.folder) (subst (λ x. IfOk (a >>= settled T T.places F >>= changing T (replied last)) (Ends x)) folder
      (changing_ends F (a >>= settled T T.places F) (replied last) (then_counts T T.places ids E1 a F two
      (put_counts T T.places ids E1 D (contents F) N.nid N.props (contents_high F) (own_contents T T.places ids E1 F two (inr refl))
      (message_put D0 D N.nid F (Some (Message N)) four' s (puts_object T D0 N.nid (Some (Message N))) (λ c e. cc)
      (λ f q u e plain at_u row. only_home N.nid M (ap (now_at T nothing) nid ∙ is) four' f q u e plain at_u row ∙ sym folder))))))

  changes : (m : ℕ) (M : Mes) (props : List Val) → now_at T nothing m ≡ Some (Message M) → m % 32 ≡ 4 → IfOk (changed_message T M props) (Ends M.folder)
  unfolding changed_message
  changes m M props is four = remakes m M (with_props props M) None Done is four refl refl

  pub adds_recipient : (m kind : ℕ) (address name : List ℕ) → IfOk (added_recipient T m kind address name) (Home m)
  unfolding added_recipient adding_recipient Home
  adds_recipient m kind address name = if_then _ (Home m) (message_in T m) _ (from_fine _ (message_in T m) (fine_message_in T m w)) (λ M h.
      let row = next_row (rows_of M.recipients) in
      let new = with_recipient (new_row row) (recipient_props kind address name) M in
      if_test (Home m) (is_full M.recipients) (Limit Rows) _ (if_test (Home m) (is_wide recipient_tags M.recipients) (Limit Rows) _ (if_weaker (Ends M.folder) (Home m) (remaking T new (spent_row row) (Row (new_row row)))
      (remakes m M new (spent_row row) (Row (new_row row)) h.0 h.1 refl refl) (λ o k. (M, h.0, k)))))

  pub removes_recipient : (m row : ℕ) → IfOk (removed_recipient T m row) (Home m)
  unfolding removed_recipient Home
  removes_recipient m row = if_then _ (Home m) (message_in T m) _ (from_fine _ (message_in T m) (fine_message_in T m w)) (λ M h.
      if_test (Home m) (not (has_recipient row M)) NoObject _ (if_weaker (Ends M.folder) (Home m) (remaking T (without_recipient row M) None Done)
      (remakes m M (without_recipient row M) None Done h.0 h.1 refl refl) (λ o k. (M, h.0, k))))

  pub adds_attachment : (m : ℕ) (name : List ℕ) (held : Held) → IfOk (added_attachment T m name held) (Home m)
  unfolding added_attachment adding_attachment Home
  adds_attachment m name held = if_then _ (Home m) (message_in T m) _ (from_fine _ (message_in T m) (fine_message_in T m w)) (λ M h.
      let index = next_part M in
      let new = with_attachment (new_part (part_nid index) name held) (room_for index M) in
      if_test (Home m) (is_full M.attachments) (Limit Rows) _ (if_test (Home m) (is_wide attachment_tags M.attachments) (Limit Rows) _
      (if_weaker (Ends M.folder) (Home m) (remaking T new (spent_index index) (Attached (part_nid index))) (remakes m M new (spent_index index) (Attached (part_nid index)) h.0 h.1 refl refl) (λ o k. (M, h.0, k)))))

  pub appends_data : (m n : ℕ) (more : List ℕ) → IfOk (appended_data T m n more) (Home m)
  unfolding appended_data appending Home
  appends_data m n more = if_then _ (Home m) (message_in T m) _ (from_fine _ (message_in T m) (fine_message_in T m w)) (λ M h.
      if_found (Home m) NoObject (part_in n M) _ (λ part is. if_found (Home m) NoProperty (bytes_of 0x3701 0x0102 part.props) _ (λ old is'.
      let props = with_bytes (lengthened old more) part.props in
      (if_weaker (Ends M.folder) (Home m) (remaking T (with_part (part_with props part) M) (too_long old more) Done) (remakes m M (with_part (part_with props part) M) (too_long old more) Done h.0 h.1 refl refl) (λ o k. (M, h.0, k))))))

  pub sets_embedded : (m n : ℕ) (node : Sub) → IfOk (set_embedded T m n node) (Home m)
  unfolding set_embedded Home
  sets_embedded m n node = if_then _ (Home m) (message_in T m) _ (from_fine _ (message_in T m) (fine_message_in T m w)) (λ M h.
      if_found (Home m) NoObject (part_in n M) _ (λ part is.
      (if_weaker (Ends M.folder) (Home m) (remaking T (with_part (part_holding node part) M) None Done) (remakes m M (with_part (part_holding node part) M) None Done h.0 h.1 refl refl) (λ o k. (M, h.0, k)))))

  pub removes_attachment : (m n : ℕ) → IfOk (removed_attachment T m n) (Home m)
  unfolding removed_attachment Home
  removes_attachment m n = if_then _ (Home m) (message_in T m) _ (from_fine _ (message_in T m) (fine_message_in T m w)) (λ M h.
      if_test (Home m) (not (is_some (part_in n M))) NoObject _ (if_weaker (Ends M.folder) (Home m) (remaking T (without_attachment n M) None Done) (remakes m M (without_attachment n M) None Done h.0 h.1 refl refl) (λ o k. (M, h.0, k))))

  pub sets : (m : ℕ) (v : Val) → IfOk (set_value T m v) (Home m)
  unfolding set_value Home
  sets m v = if_then _ (Home m) (message_in T m) _ (from_fine _ (message_in T m) (fine_message_in T m w)) (λ M h. elim (cases_Bool (is_set_protected v.id M.props)) [
    | inl t ↦ rw t tt
    | inr t ↦ rw t (if_then (λ u. Unit {0}) (Home m) (unless_nameless T v.id) _ (if_any (unless_nameless T v.id)) (λ u x. if_weaker (Ends M.folder) (Home m) (changed_message T M (put v M.props)) (changes m M (put v M.props) h.0 h.1) (λ o k. (M, h.0, k))))
  ])

  pub unsets : (m : ℕ) (tag : Tag) → IfOk (unset_value T m tag) (Home m)
  unfolding unset_value Home
  unsets m tag = if_then _ (Home m) (message_in T m) _ (from_fine _ (message_in T m) (fine_message_in T m w)) (λ M h. elim (cases_Bool (is_unset_protected tag.id tag.kind M.props)) [
    | inl t ↦ rw t tt
    | inr t ↦ rw t (elim (cases_Bool (is_some (bytes_of tag.id tag.kind M.props))) [
      | inr u ↦ rw u tt
      | inl u ↦ rw u (if_weaker (Ends M.folder) (Home m) (changed_message T M (remove_id tag.id M.props)) (changes m M (remove_id tag.id M.props) h.0 h.1) (λ o k. (M, h.0, k)))
    ])
  ])

  adds : (a : Answer Changed) → IfOk a (λ D. now_at T D ≡ now_at T nothing) → (M : Mes) (p : FolderPlace) (index : ℕ) → M.nid % 32 ≡ 4 → now_at T nothing M.nid ≡ None → find_place M.folder T.places ≡ Some p → is_plain p ≡ true
      → IfOk (a >>= added_message T M >>= making T T.places 4 index) (Ends M.folder)
  adds (Err e) same M p index four none found plain = tt
  adds (Ok D0) same M p index four none found plain =
      let F = M.folder in
      let D = with_object M.nid (Some (Message M)) D0 in
      let two = ids F p found plain in
      let E1 : ℕ → Type 0 = λ x. E x ⊎ (x ≡ F) in
      let a = add_shown T (contents F) M.nid M.props D in
      making_ends F (a >>= settled T T.places F) 4 index (then_counts T T.places ids E1 a F two
      (add_counts T T.places ids E1 D (contents F) M.nid M.props (contents_high F) (own_contents T T.places ids E1 F two (inr refl))
      (message_put D0 D M.nid F (Some (Message M)) four (subst (AreCountedBut E T.places) (sym same) s) (puts_object T D0 M.nid (Some (Message M))) (λ c e. cc)
      (λ f q u e plain at_u row. let v = w.listed f q u M.nid e plain (ap (λ at. at (contents f)) (sym same) ∙ at_u) row four in absurd (none-some (Message v.0) (sym none ∙ v.1))))))

  pub copies : (m folder : ℕ) → IfOk (copied_message T m folder) (Ends folder)
  unfolding copied_message copying
  copies m folder = if_then _ (Ends folder) (message_in T m) _ (from_fine _ (message_in T m) (fine_message_in T m w)) (λ M h. elim (cases_Option (find_place folder T.places)) [
    | inl e ↦ rw e tt
    | inr p ↦ rw p.1 (elim (cases_Bool (is_plain p.0)) [
      | inr plain ↦ rw plain tt
      | inl plain ↦ rw plain (elim (cases_Bool (is_overfull M.recipients || is_overfull M.attachments)) [
        | inl b ↦ rw b tt
        | inr b ↦ rw b (if_then (λ u. Unit {0}) (Ends folder) (unless_full T (contents folder)) _ (if_any (unless_full T (contents folder))) (λ u v. elim (cases_Bool (is_spent (next_index T 4 message_kinds))) [
          | inl t ↦ never_made T T.places 4 (next_index T 4 message_kinds) (Ends folder) (touched T M.folder nothing >>= added_message T (copy_of (new_id 4 (next_index T 4 message_kinds)) folder M)) t
          | inr t ↦
              let id = new_message_id T t in
              let touches = touched T M.folder nothing in
              (adds touches (from_fine (λ D. now_at T D ≡ now_at T nothing) touches (fine_home T w m M h.0)) (copy_of (new_id 4 (next_index T 4 message_kinds)) folder M) p.0 (next_index T 4 message_kinds) id.0 id.1 p.1 plain)
        ]))
      ])
    ])
  ])

  pub makes : (folder : ℕ) (class : List ℕ) (time : ℕ) (values : List Val) → IfOk (new_message T folder class time values) (Ends folder)
  unfolding new_message given_message making_message
  makes folder class time values = if_test (Ends folder) (list_any is_withheld values) Protected (λ u. given_message T folder class time values) (elim (cases_Option (find_place folder T.places)) [
    | inl e ↦ rw e tt
    | inr p ↦ rw p.1 (elim (cases_Bool (is_plain p.0)) [
      | inr plain ↦ rw plain tt
      | inl plain ↦
          let store = store_of w in
          rw (plain, store.1) (if_then (λ u. Unit {0}) (Ends folder) (unless_full T (contents folder)) _ (if_any (unless_full T (contents folder))) (λ u v. elim (cases_Bool (is_spent (next_index T 4 message_kinds))) [
            | inl t ↦
                let index = next_index T 4 message_kinds in
                let N = plain_message (new_id 4 index) folder (message_props (new_id 4 index) class time store.0.props values) in
                never_made T T.places 4 index (Ends folder) (added_message T (finished N) nothing) t
            | inr t ↦
                let index = next_index T 4 message_kinds in let id = new_message_id T t in
                let N = plain_message (new_id 4 index) folder (message_props (new_id 4 index) class time store.0.props values) in
                let a = added_message T (finished N) nothing >>= making T T.places 4 index in
                (subst (λ x. IfOk a (Ends x)) (finished_folder N)
                (adds (Ok nothing) refl (finished N) p.0 index (ap (λ x. x % 32) (finished_id N) ∙ id.0) (ap (now_at T nothing) (finished_id N) ∙ id.1) (ap (λ x. find_place x T.places) (finished_folder N) ∙ p.1) plain))
          ]))
    ])
  ])

  -- two folders that were counted anew
  both_ended : (from to : ℕ) (places : List FolderPlace) (D : Changed) → In places (λ x. (((E x ⊎ (x ≡ from)) ⊎ (x ≡ to)) × (x ≡ from → ⊥)) × (x ≡ to → ⊥)) D → In places (λ x. (E x × (x ≡ from → ⊥)) × (x ≡ to → ⊥)) D
  both_ended from to places D k = counted_fewer (λ x. (((E x ⊎ (x ≡ from)) ⊎ (x ≡ to)) × (x ≡ from → ⊥)) × (x ≡ to → ⊥)) (λ x. (E x × (x ≡ from → ⊥)) × (x ≡ to → ⊥)) places (now_at T D)
      (λ x h. ((elim h.0.0 [ inl y ↦ elim y [ inl e ↦ e | inr e ↦ absurd (h.0.1 e) ] | inr e ↦ absurd (h.1 e) ], h.0.1), h.1)) k

  -- the counts of the folder that a message left, and of that to which it moved
  abbrev pub Moved : ℕ → ℕ → Outcome → Type 0
  Moved m folder o = (M : Mes) × (now_at T nothing m ≡ Some (Message M)) × Keeps o × ((M.folder ≡ folder → ⊥) → EndsBoth M.folder folder o)

  pub moves : (m folder : ℕ) → IfOk (moved_message T m folder) (Moved m folder)
  unfolding moved_message Keeps EndsBoth
  moves m folder = if_then _ (Moved m folder) (message_in T m) _ (from_fine _ (message_in T m) (fine_message_in T m w)) (λ M h. elim (cases_Option (find_place folder T.places)) [
    | inl e ↦ rw e tt
    | inr p ↦ rw p.1 (elim (cases_Bool (is_plain p.0)) [
      | inr plain ↦ rw plain tt
      | inl plain ↦ rw plain (elim (cases_Bool (M.folder == folder)) [
        | inl b ↦ rw b (M, h.0, s, λ other. absurd (other (eqb-true M.folder folder b)))
        | inr b ↦
            let N = in_folder folder M in let D = with_object m (Some (Message N)) nothing in let v = home_of T w m M h.0 in
            let from = M.folder in
            let two = ids from v.1 v.2 v.3 in let two' = ids folder p.0 p.1 plain in
            let E1 : ℕ → Type 0 = λ x. E x ⊎ (x ≡ from) in let E2 : ℕ → Type 0 = λ x. E1 x ⊎ (x ≡ folder) in let E3 : ℕ → Type 0 = λ x. E2 x × (x ≡ from → ⊥) in
            let k = message_put nothing D m from (Some (Message N)) h.1 s (puts_object T nothing m (Some (Message N))) (λ c e. cc) (only_home m M h.0 h.1) in
            rw b (if_then (In T.places E1) (Moved m folder) (drop_shown T (contents from) m D) _ (drop_counts T T.places ids E1 D (contents from) m (contents_high from) (own_contents T T.places ids E1 from two (inr refl)) k) (λ D1 k1.
            let a = add_shown T (contents folder) m M.props D1 in
            if_then (In T.places (λ x. E3 x × (x ≡ folder → ⊥))) (Moved m folder) (a >>= settled T T.places from >>= settled T T.places folder) (changing T (replied Done))
            (then_counts T T.places ids E3 (a >>= settled T T.places from) folder two' (then_counts T T.places ids E2 a from two
            (add_counts T T.places ids E2 D1 (contents folder) m M.props (contents_high folder) (own_contents T T.places ids E2 folder two' (inr refl)) (counted_fewer E1 E2 T.places (now_at T D1) (λ x e. inl e) k1))))
            (λ D2 k2. limited _ (Moved m folder) D2 _ (let k3 = both_ended from folder T.places D2 k2 in (M, h.0, counted_fewer (λ x. (E x × (x ≡ from → ⊥)) × (x ≡ folder → ⊥)) E T.places (now_at T D2) (λ x h. h.0.0) k3, λ other. k3)))))
      ])
    ])
  ])

  gets : (m : ℕ) (tag : Tag) → IfOk (value_in T m tag) Keeps
  unfolding value_in Keeps
  gets m tag = if_then (λ M. Unit {0}) Keeps (message_in T m) _ (if_any (message_in T m)) (λ M h. elim (cases_Option (value_of tag M.props)) [ inl e ↦ rw e tt | inr v ↦ rw v.1 s ])

  fetches : (m n : ℕ) → IfOk (fetched_data T m n) Keeps
  unfolding fetched_data Keeps
  fetches m n = if_then (λ M. Unit {0}) Keeps (message_in T m) _ (if_any (message_in T m)) (λ M h. if_found Keeps NoObject (part_in n M) _ (λ part is. if_found Keeps NoProperty (value_of data_tag part.props) _ (λ v is'. s)))

  lists : (m : ℕ) → IfOk (details T m) Keeps
  unfolding details Keeps
  lists m = if_then (λ M. Unit {0}) Keeps (message_in T m) _ (if_any (message_in T m)) (λ M h. s)

  lists_folder : (f : ℕ) → IfOk (listing T f) Keeps
  unfolding listing Keeps
  lists_folder f = elim (cases_Option (find_place f T.places)) [
    | inl e ↦ rw e tt
    | inr p ↦ rw p.1 (elim (cases_Bool (is_plain p.0)) [
      | inr plain ↦ rw plain s
      | inl plain ↦ rw plain (
          if_then (λ l. Unit {0}) Keeps (folder_lines T (filter (is_child f) T.places)) _ (if_any (folder_lines T (filter (is_child f) T.places))) (λ l u.
          if_then (λ t. Unit {0}) Keeps (table_at T nothing (contents f)) _ (if_any (table_at T nothing (contents f))) (λ t u.
          if_then (λ k. Unit {0}) Keeps (message_lines T (message_ids t.table)) _ (if_any (message_lines T (message_ids t.table))) (λ k u. s))))
    ])
  ]

  renames : (f : ℕ) (name : List ℕ) → IfOk (renamed_folder T f name) Keeps
  unfolding renamed_folder Keeps
  renames f name = elim (cases_Option (find_place f T.places)) [
    | inl e ↦ rw e tt
    | inr p ↦ rw p.1 (elim (cases_Bool (is_plain p.0)) [
      | inr plain ↦ rw plain tt
      | inl plain ↦ rw plain (
          if_then (λ u. Unit {0}) Keeps (unless_protected T f) _ (if_any (unless_protected T f)) (λ u v.
          if_then (λ u. Unit {0}) Keeps (unless_named T (folded false name) (siblings T p.0.parent.bits f)) _ (if_any (unless_named T (folded false name) (siblings T p.0.parent.bits f))) (λ u v.
          if_then (λ c. now_at T nothing f ≡ Some (Context c)) Keeps (context_at T nothing f) _ (if_context T nothing f) (λ c is.
          let props = put (text 0x3001 name) c.props in
          let D = with_context f c props nothing in
          let other : (id : ℕ) → (id ≡ 0x3001 → ⊥) → find id props ≡ find id c.props = λ id other. find-put_other (λ v. v.id) id (text 0x3001 name) c.props other in
          let k = values_put T T.places ids E nothing D f (record c { props = props }) (ids f p.0 p.1 plain) s (puts_object T nothing f (Some (Context (record c { props = props }))))
          (λ free. (c, is, record { messages = other 0x3602 (λ e. omega arith); unread = other 0x3603 (λ e. omega arith); folders = other 0x360A (λ e. omega arith) })) in
          if_then (In T.places E) Keeps (mirrored T f D) (changing T (replied Done)) (mirrored_counts T T.places ids E D f k) (λ D' k'. limited _ Keeps D' _ k')))))
    ])
  ]

  moving_ends : (F : ℕ) (places : List FolderPlace) (a : Answer Changed) (reply : Reply) → IfOk a (In places (λ x. (E x ⊎ (x ≡ F)) × (x ≡ F → ⊥))) → IfOk (a >>= moving T places reply) (Ends F)
  unfolding Ends
  moving_ends F places a reply h = if_then (In places (λ x. (E x ⊎ (x ≡ F)) × (x ≡ F → ⊥))) (Ends F) a (moving T places reply) h (λ D k. limited _ (Ends F) D _ (ended E F places D k))

  moving_both : (F G : ℕ) (places : List FolderPlace) (a : Answer Changed) (reply : Reply) → IfOk a (In places (λ x. (E x × (x ≡ F → ⊥)) × (x ≡ G → ⊥))) → IfOk (a >>= moving T places reply) (EndsBoth F G)
  unfolding EndsBoth
  moving_both F G places a reply h = if_then (In places (λ x. (E x × (x ≡ F → ⊥)) × (x ≡ G → ⊥))) (EndsBoth F G) a (moving T places reply) h (λ D k. limited _ (EndsBoth F G) D _ k)

  put_ids : (f parent : ℕ) → f % 32 ≡ 2 → PlainIds (put_key place_id (place f parent) T.places)
  put_ids f parent two g p e plain = elim (cases_eq g f) [
    | inl same ↦ ap (λ x. x % 32) same ∙ two
    | inr other ↦ ids g p (sym (find-put_other place_id g (place f parent) T.places other) ∙ e) plain
  ]

  -- a folder that stands elsewhere is no child
  no_child : (g : ℕ) (p : FolderPlace) → (p.parent.bits ≡ g → ⊥) → is_child g p ≡ false
  no_child g p other = and_left (p.parent.bits == g) (not (p.nid.bits == ROOT)) (ne_eqb p.parent.bits g other)

  -- where a folder takes a place, others than its parents have the children that they had
  put_children : (E' : ℕ → Type 0) (f parent : ℕ) → f % 32 ≡ 2 → ((g : ℕ) → (E' g → ⊥) → parent ≡ g → ⊥) → ((g : ℕ) → (E' g → ⊥) → (x : FolderPlace) → find_place f T.places ≡ Some x → is_child g x ≡ false)
      → ((g : ℕ) → (E' g → ⊥) → g ≡ f → (x : FolderPlace) × (find_place f T.places ≡ Some x) × (is_plain x ≡ true)) → AreCountedBut E' T.places (now_at T nothing) → AreCountedBut E' (put_key place_id (place f parent) T.places) (now_at T nothing)
  put_children E' f parent two apart was old k = counted_places E' T.places (put_key place_id (place f parent) T.places) (now_at T nothing) k (λ g p e plain free.
      let same = any_put place_id (is_child g) (place f parent) T.places (no_child g (place f parent) (apart g free)) (was g free) in
      elim (cases_eq g f) [
        | inl here ↦ let x = old g free here in (x.0, ap (λ y. find_place y T.places) here ∙ x.1, x.2, same)
        | inr other ↦ (p, sym (find-put_other place_id g (place f parent) T.places other) ∙ e, plain, same)
      ])

  -- the counts of the parent that a folder left, and of that to which it moved
  abbrev pub MovedFolder : ℕ → ℕ → Outcome → Type 0
  MovedFolder f parent o = (p : FolderPlace) × (find_place f T.places ≡ Some p) × Keeps o × ((p.parent.bits ≡ parent → ⊥) → EndsBoth p.parent.bits parent o)

  pub moves_folder : (f parent : ℕ) → IfOk (moved_folder T f parent) (MovedFolder f parent)
  unfolding moved_folder moved_between Keeps EndsBoth
  moves_folder f parent = elim (cases_Option (find_place f T.places)) [
    | inl e ↦ rw e tt
    | inr p ↦ rw p.1 (elim (cases_Option (find_place parent T.places)) [
      | inl e ↦ rw e tt
      | inr q ↦ rw q.1 (elim (cases_Bool (is_plain p.0)) [
        | inr plain ↦ rw plain tt
        | inl plain_p ↦ rw plain_p (elim (cases_Bool (is_plain q.0)) [
          | inr plain ↦ rw plain tt
          | inl plain_q ↦ rw plain_q (if_then (λ u. f ≡ ROOT → ⊥) (MovedFolder f parent) (unless_protected T f) _ (from_fine (λ u. f ≡ ROOT → ⊥) (unless_protected T f) (fine_protected T f w)) (λ u no_root. elim (cases_Bool (is_within T.places f parent)) [
            | inl b ↦ rw b tt
            | inr b ↦ rw b (elim (cases_Bool (p.0.parent.bits == parent)) [
              | inl b ↦ rw b (p.0, p.1, s, λ other. absurd (other (eqb-true p.0.parent.bits parent b)))
              | inr b ↦
                  let c = w.contexts f p.0 p.1 in
                  let from = p.0.parent.bits in let v = w.parents f p.0 p.1 no_root in
                  let places = put_key place_id (place f parent) T.places in
                  let two = ids f p.0 p.1 plain_p in
                  let places_ids = put_ids f parent two in
                  let c' : Ctx = record c.0 { parent = parent } in
                  let D = with_object f (Some (Context c')) nothing in
                  let puts = puts_object T nothing f (Some (Context c')) in
                  let E2 : ℕ → Type 0 = λ x. (E x ⊎ (x ≡ from)) ⊎ (x ≡ parent) in
                  let E3 : ℕ → Type 0 = λ x. E2 x × (x ≡ from → ⊥) in
                  let k0 = put_children E2 f parent two (λ g free e. free (inr (sym e)))
                  (λ g free x e. no_child g x (λ e'. free (inl (inr (sym e' ∙ ap (λ (y : FolderPlace). y.parent.bits) (same_Some x p.0 (sym e ∙ p.1))))))) (λ g free e. (p.0, p.1, plain_p))
                  (counted_fewer E E2 T.places (now_at T nothing) (λ x e. inl (inl e)) s) in
                  let k1 = values_put T places places_ids E2 nothing D f c' two k0 puts (λ free. (c.0, c.1, record { messages = refl; unread = refl; folders = refl })) in
                  let a = drop_shown T (hierarchy from) f D in
                  rw (b, c.1) (if_then (λ u. Unit {0}) (MovedFolder f parent) (unless_named T (folded false (name_of c.0.props)) (children parent T.places)) _ (if_any (unless_named T (folded false (name_of c.0.props)) (children parent T.places))) (λ u u'.
                  elim (cases_Bool (moves_deep T.places f parent)) [
                    | inl b ↦ rw b tt
                    | inr b ↦
                        let all = drop_shown T (hierarchy from) f D >>= λ D1. add_shown T (hierarchy parent) f c.0.props D1 >>= settled T places from >>= settled T places parent in
                        rw b (if_weaker (EndsBoth from parent) (MovedFolder f parent) (all >>= moving T places (replied Done)) (moving_both from parent places all (replied Done)
                        (if_then (In places E2) (In places (λ x. (E x × (x ≡ from → ⊥)) × (x ≡ parent → ⊥))) a _ (drop_counts T places places_ids E2 D (hierarchy from) f (hierarchy_high from) (no_contents T places places_ids E2 from) k1) (λ D1 k2.
                        let a' = add_shown T (hierarchy parent) f c.0.props D1 in
                        if_weaker (In places (λ x. E3 x × (x ≡ parent → ⊥))) (In places (λ x. (E x × (x ≡ from → ⊥)) × (x ≡ parent → ⊥))) (a' >>= settled T places from >>= settled T places parent)
                        (then_counts T places places_ids E3 (a' >>= settled T places from) parent (ids parent q.0 q.1 plain_q)
                        (then_counts T places places_ids E2 a' from (ids from v.0 v.1 v.2) (add_counts T places places_ids E2 D1 (hierarchy parent) f c.0.props (hierarchy_high parent) (no_contents T places places_ids E2 parent) k2)))
                        (λ D2 k3. both_ended from parent places D2 k3))))
                        (λ o k. (p.0, p.1, both_fewer from parent o k, λ other. k)))
                  ]))
            ])
          ]))
        ])
      ])
    ])
  ]

  -- a table of a folder that isn't there is put, or goes
  free_put : (E' : ℕ → Type 0) (places : List FolderPlace) (places_ids : PlainIds places) (D : Changed) (f kind : ℕ) (o : Option Object) → f % 32 ≡ 2 → kind < 32 → 4 < kind → ((g : ℕ) (p : FolderPlace) → find_place g places ≡ Some p → (E' g → ⊥) → g ≡ f → ⊥)
      → ((c : Ctx) → o ≡ Some (Context c) → ⊥) → In places E' D → In places E' (with_object (beside f kind) o D)
  free_put E' places places_ids D f kind o two small large apart no_context k = counted_put E' places (now_at T D) _ (beside f kind) o k (puts_object T D (beside f kind) o)
      (λ g p c e plain free same is. absurd (no_context c is))
      (λ g p e plain free same. let g_two = places_ids g p e plain in apart g p e free (omega arith))
      (λ g p t e plain free is row four. omega (arith, beside_kind f kind small))

  -- a new folder's counts are right
  new_counts : (f parent : ℕ) (name : List ℕ) → find_place f T.places ≡ None → (parent ≡ f → ⊥) → let places = put_key place_id (place f parent) T.places in (at : ℕ → Option Object)
      → IsCounted places at f (record { parent = parent; props = folder_props name; kept = [] }) contents_table
  new_counts f parent name unplaced other at =
      let places = put_key place_id (place f parent) T.places in
      let no_parent : (g : ℕ) (p : FolderPlace) → find_place g T.places ≡ Some p → p.parent.bits ≡ f → ⊥ = λ g p e same. elim (cases_eq g ROOT) [
        | inl root ↦
            let r = w.root in
            let one = same_Some p r.0 (sym e ∙ ap (λ x. find_place x T.places) root ∙ r.1) in
            none-some r.0 (sym unplaced ∙ ap (λ x. find_place x T.places) (sym same ∙ ap (λ (x : FolderPlace). x.parent.bits) one ∙ r.3) ∙ r.1)
        | inr no_root ↦ let v = w.parents g p e no_root in none-some v.0 (sym unplaced ∙ ap (λ x. find_place x T.places) (sym same) ∙ v.1)
      ] in
      let none : list_any (is_child f) places ≡ false = none_passes place_id (is_child f) 0 places (put-ascends place_id 0 (place f parent) T.places (omega arith) w.ascend) (λ g p e. elim (cases_eq g f) [
        | inl here ↦
            let one = same_Some (place f parent) p (sym (ap (λ x. find_place x places) here ∙ find-put_same place_id (place f parent) T.places) ∙ e) in
            subst (λ x. is_child f x ≡ false) one (no_child f (place f parent) other)
        | inr away ↦ no_child f p (no_parent g p (sym (find-put_other place_id g (place f parent) T.places away) ∙ e))
      ]) in
      record { messages = refl; unread = refl; folders = ap (λ b. Some (truth 0x360A b)) (sym none) }

  -- the counts of a new folder and of its parent
  abbrev pub MadeFolder : ℕ → Outcome → Type 0
  MadeFolder parent o = (f : ℕ) × (o.reply ≡ replied (Made (nid f))) × EndsBoth f parent o

  pub makes_folder : (parent : ℕ) (name : List ℕ) → IfOk (made_folder T parent name) (MadeFolder parent)
  unfolding made_folder making_folder EndsBoth
  makes_folder parent name = elim (cases_Option (find_place parent T.places)) [
    | inl e ↦ rw e tt
    | inr p ↦ rw p.1 (elim (cases_Bool (is_plain p.0)) [
      | inr plain ↦ rw plain tt
      | inl plain ↦ rw plain (if_then (λ u. Unit {0}) (MadeFolder parent) (unless_named T (folded false name) (children parent T.places)) _ (if_any (unless_named T (folded false name) (children parent T.places))) (λ u u'.
          elim (cases_Bool (is_deep T.places parent)) [
            | inl b ↦ rw b tt
            | inr b ↦ rw b (if_then (λ v. Unit {0}) (MadeFolder parent) (unless_full T (hierarchy parent)) _ (if_any (unless_full T (hierarchy parent))) (λ v v'. elim (cases_Bool (is_spent (next_index T 2 folder_kinds))) [
              | inl t ↦
                  let index = next_index T 2 folder_kinds in let f = new_id 2 index in let places = put_key place_id (place f parent) T.places in
                  never_made T places 2 index (MadeFolder parent) (add_shown T (hierarchy parent) f (folder_props name) (with_folder f parent name nothing) >>= settled T places parent) t
              | inr t ↦
                  let index = next_index T 2 folder_kinds in
                  let f = new_id 2 index in
                  let places = put_key place_id (place f parent) T.places in
                  let new = new_folder_id T t in let two = new.0 in
                  let unplaced = not_placed T f w new.1 in
                  let other : parent ≡ f → ⊥ = λ e. none-some p.0 (sym unplaced ∙ ap (λ x. find_place x T.places) (sym e) ∙ p.1) in
                  let c : Ctx = record { parent = parent; props = folder_props name; kept = [] } in
                  let places_ids = put_ids f parent two in
                  let E1 : ℕ → Type 0 = λ x. E x ⊎ (x ≡ parent) in let E2 : ℕ → Type 0 = λ x. E1 x ⊎ (x ≡ f) in
                  let D1 = with_object f (Some (Context c)) nothing in
                  let D2 = with_object (hierarchy f) (Some (Table hierarchy_table)) D1 in
                  let D3 = with_object (contents f) (Some (Table contents_table)) D2 in
                  let D4 = with_object (associated f) (Some (Table contents_table)) D3 in
                  let p1 = puts_object T nothing f (Some (Context c)) in let p2 = puts_object T D1 (hierarchy f) (Some (Table hierarchy_table)) in
                  let p3 = puts_object T D2 (contents f) (Some (Table contents_table)) in let p4 = puts_object T D3 (associated f) (Some (Table contents_table)) in
                  let apart : (g : ℕ) (q : FolderPlace) → find_place g places ≡ Some q → (E2 g → ⊥) → g ≡ f → ⊥ = λ g q e free same. free (inr same) in
                  let k0 = put_children E2 f parent two (λ g free e. free (inl (inr (sym e)))) (λ g free x e. absurd (none-some x (sym unplaced ∙ e))) (λ g free e. absurd (free (inr e)))
                  (counted_fewer E E2 T.places (now_at T nothing) (λ x e. inl (inl e)) s) in
                  let k1 = values_put T places places_ids E2 nothing D1 f c two k0 p1 (λ free. absurd (free (inr refl))) in
                  let k2 = free_put E2 places places_ids D1 f 13 (Some (Table hierarchy_table)) two (omega arith) (omega arith) apart (λ c e. cc) k1 in
                  let k3 = free_put E2 places places_ids D2 f 14 (Some (Table contents_table)) two (omega arith) (omega arith) apart (λ c e. cc) k2 in
                  let k4 = free_put E2 places places_ids D3 f 15 (Some (Table contents_table)) two (omega arith) (omega arith) apart (λ c e. cc) k3 in
                  let is_c : now_at T D4 f ≡ Some (Context c) = p4.others f (own_id f 15 two (omega arith) (omega arith)) ∙ p3.others f (own_id f 14 two (omega arith) (omega arith)) ∙ p2.others f (own_id f 13 two (omega arith) (omega arith)) ∙ p1.here in
                  let is_t : now_at T D4 (contents f) ≡ Some (Table contents_table) = p4.others (contents f) (beside_apart f 14 15 (omega arith) (omega arith) (λ e. omega arith)) ∙ p3.here in
                  let E3 : ℕ → Type 0 = λ x. E1 x × (x ≡ f → ⊥) in
                  let k5 = counted_too E1 places (now_at T D4) f k4 (λ c' t' is_c' is_t'.
                  let same_c : c ≡ c' = cc (sym is_c ∙ is_c') in
                  let same_t = same_table contents_table t' (sym is_t ∙ is_t') in
                  subst (λ (x : Ctx). IsCounted places (now_at T D4) f x t') same_c (subst (λ (x : Tbl). IsCounted places (now_at T D4) f c x) same_t (new_counts f parent name unplaced other (now_at T D4)))) in
                  let a = add_shown T (hierarchy parent) f (folder_props name) D4 in
                  let Q : ℕ → Type 0 = λ x. (E x × (x ≡ f → ⊥)) × (x ≡ parent → ⊥) in
                  (if_then (In places (λ x. E3 x × (x ≡ parent → ⊥))) (MadeFolder parent) (a >>= settled T places parent) (making T places 2 index)
                  (then_counts T places places_ids E3 a parent (ids parent p.0 p.1 plain)
                  (add_counts T places places_ids E3 D4 (hierarchy parent) f (folder_props name) (hierarchy_high parent) (no_contents T places places_ids E3 parent) k5))
                  (λ D k. limited _ (MadeFolder parent) D _ (if_test (MadeFolder parent) (is_spent index) Ids _
                  (f, refl, counted_fewer (λ x. E3 x × (x ≡ parent → ⊥)) Q places (now_at T D) (λ x h. ((elim h.0.0 [ inl e ↦ e | inr e ↦ absurd (h.1 e) ], h.0.1), h.1)) k))))
            ]))
          ]))
    ])
  ]
    where
      own_id : (f kind : ℕ) → f % 32 ≡ 2 → kind < 32 → 4 < kind → f ≡ beside f kind → ⊥
      own_id f kind two small large e = omega (arith, beside_kind f kind small)

  node_goes : (E' : ℕ → Type 0) (places : List FolderPlace) (places_ids : PlainIds places) (D : Changed) (f : ℕ) (b : Bool) → f % 32 ≡ 2 → ((g : ℕ) (p : FolderPlace) → find_place g places ≡ Some p → (E' g → ⊥) → g ≡ f → ⊥) → In places E' D → In places E' (without_node (associated f) b D)
  node_goes E' places places_ids D f false two apart k = k
  node_goes E' places places_ids D f true two apart k = free_put E' places places_ids D f 15 None two (omega arith) (omega arith) apart (λ c e. none-some (Context c) e) k

  -- the counts of the parent that a folder had
  abbrev pub RemovedFolder : ℕ → Outcome → Type 0
  RemovedFolder f o = (p : FolderPlace) × (find_place f T.places ≡ Some p) × Ends p.parent.bits o

  pub removes_folder : (f : ℕ) → IfOk (removed_folder T f) (RemovedFolder f)
  unfolding removed_folder
  removes_folder f = elim (cases_Option (find_place f T.places)) [
    | inl e ↦ rw e tt
    | inr p ↦ rw p.1 (elim (cases_Bool (is_plain p.0)) [
      | inr plain ↦ rw plain tt
      | inl plain ↦ rw plain (
          if_then (λ u. f ≡ ROOT → ⊥) (RemovedFolder f) (unless_protected T f) _ (from_fine (λ u. f ≡ ROOT → ⊥) (unless_protected T f) (fine_protected T f w)) (λ u no_root.
          if_then (λ a. Unit {0}) (RemovedFolder f) (table_at T nothing (hierarchy f)) _ (if_any (table_at T nothing (hierarchy f))) (λ a u.
          if_then (λ b. Unit {0}) (RemovedFolder f) (table_at T nothing (contents f)) _ (if_any (table_at T nothing (contents f))) (λ b u.
          if_then (λ c. Unit {0}) (RemovedFolder f) (associated_in T f) _ (if_any (associated_in T f)) (λ c u.
          elim (cases_Bool (has_rows a || (has_rows b || has_associated c))) [
            | inl some ↦ rw some tt
            | inr none ↦
                let from = p.0.parent.bits in let v = w.parents f p.0 p.1 no_root in
                let places = drop_key place_id f T.places in
                let two = ids f p.0 p.1 plain in
                let gone = find-drop_same place_id 0 f T.places w.ascend in
                let away : (g : ℕ) (r : FolderPlace) → find_place g places ≡ Some r → g ≡ f → ⊥ = λ g r e same. none-some r (sym gone ∙ ap (λ x. find_place x places) (sym same) ∙ e) in
                let was : (g : ℕ) (r : FolderPlace) → find_place g places ≡ Some r → find_place g T.places ≡ Some r = λ g r e. sym (find-drop_other place_id g f T.places (away g r e)) ∙ e in
                let places_ids : PlainIds places = λ g r e plain. ids g r (was g r e) plain in
                let E1 : ℕ → Type 0 = λ x. E x ⊎ (x ≡ from) in
                let apart : (g : ℕ) (r : FolderPlace) → find_place g places ≡ Some r → (E1 g → ⊥) → g ≡ f → ⊥ = λ g r e free. away g r e in
                let D1 = with_object f None nothing in let D2 = with_object (hierarchy f) None D1 in let D3 = with_object (contents f) None D2 in
                let D = without_folder T f nothing in
                let k0 = counted_places E1 T.places places (now_at T nothing) (counted_fewer E E1 T.places (now_at T nothing) (λ x e. inl e) s) (λ g r e plain free. (
                  r,
                  was g r e,
                  plain,
                  any_drop place_id (is_child g) f T.places (λ x e'. no_child g x (λ e''. free (inr (sym e'' ∙ ap (λ (y : FolderPlace). y.parent.bits) (same_Some x p.0 (sym e' ∙ p.1)))))),
                )) in
                let k1 : In places E1 D1 = counted_put E1 places (now_at T nothing) (now_at T D1) f None k0 (puts_object T nothing f None) (λ g r c e plain free same is. absurd (none-some (Context c) is))
                (λ g r e plain free same. omega (arith, beside_kind g 14 (omega arith))) (λ g r t e plain free is row four. omega arith) in
                let k2 = free_put E1 places places_ids D1 f 13 None two (omega arith) (omega arith) apart (λ c e. none-some (Context c) e) k1 in
                let k3 = free_put E1 places places_ids D2 f 14 None two (omega arith) (omega arith) apart (λ c e. none-some (Context c) e) k2 in
                let k4 = node_goes E1 places places_ids D3 f (is_taken T (associated f)) two apart k3 in
                let a' = drop_shown T (hierarchy from) f D in
                rw none (if_weaker (Ends from) (RemovedFolder f) (a' >>= settled T places from >>= moving T places (replied Done)) (moving_ends from places (a' >>= settled T places from) (replied Done)
                (then_counts T places places_ids E1 a' from (ids from v.0 v.1 v.2) (drop_counts T places places_ids E1 D (hierarchy from) f (hierarchy_high from) (no_contents T places places_ids E1 from) k4)))
                (λ o k. (p.0, p.1, k)))
          ])))))
    ])
  ]

  -- right counts stay
  fewer : (F : ℕ) (o : Outcome) → Ends F o → Keeps o
  unfolding Ends Keeps
  fewer F o k = counted_fewer (λ x. E x × (x ≡ F → ⊥)) E o.places (now_at T o.changed) (λ x h. h.0) k

  home_fewer : (m : ℕ) (o : Outcome) → Home m o → Keeps o
  unfolding Home
  home_fewer m o k = fewer k.0.folder o k.2

  pub counted_after : (c : Command) → IfOk (outcome T c) (λ o. AreCountedBut E o.places (now_at T o.changed))
  unfolding outcome Keeps
  counted_after (MakeFolder parent name) = if_weaker (MadeFolder parent.bits) Keeps (made_folder T parent.bits name) (makes_folder parent.bits name) (λ o k. both_fewer k.0 parent.bits o k.2)
  counted_after (RenameFolder folder name) = renames folder.bits name
  counted_after (MoveFolder folder parent) = if_weaker (MovedFolder folder.bits parent.bits) Keeps (moved_folder T folder.bits parent.bits) (moves_folder folder.bits parent.bits) (λ o k. k.2)
  counted_after (RemoveFolder folder) = if_weaker (RemovedFolder folder.bits) Keeps (removed_folder T folder.bits) (removes_folder folder.bits) (λ o k. fewer k.0.parent.bits o k.2)
  counted_after (ListFolder folder) = lists_folder folder.bits
  counted_after (NewMessage folder class time values) = if_weaker (Ends folder.bits) Keeps (new_message T folder.bits class time values) (makes folder.bits class time values) (λ o k. fewer folder.bits o k)
  counted_after (SetProperty message value) = if_weaker (Home message.bits) Keeps (set_value T message.bits value) (sets message.bits value) (λ o k. home_fewer message.bits o k)
  counted_after (UnsetProperty message tag) = if_weaker (Home message.bits) Keeps (unset_value T message.bits tag) (unsets message.bits tag) (λ o k. home_fewer message.bits o k)
  counted_after (GetProperty message tag) = gets message.bits tag
  counted_after (ListProperties message) = lists message.bits
  counted_after (MoveMessage message folder) = if_weaker (Moved message.bits folder.bits) Keeps (moved_message T message.bits folder.bits) (moves message.bits folder.bits) (λ o k. k.2)
  counted_after (CopyMessage message folder) = if_weaker (Ends folder.bits) Keeps (copied_message T message.bits folder.bits) (copies message.bits folder.bits) (λ o k. fewer folder.bits o k)
  counted_after (RemoveMessage message) = if_weaker (Home message.bits) Keeps (removed_message T message.bits) (removes message.bits) (λ o k. home_fewer message.bits o k)
  counted_after (AddRecipient message kind address name) = if_weaker (Home message.bits) Keeps (added_recipient T message.bits kind address name) (adds_recipient message.bits kind address name) (λ o k. home_fewer message.bits o k)
  counted_after (RemoveRecipient message row) = if_weaker (Home message.bits) Keeps (removed_recipient T message.bits row) (removes_recipient message.bits row) (λ o k. home_fewer message.bits o k)
  counted_after (AddAttachment message name held) = if_weaker (Home message.bits) Keeps (added_attachment T message.bits name held) (adds_attachment message.bits name held) (λ o k. home_fewer message.bits o k)
  counted_after (AppendData message attachment bytes) = if_weaker (Home message.bits) Keeps (appended_data T message.bits attachment.bits bytes) (appends_data message.bits attachment.bits bytes) (λ o k. home_fewer message.bits o k)
  counted_after (SetEmbedded message attachment node) = if_weaker (Home message.bits) Keeps (set_embedded T message.bits attachment.bits node) (sets_embedded message.bits attachment.bits node) (λ o k. home_fewer message.bits o k)
  counted_after (RemoveAttachment message attachment) = if_weaker (Home message.bits) Keeps (removed_attachment T message.bits attachment.bits) (removes_attachment message.bits attachment.bits) (λ o k. home_fewer message.bits o k)
  counted_after (FetchData message attachment) = fetches message.bits attachment.bits
  counted_after (NameProperty guid number) = if_weaker (PutsNames T) Keeps (named_property T guid number) (puts_names_after T guid number w) (λ o k.
      subst (λ places. AreCountedBut E places (now_at T o.changed)) (sym k.places_are)
      (counted_put E T.places (now_at T nothing) (now_at T o.changed) NAMES (Some (Context k.new)) s k.puts
      (λ f p c e plain free same is. absurd (omega (arith, ids f p e plain)))
      (λ f p e plain free same. omega (arith, beside_kind f 14 (omega arith)))
      (λ f p t e plain free is row four. omega arith)))
  counted_after (MakeSearch parent name) = tt
  counted_after (SetCriteria folder flags scope restriction) = tt
  counted_after (GetCriteria folder) = tt
  counted_after Save = s
  counted_after Quit = s
