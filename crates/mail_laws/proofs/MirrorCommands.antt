-- After each command rows show what they name.
use Rattle.command_text.specs.declared.reply.LastLine.{LastLine}
use Rattle.command_text.specs.declared.reply.Limit.TheVariants.{Rows}
use Rattle.command_text.specs.declared.reply.CommandRefusal.{CommandRefusal}
use Rattle.std.proofs.Common.{◌≡◌, ℕ, ◌%◌, ◌<◌, ◌==◌, Bool, true, false, filter, List, [], Option, None, Some, IfOk, is_some, arith, refl, sym, ap, ◌∙◌, inl, inr, not, subst, Ok, ◌||◌}
use Rattle.std.proofs.lemmas.Bool.{cases_Bool, cases_eq, or_parts}
use Rattle.std.proofs.lemmas.Option.{none-some}
use Rattle.mapi_values.specs.Characters.{folded}
use Rattle.mapi_values.specs.Keyed.{drop_key, put_key}
use Rattle.mapi_values.specs.Messages.{Mes}
use Rattle.mapi_values.specs.Properties.{put, remove_id}
use Rattle.mapi_values.specs.Tables.{find_row}
use Rattle.mapi_values.specs.Values.{Val}
use Rattle.mapi_values.specs.declared.value.Tag.{Tag}
use Rattle.command_text.specs.declared.command.Command.{Command}
use Rattle.command_text.specs.declared.command.Held.{Held}
use Rattle.command_text.specs.declared.command.Command.TheVariants.{MakeFolder, RenameFolder, MoveFolder, RemoveFolder, ListFolder, NewMessage, SetProperty, UnsetProperty, GetProperty, ListProperties, MoveMessage, CopyMessage, RemoveMessage, AddRecipient, RemoveRecipient, AddAttachment, AppendData, RemoveAttachment, FetchData, Save, Quit, NameProperty, MakeSearch, SetCriteria, GetCriteria, SetEmbedded}
use Rattle.command_text.specs.declared.reply.LastLine.TheVariants.{Attached, Done, Row}
use Rattle.command_text.specs.declared.reply.Reply.{Reply}
use Rattle.mail_objects.specs.Forms.{Ctx, Tbl}
use Rattle.mail_objects.specs.declared.object.Object.{Object}
use Rattle.mail_objects.specs.declared.object.Object.TheVariants.{Context, Table, Message}
use Rattle.std.specs.List.{list_any}
use Rattle.mail_tree.specs.declared.places.FolderPlace.{FolderPlace}
use Rattle.mail_tree.specs.Places.{ROOT, children, find_place, is_child, is_deep, is_plain, is_within, moves_deep, place_id}
use Rattle.mail_tree.specs.Tree.{Tree}
use Rattle.mail_tree.specs.Values.{bytes_of, finished, folder_props, is_set_protected, is_unset_protected, message_props, name_of, text, with_props, is_withheld}
use Rattle.command_text.specs.declared.reply.CommandRefusal.TheVariants.{Ids, Limit, Object as NoObject, Property as NoProperty, Protected}
use Rattle.mail_tree.specs.Names.{NAMES, named_property, unless_nameless}
use Rattle.mail_laws.proofs.NameSteps.{PutsNames, puts_names_after}
use Rattle.mail_tree.specs.Changing.{Answer, Changed, ◌>>=◌, add_shown, associated, beside, contents, context_at, drop_shown, hierarchy, nothing, now_at, put_shown, table_at, with_object, within_limits}
use Rattle.mail_tree.specs.Columns.{contents_table, hierarchy_table}
use Rattle.mail_tree.specs.Settling.{message_ids, mirrored, settled, with_context, touched}
use Rattle.mail_tree.specs.Ids.{folder_kinds, is_spent, is_taken, message_kinds, new_id, next_index}
use Rattle.mail_tree.specs.Folders.{Outcome, associated_in, changing, folder_lines, has_associated, has_rows, listing, made_folder, making, making_folder, moved_between, moved_folder, place, removed_folder, without_folder, without_node, message_lines, moving, renamed_folder, replied, siblings, unless_full, unless_named, unless_protected, with_folder}
use Rattle.mail_tree.specs.Messages.{added_attachment, added_message, added_recipient, adding_attachment, adding_recipient, appended_data, appending, fetched_data, removed_attachment, spent_index, too_long, changed_message, copied_message, copy_of, copying, details, in_folder, is_overfull, making_message, message_in, moved_message, new_message, plain_message, remaking, removed_message, removed_recipient, set_value, spent_row, unset_value, value_in, value_of, given_message, set_embedded}
use Rattle.mail_tree.specs.Parts.{attachment_tags, data_tag, has_recipient, is_full, is_wide, lengthened, new_part, new_row, next_part, next_row, part_in, part_nid, part_with, recipient_props, recipient_tags, room_for, rows_of, with_attachment, with_bytes, with_part, with_recipient, without_attachment, without_recipient, part_holding}
use Rattle.mail_laws.specs.Laws.{Shows}
use Rattle.mail_tree.proofs.AfterTree.{puts_object}
use Rattle.mail_tree.proofs.FineLaws.{cases_Option}
use Rattle.mail_tree.proofs.KeyedFinds.{find-put_other, find-drop_other, find-drop_same}
use Rattle.mail_laws.proofs.FolderSteps.{beside_apart, fine_protected, no_rows}
use Rattle.mail_laws.proofs.NewIds.{new_folder_id}
use Rattle.mail_tree.specs.Step.{outcome}
use Rattle.mail_laws.proofs.Keeping.{from_fine, if_any, if_found, if_test, if_then, if_weaker, never_made, if_replying}
use Rattle.mail_tree.proofs.KindsOfPuts.{beside_kind, same_table}
use Rattle.mail_laws.proofs.MessageSteps.{Before, fine_message_in, finished_folder, finished_id, home_of, new_message_id, fine_home}
use Rattle.mail_laws.proofs.MirrorPuts.{AreShownBut, FolderIds, closes, shown_places, shown_put, shown_unlisting}
use Rattle.mail_laws.proofs.MirrorSteps.{add_folder, add_message, context_opens, drop_one, mirrored_shows, put_message, then_shows}
use Rattle.mail_laws.proofs.Touches.{if_table}
use Rattle.mail_tree.proofs.Nearly.{Puts, folder_kind, nearly, plain_id}
use Rattle.mail_tree.proofs.Settles.{store_of}
use Rattle.pst_base.specs.declared.ids.Nid.{Nid}
use Rattle.pst_base.specs.declared.subs.Sub.{Sub}

module _ (T : Tree) (w : Before T) (s : AreShownBut (λ x. ⊥) T.places (now_at T nothing)) where
  After : Outcome → Type 0
  After o = AreShownBut (λ x. ⊥) o.places (now_at T o.changed)

  ids : FolderIds T.places
  ids f p e = folder_kind p.sort f (w.kinds f p e)

  Shows_now : Changed → Type 0
  Shows_now D = AreShownBut (λ x. ⊥) T.places (now_at T D)

  limited : {B : Type 0} (new : Option Nid) (Q : B → Type 0) (D : Changed) (f : Unit {0} → Answer B) → IfOk (f tt) Q → IfOk (within_limits T new D >>= f) Q
  limited new Q D f h = if_then (λ u. Unit {0}) Q (within_limits T new D) f (if_any (within_limits T new D)) (λ u v. h)

  then_changing : (a : Answer Changed) (reply : Reply) → IfOk a Shows_now → IfOk (a >>= changing T reply) After
  unfolding Shows_now After
  then_changing a reply h = if_then Shows_now After a (changing T reply) h (λ D k. limited _ After D _ k)

  then_making : (a : Answer Changed) (kind index : ℕ) → IfOk a Shows_now → IfOk (a >>= making T T.places kind index) After
  unfolding Shows_now After
  then_making a kind index h = if_then Shows_now After a (making T T.places kind index) h (λ D k. limited _ After D _ (if_test After (is_spent index) Ids _ k))

  -- a message is put: its row needn't show it yet
  message_opens : (D : Changed) (m : ℕ) (o : Option Object) (at' : ℕ → Option Object) → m % 32 ≡ 4 → Shows_now D → Puts (now_at T D) at' m o → AreShownBut (λ x. x ≡ m) T.places at'
  unfolding Shows_now
  message_opens D m o at' four s puts = shown_put (λ x. ⊥) (λ x. x ≡ m) T.places (now_at T D) at' m o s (λ x e. absurd e) puts (λ e. omega arith) (λ e. omega arith) (λ p e. refl) (λ M e. refl)

  high : (f kind : ℕ) → kind < 32 → 4 < kind → 4 < beside f kind % 32
  high f kind small large = omega (arith, beside_kind f kind small)

  -- a message that is gone needn't be shown
  gone_closes : (D : Changed) (m : ℕ) → m % 32 ≡ 4 → AreShownBut (λ x. x ≡ m) T.places (now_at T D) → now_at T D m ≡ None → Shows_now D
  unfolding Shows_now
  gone_closes D m four s none = closes m T.places (now_at T D) s (λ p c e no_root is. cc (sym none ∙ is)) (λ M is. cc (sym none ∙ is))

  removes : (m : ℕ) → IfOk (removed_message T m) After
  unfolding removed_message Shows_now
  removes m = if_then _ After (message_in T m) _ (from_fine _ (message_in T m) (fine_message_in T m w)) (λ M h.
      let D = with_object m None nothing in let v = home_of T w m M h.0 in
      let puts = puts_object T nothing m None in
      let a = drop_shown T (contents M.folder) m D in
      then_changing (a >>= settled T T.places M.folder) (replied Done) (then_shows T T.places ids a M.folder (ids M.folder v.1 v.2)
      (if_weaker _ Shows_now a (drop_one T T.places ids D (contents M.folder) m (high M.folder 14 (omega arith) (omega arith)) (message_opens nothing m None (now_at T D) h.1 s puts))
      (λ D' d. gone_closes D' m h.1 d.0 (d.1 m (λ e. omega (arith, h.1, beside_kind M.folder 14 (omega arith))) ∙ puts.here)))))

  moves : (m folder : ℕ) → IfOk (moved_message T m folder) After
  unfolding moved_message Shows_now After
  moves m folder = if_then _ After (message_in T m) _ (from_fine _ (message_in T m) (fine_message_in T m w)) (λ M h. elim (cases_Option (find_place folder T.places)) [
    | inl e ↦ rw e tt
    | inr p ↦ rw p.1 (elim (cases_Bool (is_plain p.0)) [
      | inr plain ↦ rw plain tt
      | inl plain ↦ rw plain (elim (cases_Bool (M.folder == folder)) [
        | inl b ↦ rw b s
        | inr b ↦
            let N = in_folder folder M in let D = with_object m (Some (Message N)) nothing in let v = home_of T w m M h.0 in
            let puts = puts_object T nothing m (Some (Message N)) in
            rw b (if_then _ After (drop_shown T (contents M.folder) m D) _
            (drop_one T T.places ids D (contents M.folder) m (high M.folder 14 (omega arith) (omega arith)) (message_opens nothing m (Some (Message N)) (now_at T D) h.1 s puts)) (λ D' d.
            let a = add_shown T (contents folder) m M.props D' in
            then_changing (a >>= settled T T.places M.folder >>= settled T T.places folder) (replied Done)
            (then_shows T T.places ids (a >>= settled T T.places M.folder) folder (ids folder p.0 p.1) (then_shows T T.places ids a M.folder (ids M.folder v.1 v.2)
            (add_message T T.places ids D' m N h.1 d.0 (d.1 m (λ e. omega (arith, h.1, beside_kind M.folder 14 (omega arith))) ∙ puts.here))))))
      ])
    ])
  ])

  adds : (a : Answer Changed) → IfOk a Shows_now → (M : Mes) (p : FolderPlace) (index : ℕ) → M.nid % 32 ≡ 4 → find_place M.folder T.places ≡ Some p → IfOk (a >>= added_message T M >>= making T T.places 4 index) After
  unfolding Shows_now
  adds a k M p index four found = then_making (a >>= added_message T M) 4 index (if_then Shows_now Shows_now a (added_message T M) k (λ D0 s0.
      let D = with_object M.nid (Some (Message M)) D0 in
      let puts = puts_object T D0 M.nid (Some (Message M)) in
      then_shows T T.places ids (add_shown T (contents M.folder) M.nid M.props D) M.folder (ids M.folder p found)
      (add_message T T.places ids D M.nid M four (message_opens D0 M.nid (Some (Message M)) (now_at T D) four s0 puts) puts.here)))

  -- the folder of a message, put as it is before other changes
  touches : (m : ℕ) (M : Mes) → now_at T nothing m ≡ Some (Message M) → IfOk (touched T M.folder nothing) Shows_now
  unfolding Shows_now
  touches m M is =
      let a = touched T M.folder nothing in
      if_weaker (λ D. now_at T D ≡ now_at T nothing) Shows_now a (from_fine (λ D. now_at T D ≡ now_at T nothing) a (fine_home T w m M is)) (λ D same. subst (AreShownBut (λ x. ⊥) T.places) (sym same) s)

  starts : Shows_now nothing
  unfolding Shows_now
  starts = s

  copies : (m folder : ℕ) → IfOk (copied_message T m folder) After
  unfolding copied_message copying
  copies m folder = if_then _ After (message_in T m) _ (from_fine _ (message_in T m) (fine_message_in T m w)) (λ M h. elim (cases_Option (find_place folder T.places)) [
    | inl e ↦ rw e tt
    | inr p ↦ rw p.1 (elim (cases_Bool (is_plain p.0)) [
      | inr plain ↦ rw plain tt
      | inl plain ↦ rw plain (elim (cases_Bool (is_overfull M.recipients || is_overfull M.attachments)) [
        | inl b ↦ rw b tt
        | inr b ↦ rw b (if_then (λ u. Unit {0}) After (unless_full T (contents folder)) _ (if_any (unless_full T (contents folder))) (λ u v. elim (cases_Bool (is_spent (next_index T 4 message_kinds))) [
          | inl t ↦ never_made T T.places 4 (next_index T 4 message_kinds) After (touched T M.folder nothing >>= added_message T (copy_of (new_id 4 (next_index T 4 message_kinds)) folder M)) t
          | inr t ↦ (adds (touched T M.folder nothing) (touches m M h.0) (copy_of (new_id 4 (next_index T 4 message_kinds)) folder M) p.0 (next_index T 4 message_kinds) (new_message_id T t).0 p.1)
        ]))
      ])
    ])
  ])

  makes : (folder : ℕ) (class : List ℕ) (time : ℕ) (values : List Val) → IfOk (new_message T folder class time values) After
  unfolding new_message given_message making_message
  makes folder class time values = if_test After (list_any is_withheld values) Protected (λ u. given_message T folder class time values) (elim (cases_Option (find_place folder T.places)) [
    | inl e ↦ rw e tt
    | inr p ↦ rw p.1 (elim (cases_Bool (is_plain p.0)) [
      | inr plain ↦ rw plain tt
      | inl plain ↦
          let store = store_of w in
          rw (plain, store.1) (if_then (λ u. Unit {0}) After (unless_full T (contents folder)) _ (if_any (unless_full T (contents folder))) (λ u v. elim (cases_Bool (is_spent (next_index T 4 message_kinds))) [
            | inl t ↦
                let index = next_index T 4 message_kinds in
                let N = plain_message (new_id 4 index) folder (message_props (new_id 4 index) class time store.0.props values) in
                never_made T T.places 4 index After (added_message T (finished N) nothing) t
            | inr t ↦
                let index = next_index T 4 message_kinds in
                let N = plain_message (new_id 4 index) folder (message_props (new_id 4 index) class time store.0.props values) in
                (adds (Ok nothing) starts (finished N) p.0 index (ap (λ x. x % 32) (finished_id N) ∙ (new_message_id T t).0) (ap (λ x. find_place x T.places) (finished_folder N) ∙ p.1))
          ]))
    ])
  ])

  remakes : (m : ℕ) (M new : Mes) (reason : Option CommandRefusal) (last : LastLine) → now_at T nothing m ≡ Some (Message M) → m % 32 ≡ 4 → new.nid ≡ M.nid → new.folder ≡ M.folder → IfOk (remaking T new reason last) After
  unfolding remaking Shows_now
  remakes m M new reason last is four same there =
      let N = finished new in
      let D0 = nothing in
      let D = with_object N.nid (Some (Message N)) D0 in let v = home_of T w m M is in
      let nid : N.nid ≡ m = finished_id new ∙ same ∙ v.0 in
      let four' : N.nid % 32 ≡ 4 = ap (λ x. x % 32) nid ∙ four in
      let folder : N.folder ≡ M.folder = finished_folder new ∙ there in
      let puts = puts_object T D0 N.nid (Some (Message N)) in
      let a = put_shown T (contents N.folder) N.nid N.props D in
      if_replying T (a >>= settled T T.places N.folder) reason (replied last) After
      (then_changing (a >>= settled T T.places N.folder) (replied last) (then_shows T T.places ids a N.folder (ids N.folder v.1 (ap (λ x. find_place x T.places) folder ∙ v.2))
      (put_message T T.places ids D N.nid N four' (message_opens D0 N.nid (Some (Message N)) (now_at T D) four' s puts) puts.here)))

  changes : (m : ℕ) (M : Mes) (props : List Val) → now_at T nothing m ≡ Some (Message M) → m % 32 ≡ 4 → IfOk (changed_message T M props) After
  unfolding changed_message
  changes m M props is four = remakes m M (with_props props M) None Done is four refl refl

  adds_recipient : (m kind : ℕ) (address name : List ℕ) → IfOk (added_recipient T m kind address name) After
  unfolding added_recipient adding_recipient
  adds_recipient m kind address name = if_then _ After (message_in T m) _ (from_fine _ (message_in T m) (fine_message_in T m w)) (λ M h.
      let row = next_row (rows_of M.recipients) in
      if_test After (is_full M.recipients) (Limit Rows) _ (if_test After (is_wide recipient_tags M.recipients) (Limit Rows) _
      (remakes m M (with_recipient (new_row row) (recipient_props kind address name) M) (spent_row row) (Row (new_row row)) h.0 h.1 refl refl)))

  removes_recipient : (m row : ℕ) → IfOk (removed_recipient T m row) After
  unfolding removed_recipient
  removes_recipient m row = if_then _ After (message_in T m) _ (from_fine _ (message_in T m) (fine_message_in T m w)) (λ M h.
      if_test After (not (has_recipient row M)) NoObject _ (remakes m M (without_recipient row M) None Done h.0 h.1 refl refl))

  adds_attachment : (m : ℕ) (name : List ℕ) (held : Held) → IfOk (added_attachment T m name held) After
  unfolding added_attachment adding_attachment
  adds_attachment m name held = if_then _ After (message_in T m) _ (from_fine _ (message_in T m) (fine_message_in T m w)) (λ M h.
      let index = next_part M in
      let new = with_attachment (new_part (part_nid index) name held) (room_for index M) in
      if_test After (is_full M.attachments) (Limit Rows) _ (if_test After (is_wide attachment_tags M.attachments) (Limit Rows) _
      (remakes m M new (spent_index index) (Attached (part_nid index)) h.0 h.1 refl refl)))

  appends_data : (m n : ℕ) (more : List ℕ) → IfOk (appended_data T m n more) After
  unfolding appended_data appending
  appends_data m n more = if_then _ After (message_in T m) _ (from_fine _ (message_in T m) (fine_message_in T m w)) (λ M h.
      if_found After NoObject (part_in n M) _ (λ part is. if_found After NoProperty (bytes_of 0x3701 0x0102 part.props) _ (λ old is'.
      let props = with_bytes (lengthened old more) part.props in
      (remakes m M (with_part (part_with props part) M) (too_long old more) Done h.0 h.1 refl refl))))

  sets_embedded : (m n : ℕ) (node : Sub) → IfOk (set_embedded T m n node) After
  unfolding set_embedded
  sets_embedded m n node = if_then _ After (message_in T m) _ (from_fine _ (message_in T m) (fine_message_in T m w)) (λ M h.
      if_found After NoObject (part_in n M) _ (λ part is.
      (remakes m M (with_part (part_holding node part) M) None Done h.0 h.1 refl refl)))

  removes_attachment : (m n : ℕ) → IfOk (removed_attachment T m n) After
  unfolding removed_attachment
  removes_attachment m n = if_then _ After (message_in T m) _ (from_fine _ (message_in T m) (fine_message_in T m w)) (λ M h.
      if_test After (not (is_some (part_in n M))) NoObject _ (remakes m M (without_attachment n M) None Done h.0 h.1 refl refl))

  sets : (m : ℕ) (v : Val) → IfOk (set_value T m v) After
  unfolding set_value
  sets m v = if_then _ After (message_in T m) _ (from_fine _ (message_in T m) (fine_message_in T m w)) (λ M h. elim (cases_Bool (is_set_protected v.id M.props)) [
    | inl t ↦ rw t tt
    | inr t ↦ rw t (if_then (λ u. Unit {0}) After (unless_nameless T v.id) _ (if_any (unless_nameless T v.id)) (λ u x. changes m M (put v M.props) h.0 h.1))
  ])

  unsets : (m : ℕ) (tag : Tag) → IfOk (unset_value T m tag) After
  unfolding unset_value
  unsets m tag = if_then _ After (message_in T m) _ (from_fine _ (message_in T m) (fine_message_in T m w)) (λ M h. elim (cases_Bool (is_unset_protected tag.id tag.kind M.props)) [
    | inl t ↦ rw t tt
    | inr t ↦ rw t (elim (cases_Bool (is_some (bytes_of tag.id tag.kind M.props))) [ inr u ↦ rw u tt | inl u ↦ rw u (changes m M (remove_id tag.id M.props) h.0 h.1) ])
  ])

  gets : (m : ℕ) (tag : Tag) → IfOk (value_in T m tag) After
  unfolding value_in After
  gets m tag = if_then (λ M. Unit {0}) After (message_in T m) _ (if_any (message_in T m)) (λ M h. elim (cases_Option (value_of tag M.props)) [ inl e ↦ rw e tt | inr v ↦ rw v.1 s ])

  fetches : (m n : ℕ) → IfOk (fetched_data T m n) After
  unfolding fetched_data After
  fetches m n = if_then (λ M. Unit {0}) After (message_in T m) _ (if_any (message_in T m)) (λ M h. if_found After NoObject (part_in n M) _ (λ part is. if_found After NoProperty (value_of data_tag part.props) _ (λ v is'. s)))

  lists : (m : ℕ) → IfOk (details T m) After
  unfolding details After
  lists m = if_then (λ M. Unit {0}) After (message_in T m) _ (if_any (message_in T m)) (λ M h. s)

  lists_folder : (f : ℕ) → IfOk (listing T f) After
  unfolding listing After
  lists_folder f = elim (cases_Option (find_place f T.places)) [
    | inl e ↦ rw e tt
    | inr p ↦ rw p.1 (elim (cases_Bool (is_plain p.0)) [
      | inr plain ↦ rw plain s
      | inl plain ↦ rw plain (
          if_then (λ l. Unit {0}) After (folder_lines T (filter (is_child f) T.places)) _ (if_any (folder_lines T (filter (is_child f) T.places))) (λ l u.
          if_then (λ t. Unit {0}) After (table_at T nothing (contents f)) _ (if_any (table_at T nothing (contents f))) (λ t u.
          if_then (λ k. Unit {0}) After (message_lines T (message_ids t.table)) _ (if_any (message_lines T (message_ids t.table))) (λ k u. s))))
    ])
  ]

  renames : (f : ℕ) (name : List ℕ) → IfOk (renamed_folder T f name) After
  unfolding renamed_folder Shows_now
  renames f name = elim (cases_Option (find_place f T.places)) [
    | inl e ↦ rw e tt
    | inr p ↦ rw p.1 (elim (cases_Bool (is_plain p.0)) [
      | inr plain ↦ rw plain tt
      | inl plain ↦ rw plain (
          if_then (λ u. Unit {0}) After (unless_protected T f) _ (if_any (unless_protected T f)) (λ u v.
          if_then (λ u. Unit {0}) After (unless_named T (folded false name) (siblings T p.0.parent.bits f)) _ (if_any (unless_named T (folded false name) (siblings T p.0.parent.bits f))) (λ u v.
          if_then (λ u. Unit {0}) After (context_at T nothing f) _ (if_any (context_at T nothing f)) (λ c v.
          let props = put (text 0x3001 name) c.props in
          let o = context_opens T T.places ids nothing f c props (ids f p.0 p.1) s in
          then_changing (mirrored T f (with_context f c props nothing)) (replied Done) (mirrored_shows T T.places ids (with_context f c props nothing) f (record c { props = props }) (ids f p.0 p.1) o.0 o.1)))))
    ])
  ]

  -- where folders come, go and move
  Shows_in : List FolderPlace → Changed → Type 0
  Shows_in places D = AreShownBut (λ x. ⊥) places (now_at T D)

  then_moving : (places : List FolderPlace) (a : Answer Changed) (reply : Reply) → IfOk a (Shows_in places) → IfOk (a >>= moving T places reply) After
  unfolding Shows_in After
  then_moving places a reply h = if_then (Shows_in places) After a (moving T places reply) h (λ D k. limited _ After D _ k)

  then_making_in : (places : List FolderPlace) (a : Answer Changed) (kind index : ℕ) → IfOk a (Shows_in places) → IfOk (a >>= making T places kind index) After
  unfolding Shows_in After
  then_making_in places a kind index h = if_then (Shows_in places) After a (making T places kind index) h (λ D k. limited _ After D _ (if_test After (is_spent index) Ids _ k))

  put_ids : (f parent : ℕ) → f % 32 ≡ 2 → FolderIds (put_key place_id (place f parent) T.places)
  put_ids f parent two g p e = elim (cases_eq g f) [
    | inl same ↦ inl (ap (λ x. x % 32) same ∙ two)
    | inr other ↦ ids g p (sym (find-put_other place_id g (place f parent) T.places other) ∙ e)
  ]

  put_was : (f parent : ℕ) (g : ℕ) (p : FolderPlace) → find_place g (put_key place_id (place f parent) T.places) ≡ Some p → (g ≡ f → ⊥) → find_place g T.places ≡ Some p
  put_was f parent g p e other = sym (find-put_other place_id g (place f parent) T.places other) ∙ e

  -- a folder's values are put: its row needn't show them yet
  folder_opens : (f : ℕ) (o : Option Object) (at' : ℕ → Option Object) → f % 32 ≡ 2 → Puts (now_at T nothing) at' f o → AreShownBut (λ x. x ≡ f) T.places at'
  folder_opens f o at' two puts = shown_put (λ x. ⊥) (λ x. x ≡ f) T.places (now_at T nothing) at' f o s (λ x e. absurd e) puts (λ e. omega arith) (λ e. omega arith) (λ p e. refl) (λ M e. refl)

  -- a table beside a folder comes where none stood
  table_comes : (places : List FolderPlace) (places_ids : FolderIds places) (D : Changed) (f kind : ℕ) (t : Tbl) → kind < 32 → 4 < kind → AreShownBut (λ x. x ≡ f) places (now_at T D) → now_at T D (beside f kind) ≡ None
      → AreShownBut (λ x. x ≡ f) places (now_at T (with_object (beside f kind) (Some (Table t)) D))
  table_comes places places_ids D f kind t small large s none = shown_unlisting (λ x. x ≡ f) (λ x. x ≡ f) places (now_at T D) _ (beside f kind) (Some (Table t)) s (λ x e. e) (puts_object T D (beside f kind) (Some (Table t)))
      places_ids (high f kind small large) (λ id props h. none-some (Table h.0) (sym none ∙ h.1)) (λ M e. cc)

  own : (f kind : ℕ) → f % 32 ≡ 2 → kind < 32 → 4 < kind → f ≡ beside f kind → ⊥
  own f kind two small large e = omega (arith, beside_kind f kind small)

  makes_folder : (parent : ℕ) (name : List ℕ) → IfOk (made_folder T parent name) After
  unfolding made_folder making_folder Shows_in
  makes_folder parent name = elim (cases_Option (find_place parent T.places)) [
    | inl e ↦ rw e tt
    | inr p ↦ rw p.1 (elim (cases_Bool (is_plain p.0)) [
      | inr plain ↦ rw plain tt
      | inl plain ↦ rw plain (if_then (λ u. Unit {0}) After (unless_named T (folded false name) (children parent T.places)) _ (if_any (unless_named T (folded false name) (children parent T.places))) (λ u u'.
          elim (cases_Bool (is_deep T.places parent)) [
            | inl b ↦ rw b tt
            | inr b ↦ rw b (if_then (λ v. Unit {0}) After (unless_full T (hierarchy parent)) _ (if_any (unless_full T (hierarchy parent))) (λ v v'. elim (cases_Bool (is_spent (next_index T 2 folder_kinds))) [
              | inl t ↦
                  let index = next_index T 2 folder_kinds in let f = new_id 2 index in let places = put_key place_id (place f parent) T.places in
                  never_made T places 2 index After (add_shown T (hierarchy parent) f (folder_props name) (with_folder f parent name nothing) >>= settled T places parent) t
              | inr t ↦
                  let index = next_index T 2 folder_kinds in
                  let f = new_id 2 index in
                  let places = put_key place_id (place f parent) T.places in
                  let new = new_folder_id T t in
                  let c : Ctx = record { parent = parent; props = folder_props name; kept = [] } in
                  let places_ids = put_ids f parent new.0 in
                  let D1 = with_object f (Some (Context c)) nothing in
                  let D2 = with_object (hierarchy f) (Some (Table hierarchy_table)) D1 in
                  let D3 = with_object (contents f) (Some (Table contents_table)) D2 in
                  let D4 = with_object (associated f) (Some (Table contents_table)) D3 in
                  let p1 = puts_object T nothing f (Some (Context c)) in
                  let p2 = puts_object T D1 (hierarchy f) (Some (Table hierarchy_table)) in
                  let p3 = puts_object T D2 (contents f) (Some (Table contents_table)) in
                  let p4 = puts_object T D3 (associated f) (Some (Table contents_table)) in
                  let s1 = shown_places (λ x. x ≡ f) T.places places (now_at T D1) (folder_opens f (Some (Context c)) (now_at T D1) new.0 p1) (put_was f parent) in
                  let s2 = table_comes places places_ids D1 f 13 hierarchy_table (omega arith) (omega arith) s1 (p1.others (hierarchy f) (λ e. own f 13 new.0 (omega arith) (omega arith) (sym e)) ∙ new.2) in
                  let s3 = table_comes places places_ids D2 f 14 contents_table (omega arith) (omega arith) s2
                  (p2.others (contents f) (beside_apart f 14 13 (omega arith) (omega arith) (λ e. omega arith)) ∙ p1.others (contents f) (λ e. own f 14 new.0 (omega arith) (omega arith) (sym e)) ∙ new.3) in
                  let s4 = table_comes places places_ids D3 f 15 contents_table (omega arith) (omega arith) s3
                  (p3.others (associated f) (beside_apart f 15 14 (omega arith) (omega arith) (λ e. omega arith)) ∙ p2.others (associated f) (beside_apart f 15 13 (omega arith) (omega arith) (λ e. omega arith))
                  ∙ p1.others (associated f) (λ e. own f 15 new.0 (omega arith) (omega arith) (sym e)) ∙ new.4) in
                  let is : now_at T D4 f ≡ Some (Context c) = p4.others f (own f 15 new.0 (omega arith) (omega arith)) ∙ p3.others f (own f 14 new.0 (omega arith) (omega arith)) ∙ p2.others f (own f 13 new.0 (omega arith) (omega arith)) ∙ p1.here in
                  let a = add_shown T (hierarchy parent) f (folder_props name) D4 in
                  (then_making_in places (a >>= settled T places parent) 2 index
                  (then_shows T places places_ids a parent (ids parent p.0 p.1) (add_folder T places places_ids D4 f c (inl new.0) s4 is)))
            ]))
          ]))
    ])
  ]

  moves_folder : (f parent : ℕ) → IfOk (moved_folder T f parent) After
  unfolding moved_folder moved_between Shows_in After
  moves_folder f parent = elim (cases_Option (find_place f T.places)) [
    | inl e ↦ rw e tt
    | inr p ↦ rw p.1 (elim (cases_Option (find_place parent T.places)) [
      | inl e ↦ rw e tt
      | inr q ↦ rw q.1 (elim (cases_Bool (is_plain p.0)) [
        | inr plain ↦ rw plain tt
        | inl plain_p ↦ rw plain_p (elim (cases_Bool (is_plain q.0)) [
          | inr plain ↦ rw plain tt
          | inl plain_q ↦ rw plain_q (if_then (λ u. f ≡ ROOT → ⊥) After (unless_protected T f) _ (from_fine (λ u. f ≡ ROOT → ⊥) (unless_protected T f) (fine_protected T f w)) (λ u no_root. elim (cases_Bool (is_within T.places f parent)) [
            | inl b ↦ rw b tt
            | inr b ↦ rw b (elim (cases_Bool (p.0.parent.bits == parent)) [
              | inl b ↦ rw b s
              | inr b ↦
                  let c = w.contexts f p.0 p.1 in
                  let from = p.0.parent.bits in let v = w.parents f p.0 p.1 no_root in
                  let places = put_key place_id (place f parent) T.places in
                  let two = plain_id (nearly (λ x. ⊥) T.places (now_at T nothing) w) f p.0 p.1 plain_p in
                  let places_ids = put_ids f parent two in
                  let c' : Ctx = record c.0 { parent = parent } in
                  let D = with_object f (Some (Context c')) nothing in
                  let puts = puts_object T nothing f (Some (Context c')) in
                  let s1 = shown_places (λ x. x ≡ f) T.places places (now_at T D) (folder_opens f (Some (Context c')) (now_at T D) two puts) (put_was f parent) in
                  let a = drop_shown T (hierarchy from) f D in
                  rw (b, c.1) (if_then (λ u. Unit {0}) After (unless_named T (folded false (name_of c.0.props)) (children parent T.places)) _ (if_any (unless_named T (folded false (name_of c.0.props)) (children parent T.places))) (λ u u'.
                  elim (cases_Bool (moves_deep T.places f parent)) [
                    | inl b ↦ rw b tt
                    | inr b ↦ rw b (then_moving places _ (replied Done)
                        (if_then _ (Shows_in places) a _ (drop_one T places places_ids D (hierarchy from) f (high from 13 (omega arith) (omega arith)) s1) (λ D1 d.
                        let a' = add_shown T (hierarchy parent) f c.0.props D1 in
                        then_shows T places places_ids (a' >>= settled T places from) parent (ids parent q.0 q.1)
                        (then_shows T places places_ids a' from (ids from v.0 v.1)
                        (add_folder T places places_ids D1 f c' (inl two) d.0 (d.1 f (λ e. omega (arith, beside_kind from 13 (omega arith))) ∙ puts.here))))))
                  ]))
            ])
          ]))
        ])
      ])
    ])
  ]

  -- a table of a folder that shows nothing goes
  table_goes : (D : Changed) (f kind : ℕ) → kind < 32 → 4 < kind → AreShownBut (λ x. x ≡ f) T.places (now_at T D) → ((id : ℕ) (props : List Val) → Shows (now_at T D (beside f kind)) id props → ⊥)
      → AreShownBut (λ x. x ≡ f) T.places (now_at T (with_object (beside f kind) None D))
  table_goes D f kind small large s unlisted = shown_unlisting (λ x. x ≡ f) (λ x. x ≡ f) T.places (now_at T D) _ (beside f kind) None s (λ x e. e) (puts_object T D (beside f kind) None)
      ids (high f kind small large) unlisted (λ M e. none-some (Message M) e)

  associated_goes : (D : Changed) (f : ℕ) (b : Bool) → AreShownBut (λ x. x ≡ f) T.places (now_at T D) → AreShownBut (λ x. x ≡ f) T.places (now_at T (without_node (associated f) b D))
  associated_goes D f false s = s
  associated_goes D f true s =
      let kind = beside_kind f 15 (omega arith) in
      shown_put (λ x. x ≡ f) (λ x. x ≡ f) T.places (now_at T D) _ (associated f) None s (λ x e. e) (puts_object T D (associated f) None) (λ e. omega arith) (λ e. omega arith)
      (λ p e. elim (ids (associated f) p e) [ inl k ↦ omega arith | inr k ↦ omega arith ]) (λ M e. absurd (none-some (Message M) e))

  -- a table without rows shows nothing
  shows_none : (o : Option Object) (a : Tbl) → o ≡ Some (Table a) → has_rows a ≡ false → (id : ℕ) (props : List Val) → Shows o id props → ⊥
  shows_none o a is none id props h = no_rows a.table.rows id none (ap is_some (ap (λ (x : Tbl). find_row id x.table.rows) (same_table a h.0 (sym is ∙ h.1)) ∙ h.2))

  node_others : (D : Changed) (f x : ℕ) (b : Bool) → (x ≡ associated f → ⊥) → now_at T (without_node (associated f) b D) x ≡ now_at T D x
  node_others D f x false other = refl
  node_others D f x true other = (puts_object T D (associated f) None).others x other

  removes_folder : (f : ℕ) → IfOk (removed_folder T f) After
  unfolding removed_folder Shows_in
  removes_folder f = elim (cases_Option (find_place f T.places)) [
    | inl e ↦ rw e tt
    | inr p ↦ rw p.1 (elim (cases_Bool (is_plain p.0)) [
      | inr plain ↦ rw plain tt
      | inl plain ↦ rw plain (
          if_then (λ u. f ≡ ROOT → ⊥) After (unless_protected T f) _ (from_fine (λ u. f ≡ ROOT → ⊥) (unless_protected T f) (fine_protected T f w)) (λ u no_root.
          if_then (λ a. now_at T nothing (hierarchy f) ≡ Some (Table a)) After (table_at T nothing (hierarchy f)) _ (if_table T nothing (hierarchy f)) (λ a is_a.
          if_then (λ b. now_at T nothing (contents f) ≡ Some (Table b)) After (table_at T nothing (contents f)) _ (if_table T nothing (contents f)) (λ b is_b.
          if_then (λ c. Unit {0}) After (associated_in T f) _ (if_any (associated_in T f)) (λ c c'.
          elim (cases_Bool (has_rows a || (has_rows b || has_associated c))) [
            | inl some ↦ rw some tt
            | inr none ↦
                let from = p.0.parent.bits in let v = w.parents f p.0 p.1 no_root in
                let none_a = (or_parts (has_rows a) (has_rows b || has_associated c) none).0 in
                let none_b = (or_parts (has_rows b) (has_associated c) (or_parts (has_rows a) (has_rows b || has_associated c) none).1).0 in
                let places = drop_key place_id f T.places in
                let two = plain_id (nearly (λ x. ⊥) T.places (now_at T nothing) w) f p.0 p.1 plain in
                let was : (g : ℕ) (r : FolderPlace) → find_place g places ≡ Some r → (g ≡ f → ⊥) → find_place g T.places ≡ Some r = λ g r e other. sym (find-drop_other place_id g f T.places other) ∙ e in
                let gone = find-drop_same place_id 0 f T.places w.ascend in
                let places_ids : FolderIds places = λ g r e. ids g r (was g r e (λ same. none-some r (sym gone ∙ ap (λ x. find_place x places) (sym same) ∙ e))) in
                let D1 = with_object f None nothing in let D2 = with_object (hierarchy f) None D1 in let D3 = with_object (contents f) None D2 in
                let D = without_folder T f nothing in
                let p1 = puts_object T nothing f None in let p2 = puts_object T D1 (hierarchy f) None in let p3 = puts_object T D2 (contents f) None in
                let s1 = folder_opens f None (now_at T D1) two p1 in
                let s2 = table_goes D1 f 13 (omega arith) (omega arith) s1 (shows_none (now_at T D1 (hierarchy f)) a (p1.others (hierarchy f) (λ e. own f 13 two (omega arith) (omega arith) (sym e)) ∙ is_a) none_a) in
                let s3 = table_goes D2 f 14 (omega arith) (omega arith) s2 (shows_none (now_at T D2 (contents f)) b
                (p2.others (contents f) (beside_apart f 14 13 (omega arith) (omega arith) (λ e. omega arith)) ∙ p1.others (contents f) (λ e. own f 14 two (omega arith) (omega arith) (sym e)) ∙ is_b) none_b) in
                let s4 = associated_goes D3 f (is_taken T (associated f)) s3 in
                let nothing_there : now_at T D f ≡ None = node_others D3 f f (is_taken T (associated f)) (own f 15 two (omega arith) (omega arith)) ∙ p3.others f (own f 14 two (omega arith) (omega arith)) ∙ p2.others f (own f 13 two (omega arith) (omega arith)) ∙ p1.here in
                let s5 = shown_places (λ x. x ≡ f) T.places places (now_at T D) s4 was in
                let a' = drop_shown T (hierarchy from) f D in
                rw none (then_moving places (a' >>= settled T places from) (replied Done) (then_shows T places places_ids a' from (ids from v.0 v.1)
                (if_weaker _ (Shows_in places) a' (drop_one T places places_ids D (hierarchy from) f (high from 13 (omega arith) (omega arith)) s5)
                (λ D' d.
                let still : now_at T D' f ≡ None = d.1 f (λ e. omega (arith, beside_kind from 13 (omega arith))) ∙ nothing_there in
                closes f places (now_at T D') d.0 (λ r c e no_root is. cc (sym still ∙ is)) (λ M is. cc (sym still ∙ is))))))
          ])))))
    ])
  ]

  pub mirrored_after : (c : Command) → IfOk (outcome T c) (λ o. AreShownBut (λ x. ⊥) o.places (now_at T o.changed))
  unfolding outcome After
  mirrored_after (MakeFolder parent name) = makes_folder parent.bits name
  mirrored_after (RenameFolder folder name) = renames folder.bits name
  mirrored_after (MoveFolder folder parent) = moves_folder folder.bits parent.bits
  mirrored_after (RemoveFolder folder) = removes_folder folder.bits
  mirrored_after (ListFolder folder) = lists_folder folder.bits
  mirrored_after (NewMessage folder class time values) = makes folder.bits class time values
  mirrored_after (SetProperty message value) = sets message.bits value
  mirrored_after (UnsetProperty message tag) = unsets message.bits tag
  mirrored_after (GetProperty message tag) = gets message.bits tag
  mirrored_after (ListProperties message) = lists message.bits
  mirrored_after (MoveMessage message folder) = moves message.bits folder.bits
  mirrored_after (CopyMessage message folder) = copies message.bits folder.bits
  mirrored_after (RemoveMessage message) = removes message.bits
  mirrored_after (AddRecipient message kind address name) = adds_recipient message.bits kind address name
  mirrored_after (RemoveRecipient message row) = removes_recipient message.bits row
  mirrored_after (AddAttachment message name held) = adds_attachment message.bits name held
  mirrored_after (AppendData message attachment bytes) = appends_data message.bits attachment.bits bytes
  mirrored_after (SetEmbedded message attachment node) = sets_embedded message.bits attachment.bits node
  mirrored_after (RemoveAttachment message attachment) = removes_attachment message.bits attachment.bits
  mirrored_after (FetchData message attachment) = fetches message.bits attachment.bits
  mirrored_after (NameProperty guid number) = if_weaker (PutsNames T) After (named_property T guid number) (puts_names_after T guid number w) (λ o k.
      subst (λ places. AreShownBut (λ x. ⊥) places (now_at T o.changed)) (sym k.places_are)
      (shown_put (λ x. ⊥) (λ x. ⊥) T.places (now_at T nothing) (now_at T o.changed) NAMES (Some (Context k.new)) s (λ x e. e) k.puts (λ e. omega arith) (λ e. omega arith) (λ p e. elim (ids NAMES p e) [ inl x ↦ omega arith | inr x ↦ omega arith ]) (λ M e. cc e)))
  mirrored_after (MakeSearch parent name) = tt
  mirrored_after (SetCriteria folder flags scope restriction) = tt
  mirrored_after (GetCriteria folder) = tt
  mirrored_after Save = s
  mirrored_after Quit = s
