-- What a command puts is its new object, or stands in the tree already: so it can be compared with the tree.
use Rattle.command_text.specs.declared.reply.LastLine.{LastLine}
use Rattle.command_text.specs.declared.reply.CommandRefusal.{CommandRefusal}
use Rattle.std.proofs.Common.{◌≡◌, ℕ, ◌==◌, false, not, filter, List, None, Some, is_some, IfOk, refl, sym, subst, ap, ◌∙◌, inl, inr, Option, ◌||◌}
use Rattle.std.proofs.lemmas.Bool.{cases_Bool}
use Rattle.mapi_values.specs.Characters.{folded}
use Rattle.mapi_values.specs.Keyed.{drop_key, put_key}
use Rattle.mapi_values.specs.Messages.{Mes}
use Rattle.mapi_values.specs.Properties.{put, remove_id}
use Rattle.mapi_values.specs.Values.{Val}
use Rattle.mapi_values.specs.declared.value.Tag.{Tag}
use Rattle.command_text.specs.declared.command.Command.{Command}
use Rattle.command_text.specs.declared.command.Held.{Held}
use Rattle.command_text.specs.declared.command.Command.TheVariants.{MakeFolder, RenameFolder, MoveFolder, RemoveFolder, ListFolder, NewMessage, SetProperty, UnsetProperty, GetProperty, ListProperties, MoveMessage, CopyMessage, RemoveMessage, AddRecipient, RemoveRecipient, AddAttachment, AppendData, RemoveAttachment, FetchData, Save, Quit, NameProperty, MakeSearch, SetCriteria, GetCriteria, SetEmbedded}
use Rattle.command_text.specs.declared.reply.CommandRefusal.TheVariants.{Property, NotEmpty, Cycle, Protected, Limit, Ids, Object, Line}
use Rattle.command_text.specs.declared.reply.Limit.TheVariants.{Depth, Rows}
use Rattle.command_text.specs.declared.reply.LastLine.TheVariants.{Attached, Done, Row}
use Rattle.mail_objects.specs.declared.object.Object.TheVariants.{Message, Context}
use Rattle.mail_tree.specs.declared.places.FolderPlace.{FolderPlace}
use Rattle.mail_tree.specs.Places.{children, is_child, is_deep, is_plain, is_within, moves_deep, place_id}
use Rattle.mail_tree.specs.Tree.{Tree}
use Rattle.mail_tree.specs.Values.{bytes_of, finished, folder_props, is_set_protected, is_unset_protected, message_props, name_of, text, with_props}
use Rattle.mail_tree.specs.Changing.{Answer, Changed, ◌>>=◌, add_shown, contents, context_at, drop_shown, found, hierarchy, nothing, put_shown, refused_if, table_at, with_object, within_limits, known, now_at}
use Rattle.named_props.specs.Finding.{name_at}
use Rattle.named_props.specs.Holding.{names_of, written}
use Rattle.named_props.specs.declared.names.Names.{Names}
use Rattle.mail_tree.specs.Names.{NAMES, found_or_added, is_name, named_property, no_room, unless_nameless, with_another}
use Rattle.mail_objects.specs.Forms.{Ctx}
use Rattle.mail_tree.specs.Settling.{message_ids, mirrored, settled, with_context, touched}
use Rattle.mail_tree.specs.Ids.{folder_kinds, is_spent, message_kinds, new_id, next_index}
use Rattle.mail_tree.specs.Folders.{Outcome, associated_in, changing, folder_in, folder_lines, has_associated, has_rows, listing, made_folder, making, making_folder, message_lines, moved_between, moved_folder, moving, place, removed_folder, renamed_folder, replied, siblings, unless_full, unless_named, unless_plain, unless_protected, with_folder, without_folder, replying, unless, nid, made_id}
use Rattle.mail_tree.specs.Messages.{added_attachment, added_message, added_recipient, adding_attachment, adding_recipient, appended_data, appending, fetched_data, removed_attachment, spent_index, too_long, changed_message, copied_message, copy_of, copying, details, in_folder, is_overfull, making_message, message_in, moved_message, new_message, plain_message, remaking, removed_message, removed_recipient, set_value, spent_row, unset_value, value_in, value_of, given_message, set_embedded}
use Rattle.mail_tree.specs.Parts.{attachment_tags, data_tag, has_recipient, is_full, is_wide, lengthened, new_part, new_row, next_part, next_row, part_in, part_nid, part_with, recipient_props, recipient_tags, room_for, rows_of, with_attachment, with_bytes, with_part, with_recipient, without_attachment, without_recipient, part_holding}
use Rattle.mail_tree.specs.Step.{outcome}
use Rattle.mail_laws.proofs.Keeping.{if_any, if_test, if_then, from_fine}
use Rattle.mail_tree.proofs.StoodLaws.{AreStood, IsNew, added_stood, dropped_stood, none_stood, settled_stood, stood_then, values_stood, touched_stood, goes_on, is_context}
use Rattle.mail_laws.proofs.Comparing.{own_new, message_stood, remade_stood, gone_stood, message_comes, renamed_stood, between_stood, folder_comes, folder_goes}
use Rattle.mail_laws.proofs.MessageSteps.{finished_id, home_of, fine_message_in, Before}
use Rattle.pst_base.specs.declared.subs.Sub.{Sub}

module _ (T : Tree) (w : Before T) where
  abbrev Right : Outcome → Type 0
  Right o = AreStood T (IsNew (made_id o.reply.last)) o.changed

  -- nothing changes
  quiet : AreStood T (IsNew None) nothing
  quiet = none_stood T (IsNew None)

  -- whatever a step answers
  then_any : {A : Type 0} (a : Answer A) (f : A → Answer Outcome) → ((x : A) → IfOk (f x) Right) → IfOk (a >>= f) Right
  then_any a f next = if_then (λ x. Unit {0}) Right a f (if_any a) (λ x u. next x)

  then_changing : (a : Answer Changed) → IfOk a (AreStood T (IsNew None)) → IfOk (a >>= changing T (replied Done)) Right
  then_changing a stood = if_then (AreStood T (IsNew None)) Right a (changing T (replied Done)) stood (λ D k. then_any (within_limits T _ D) _ (λ u. k))

  then_replying : (a : Answer Changed) (reason : Option CommandRefusal) (last : LastLine) → made_id last ≡ None → IfOk a (AreStood T (IsNew None)) → IfOk (a >>= replying T reason (replied last)) Right
  then_replying a reason last none stood = if_then (AreStood T (IsNew None)) Right a (replying T reason (replied last)) stood (λ D k.
      then_any (within_limits T _ D) _ (λ u. then_any (unless reason) _ (λ v. subst (λ x. AreStood T (IsNew x) D) (sym none) k)))

  then_moving : (places : List FolderPlace) (a : Answer Changed) → IfOk a (AreStood T (IsNew None)) → IfOk (a >>= moving T places (replied Done)) Right
  then_moving places a stood = if_then (AreStood T (IsNew None)) Right a (moving T places (replied Done)) stood (λ D k. then_any (within_limits T _ D) _ (λ u. k))

  then_making : (places : List FolderPlace) (kind index : ℕ) (a : Answer Changed) → IfOk a (AreStood T (IsNew (Some (nid (new_id kind index))))) → IfOk (a >>= making T places kind index) Right
  then_making places kind index a stood =
      if_then (AreStood T (IsNew (Some (nid (new_id kind index))))) Right a (making T places kind index) stood (λ D k. then_any (within_limits T _ D) _ (λ u. if_test Right (is_spent index) Ids _ k))

  then_message : (m : ℕ) (f : Mes → Answer Outcome) → ((M : Mes) → now_at T nothing m ≡ Some (Message M) → IfOk (f M) Right) → IfOk (message_in T m >>= f) Right
  then_message m f next = if_then _ Right (message_in T m) f (from_fine _ (message_in T m) (fine_message_in T m w)) (λ M h. next M h.0)

  makes_folder : (parent : ℕ) (name : List ℕ) → IfOk (made_folder T parent name) Right
  unfolding made_folder making_folder
  makes_folder parent name =
      then_any (folder_in T parent) _ (λ p. then_any (unless_plain p) _ (λ u. then_any (unless_named T (folded false name) (children parent T.places)) _ (λ v.
      then_any (refused_if (is_deep T.places parent) (Limit Depth)) _ (λ w. then_any (unless_full T (hierarchy parent)) _ (λ x.
      let index = next_index T 2 folder_kinds in let f = new_id 2 index in let places = put_key place_id (place f parent) T.places in
      then_making places 2 index (add_shown T (hierarchy parent) f (folder_props name) (with_folder f parent name nothing) >>= settled T places parent)
      (folder_comes T (IsNew (Some (nid f))) f parent name (folder_props name) places (own_new f)))))))

  renames : (f : ℕ) (name : List ℕ) → IfOk (renamed_folder T f name) Right
  unfolding renamed_folder
  renames f name =
      then_any (folder_in T f) _ (λ p. then_any (unless_plain p) _ (λ u. then_any (unless_protected T f) _ (λ v. then_any (unless_named T (folded false name) (siblings T p.parent.bits f)) _ (λ w.
      goes_on Right (context_at T nothing f) _ (λ c is. let props = put (text 0x3001 name) c.props in
      then_changing (mirrored T f (with_context f c props nothing)) (renamed_stood T (IsNew None) f c props (is_context (now_at T nothing f) c is)))))))

  moves_folder : (f parent : ℕ) → IfOk (moved_folder T f parent) Right
  unfolding moved_folder
  moves_folder f parent =
      then_any (folder_in T f) _ (λ p. then_any (folder_in T parent) _ (λ q. then_any (unless_plain p) _ (λ u. then_any (unless_plain q) _ (λ v. then_any (unless_protected T f) _ (λ w.
      then_any (refused_if (is_within T.places f parent) Cycle) _ (λ x. elim (cases_Bool (p.parent.bits == parent)) [
        | inl t ↦ rw t quiet
        | inr t ↦ rw t (then_any (context_at T nothing f) _ (λ c. then_any (unless_named T (folded false (name_of c.props)) (children parent T.places)) _ (λ y. then_any (refused_if (moves_deep T.places f parent) (Limit Depth)) _ (λ z.
            let places = put_key place_id (place f parent) T.places in
            then_moving places (moved_between T f p.parent.bits parent places) (between_stood T (IsNew None) f p.parent.bits parent places)))))
      ]))))))

  removes_folder : (f : ℕ) → IfOk (removed_folder T f) Right
  unfolding removed_folder
  removes_folder f =
      then_any (folder_in T f) _ (λ p. then_any (unless_plain p) _ (λ u. then_any (unless_protected T f) _ (λ v. then_any (table_at T nothing (hierarchy f)) _ (λ a. then_any (table_at T nothing (contents f)) _ (λ b.
      then_any (associated_in T f) _ (λ c. then_any (refused_if (has_rows a || (has_rows b || has_associated c)) NotEmpty) _ (λ w.
      let places = drop_key place_id f T.places in
      then_moving places (drop_shown T (hierarchy p.parent.bits) f (without_folder T f nothing) >>= settled T places p.parent.bits) (folder_goes T (IsNew None) f p.parent.bits places))))))))

  lists_folder : (f : ℕ) → IfOk (listing T f) Right
  unfolding listing
  lists_folder f = then_any (folder_in T f) _ (λ p. elim (cases_Bool (is_plain p)) [
    | inr t ↦ rw t quiet
    | inl t ↦ rw t (then_any (folder_lines T (filter (is_child f) T.places)) _ (λ folders. then_any (table_at T nothing (contents f)) _ (λ t. then_any (message_lines T (message_ids t.table)) _ (λ messages. quiet))))
  ])

  makes : (folder : ℕ) (class : List ℕ) (time : ℕ) (values : List Val) → IfOk (new_message T folder class time values) Right
  unfolding new_message given_message making_message
  makes folder class time values =
      then_any _ _ (λ g. then_any (folder_in T folder) _ (λ p. then_any (unless_plain p) _ (λ u. then_any (context_at T nothing 0x21) _ (λ store. then_any (unless_full T (contents folder)) _ (λ v.
      let index = next_index T 4 message_kinds in let m = new_id 4 index in let M = plain_message m folder (message_props m class time store.props values) in let New = IsNew (Some (nid m)) in
      then_making T.places 4 index (added_message T (finished M) nothing) (message_comes T New (finished M) nothing (subst New (sym (finished_id M)) (own_new m)) (none_stood T New)))))))

  copies : (m folder : ℕ) → IfOk (copied_message T m folder) Right
  unfolding copied_message copying
  copies m folder =
      then_message m _ (λ M is. then_any (folder_in T folder) _ (λ p. then_any (unless_plain p) _ (λ u. then_any (refused_if (is_overfull M.recipients || is_overfull M.attachments) (Limit Rows)) _ (λ v.
      then_any (unless_full T (contents folder)) _ (λ x.
      let index = next_index T 4 message_kinds in let n = new_id 4 index in let N = copy_of n folder M in let New = IsNew (Some (nid n)) in
      then_making T.places 4 index (touched T M.folder nothing >>= added_message T N)
      (stood_then (touched T M.folder nothing) (added_message T N) (touched_stood T New M.folder nothing (none_stood T New)) (λ D k. message_comes T New N D (own_new n) k)))))))

  remakes : (m : ℕ) (M new : Mes) (reason : Option CommandRefusal) (last : LastLine) → now_at T nothing m ≡ Some (Message M) → new.nid ≡ M.nid → made_id last ≡ None → IfOk (remaking T new reason last) Right
  unfolding remaking
  remakes m M new reason last is same none =
      let N = finished new in
      let id : N.nid ≡ m = finished_id new ∙ same ∙ (home_of T w m M is).0 in
      then_replying (put_shown T (contents N.folder) N.nid N.props (with_object N.nid (Some (Message N)) nothing) >>= settled T T.places N.folder) reason last none
      (stood_then (put_shown T (contents N.folder) N.nid N.props (with_object N.nid (Some (Message N)) nothing)) (settled T T.places N.folder) (remade_stood T (IsNew None) M N (ap (now_at T nothing) id ∙ is)) (λ D k. settled_stood T (IsNew None) T.places N.folder D k))

  changes : (m : ℕ) (M : Mes) (props : List Val) → now_at T nothing m ≡ Some (Message M) → IfOk (changed_message T M props) Right
  unfolding changed_message
  changes m M props is = remakes m M (with_props props M) None Done is refl refl

  adds_recipient : (m kind : ℕ) (address name : List ℕ) → IfOk (added_recipient T m kind address name) Right
  unfolding added_recipient adding_recipient
  adds_recipient m kind address name = then_message m _ (λ M is. then_any (refused_if (is_full M.recipients) (Limit Rows)) _ (λ u. then_any (refused_if (is_wide recipient_tags M.recipients) (Limit Rows)) _ (λ v.
      let row = next_row (rows_of M.recipients) in
      remakes m M (with_recipient (new_row row) (recipient_props kind address name) M) (spent_row row) (Row (new_row row)) is refl refl)))

  removes_recipient : (m row : ℕ) → IfOk (removed_recipient T m row) Right
  unfolding removed_recipient
  removes_recipient m row = then_message m _ (λ M is. then_any (refused_if (not (has_recipient row M)) Object) _ (λ u. remakes m M (without_recipient row M) None Done is refl refl))

  adds_attachment : (m : ℕ) (name : List ℕ) (held : Held) → IfOk (added_attachment T m name held) Right
  unfolding added_attachment adding_attachment
  adds_attachment m name held = then_message m _ (λ M is. then_any (refused_if (is_full M.attachments) (Limit Rows)) _ (λ u. then_any (refused_if (is_wide attachment_tags M.attachments) (Limit Rows)) _ (λ v.
      let index = next_part M in
      remakes m M (with_attachment (new_part (part_nid index) name held) (room_for index M)) (spent_index index) (Attached (part_nid index)) is refl refl)))

  appends_data : (m n : ℕ) (more : List ℕ) → IfOk (appended_data T m n more) Right
  unfolding appended_data appending
  appends_data m n more = then_message m _ (λ M is. then_any (found Object (part_in n M)) _ (λ part. then_any (found Property (bytes_of 0x3701 0x0102 part.props)) _ (λ old.
      let props = with_bytes (lengthened old more) part.props in
      remakes m M (with_part (part_with props part) M) (too_long old more) Done is refl refl)))

  sets_embedded : (m n : ℕ) (node : Sub) → IfOk (set_embedded T m n node) Right
  unfolding set_embedded
  sets_embedded m n node = then_message m _ (λ M is. then_any (found Object (part_in n M)) _ (λ part.
      remakes m M (with_part (part_holding node part) M) None Done is refl refl))

  removes_attachment : (m n : ℕ) → IfOk (removed_attachment T m n) Right
  unfolding removed_attachment
  removes_attachment m n = then_message m _ (λ M is. then_any (refused_if (not (is_some (part_in n M))) Object) _ (λ u. remakes m M (without_attachment n M) None Done is refl refl))

  fetches : (m n : ℕ) → IfOk (fetched_data T m n) Right
  unfolding fetched_data
  fetches m n = then_message m _ (λ M is. then_any (found Object (part_in n M)) _ (λ part. then_any (found Property (value_of data_tag part.props)) _ (λ v. quiet)))

  sets : (m : ℕ) (v : Val) → IfOk (set_value T m v) Right
  unfolding set_value
  sets m v = then_message m _ (λ M is. then_any (refused_if (is_set_protected v.id M.props) Protected) _ (λ u. then_any (unless_nameless T v.id) _ (λ w. changes m M (put v M.props) is)))

  unsets : (m : ℕ) (tag : Tag) → IfOk (unset_value T m tag) Right
  unfolding unset_value
  unsets m tag = then_message m _ (λ M is. then_any (refused_if (is_unset_protected tag.id tag.kind M.props) Protected) _ (λ u.
      then_any (refused_if (not (is_some (bytes_of tag.id tag.kind M.props))) Property) _ (λ w. changes m M (remove_id tag.id M.props) is)))

  gets : (m : ℕ) (tag : Tag) → IfOk (value_in T m tag) Right
  unfolding value_in
  gets m tag = then_message m _ (λ M is. then_any (found Property (value_of tag M.props)) _ (λ v. quiet))

  lists : (m : ℕ) → IfOk (details T m) Right
  unfolding details
  lists m = then_message m _ (λ M is. quiet)

  moves : (m folder : ℕ) → IfOk (moved_message T m folder) Right
  unfolding moved_message
  moves m folder = then_message m _ (λ M is. then_any (folder_in T folder) _ (λ p. then_any (unless_plain p) _ (λ u. elim (cases_Bool (M.folder == folder)) [
    | inl t ↦ rw t quiet
    | inr t ↦
        let S = AreStood T (IsNew None) in
        let drops = drop_shown T (contents M.folder) m (with_object m (Some (Message (in_folder folder M))) nothing) in
        rw t (if_then S Right drops _ (dropped_stood T (IsNew None) (contents M.folder) m _ (message_stood T (IsNew None) m M (in_folder folder M) is)) (λ D k.
        then_changing (add_shown T (contents folder) m M.props D >>= settled T T.places M.folder >>= settled T T.places folder)
        (stood_then (add_shown T (contents folder) m M.props D >>= settled T T.places M.folder) (settled T T.places folder)
        (stood_then (add_shown T (contents folder) m M.props D) (settled T T.places M.folder) (added_stood T (IsNew None) (contents folder) m M.props D k) (λ D' j. settled_stood T (IsNew None) T.places M.folder D' j))
        (λ D' j. settled_stood T (IsNew None) T.places folder D' j))))
  ])))

  removes : (m : ℕ) → IfOk (removed_message T m) Right
  unfolding removed_message
  removes m = then_message m _ (λ M is. then_changing (drop_shown T (contents M.folder) m (with_object m None nothing) >>= settled T T.places M.folder)
      (stood_then (drop_shown T (contents M.folder) m (with_object m None nothing)) (settled T T.places M.folder) (gone_stood T (IsNew None) m M.folder) (λ D k. settled_stood T (IsNew None) T.places M.folder D k)))

  names_property : (guid : List ℕ) (number : ℕ) → IfOk (named_property T guid number) Right
  unfolding named_property found_or_added
  names_property guid number = then_any (refused_if (not (is_name guid number)) Line) _ (λ u. goes_on Right (context_at T nothing NAMES) _ (λ c is. then_any (known (names_of c.props)) _ (λ n. by_name c (is_context (now_at T nothing NAMES) c is) n (name_at n.guids n.entries guid number))))
    where
      by_name : (c : Ctx) → now_at T nothing NAMES ≡ Some (Context c) → (n : Names) (o : Option ℕ) → IfOk (found_or_added T c n guid number o) Right
      by_name c is n (Some property) = quiet
      by_name c is n None = then_any (within_limits T _ (with_context NAMES c (written (with_another n guid number)) nothing)) _ (λ u. then_any (unless (no_room n guid number)) _ (λ v.
          values_stood T (IsNew None) NAMES c _ nothing (none_stood T (IsNew None)) is))

  pub command_stood : (c : Command) → IfOk (outcome T c) Right
  unfolding outcome
  command_stood (MakeFolder parent name) = makes_folder parent.bits name
  command_stood (RenameFolder folder name) = renames folder.bits name
  command_stood (MoveFolder folder parent) = moves_folder folder.bits parent.bits
  command_stood (RemoveFolder folder) = removes_folder folder.bits
  command_stood (ListFolder folder) = lists_folder folder.bits
  command_stood (NewMessage folder class time values) = makes folder.bits class time values
  command_stood (SetProperty message value) = sets message.bits value
  command_stood (UnsetProperty message tag) = unsets message.bits tag
  command_stood (GetProperty message tag) = gets message.bits tag
  command_stood (ListProperties message) = lists message.bits
  command_stood (MoveMessage message folder) = moves message.bits folder.bits
  command_stood (CopyMessage message folder) = copies message.bits folder.bits
  command_stood (RemoveMessage message) = removes message.bits
  command_stood (AddRecipient message kind address name) = adds_recipient message.bits kind address name
  command_stood (RemoveRecipient message row) = removes_recipient message.bits row
  command_stood (AddAttachment message name held) = adds_attachment message.bits name held
  command_stood (AppendData message attachment bytes) = appends_data message.bits attachment.bits bytes
  command_stood (SetEmbedded message attachment node) = sets_embedded message.bits attachment.bits node
  command_stood (RemoveAttachment message attachment) = removes_attachment message.bits attachment.bits
  command_stood (FetchData message attachment) = fetches message.bits attachment.bits
  command_stood (NameProperty guid number) = names_property guid number
  command_stood (MakeSearch parent name) = tt
  command_stood (SetCriteria folder flags scope restriction) = tt
  command_stood (GetCriteria folder) = tt
  command_stood Save = quiet
  command_stood Quit = quiet
