-- Each id that a command gives lies behind the counter of its kind, which has its index then.
use Rattle.command_text.specs.declared.reply.LastLine.{LastLine}
use Rattle.command_text.specs.declared.reply.CommandRefusal.{CommandRefusal}
use Rattle.std.proofs.Common.{◌≡◌, ℕ, suc, ◌%◌, ◌/◌, ◌<◌, ◌==◌, false, max, not, filter, set, get_or, List, None, Some, is_some, IfOk, arith, refl, sym, subst, ap, ◌∙◌, inl, inr, Option, ◌||◌}
use Rattle.std.proofs.lemmas.Bool.{cases_Bool}
use Rattle.pst_base.specs.Ids.{index_of, nid_of}
use Rattle.mapi_values.specs.Characters.{folded}
use Rattle.mapi_values.specs.Keyed.{drop_key, put_key}
use Rattle.mapi_values.specs.Messages.{Mes}
use Rattle.mapi_values.specs.Properties.{put, remove_id}
use Rattle.mapi_values.specs.Values.{Val}
use Rattle.mapi_values.specs.declared.value.Tag.{Tag}
use Rattle.command_text.specs.declared.command.Command.{Command}
use Rattle.command_text.specs.declared.command.Held.{Held}
use Rattle.command_text.specs.declared.command.Command.TheVariants.{MakeFolder, RenameFolder, MoveFolder, RemoveFolder, ListFolder, NewMessage, SetProperty, UnsetProperty, GetProperty, ListProperties, MoveMessage, CopyMessage, RemoveMessage, AddRecipient, RemoveRecipient, AddAttachment, AppendData, RemoveAttachment, FetchData, Save, Quit, NameProperty, MakeSearch, SetCriteria, GetCriteria, SetEmbedded}
use Rattle.command_text.specs.declared.reply.CommandRefusal.TheVariants.{Property, NotEmpty, Cycle, Protected, Limit, Ids, Object, Line}
use Rattle.command_text.specs.declared.reply.Limit.TheVariants.{Depth, Rows}
use Rattle.command_text.specs.declared.reply.LastLine.TheVariants.{Attached, Done, Row}
use Rattle.mail_objects.specs.declared.object.Object.TheVariants.{Message}
use Rattle.mail_tree.specs.declared.places.FolderPlace.{FolderPlace}
use Rattle.mail_tree.specs.Places.{children, is_child, is_deep, is_plain, is_within, moves_deep, place_id}
use Rattle.mail_tree.specs.Tree.{Tree}
use Rattle.mail_tree.specs.Values.{bytes_of, finished, folder_props, is_set_protected, is_unset_protected, message_props, name_of, text, with_props}
use Rattle.mail_tree.specs.Changing.{Answer, Changed, ◌>>=◌, add_shown, contents, context_at, drop_shown, found, hierarchy, nothing, put_shown, refused_if, table_at, with_object, within_limits, known}
use Rattle.named_props.specs.Finding.{name_at}
use Rattle.named_props.specs.Holding.{names_of, written}
use Rattle.named_props.specs.declared.names.Names.{Names}
use Rattle.mail_tree.specs.Names.{NAMES, found_or_added, is_name, named_property, no_room, unless_nameless, with_another}
use Rattle.mail_objects.specs.Forms.{Ctx}
use Rattle.mail_tree.specs.Settling.{message_ids, mirrored, settled, with_context, touched}
use Rattle.mail_tree.specs.Ids.{LAST_INDEX, folder_kinds, greatest, is_spent, is_used, message_kinds, new_id, next_index}
use Rattle.mail_tree.specs.Folders.{Outcome, associated_in, changing, folder_in, folder_lines, has_associated, has_rows, listing, made_folder, making, making_folder, message_lines, moved_between, moved_folder, moving, place, removed_folder, renamed_folder, replied, siblings, unless_full, unless_named, unless_plain, unless_protected, with_folder, without_folder, replying, unless}
use Rattle.mail_tree.specs.Messages.{added_attachment, added_message, added_recipient, adding_attachment, adding_recipient, appended_data, appending, fetched_data, removed_attachment, spent_index, too_long, changed_message, copied_message, copy_of, copying, details, in_folder, is_overfull, making_message, message_in, moved_message, new_message, plain_message, remaking, removed_message, removed_recipient, set_value, spent_row, unset_value, value_in, value_of, given_message, set_embedded}
use Rattle.mail_tree.specs.Parts.{attachment_tags, data_tag, has_recipient, is_full, is_wide, lengthened, new_part, new_row, next_part, next_row, part_in, part_nid, part_with, recipient_props, recipient_tags, room_for, rows_of, with_attachment, with_bytes, with_part, with_recipient, without_attachment, without_recipient, part_holding}
use Rattle.mail_laws.specs.Stays.{Counted}
use Rattle.mail_tree.specs.Step.{outcome}
use Rattle.mail_laws.proofs.Keeping.{if_any, if_test, if_then, never_made}
use Rattle.mail_laws.proofs.NewIds.{new_id_is, next_is_free}
use Rattle.pst_base.specs.declared.subs.Sub.{Sub}

above_counter : (T : Tree) (kind : ℕ) (kinds : List ℕ) → get_or T.last kind 0 < next_index T kind kinds
unfolding next_index
above_counter T kind kinds = above (get_or T.last kind 0) (greatest (is_used T kinds) LAST_INDEX)
  where
    above : (a b : ℕ) → a < suc (max a b)
    above a b = omega arith

kind_is : (kind index : ℕ) → kind < 32 → nid_of kind index % 32 ≡ kind
kind_is kind index small = omega arith

index_is : (kind index : ℕ) → kind < 32 → nid_of kind index / 32 ≡ index
index_is kind index small = omega arith

module _ (T : Tree) where
  abbrev Right : Outcome → Type 0
  Right o = Counted T.last o.last o.reply.last

  -- whatever a step answers
  then_any : {A : Type 0} (a : Answer A) (f : A → Answer Outcome) → ((x : A) → IfOk (f x) Right) → IfOk (a >>= f) Right
  then_any a f next = if_then (λ x. Unit {0}) Right a f (if_any a) (λ x u. next x)

  then_changing : (a : Answer Changed) → IfOk (a >>= changing T (replied Done)) Right
  then_changing a = then_any a (changing T (replied Done)) (λ D. then_any (within_limits T _ D) _ (λ u. refl))

  then_replying : (a : Answer Changed) (reason : Option CommandRefusal) (last : LastLine) → Counted T.last T.last last → IfOk (a >>= replying T reason (replied last)) Right
  then_replying a reason last given = then_any a (replying T reason (replied last)) (λ D. then_any (within_limits T _ D) _ (λ u. then_any (unless reason) _ (λ v. given)))

  then_moving : (places : List FolderPlace) (a : Answer Changed) → IfOk (a >>= moving T places (replied Done)) Right
  then_moving places a = then_any a (moving T places (replied Done)) (λ D. then_any (within_limits T _ D) _ (λ u. refl))

  then_making : (places : List FolderPlace) (kind : ℕ) (kinds : List ℕ) (a : Answer Changed) → kind < 32 → is_spent (next_index T kind kinds) ≡ false → IfOk (a >>= making T places kind (next_index T kind kinds)) Right
  then_making places kind kinds a small left =
      let index = next_index T kind kinds in
      let id = new_id_is kind index (next_is_free T kind kinds left).1 in
      let is_kind : kind ≡ new_id kind index % 32 = sym (ap (λ x. x % 32) id ∙ kind_is kind index small) in
      let is_index : index ≡ index_of (new_id kind index) = sym (ap index_of id ∙ index_is kind index small) in
      then_any a (making T places kind index) (λ D. then_any (within_limits T _ D) _ (λ u. if_test Right (is_spent index) Ids _ (
        subst (λ k. get_or T.last k 0 < index_of (new_id kind index)) is_kind (subst (λ i. get_or T.last kind 0 < i) is_index (above_counter T kind kinds)),
        λ i. set T.last (is_kind i) (is_index i),
      )))

  makes_folder : (parent : ℕ) (name : List ℕ) → IfOk (made_folder T parent name) Right
  unfolding made_folder making_folder
  makes_folder parent name =
      then_any (folder_in T parent) _ (λ p. then_any (unless_plain p) _ (λ u. then_any (unless_named T (folded false name) (children parent T.places)) _ (λ v.
      then_any (refused_if (is_deep T.places parent) (Limit Depth)) _ (λ w. then_any (unless_full T (hierarchy parent)) _ (λ x. elim (cases_Bool (is_spent (next_index T 2 folder_kinds))) [
        | inl t ↦
            let f = new_id 2 (next_index T 2 folder_kinds) in let places = put_key place_id (place f parent) T.places in
            never_made T places 2 (next_index T 2 folder_kinds) Right (add_shown T (hierarchy parent) f (folder_props name) (with_folder f parent name nothing) >>= settled T places parent) t
        | inr t ↦
            let f = new_id 2 (next_index T 2 folder_kinds) in
            let places = put_key place_id (place f parent) T.places in
            (then_making places 2 folder_kinds (add_shown T (hierarchy parent) f (folder_props name) (with_folder f parent name nothing) >>= settled T places parent) (omega arith) t)
      ])))))

  renames : (f : ℕ) (name : List ℕ) → IfOk (renamed_folder T f name) Right
  unfolding renamed_folder
  renames f name =
      then_any (folder_in T f) _ (λ p. then_any (unless_plain p) _ (λ u. then_any (unless_protected T f) _ (λ v. then_any (unless_named T (folded false name) (siblings T p.parent.bits f)) _ (λ w.
      then_any (context_at T nothing f) _ (λ c. then_changing (mirrored T f (with_context f c (put (text 0x3001 name) c.props) nothing)))))))

  moves_folder : (f parent : ℕ) → IfOk (moved_folder T f parent) Right
  unfolding moved_folder
  moves_folder f parent =
      then_any (folder_in T f) _ (λ p. then_any (folder_in T parent) _ (λ q. then_any (unless_plain p) _ (λ u. then_any (unless_plain q) _ (λ v. then_any (unless_protected T f) _ (λ w.
      then_any (refused_if (is_within T.places f parent) Cycle) _ (λ x. elim (cases_Bool (p.parent.bits == parent)) [
        | inl t ↦ rw t refl
        | inr t ↦ rw t (then_any (context_at T nothing f) _ (λ c. then_any (unless_named T (folded false (name_of c.props)) (children parent T.places)) _ (λ y. then_any (refused_if (moves_deep T.places f parent) (Limit Depth)) _ (λ z.
            let places = put_key place_id (place f parent) T.places in
            then_moving places (moved_between T f p.parent.bits parent places)))))
      ]))))))

  removes_folder : (f : ℕ) → IfOk (removed_folder T f) Right
  unfolding removed_folder
  removes_folder f =
      then_any (folder_in T f) _ (λ p. then_any (unless_plain p) _ (λ u. then_any (unless_protected T f) _ (λ v. then_any (table_at T nothing (hierarchy f)) _ (λ a. then_any (table_at T nothing (contents f)) _ (λ b.
      then_any (associated_in T f) _ (λ c. then_any (refused_if (has_rows a || (has_rows b || has_associated c)) NotEmpty) _ (λ w.
      let places = drop_key place_id f T.places in
      then_moving places (drop_shown T (hierarchy p.parent.bits) f (without_folder T f nothing) >>= settled T places p.parent.bits))))))))

  lists_folder : (f : ℕ) → IfOk (listing T f) Right
  unfolding listing
  lists_folder f = then_any (folder_in T f) _ (λ p. elim (cases_Bool (is_plain p)) [
    | inr t ↦ rw t refl
    | inl t ↦ rw t (then_any (folder_lines T (filter (is_child f) T.places)) _ (λ folders. then_any (table_at T nothing (contents f)) _ (λ t. then_any (message_lines T (message_ids t.table)) _ (λ messages. refl))))
  ])

  makes : (folder : ℕ) (class : List ℕ) (time : ℕ) (values : List Val) → IfOk (new_message T folder class time values) Right
  unfolding new_message given_message making_message
  makes folder class time values =
      then_any _ _ (λ g. then_any (folder_in T folder) _ (λ p. then_any (unless_plain p) _ (λ u. then_any (context_at T nothing 0x21) _ (λ store. then_any (unless_full T (contents folder)) _ (λ v. elim (cases_Bool (is_spent (next_index T 4 message_kinds))) [
        | inl t ↦
            let m = new_id 4 (next_index T 4 message_kinds) in
            never_made T T.places 4 (next_index T 4 message_kinds) Right (added_message T (finished (plain_message m folder (message_props m class time store.props values))) nothing) t
        | inr t ↦
            let m = new_id 4 (next_index T 4 message_kinds) in
            (then_making T.places 4 message_kinds (added_message T (finished (plain_message m folder (message_props m class time store.props values))) nothing) (omega arith) t)
      ])))))

  copies : (m folder : ℕ) → IfOk (copied_message T m folder) Right
  unfolding copied_message copying
  copies m folder =
      then_any (message_in T m) _ (λ M. then_any (folder_in T folder) _ (λ p. then_any (unless_plain p) _ (λ u. then_any (refused_if (is_overfull M.recipients || is_overfull M.attachments) (Limit Rows)) _ (λ v.
      then_any (unless_full T (contents folder)) _ (λ w. elim (cases_Bool (is_spent (next_index T 4 message_kinds))) [
        | inl t ↦
            let n = new_id 4 (next_index T 4 message_kinds) in
            never_made T T.places 4 (next_index T 4 message_kinds) Right (touched T M.folder nothing >>= added_message T (copy_of n folder M)) t
        | inr t ↦
            let n = new_id 4 (next_index T 4 message_kinds) in
            (then_making T.places 4 message_kinds (touched T M.folder nothing >>= added_message T (copy_of n folder M)) (omega arith) t)
      ])))))

  remakes : (M new : Mes) (reason : Option CommandRefusal) (last : LastLine) → Counted T.last T.last last → IfOk (remaking T new reason last) Right
  unfolding remaking
  remakes M new reason last given =
      let N = finished new in
      then_replying (put_shown T (contents N.folder) N.nid N.props (with_object N.nid (Some (Message N)) nothing) >>= settled T T.places N.folder) reason last given

  changes : (M : Mes) (props : List Val) → IfOk (changed_message T M props) Right
  unfolding changed_message
  changes M props = remakes M (with_props props M) None Done refl

  adds_recipient : (m kind : ℕ) (address name : List ℕ) → IfOk (added_recipient T m kind address name) Right
  unfolding added_recipient adding_recipient
  adds_recipient m kind address name = then_any (message_in T m) _ (λ M. then_any (refused_if (is_full M.recipients) (Limit Rows)) _ (λ u. then_any (refused_if (is_wide recipient_tags M.recipients) (Limit Rows)) _ (λ v.
      let row = next_row (rows_of M.recipients) in
      remakes M (with_recipient (new_row row) (recipient_props kind address name) M) (spent_row row) (Row (new_row row)) refl)))

  removes_recipient : (m row : ℕ) → IfOk (removed_recipient T m row) Right
  unfolding removed_recipient
  removes_recipient m row = then_any (message_in T m) _ (λ M. then_any (refused_if (not (has_recipient row M)) Object) _ (λ u. remakes M (without_recipient row M) None Done refl))

  adds_attachment : (m : ℕ) (name : List ℕ) (held : Held) → IfOk (added_attachment T m name held) Right
  unfolding added_attachment adding_attachment
  adds_attachment m name held = then_any (message_in T m) _ (λ M. then_any (refused_if (is_full M.attachments) (Limit Rows)) _ (λ u. then_any (refused_if (is_wide attachment_tags M.attachments) (Limit Rows)) _ (λ v.
      let index = next_part M in
      remakes M (with_attachment (new_part (part_nid index) name held) (room_for index M)) (spent_index index) (Attached (part_nid index)) refl)))

  appends_data : (m n : ℕ) (more : List ℕ) → IfOk (appended_data T m n more) Right
  unfolding appended_data appending
  appends_data m n more = then_any (message_in T m) _ (λ M. then_any (found Object (part_in n M)) _ (λ part. then_any (found Property (bytes_of 0x3701 0x0102 part.props)) _ (λ old.
      let props = with_bytes (lengthened old more) part.props in
      remakes M (with_part (part_with props part) M) (too_long old more) Done refl)))

  sets_embedded : (m n : ℕ) (node : Sub) → IfOk (set_embedded T m n node) Right
  unfolding set_embedded
  sets_embedded m n node = then_any (message_in T m) _ (λ M. then_any (found Object (part_in n M)) _ (λ part.
      remakes M (with_part (part_holding node part) M) None Done refl))

  removes_attachment : (m n : ℕ) → IfOk (removed_attachment T m n) Right
  unfolding removed_attachment
  removes_attachment m n = then_any (message_in T m) _ (λ M. then_any (refused_if (not (is_some (part_in n M))) Object) _ (λ u. remakes M (without_attachment n M) None Done refl))

  fetches : (m n : ℕ) → IfOk (fetched_data T m n) Right
  unfolding fetched_data
  fetches m n = then_any (message_in T m) _ (λ M. then_any (found Object (part_in n M)) _ (λ part. then_any (found Property (value_of data_tag part.props)) _ (λ v. refl)))

  sets : (m : ℕ) (v : Val) → IfOk (set_value T m v) Right
  unfolding set_value
  sets m v = then_any (message_in T m) _ (λ M. then_any (refused_if (is_set_protected v.id M.props) Protected) _ (λ u. then_any (unless_nameless T v.id) _ (λ w. changes M (put v M.props))))

  unsets : (m : ℕ) (tag : Tag) → IfOk (unset_value T m tag) Right
  unfolding unset_value
  unsets m tag = then_any (message_in T m) _ (λ M. then_any (refused_if (is_unset_protected tag.id tag.kind M.props) Protected) _ (λ u.
      then_any (refused_if (not (is_some (bytes_of tag.id tag.kind M.props))) Property) _ (λ w. changes M (remove_id tag.id M.props))))

  gets : (m : ℕ) (tag : Tag) → IfOk (value_in T m tag) Right
  unfolding value_in
  gets m tag = then_any (message_in T m) _ (λ M. then_any (found Property (value_of tag M.props)) _ (λ v. refl))

  lists : (m : ℕ) → IfOk (details T m) Right
  unfolding details
  lists m = then_any (message_in T m) _ (λ M. refl)

  moves : (m folder : ℕ) → IfOk (moved_message T m folder) Right
  unfolding moved_message
  moves m folder = then_any (message_in T m) _ (λ M. then_any (folder_in T folder) _ (λ p. then_any (unless_plain p) _ (λ u. elim (cases_Bool (M.folder == folder)) [
    | inl t ↦ rw t refl
    | inr t ↦ rw t (then_any (drop_shown T (contents M.folder) m (with_object m (Some (Message (in_folder folder M))) nothing)) _ (λ D.
        then_changing (add_shown T (contents folder) m M.props D >>= settled T T.places M.folder >>= settled T T.places folder)))
  ])))

  removes : (m : ℕ) → IfOk (removed_message T m) Right
  unfolding removed_message
  removes m = then_any (message_in T m) _ (λ M. then_changing (drop_shown T (contents M.folder) m (with_object m None nothing) >>= settled T T.places M.folder))

  names_property : (guid : List ℕ) (number : ℕ) → IfOk (named_property T guid number) Right
  unfolding named_property found_or_added
  names_property guid number = then_any (refused_if (not (is_name guid number)) Line) _ (λ u. then_any (context_at T nothing NAMES) _ (λ c. then_any (known (names_of c.props)) _ (λ n. by_name c n (name_at n.guids n.entries guid number))))
    where
      by_name : (c : Ctx) (n : Names) (o : Option ℕ) → IfOk (found_or_added T c n guid number o) Right
      by_name c n (Some property) = refl
      by_name c n None = then_any (within_limits T _ (with_context NAMES c (written (with_another n guid number)) nothing)) _ (λ u. then_any (unless (no_room n guid number)) _ (λ v. refl))

  pub gives_new : (c : Command) → IfOk (outcome T c) (λ o. Counted T.last o.last o.reply.last)
  unfolding outcome
  gives_new (MakeFolder parent name) = makes_folder parent.bits name
  gives_new (RenameFolder folder name) = renames folder.bits name
  gives_new (MoveFolder folder parent) = moves_folder folder.bits parent.bits
  gives_new (RemoveFolder folder) = removes_folder folder.bits
  gives_new (ListFolder folder) = lists_folder folder.bits
  gives_new (NewMessage folder class time values) = makes folder.bits class time values
  gives_new (SetProperty message value) = sets message.bits value
  gives_new (UnsetProperty message tag) = unsets message.bits tag
  gives_new (GetProperty message tag) = gets message.bits tag
  gives_new (ListProperties message) = lists message.bits
  gives_new (MoveMessage message folder) = moves message.bits folder.bits
  gives_new (CopyMessage message folder) = copies message.bits folder.bits
  gives_new (RemoveMessage message) = removes message.bits
  gives_new (AddRecipient message kind address name) = adds_recipient message.bits kind address name
  gives_new (RemoveRecipient message row) = removes_recipient message.bits row
  gives_new (AddAttachment message name held) = adds_attachment message.bits name held
  gives_new (AppendData message attachment bytes) = appends_data message.bits attachment.bits bytes
  gives_new (SetEmbedded message attachment node) = sets_embedded message.bits attachment.bits node
  gives_new (RemoveAttachment message attachment) = removes_attachment message.bits attachment.bits
  gives_new (FetchData message attachment) = fetches message.bits attachment.bits
  gives_new (NameProperty guid number) = names_property guid number
  gives_new (MakeSearch parent name) = tt
  gives_new (SetCriteria folder flags scope restriction) = tt
  gives_new (GetCriteria folder) = tt
  gives_new Save = refl
  gives_new Quit = refl
