-- A command that writes no node leaves the tree.
use Rattle.std.proofs.Common.{◌≡◌, ◌∙◌, ℕ, ◌==◌, ◌||◌, not, filter, true, false, List, Option, None, Some, is_some, IfOk, Ok, Err, refl, sym, ap, inl, inr}
use Rattle.std.proofs.lemmas.Bool.{cases_Bool, eq-eqb}
use Rattle.std.proofs.lemmas.Option.{none-some}
use Rattle.std.specs.Cmp.{nat_cmp_total}
use Rattle.std.specs.Ordering.{nat_cmp}
use Rattle.std.specs.FinMap as map
use Rattle.mapi_values.specs.Characters.{folded}
use Rattle.mapi_values.specs.Keyed.{drop_key, put_key}
use Rattle.mapi_values.specs.Messages.{Mes}
use Rattle.mapi_values.specs.Properties.{put, remove_id}
use Rattle.mapi_values.specs.Values.{Val}
use Rattle.mapi_values.specs.declared.value.Tag.{Tag}
use Rattle.command_text.specs.declared.command.Command.{Command}
use Rattle.command_text.specs.declared.command.Held.{Held as Holding}
use Rattle.command_text.specs.declared.command.Command.TheVariants.{MakeFolder, RenameFolder, MoveFolder, RemoveFolder, ListFolder, NewMessage, SetProperty, UnsetProperty, GetProperty, ListProperties, MoveMessage, CopyMessage, RemoveMessage, AddRecipient, RemoveRecipient, AddAttachment, AppendData, RemoveAttachment, FetchData, NameProperty, MakeSearch, SetCriteria, GetCriteria, Save, Quit, SetEmbedded}
use Rattle.command_text.specs.declared.reply.CommandRefusal.{CommandRefusal}
use Rattle.command_text.specs.declared.reply.CommandRefusal.TheVariants.{Property, NotEmpty, Cycle, Protected, Limit, Line, Ids, Object}
use Rattle.command_text.specs.declared.reply.Limit.TheVariants.{Depth, Rows}
use Rattle.command_text.specs.declared.reply.LastLine.{LastLine}
use Rattle.command_text.specs.declared.reply.LastLine.TheVariants.{Attached, Done, Row}
use Rattle.mail_objects.specs.declared.object.Object.{Object as Obj}
use Rattle.mail_objects.specs.declared.object.Object.TheVariants.{Message}
use Rattle.mail_tree.specs.declared.places.FolderPlace.{FolderPlace}
use Rattle.mail_tree.specs.Places.{ROOT, children, is_child, is_deep, is_plain, is_within, moves_deep, place_id}
use Rattle.mail_tree.specs.Tree.{Tree}
use Rattle.mail_tree.specs.Values.{bytes_of, finished, folder_props, is_set_protected, is_unset_protected, message_props, name_of, with_props}
use Rattle.mail_tree.specs.Changing.{Answer, Changed, ◌>>=◌, add_shown, contents, context_at, drop_shown, found, hierarchy, nothing, put_shown, refused_if, table_at, with_object, within_limits, known}
use Rattle.mail_tree.specs.Settling.{counted, message_ids, mirrored, settled, table_as_is, touched, unread_among, with_context}
use Rattle.mail_tree.specs.Ids.{folder_kinds, is_spent, message_kinds, new_id, next_index}
use Rattle.mail_tree.specs.Folders.{Outcome, associated_in, changing, folder_in, folder_lines, has_associated, has_rows, listing, made_folder, making, making_folder, message_lines, moved_between, moved_folder, moving, place, removed_folder, renamed_folder, replied, replying, siblings, unless, unless_full, unless_named, unless_plain, unless_protected, with_folder, without_folder}
use Rattle.mail_tree.specs.Messages.{added_attachment, added_message, added_recipient, adding_attachment, adding_recipient, appended_data, appending, fetched_data, removed_attachment, spent_index, too_long, changed_message, copied_message, copy_of, copying, details, in_folder, is_overfull, making_message, message_in, moved_message, new_message, plain_message, remaking, removed_message, removed_recipient, set_value, spent_row, unset_value, value_in, value_of, given_message, set_embedded}
use Rattle.mail_tree.specs.Names.{NAMES, found_or_added, is_name, named_property, no_room, unless_nameless, with_another}
use Rattle.named_props.specs.Finding.{name_at}
use Rattle.named_props.specs.Holding.{names_of, written}
use Rattle.named_props.specs.declared.names.Names.{Names as Held}
use Rattle.mail_objects.specs.Forms.{Ctx}
use Rattle.mail_tree.specs.Parts.{attachment_tags, data_tag, has_recipient, is_full, is_wide, lengthened, new_part, new_row, next_part, next_row, part_in, part_nid, part_with, recipient_props, recipient_tags, room_for, rows_of, with_attachment, with_bytes, with_part, with_recipient, without_attachment, without_recipient, part_holding}
use Rattle.mail_tree.specs.Step.{outcome, with_changes, without_changed}
use Rattle.mail_tree.proofs.AfterTree.{tied}
use Rattle.mail_draft.proofs.FitLaws.{no-entries}
use Rattle.mail_store.specs.Planning.{StaysUnwritten}
use Rattle.mail_store.specs.Space.{WritesNodes}
use Rattle.pst_base.specs.declared.subs.Sub.{Sub}

-- a step, and what follows it
pub if_then : {A B : Type 0} (P : A → Type 0) (Q : B → Type 0) (a : Answer A) (f : A → Answer B) → IfOk a P → ((x : A) → P x → IfOk (f x) Q) → IfOk (a >>= f) Q
if_then P Q (Ok x) f first next = next x first
if_then P Q (Err e) f first next = tt

-- a step, whatever it answers
pub if_any : {A B : Type 0} (Q : B → Type 0) (a : Answer A) (f : A → Answer B) → ((x : A) → IfOk (f x) Q) → IfOk (a >>= f) Q
if_any Q (Ok x) f next = next x
if_any Q (Err e) f next = tt

pub if_so : {A : Type 0} (P Q : A → Type 0) (a : Answer A) → IfOk a P → ((x : A) → P x → Q x) → IfOk a Q
if_so P Q (Ok x) holds follows = follows x holds
if_so P Q (Err e) holds follows = tt

-- an object was put
pub some_put : (m : map.FinMap nat_cmp (Option Obj)) (q : ℕ) (o : Option Obj) → map.insert m q o ≡ map.empty → ⊥
some_put m q o none = none-some o (sym (ap (λ k. map.get k q) none ∙ map.get-empty nat_cmp q) ∙ here)
  where
    here : map.get (map.insert m q o) q ≡ Some o
    here = rw (map.get-insert nat_cmp_total m q o q, tied true q q (eq-eqb q q refl)) refl

module _ (T : Tree) where
  shows_row : (q id : ℕ) (props : List Val) (D : Changed) → IfOk (put_shown T q id props D) WritesNodes
  unfolding put_shown
  shows_row q id props D = if_any WritesNodes (table_at T D q) _ (λ t. some_put D.objects q _)

  counts : (places : List FolderPlace) (f : ℕ) (D : Changed) → IfOk (counted T places f D) WritesNodes
  unfolding counted
  counts places f D = if_any WritesNodes (context_at T D f) _ (λ c. if_any WritesNodes (table_at T D (contents f)) _ (λ t. if_any WritesNodes (unread_among T D (message_ids t.table)) _ (λ unread. some_put D.objects f _)))

  -- what is put as it is is written too
  same_writes : (q : ℕ) (D : Changed) → IfOk (table_as_is T q D) WritesNodes
  unfolding table_as_is
  same_writes q D = if_any WritesNodes (table_at T D q) _ (λ t. some_put D.objects q _)

  pub mirrors : (f : ℕ) (D : Changed) → WritesNodes D → IfOk (mirrored T f D) WritesNodes
  unfolding mirrored
  mirrors f D some = elim (cases_Bool (f == ROOT)) [
    | inl t ↦ rw t (same_writes (hierarchy ROOT) D)
    | inr t ↦ rw t (if_any WritesNodes (context_at T D f) _ (λ c. shows_row (hierarchy c.parent) f c.props D))
  ]

  pub settles : (places : List FolderPlace) (f : ℕ) (a : Answer Changed) → IfOk (a >>= settled T places f) WritesNodes
  unfolding settled
  settles places f a = if_any WritesNodes a _ (λ D. if_then WritesNodes WritesNodes (counted T places f D) (mirrored T f) (counts places f D) (λ E some. mirrors f E some))

  -- where no node is written the places and the counters stay
  abbrev pub Right : Outcome → Type 0
  Right o = o.changed.objects ≡ map.empty → (o.places ≡ T.places) × (o.last ≡ T.last)

  pub then_any : {A : Type 0} (a : Answer A) (f : A → Answer Outcome) → ((x : A) → IfOk (f x) Right) → IfOk (a >>= f) Right
  then_any a f next = if_any Right a f next

  pub then_changing : (a : Answer Changed) → IfOk (a >>= changing T (replied Done)) Right
  then_changing a = then_any a (changing T (replied Done)) (λ D. then_any (within_limits T _ D) _ (λ u none. (refl, refl)))

  pub then_replying : (a : Answer Changed) (reason : Option CommandRefusal) (last : LastLine) → IfOk (a >>= replying T reason (replied last)) Right
  then_replying a reason last = then_any a (replying T reason (replied last)) (λ D. then_any (within_limits T _ D) _ (λ u. then_any (unless reason) _ (λ v none. (refl, refl))))

  pub then_moving : (places : List FolderPlace) (a : Answer Changed) → IfOk a WritesNodes → IfOk (a >>= moving T places (replied Done)) Right
  then_moving places a some = if_then WritesNodes Right a (moving T places (replied Done)) some (λ D writes. then_any (within_limits T _ D) _ (λ u none. absurd (writes none)))

  pub then_making : (places : List FolderPlace) (kind index : ℕ) (a : Answer Changed) → IfOk a WritesNodes → IfOk (a >>= making T places kind index) Right
  then_making places kind index a some = if_then WritesNodes Right a (making T places kind index) some
      (λ D writes. then_any (within_limits T _ D) _ (λ u. then_any (refused_if (is_spent index) Ids) _ (λ v none. absurd (writes none))))

  makes_folder : (parent : ℕ) (name : List ℕ) → IfOk (made_folder T parent name) Right
  unfolding made_folder making_folder
  makes_folder parent name =
      then_any (folder_in T parent) _ (λ p. then_any (unless_plain p) _ (λ u. then_any (unless_named T (folded false name) (children parent T.places)) _ (λ v.
      then_any (refused_if (is_deep T.places parent) (Limit Depth)) _ (λ w. then_any (unless_full T (hierarchy parent)) _ (λ x.
      let index = next_index T 2 folder_kinds in
      let f = new_id 2 index in
      let places = put_key place_id (place f parent) T.places in
      let added = add_shown T (hierarchy parent) f (folder_props name) (with_folder f parent name nothing) in
      then_making places 2 index (added >>= settled T places parent) (settles places parent added))))))

  renames : (f : ℕ) (name : List ℕ) → IfOk (renamed_folder T f name) Right
  unfolding renamed_folder
  renames f name =
      then_any (folder_in T f) _ (λ p. then_any (unless_plain p) _ (λ u. then_any (unless_protected T f) _ (λ v. then_any (unless_named T (folded false name) (siblings T p.parent.bits f)) _ (λ w.
      then_any (context_at T nothing f) _ (λ c. then_changing _)))))

  pub moves_between : (f from to : ℕ) (places : List FolderPlace) → IfOk (moved_between T f from to places) WritesNodes
  unfolding moved_between
  moves_between f from to places = if_any WritesNodes (context_at T nothing f) _ (λ c. if_any WritesNodes (drop_shown T (hierarchy from) f _) _ (λ D.
      settles places to (add_shown T (hierarchy to) f c.props D >>= settled T places from)))

  moves_folder : (f parent : ℕ) → IfOk (moved_folder T f parent) Right
  unfolding moved_folder
  moves_folder f parent =
      then_any (folder_in T f) _ (λ p. then_any (folder_in T parent) _ (λ q. then_any (unless_plain p) _ (λ u. then_any (unless_plain q) _ (λ v. then_any (unless_protected T f) _ (λ w.
      then_any (refused_if (is_within T.places f parent) Cycle) _ (λ x. elim (cases_Bool (p.parent.bits == parent)) [
        | inl t ↦ rw t (λ none. (refl, refl))
        | inr t ↦ rw t (then_any (context_at T nothing f) _ (λ c. then_any (unless_named T (folded false (name_of c.props)) (children parent T.places)) _ (λ y. then_any (refused_if (moves_deep T.places f parent) (Limit Depth)) _ (λ z.
            let places = put_key place_id (place f parent) T.places in
            then_moving places (moved_between T f p.parent.bits parent places) (moves_between f p.parent.bits parent places)))))
      ]))))))

  removes_folder : (f : ℕ) → IfOk (removed_folder T f) Right
  unfolding removed_folder
  removes_folder f =
      then_any (folder_in T f) _ (λ p. then_any (unless_plain p) _ (λ u. then_any (unless_protected T f) _ (λ v. then_any (table_at T nothing (hierarchy f)) _ (λ a. then_any (table_at T nothing (contents f)) _ (λ b.
      then_any (associated_in T f) _ (λ c. then_any (refused_if (has_rows a || (has_rows b || has_associated c)) NotEmpty) _ (λ w.
      let places = drop_key place_id f T.places in
      let dropped = drop_shown T (hierarchy p.parent.bits) f (without_folder T f nothing) in
      then_moving places (dropped >>= settled T places p.parent.bits) (settles places p.parent.bits dropped))))))))

  pub lists_folder : (f : ℕ) → IfOk (listing T f) Right
  unfolding listing
  lists_folder f = then_any (folder_in T f) _ (λ p. elim (cases_Bool (is_plain p)) [
    | inr t ↦ rw t (λ none. (refl, refl))
    | inl t ↦ rw t (then_any (folder_lines T (filter (is_child f) T.places)) _ (λ folders. then_any (table_at T nothing (contents f)) _ (λ t. then_any (message_lines T (message_ids t.table)) _ (λ messages none. (refl, refl)))))
  ])

  adds : (m : Mes) (D : Changed) → IfOk (added_message T m D) WritesNodes
  adds m D = settles T.places m.folder _

  makes : (folder : ℕ) (class : List ℕ) (time : ℕ) (values : List Val) → IfOk (new_message T folder class time values) Right
  unfolding new_message given_message making_message
  makes folder class time values =
      then_any _ _ (λ g. then_any (folder_in T folder) _ (λ p. then_any (unless_plain p) _ (λ u. then_any (context_at T nothing 0x21) _ (λ store. then_any (unless_full T (contents folder)) _ (λ v.
      let index = next_index T 4 message_kinds in
      let m = finished (plain_message (new_id 4 index) folder (message_props (new_id 4 index) class time store.props values)) in
      then_making T.places 4 index (added_message T m nothing) (adds m nothing))))))

  copies : (m folder : ℕ) → IfOk (copied_message T m folder) Right
  unfolding copied_message copying
  copies m folder =
      then_any (message_in T m) _ (λ M. then_any (folder_in T folder) _ (λ p. then_any (unless_plain p) _ (λ u. then_any (refused_if (is_overfull M.recipients || is_overfull M.attachments) (Limit Rows)) _ (λ v.
      then_any (unless_full T (contents folder)) _ (λ w.
      let index = next_index T 4 message_kinds in
      let copy = copy_of (new_id 4 index) folder M in
      then_making T.places 4 index (touched T M.folder nothing >>= added_message T copy) (if_any WritesNodes (touched T M.folder nothing) _ (λ D. adds copy D)))))))

  remakes : (new : Mes) (reason : Option CommandRefusal) (last : LastLine) → IfOk (remaking T new reason last) Right
  unfolding remaking
  remakes new reason last = then_replying _ reason last

  changes : (M : Mes) (props : List Val) → IfOk (changed_message T M props) Right
  unfolding changed_message
  changes M props = remakes (with_props props M) None Done

  adds_recipient : (m kind : ℕ) (address name : List ℕ) → IfOk (added_recipient T m kind address name) Right
  unfolding added_recipient adding_recipient
  adds_recipient m kind address name = then_any (message_in T m) _ (λ M. then_any (refused_if (is_full M.recipients) (Limit Rows)) _ (λ u. then_any (refused_if (is_wide recipient_tags M.recipients) (Limit Rows)) _ (λ v.
      let row = next_row (rows_of M.recipients) in
      remakes (with_recipient (new_row row) (recipient_props kind address name) M) (spent_row row) (Row (new_row row)))))

  removes_recipient : (m row : ℕ) → IfOk (removed_recipient T m row) Right
  unfolding removed_recipient
  removes_recipient m row = then_any (message_in T m) _ (λ M. then_any (refused_if (not (has_recipient row M)) Object) _ (λ u. remakes (without_recipient row M) None Done))

  adds_attachment : (m : ℕ) (name : List ℕ) (held : Holding) → IfOk (added_attachment T m name held) Right
  unfolding added_attachment adding_attachment
  adds_attachment m name held = then_any (message_in T m) _ (λ M. then_any (refused_if (is_full M.attachments) (Limit Rows)) _ (λ u. then_any (refused_if (is_wide attachment_tags M.attachments) (Limit Rows)) _ (λ v.
      let index = next_part M in
      remakes (with_attachment (new_part (part_nid index) name held) (room_for index M)) (spent_index index) (Attached (part_nid index)))))

  appends_data : (m n : ℕ) (more : List ℕ) → IfOk (appended_data T m n more) Right
  unfolding appended_data appending
  appends_data m n more = then_any (message_in T m) _ (λ M. then_any (found Object (part_in n M)) _ (λ part. then_any (found Property (bytes_of 0x3701 0x0102 part.props)) _ (λ old.
      let props = with_bytes (lengthened old more) part.props in
      remakes (with_part (part_with props part) M) (too_long old more) Done)))

  sets_embedded : (m n : ℕ) (node : Sub) → IfOk (set_embedded T m n node) Right
  unfolding set_embedded
  sets_embedded m n node = then_any (message_in T m) _ (λ M. then_any (found Object (part_in n M)) _ (λ part. remakes (with_part (part_holding node part) M) None Done))

  removes_attachment : (m n : ℕ) → IfOk (removed_attachment T m n) Right
  unfolding removed_attachment
  removes_attachment m n = then_any (message_in T m) _ (λ M. then_any (refused_if (not (is_some (part_in n M))) Object) _ (λ u. remakes (without_attachment n M) None Done))

  fetches_data : (m n : ℕ) → IfOk (fetched_data T m n) Right
  unfolding fetched_data
  fetches_data m n = then_any (message_in T m) _ (λ M. then_any (found Object (part_in n M)) _ (λ part. then_any (found Property (value_of data_tag part.props)) _ (λ v none. (refl, refl))))

  finds_or_adds : (c : Ctx) (n : Held) (guid : List ℕ) (number : ℕ) (found_id : Option ℕ) → IfOk (found_or_added T c n guid number found_id) Right
  unfolding found_or_added
  finds_or_adds c n guid number (Some property) = λ none. (refl, refl)
  finds_or_adds c n guid number None = then_any (within_limits T _ (with_context NAMES c (written (with_another n guid number)) nothing)) _ (λ u.
      then_any (unless (no_room n guid number)) _ (λ v none. (refl, refl)))

  names_property : (guid : List ℕ) (number : ℕ) → IfOk (named_property T guid number) Right
  unfolding named_property
  names_property guid number = then_any (refused_if (not (is_name guid number)) Line) _ (λ u. then_any (context_at T nothing NAMES) _ (λ c. then_any (known (names_of c.props)) _ (λ n.
      finds_or_adds c n guid number (name_at n.guids n.entries guid number))))

  sets : (m : ℕ) (v : Val) → IfOk (set_value T m v) Right
  unfolding set_value
  sets m v = then_any (message_in T m) _ (λ M. then_any (refused_if (is_set_protected v.id M.props) Protected) _ (λ u. then_any (unless_nameless T v.id) _ (λ w. changes M (put v M.props))))

  unsets : (m : ℕ) (tag : Tag) → IfOk (unset_value T m tag) Right
  unfolding unset_value
  unsets m tag = then_any (message_in T m) _ (λ M. then_any (refused_if (is_unset_protected tag.id tag.kind M.props) Protected) _ (λ u.
      then_any (refused_if (not (is_some (bytes_of tag.id tag.kind M.props))) Property) _ (λ w. changes M (remove_id tag.id M.props))))

  gets : (m : ℕ) (tag : Tag) → IfOk (value_in T m tag) Right
  unfolding value_in
  gets m tag = then_any (message_in T m) _ (λ M. then_any (found Property (value_of tag M.props)) _ (λ v none. (refl, refl)))

  lists : (m : ℕ) → IfOk (details T m) Right
  unfolding details
  lists m = then_any (message_in T m) _ (λ M none. (refl, refl))

  moves : (m folder : ℕ) → IfOk (moved_message T m folder) Right
  unfolding moved_message
  moves m folder = then_any (message_in T m) _ (λ M. then_any (folder_in T folder) _ (λ p. then_any (unless_plain p) _ (λ u. elim (cases_Bool (M.folder == folder)) [
    | inl t ↦ rw t (λ none. (refl, refl))
    | inr t ↦ rw t (then_any (drop_shown T (contents M.folder) m (with_object m (Some (Message (in_folder folder M))) nothing)) _ (λ D. then_changing _))
  ])))

  removes : (m : ℕ) → IfOk (removed_message T m) Right
  unfolding removed_message
  removes m = then_any (message_in T m) _ (λ M. then_changing _)

  pub right : (c : Command) → IfOk (outcome T c) Right
  unfolding outcome
  right (MakeFolder parent name) = makes_folder parent.bits name
  right (RenameFolder folder name) = renames folder.bits name
  right (MoveFolder folder parent) = moves_folder folder.bits parent.bits
  right (RemoveFolder folder) = removes_folder folder.bits
  right (ListFolder folder) = lists_folder folder.bits
  right (NewMessage folder class time values) = makes folder.bits class time values
  right (SetProperty message value) = sets message.bits value
  right (UnsetProperty message tag) = unsets message.bits tag
  right (GetProperty message tag) = gets message.bits tag
  right (ListProperties message) = lists message.bits
  right (MoveMessage message folder) = moves message.bits folder.bits
  right (CopyMessage message folder) = copies message.bits folder.bits
  right (RemoveMessage message) = removes message.bits
  right (AddRecipient message kind address name) = adds_recipient message.bits kind address name
  right (RemoveRecipient message row) = removes_recipient message.bits row
  right (AddAttachment message name held) = adds_attachment message.bits name held
  right (AppendData message attachment bytes) = appends_data message.bits attachment.bits bytes
  right (SetEmbedded message attachment node) = sets_embedded message.bits attachment.bits node
  right (RemoveAttachment message attachment) = removes_attachment message.bits attachment.bits
  right (FetchData message attachment) = fetches_data message.bits attachment.bits
  right (NameProperty guid number) = names_property guid number
  right (MakeSearch parent name) = tt
  right (SetCriteria search flags scope restriction) = tt
  right (GetCriteria search) = tt
  right Save = λ none. (refl, refl)
  right Quit = λ none. (refl, refl)

  -- where the places and the counters stay too, the tree does
  pub quiet : (o : Outcome) → Right o → StaysUnwritten T o
  quiet o same none =
      let entries = no-entries o.changed none in
      let stay = same none in
      λ i. record {
        places = stay.0 i;
        objects = with_changes (entries i) T.objects;
        others = without_changed (entries i) T.others;
        last = stay.1 i;
      }
