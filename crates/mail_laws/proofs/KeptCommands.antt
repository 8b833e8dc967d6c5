-- What each command doesn't speak of is as it was after it.
use Rattle.command_text.specs.declared.reply.LastLine.{LastLine}
use Rattle.command_text.specs.declared.reply.Limit.TheVariants.{Rows}
use Rattle.command_text.specs.declared.reply.CommandRefusal.{CommandRefusal}
use Rattle.std.proofs.Common.{◌≡◌, ℕ, ◌%◌, ◌/◌, ◌<◌, ◌==◌, ◌&&◌, Bool, true, false, List, [], ◌∷◌, Option, None, Some, IfOk, is_some, arith, refl, sym, subst, ap, ◌∙◌, inl, inr, not, Ok, ◌||◌}
use Rattle.std.specs.List.{list_any}
use Rattle.std.proofs.lemmas.Bool.{cases_Bool, eq-eqb, eqb-false, false≢true, or_parts}
use Rattle.std.proofs.lemmas.Option.{none-some}
use Rattle.pst_base.specs.Ids.{index_of, nid_of}
use Rattle.node_port.specs.Nodes.{node_at}
use Rattle.mapi_values.specs.Characters.{folded}
use Rattle.mapi_values.specs.Keyed.{drop_key, put_key}
use Rattle.mapi_values.specs.Messages.{Mes}
use Rattle.mapi_values.specs.Properties.{put, remove_id}
use Rattle.mapi_values.specs.Values.{Val}
use Rattle.mapi_values.specs.declared.value.Tag.{Tag}
use Rattle.command_text.specs.declared.command.Command.{Command}
use Rattle.command_text.specs.declared.command.Held.{Held}
use Rattle.command_text.specs.declared.command.Command.TheVariants.{MakeFolder, RenameFolder, MoveFolder, RemoveFolder, ListFolder, NewMessage, SetProperty, UnsetProperty, GetProperty, ListProperties, MoveMessage, CopyMessage, RemoveMessage, AddRecipient, RemoveRecipient, AddAttachment, AppendData, RemoveAttachment, FetchData, Save, Quit, NameProperty, MakeSearch, SetCriteria, GetCriteria, SetEmbedded}
use Rattle.command_text.specs.declared.reply.LastLine.TheVariants.{Attached, Done, Row}
use Rattle.command_text.specs.declared.reply.Reply.{Reply}
use Rattle.mail_objects.specs.Forms.{Ctx}
use Rattle.mail_objects.specs.declared.object.Object.{Object}
use Rattle.mail_objects.specs.declared.object.Object.TheVariants.{Context, Table, Message}
use Rattle.mail_tree.specs.declared.places.FolderPlace.{FolderPlace}
use Rattle.mail_tree.specs.Places.{ROOT, children, find_place, is_deep, is_plain, is_within, moves_deep, place_id}
use Rattle.mail_tree.specs.Tree.{Tree, object_at}
use Rattle.mail_tree.specs.Values.{bytes_of, finished, folder_props, is_set_protected, is_unset_protected, message_props, name_of, text, with_props, is_withheld}
use Rattle.command_text.specs.declared.reply.CommandRefusal.TheVariants.{Ids, Limit, Object as NoObject, Property as NoProperty, Protected}
use Rattle.mail_tree.specs.Names.{NAMES, named_property, unless_nameless}
use Rattle.mail_laws.proofs.Touches.{touched_stays}
use Rattle.mail_laws.proofs.NameSteps.{PutsNames, puts_names_after}
use Rattle.mail_tree.specs.Changing.{Answer, Changed, ◌>>=◌, add_shown, associated, beside, contents, drop_shown, hierarchy, nothing, now_at, put_shown, table_at, with_object, within_limits}
use Rattle.mail_tree.specs.Columns.{contents_table, hierarchy_table}
use Rattle.mail_tree.specs.Settling.{mirrored, settled, with_context, touched}
use Rattle.mail_tree.specs.Ids.{folder_kinds, is_spent, is_taken, message_kinds, new_id, next_index}
use Rattle.mail_tree.specs.Folders.{Outcome, associated_in, changing, has_associated, has_rows, made_folder, making, making_folder, moved_between, moved_folder, moving, place, removed_folder, renamed_folder, replied, siblings, unchanged, unless_full, unless_named, unless_protected, without_folder, without_node, with_folder}
use Rattle.mail_tree.specs.Messages.{added_attachment, added_message, added_recipient, adding_attachment, adding_recipient, appended_data, appending, removed_attachment, spent_index, too_long, changed_message, copied_message, copy_of, copying, in_folder, is_overfull, making_message, message_in, moved_message, new_message, plain_message, remaking, removed_message, removed_recipient, set_value, spent_row, unset_value, given_message, set_embedded}
use Rattle.mail_tree.specs.Parts.{attachment_tags, has_recipient, is_full, is_wide, lengthened, new_part, new_row, next_part, next_row, part_in, part_nid, part_with, recipient_props, recipient_tags, room_for, rows_of, with_attachment, with_bytes, with_part, with_recipient, without_attachment, without_recipient, part_holding}
use Rattle.mail_laws.specs.ComesAndGoes.{takes}
use Rattle.mail_laws.specs.Stays.{StaysFolder, gives_name, adds_name}
use Rattle.mail_tree.specs.Step.{outcome}
use Rattle.mail_tree.specs.Whole.{IsWhole}
use Rattle.mail_tree.proofs.AfterTree.{now_nothing}
use Rattle.mail_tree.proofs.FineLaws.{cases_Option}
use Rattle.mail_laws.proofs.FolderSteps.{fine_protected}
use Rattle.mail_laws.proofs.Keeping.{from_fine, if_any, if_found, if_test, if_then, if_weaker, never_made, if_replying}
use Rattle.mail_laws.proofs.KeptObjects.{KeepsObjects, Scope, fits_context, fits_gone, fits_message, fits_new, is_usual, keeps_all, keeps_more, touched_here, touched_still, keeps_names}
use Rattle.mail_laws.proofs.KeptSteps.{add_good, context_good, drop_good, mirrored_good, put_good, stood, table_usual, then_good, good_same}
use Rattle.mail_tree.proofs.KeyedFinds.{find-put_other}
use Rattle.mail_laws.proofs.LawSteps.{before, reads_only}
use Rattle.mail_laws.proofs.MessageSteps.{Before, fine_message_in, finished_folder, finished_id, home_of, home_kind}
use Rattle.mail_tree.proofs.Nearly.{nearly, plain_id}
use Rattle.mail_laws.proofs.NewIds.{new_id_is, next_is_free}
use Rattle.mail_tree.proofs.Settles.{store_of}
use Rattle.pst_base.specs.declared.ids.Nid.{Nid}
use Rattle.pst_base.specs.declared.subs.Sub.{Sub}

-- neither an object nor another node stands there
abbrev Free : Tree → ℕ → Type 0
Free T q = (object_at T q ≡ None) × (node_at T.others q ≡ None)

none_there : {A : Type 0} (o : Option A) → is_some o ≡ false → o ≡ None
none_there None e = refl
none_there (Some x) e = cc

untaken : (T : Tree) (q r : ℕ) → q ≡ r → is_taken T r ≡ false → Free T q
untaken T q r same e =
    let p = or_parts (is_some (object_at T r)) (is_some (node_at T.others r)) e in
    (ap (object_at T) same ∙ none_there (object_at T r) p.0, ap (node_at T.others) same ∙ none_there (node_at T.others r) p.1)

-- what is taken, where no other node stands, is an object
taken_object : (T : Tree) (q : ℕ) → node_at T.others q ≡ None → is_taken T q ≡ true → object_at T q ≡ None → ⊥
taken_object T q free taken none = let e : is_taken T q ≡ false = rw (none, free) refl in false≢true (sym e ∙ taken)

next_to : (index kind : ℕ) → beside (nid_of 2 index) kind ≡ nid_of kind index
next_to index kind = omega arith

-- the ids of a new folder's nodes
abbrev NewFolder : Tree → ℕ → Type 0
NewFolder T f = (f % 32 ≡ 2) × Free T f × Free T (hierarchy f) × Free T (contents f) × Free T (associated f)

new_folder : (T : Tree) → is_spent (next_index T 2 folder_kinds) ≡ false → NewFolder T (new_id 2 (next_index T 2 folder_kinds))
new_folder T left =
    let index = next_index T 2 folder_kinds in
    let free = next_is_free T 2 folder_kinds left in
    let id = new_id_is 2 index free.1 in
    let taken : ℕ → Bool = λ kind. is_taken T (nid_of kind index) in
    let a = or_parts (taken 0x02) (list_any taken (0x0D ∷ 0x0E ∷ 0x0F ∷ [])) free.0 in
    let b = or_parts (taken 0x0D) (list_any taken (0x0E ∷ 0x0F ∷ [])) a.1 in
    let c = or_parts (taken 0x0E) (list_any taken (0x0F ∷ [])) b.1 in
    let d = or_parts (taken 0x0F) false c.1 in (
      ap (λ x. x % 32) id ∙ two index,
      untaken T (new_id 2 index) (nid_of 2 index) id a.0,
      untaken T (hierarchy (new_id 2 index)) (nid_of 13 index) (ap hierarchy id ∙ next_to index 13) b.0,
      untaken T (contents (new_id 2 index)) (nid_of 14 index) (ap contents id ∙ next_to index 14) c.0,
      untaken T (associated (new_id 2 index)) (nid_of 15 index) (ap associated id ∙ next_to index 15) d.0,
    )
  where
    two : (index : ℕ) → nid_of 2 index % 32 ≡ 2
    two index = omega arith

new_message_free : (T : Tree) → is_spent (next_index T 4 message_kinds) ≡ false → (new_id 4 (next_index T 4 message_kinds) % 32 ≡ 4) × Free T (new_id 4 (next_index T 4 message_kinds))
new_message_free T left =
    let index = next_index T 4 message_kinds in
    let free = next_is_free T 4 message_kinds left in
    let id = new_id_is 4 index free.1 in
    (ap (λ x. x % 32) id ∙ four index, untaken T (new_id 4 index) (nid_of 4 index) id (or_parts (is_taken T (nid_of 4 index)) false free.0).0)
  where
    four : (index : ℕ) → nid_of 4 index % 32 ≡ 4
    four index = omega arith

-- a folder's tables have its index
same_index : (f kind : ℕ) → kind < 32 → beside f kind / 32 ≡ f / 32
same_index f kind small = omega arith

module _ (T : Tree) (whole : IsWhole T) (scope : Scope) where
  w : Before T
  w = before T whole

  abbrev Kept : Changed → Type 0
  Kept D = KeepsObjects T scope D.objects

  abbrev After : Outcome → Type 0
  After o = KeepsObjects T scope o.changed.objects

  in_tree : (q : ℕ) (x : Object) → now_at T nothing q ≡ Some x → object_at T q ≡ Some x
  in_tree q x is = sym (ap (λ g. g q) (now_nothing T)) ∙ is

  -- a plain folder stands at an id of its kind
  place_usual : (f : ℕ) (p : FolderPlace) → find_place f T.places ≡ Some p → is_plain p ≡ true → is_usual (f % 32) ≡ true
  place_usual f p e plain = ap is_usual (plain_id (nearly (λ x. ⊥) T.places (now_at T nothing) w) f p e plain)

  then_settled : (places : List FolderPlace) (a : Answer Changed) (f : ℕ) (p : FolderPlace) → find_place f T.places ≡ Some p → is_plain p ≡ true → IfOk a Kept → IfOk (a >>= settled T places f) Kept
  then_settled places a f p e plain h = let c = whole.objects.contexts f p e in then_good T scope places a f (Context c.0) (place_usual f p e plain) c.1 h

  limited : {B : Type 0} (new : Option Nid) (Q : B → Type 0) (D : Changed) (f : Unit {0} → Answer B) → IfOk (f tt) Q → IfOk (within_limits T new D >>= f) Q
  limited new Q D f h = if_then (λ u. Unit {0}) Q (within_limits T new D) f (if_any (within_limits T new D)) (λ u v. h)

  then_changing : (a : Answer Changed) (reply : Reply) → IfOk a Kept → IfOk (a >>= changing T reply) After
  then_changing a reply h = if_then Kept After a (changing T reply) h (λ D k. limited _ After D _ k)

  then_moving : (places : List FolderPlace) (a : Answer Changed) (reply : Reply) → IfOk a Kept → IfOk (a >>= moving T places reply) After
  then_moving places a reply h = if_then Kept After a (moving T places reply) h (λ D k. limited _ After D _ k)

  then_making : (places : List FolderPlace) (a : Answer Changed) (kind index : ℕ) → IfOk a Kept → IfOk (a >>= making T places kind index) After
  then_making places a kind index h = if_then Kept After a (making T places kind index) h (λ D k. limited _ After D _ (if_test After (is_spent index) Ids _ k))

  none_yet : KeepsObjects T scope nothing.objects
  none_yet = keeps_all T scope

  -- a message that stood there changes or goes
  message_changes : (m : ℕ) (M : Mes) (o : Option Object) → object_at T m ≡ Some (Message M) → m % 32 ≡ 4 → (o ≡ None → scope.takes m ≡ true) → Kept (with_object m o nothing)
  message_changes m M o is four takes = keeps_more T scope nothing.objects m o none_yet (fits_message T scope nothing.objects m o (whole.objects.typed m) four (λ none. absurd (none-some (Message M) (sym none ∙ is))) takes (λ none. absurd (none-some (Message M) (sym none ∙ is))))

  removes : (m : ℕ) → scope.takes m ≡ true → IfOk (removed_message T m) After
  unfolding removed_message
  removes m takes = if_then _ After (message_in T m) _ (from_fine _ (message_in T m) (fine_message_in T m w)) (λ M h.
      let is = in_tree m (Message M) h.0 in
      let D = with_object m None nothing in let v = home_of T w m M h.0 in
      let a = drop_shown T (contents M.folder) m D in
      then_changing (a >>= settled T T.places M.folder) (replied Done) (then_settled T.places a M.folder v.1 v.2 v.3
      (drop_good T scope (contents M.folder) m D (table_usual M.folder 14 (omega arith) refl) (stood T D.objects m (Message M) is) (message_changes m M None is h.1 (λ e. takes)))))

  moves : (m folder : ℕ) → IfOk (moved_message T m folder) After
  unfolding moved_message
  moves m folder = if_then _ After (message_in T m) _ (from_fine _ (message_in T m) (fine_message_in T m w)) (λ M h. elim (cases_Option (find_place folder T.places)) [
    | inl e ↦ rw e tt
    | inr p ↦ rw p.1 (elim (cases_Bool (is_plain p.0)) [
      | inr plain ↦ rw plain tt
      | inl plain ↦ rw plain (elim (cases_Bool (M.folder == folder)) [
        | inl t ↦ rw t none_yet
        | inr t ↦
            let is = in_tree m (Message M) h.0 in
            let N = in_folder folder M in let D = with_object m (Some (Message N)) nothing in let v = home_of T w m M h.0 in
            rw t (if_then Kept After (drop_shown T (contents M.folder) m D) _
            (drop_good T scope (contents M.folder) m D (table_usual M.folder 14 (omega arith) refl) (stood T D.objects m (Message M) is) (message_changes m M (Some (Message N)) is h.1 (λ e. absurd (none-some (Message N) (sym e))))) (λ D' k.
            let a = add_shown T (contents folder) m M.props D' in
            then_changing (a >>= settled T T.places M.folder >>= settled T T.places folder) (replied Done)
            (then_settled T.places (a >>= settled T T.places M.folder) folder p.0 p.1 plain (then_settled T.places a M.folder v.1 v.2 v.3
            (add_good T scope (contents folder) m M.props D' (table_usual folder 14 (omega arith) refl) (stood T D'.objects m (Message M) is) k)))))
      ])
    ])
  ])

  adds : (a : Answer Changed) → IfOk a Kept → (M : Mes) (p : FolderPlace) (index : ℕ) → M.nid % 32 ≡ 4 → Free T M.nid → scope.brings M.nid ≡ true → find_place M.folder T.places ≡ Some p → is_plain p ≡ true → IfOk (a >>= added_message T M >>= making T T.places 4 index) After
  adds a k M p index four free brings found plain = then_making T.places (a >>= added_message T M) 4 index (if_then Kept Kept a (added_message T M) k (λ D0 k0.
      let D = with_object M.nid (Some (Message M)) D0 in
      then_settled T.places (add_shown T (contents M.folder) M.nid M.props D) M.folder p found plain
      (add_good T scope (contents M.folder) M.nid M.props D (table_usual M.folder 14 (omega arith) refl) (touched_here T D0.objects M.nid (Some (Message M)))
      (keeps_more T scope D0.objects M.nid (Some (Message M)) k0 (fits_message T scope D0.objects M.nid (Some (Message M)) (whole.objects.typed M.nid) four (λ none. (refl, free.1)) (λ e. absurd (none-some (Message M) (sym e))) (λ none. brings))))))

  -- the folder of a message, put as it is before other changes
  touches : (m : ℕ) (M : Mes) → now_at T nothing m ≡ Some (Message M) → IfOk (touched T M.folder nothing) Kept
  touches m M is = touched_stays T Kept (good_same T scope) M.folder nothing (home_kind T w m M is) none_yet

  copies : (m folder : ℕ) → scope.brings (new_id 4 (next_index T 4 message_kinds)) ≡ true → IfOk (copied_message T m folder) After
  unfolding copied_message copying
  copies m folder brings = if_then _ After (message_in T m) _ (from_fine _ (message_in T m) (fine_message_in T m w)) (λ M h. elim (cases_Option (find_place folder T.places)) [
    | inl e ↦ rw e tt
    | inr p ↦ rw p.1 (elim (cases_Bool (is_plain p.0)) [
      | inr plain ↦ rw plain tt
      | inl plain ↦ rw plain (elim (cases_Bool (is_overfull M.recipients || is_overfull M.attachments)) [
        | inl t ↦ rw t tt
        | inr t ↦ rw t (if_then (λ u. Unit {0}) After (unless_full T (contents folder)) _ (if_any (unless_full T (contents folder))) (λ u v. elim (cases_Bool (is_spent (next_index T 4 message_kinds))) [
          | inl t ↦ never_made T T.places 4 (next_index T 4 message_kinds) After (touched T M.folder nothing >>= added_message T (copy_of (new_id 4 (next_index T 4 message_kinds)) folder M)) t
          | inr t ↦ let id = new_message_free T t in (adds (touched T M.folder nothing) (touches m M h.0) (copy_of (new_id 4 (next_index T 4 message_kinds)) folder M) p.0 (next_index T 4 message_kinds) id.0 id.1 brings p.1 plain)
        ]))
      ])
    ])
  ])

  makes : (folder : ℕ) (class : List ℕ) (time : ℕ) (values : List Val) → scope.brings (new_id 4 (next_index T 4 message_kinds)) ≡ true → IfOk (new_message T folder class time values) After
  unfolding new_message given_message making_message
  makes folder class time values brings = if_test After (list_any is_withheld values) Protected (λ u. given_message T folder class time values) (elim (cases_Option (find_place folder T.places)) [
    | inl e ↦ rw e tt
    | inr p ↦ rw p.1 (elim (cases_Bool (is_plain p.0)) [
      | inr plain ↦ rw plain tt
      | inl plain ↦
          let store = store_of w in
          rw (plain, store.1) (if_then (λ u. Unit {0}) After (unless_full T (contents folder)) _ (if_any (unless_full T (contents folder))) (λ u v. elim (cases_Bool (is_spent (next_index T 4 message_kinds))) [
            | inl t ↦
                let index = next_index T 4 message_kinds in
                let N = plain_message (new_id 4 index) folder (message_props (new_id 4 index) class time store.0.props values) in
                never_made T T.places 4 index After (added_message T (finished N) nothing) t
            | inr t ↦
                let index = next_index T 4 message_kinds in
                let N = plain_message (new_id 4 index) folder (message_props (new_id 4 index) class time store.0.props values) in
                let id = new_message_free T t in
                (adds (Ok nothing) none_yet (finished N) p.0 index (ap (λ x. x % 32) (finished_id N) ∙ id.0) (subst (Free T) (sym (finished_id N)) id.1) (subst (λ x. scope.brings x ≡ true) (sym (finished_id N)) brings) (ap (λ x. find_place x T.places) (finished_folder N) ∙ p.1) plain)
          ]))
    ])
  ])

  remakes : (m : ℕ) (M new : Mes) (reason : Option CommandRefusal) (last : LastLine) → now_at T nothing m ≡ Some (Message M) → m % 32 ≡ 4 → new.nid ≡ M.nid → new.folder ≡ M.folder → IfOk (remaking T new reason last) After
  unfolding remaking
  remakes m M new reason last now four same there =
      let N = finished new in
      let D = with_object N.nid (Some (Message N)) nothing in let v = home_of T w m M now in
      let nid : N.nid ≡ m = finished_id new ∙ same ∙ v.0 in
      let is : object_at T N.nid ≡ Some (Message M) = ap (object_at T) nid ∙ in_tree m (Message M) now in
      let folder : N.folder ≡ M.folder = finished_folder new ∙ there in
      let a = put_shown T (contents N.folder) N.nid N.props D in
      if_replying T (a >>= settled T T.places N.folder) reason (replied last) After
      (then_changing (a >>= settled T T.places N.folder) (replied last) (then_settled T.places a N.folder v.1 (ap (λ x. find_place x T.places) folder ∙ v.2) v.3
      (put_good T scope (contents N.folder) N.nid N.props D (table_usual N.folder 14 (omega arith) refl) (stood T D.objects N.nid (Message M) is)
      (message_changes N.nid M (Some (Message N)) is (ap (λ x. x % 32) nid ∙ four) (λ e. absurd (none-some (Message N) (sym e)))))))

  changes : (m : ℕ) (M : Mes) (props : List Val) → now_at T nothing m ≡ Some (Message M) → m % 32 ≡ 4 → IfOk (changed_message T M props) After
  unfolding changed_message
  changes m M props now four = remakes m M (with_props props M) None Done now four refl refl

  adds_recipient : (m kind : ℕ) (address name : List ℕ) → IfOk (added_recipient T m kind address name) After
  unfolding added_recipient adding_recipient
  adds_recipient m kind address name = if_then _ After (message_in T m) _ (from_fine _ (message_in T m) (fine_message_in T m w)) (λ M h.
      let row = next_row (rows_of M.recipients) in
      if_test After (is_full M.recipients) (Limit Rows) _ (if_test After (is_wide recipient_tags M.recipients) (Limit Rows) _
      (remakes m M (with_recipient (new_row row) (recipient_props kind address name) M) (spent_row row) (Row (new_row row)) h.0 h.1 refl refl)))

  removes_recipient : (m row : ℕ) → IfOk (removed_recipient T m row) After
  unfolding removed_recipient
  removes_recipient m row = if_then _ After (message_in T m) _ (from_fine _ (message_in T m) (fine_message_in T m w)) (λ M h.
      if_test After (not (has_recipient row M)) NoObject _ (remakes m M (without_recipient row M) None Done h.0 h.1 refl refl))

  adds_attachment : (m : ℕ) (name : List ℕ) (held : Held) → IfOk (added_attachment T m name held) After
  unfolding added_attachment adding_attachment
  adds_attachment m name held = if_then _ After (message_in T m) _ (from_fine _ (message_in T m) (fine_message_in T m w)) (λ M h.
      let index = next_part M in
      let new = with_attachment (new_part (part_nid index) name held) (room_for index M) in
      if_test After (is_full M.attachments) (Limit Rows) _ (if_test After (is_wide attachment_tags M.attachments) (Limit Rows) _
      (remakes m M new (spent_index index) (Attached (part_nid index)) h.0 h.1 refl refl)))

  appends_data : (m n : ℕ) (more : List ℕ) → IfOk (appended_data T m n more) After
  unfolding appended_data appending
  appends_data m n more = if_then _ After (message_in T m) _ (from_fine _ (message_in T m) (fine_message_in T m w)) (λ M h.
      if_found After NoObject (part_in n M) _ (λ part is. if_found After NoProperty (bytes_of 0x3701 0x0102 part.props) _ (λ old is'.
      let props = with_bytes (lengthened old more) part.props in
      (remakes m M (with_part (part_with props part) M) (too_long old more) Done h.0 h.1 refl refl))))

  sets_embedded : (m n : ℕ) (node : Sub) → IfOk (set_embedded T m n node) After
  unfolding set_embedded
  sets_embedded m n node = if_then _ After (message_in T m) _ (from_fine _ (message_in T m) (fine_message_in T m w)) (λ M h.
      if_found After NoObject (part_in n M) _ (λ part is.
      (remakes m M (with_part (part_holding node part) M) None Done h.0 h.1 refl refl)))

  removes_attachment : (m n : ℕ) → IfOk (removed_attachment T m n) After
  unfolding removed_attachment
  removes_attachment m n = if_then _ After (message_in T m) _ (from_fine _ (message_in T m) (fine_message_in T m w)) (λ M h.
      if_test After (not (is_some (part_in n M))) NoObject _ (remakes m M (without_attachment n M) None Done h.0 h.1 refl refl))

  sets : (m : ℕ) (v : Val) → IfOk (set_value T m v) After
  unfolding set_value
  sets m v = if_then _ After (message_in T m) _ (from_fine _ (message_in T m) (fine_message_in T m w)) (λ M h. elim (cases_Bool (is_set_protected v.id M.props)) [
    | inl t ↦ rw t tt
    | inr t ↦ rw t (if_then (λ u. Unit {0}) After (unless_nameless T v.id) _ (if_any (unless_nameless T v.id)) (λ u x. changes m M (put v M.props) h.0 h.1))
  ])

  unsets : (m : ℕ) (tag : Tag) → IfOk (unset_value T m tag) After
  unfolding unset_value
  unsets m tag = if_then _ After (message_in T m) _ (from_fine _ (message_in T m) (fine_message_in T m w)) (λ M h. elim (cases_Bool (is_unset_protected tag.id tag.kind M.props)) [
    | inl t ↦ rw t tt
    | inr t ↦ rw t (elim (cases_Bool (is_some (bytes_of tag.id tag.kind M.props))) [ inr u ↦ rw u tt | inl u ↦ rw u (changes m M (remove_id tag.id M.props) h.0 h.1) ])
  ])

  -- a command that only looks
  looks : (o : Outcome) → o ≡ unchanged T o.reply → After o
  looks o same = subst (λ (x : Outcome). KeepsObjects T scope x.changed.objects) (sym same) none_yet

  -- `rename`: only the folder that is named gets a name
  renames : (f : ℕ) (name : List ℕ) → scope.names f ≡ true → IfOk (renamed_folder T f name) After
  unfolding renamed_folder
  renames f name is_named = elim (cases_Option (find_place f T.places)) [
    | inl e ↦ rw e tt
    | inr p ↦ rw p.1 (elim (cases_Bool (is_plain p.0)) [
      | inr plain ↦ rw plain tt
      | inl plain ↦
          let c = w.contexts f p.0 p.1 in
          let props = put (text 0x3001 name) c.0.props in
          let stays : StaysFolder (scope.names f) c.0 (record c.0 { props = props }) = record {
            kept = refl;
            values = λ id count no_name.
                let other : (id == 0x3001) ≡ false = ap (λ x. x && (id == 0x3001)) (sym is_named) ∙ no_name in
                find-put_other (λ v. v.id) id (text 0x3001 name) c.0.props (eqb-false id 0x3001 other);
          } in
          rw plain (
          if_then (λ u. Unit {0}) After (unless_protected T f) _ (if_any (unless_protected T f)) (λ u v.
          if_then (λ u. Unit {0}) After (unless_named T (folded false name) (siblings T p.0.parent.bits f)) _ (if_any (unless_named T (folded false name) (siblings T p.0.parent.bits f))) (λ u v.
          rw c.1 (then_changing (mirrored T f (with_context f c.0 props nothing)) (replied Done)
          (mirrored_good T scope f (with_context f c.0 props nothing) (touched_here T nothing.objects f (Some (Context (record c.0 { props = props }))))
          (context_good T scope f c.0 props nothing (place_usual f p.0 p.1 plain) c.1 stays none_yet))))))
    ])
  ]

  -- `name`
  names_property : (guid : List ℕ) (number : ℕ) → scope.adds_name ≡ true → IfOk (named_property T guid number) After
  names_property guid number adds = if_weaker (PutsNames T) After (named_property T guid number) (puts_names_after T guid number w) (λ o k. elim k.objects_are [
    | inl e ↦ subst (KeepsObjects T scope) (sym e) none_yet
    | inr e ↦ subst (KeepsObjects T scope) (sym e) (keeps_names T scope k.old k.new (in_tree NAMES (Context k.old) k.was) adds)
  ])

  -- an object comes where nothing stood
  new_good : (q : ℕ) (x : Object) (D : Changed) → Free T q → is_usual (q % 32) ≡ true → scope.brings q ≡ true → Kept D → Kept (with_object q (Some x) D)
  new_good q x D free usual brings k = keeps_more T scope D.objects q (Some x) k (fits_new T scope D.objects q x free.0 free.1 usual brings)

  -- `mkdir`
  makes_folder : (parent : ℕ) (name : List ℕ) → ((q : ℕ) → q / 32 ≡ new_id 2 (next_index T 2 folder_kinds) / 32 → scope.brings q ≡ true) → IfOk (made_folder T parent name) After
  unfolding made_folder making_folder
  makes_folder parent name brings = elim (cases_Option (find_place parent T.places)) [
    | inl e ↦ rw e tt
    | inr p ↦ rw p.1 (elim (cases_Bool (is_plain p.0)) [
      | inr plain ↦ rw plain tt
      | inl plain ↦ rw plain (if_then (λ u. Unit {0}) After (unless_named T (folded false name) (children parent T.places)) _ (if_any (unless_named T (folded false name) (children parent T.places))) (λ u u'.
          elim (cases_Bool (is_deep T.places parent)) [
            | inl t ↦ rw t tt
            | inr t ↦ rw t (if_then (λ v. Unit {0}) After (unless_full T (hierarchy parent)) _ (if_any (unless_full T (hierarchy parent))) (λ v v'. elim (cases_Bool (is_spent (next_index T 2 folder_kinds))) [
              | inl t ↦
                  let index = next_index T 2 folder_kinds in let f = new_id 2 index in let places = put_key place_id (place f parent) T.places in
                  never_made T places 2 index After (add_shown T (hierarchy parent) f (folder_props name) (with_folder f parent name nothing) >>= settled T places parent) t
              | inr t ↦
                  let index = next_index T 2 folder_kinds in
                  let f = new_id 2 index in
                  let places = put_key place_id (place f parent) T.places in
                  let new = new_folder T t in
                  let two = new.0 in
                  let c : Object = Context (record { parent = parent; props = folder_props name; kept = [] }) in
                  let D1 = with_object f (Some c) nothing in
                  let D2 = with_object (hierarchy f) (Some (Table hierarchy_table)) D1 in
                  let D3 = with_object (contents f) (Some (Table contents_table)) D2 in
                  let D4 = with_object (associated f) (Some (Table contents_table)) D3 in
                  let k1 = new_good f c nothing new.1 (ap is_usual two) (brings f refl) none_yet in
                  let k2 = new_good (hierarchy f) (Table hierarchy_table) D1 new.2 (table_usual f 13 (omega arith) refl) (brings (hierarchy f) (same_index f 13 (omega arith))) k1 in
                  let k3 = new_good (contents f) (Table contents_table) D2 new.3 (table_usual f 14 (omega arith) refl) (brings (contents f) (same_index f 14 (omega arith))) k2 in
                  let k4 = new_good (associated f) (Table contents_table) D3 new.4 (table_usual f 15 (omega arith) refl) (brings (associated f) (same_index f 15 (omega arith))) k3 in
                  let touched1 = touched_here T nothing.objects f (Some c) in
                  let touched2 = touched_still T D1.objects (hierarchy f) (Some (Table hierarchy_table)) f touched1 in
                  let touched3 = touched_still T D2.objects (contents f) (Some (Table contents_table)) f touched2 in
                  let touched4 = touched_still T D3.objects (associated f) (Some (Table contents_table)) f touched3 in
                  let a = add_shown T (hierarchy parent) f (folder_props name) D4 in
                  (then_making places (a >>= settled T places parent) 2 index (then_settled places a parent p.0 p.1 plain
                  (add_good T scope (hierarchy parent) f (folder_props name) D4 (table_usual parent 13 (omega arith) refl) touched4 k4)))
            ]))
          ]))
    ])
  ]

  -- `mvdir`
  moves_folder : (f parent : ℕ) → IfOk (moved_folder T f parent) After
  unfolding moved_folder moved_between
  moves_folder f parent = elim (cases_Option (find_place f T.places)) [
    | inl e ↦ rw e tt
    | inr p ↦ rw p.1 (elim (cases_Option (find_place parent T.places)) [
      | inl e ↦ rw e tt
      | inr q ↦ rw q.1 (elim (cases_Bool (is_plain p.0)) [
        | inr plain ↦ rw plain tt
        | inl plain_p ↦ rw plain_p (elim (cases_Bool (is_plain q.0)) [
          | inr plain ↦ rw plain tt
          | inl plain_q ↦ rw plain_q (if_then (λ u. f ≡ ROOT → ⊥) After (unless_protected T f) _ (from_fine (λ u. f ≡ ROOT → ⊥) (unless_protected T f) (fine_protected T f w)) (λ u no_root. elim (cases_Bool (is_within T.places f parent)) [
            | inl t ↦ rw t tt
            | inr t ↦ rw t (elim (cases_Bool (p.0.parent.bits == parent)) [
              | inl t ↦ rw t none_yet
              | inr t ↦
                  let c = w.contexts f p.0 p.1 in
                  let is = in_tree f (Context c.0) c.1 in
                  let from = p.0.parent.bits in let v = w.parents f p.0 p.1 no_root in
                  let places = put_key place_id (place f parent) T.places in
                  let new : Ctx = record c.0 { parent = parent } in
                  let D = with_object f (Some (Context new)) nothing in
                  let k = keeps_more T scope nothing.objects f (Some (Context new)) none_yet
                  (fits_context T scope nothing.objects f c.0 new none_yet c.1 (place_usual f p.0 p.1 plain_p) (record { kept = refl; values = λ id count no_name. refl })) in
                  let a = drop_shown T (hierarchy from) f D in
                  rw (t, c.1) (if_then (λ u. Unit {0}) After (unless_named T (folded false (name_of c.0.props)) (children parent T.places)) _ (if_any (unless_named T (folded false (name_of c.0.props)) (children parent T.places))) (λ u u'.
                  elim (cases_Bool (moves_deep T.places f parent)) [
                    | inl t ↦ rw t tt
                    | inr t ↦ rw t (then_moving places _ (replied Done)
                        (if_then Kept Kept a _ (drop_good T scope (hierarchy from) f D (table_usual from 13 (omega arith) refl) (stood T D.objects f (Context c.0) is) k) (λ D1 k1.
                        let a' = add_shown T (hierarchy parent) f c.0.props D1 in
                        then_settled places (a' >>= settled T places from) parent q.0 q.1 plain_q
                        (then_settled places a' from v.0 v.1 v.2
                        (add_good T scope (hierarchy parent) f c.0.props D1 (table_usual parent 13 (omega arith) refl) (stood T D1.objects f (Context c.0) is) k1)))))
                  ]))
            ])
          ]))
        ])
      ])
    ])
  ]

  -- an object that stood there goes
  gone_good : (q : ℕ) (D : Changed) → (object_at T q ≡ None → ⊥) → is_usual (q % 32) ≡ true → scope.takes q ≡ true → Kept D → Kept (with_object q None D)
  gone_good q D there usual takes k = keeps_more T scope D.objects q None k (fits_gone T scope D.objects q there usual takes)

  node_good : (q : ℕ) (taken : Bool) (D : Changed) → (taken ≡ true → object_at T q ≡ None → ⊥) → is_usual (q % 32) ≡ true → scope.takes q ≡ true → Kept D → Kept (without_node q taken D)
  node_good q false D there usual takes k = k
  node_good q true D there usual takes k = gone_good q D (there refl) usual takes k

  -- `rmdir`
  removes_folder : (f : ℕ) → ((q : ℕ) → q / 32 ≡ f / 32 → scope.takes q ≡ true) → IfOk (removed_folder T f) After
  unfolding removed_folder
  removes_folder f takes = elim (cases_Option (find_place f T.places)) [
    | inl e ↦ rw e tt
    | inr p ↦ rw p.1 (elim (cases_Bool (is_plain p.0)) [
      | inr plain ↦ rw plain tt
      | inl plain ↦ rw plain (
          if_then (λ u. f ≡ ROOT → ⊥) After (unless_protected T f) _ (from_fine (λ u. f ≡ ROOT → ⊥) (unless_protected T f) (fine_protected T f w)) (λ u no_root.
          if_then (λ x. Unit {0}) After (table_at T nothing (hierarchy f)) _ (if_any (table_at T nothing (hierarchy f))) (λ x x'.
          if_then (λ y. Unit {0}) After (table_at T nothing (contents f)) _ (if_any (table_at T nothing (contents f))) (λ y y'.
          if_then (λ z. Unit {0}) After (associated_in T f) _ (if_any (associated_in T f)) (λ z z'.
          elim (cases_Bool (has_rows x || (has_rows y || has_associated z))) [
            | inl some ↦ rw some tt
            | inr none ↦
                let from = p.0.parent.bits in let v = w.parents f p.0 p.1 no_root in
                let places = drop_key place_id f T.places in
                let c = whole.objects.contexts f p.0 p.1 in
                let tables = whole.objects.tables f p.0 p.1 plain in
                let D1 = with_object f None nothing in let D2 = with_object (hierarchy f) None D1 in let D3 = with_object (contents f) None D2 in
                let D = without_folder T f nothing in
                let k1 = gone_good f nothing (λ e. none-some (Context c.0) (sym e ∙ c.1)) (place_usual f p.0 p.1 plain) (takes f refl) none_yet in
                let k2 = gone_good (hierarchy f) D1 (λ e. false≢true (sym (ap is_some e) ∙ tables.0)) (table_usual f 13 (omega arith) refl) (takes (hierarchy f) (same_index f 13 (omega arith))) k1 in
                let k3 = gone_good (contents f) D2 (λ e. false≢true (sym (ap is_some e) ∙ tables.1)) (table_usual f 14 (omega arith) refl) (takes (contents f) (same_index f 14 (omega arith))) k2 in
                let k4 = node_good (associated f) (is_taken T (associated f)) D3 (taken_object T (associated f) (whole.no_stray f p.0 p.1 plain)) (table_usual f 15 (omega arith) refl) (takes (associated f) (same_index f 15 (omega arith))) k3 in
                let a = drop_shown T (hierarchy from) f D in
                rw none (then_moving places (a >>= settled T places from) (replied Done) (then_settled places a from v.0 v.1 v.2
                (drop_good T scope (hierarchy from) f D (table_usual from 13 (omega arith) refl) (stood T D.objects f (Context c.0) c.1) k4)))
          ])))))
    ])
  ]

-- what each command may bring
abbrev pub brings_of : Tree → Command → ℕ → Bool
brings_of T (MakeFolder parent name) q = index_of q == index_of (new_id 2 (next_index T 2 folder_kinds))
brings_of T (NewMessage folder class time values) q = q == new_id 4 (next_index T 4 message_kinds)
brings_of T (CopyMessage message folder) q = q == new_id 4 (next_index T 4 message_kinds)
brings_of T other q = false

-- what each command names, takes and brings
abbrev pub scope_of : Tree → Command → Scope
scope_of T c = record { names = gives_name c; takes = takes c; brings = brings_of T c; adds_name = adds_name c }

-- each command
pub kept_after : (T : Tree) → IsWhole T → (c : Command) → IfOk (outcome T c) (λ o. KeepsObjects T (scope_of T c) o.changed.objects)
unfolding outcome
kept_after T w (MakeFolder parent name) = makes_folder T w (scope_of T (MakeFolder parent name)) parent.bits name (λ q e. eq-eqb (index_of q) (index_of (new_id 2 (next_index T 2 folder_kinds))) e)
kept_after T w (RenameFolder folder name) = renames T w (scope_of T (RenameFolder folder name)) folder.bits name (eq-eqb folder.bits folder.bits refl)
kept_after T w (MoveFolder folder parent) = moves_folder T w (scope_of T (MoveFolder folder parent)) folder.bits parent.bits
kept_after T w (RemoveFolder folder) = removes_folder T w (scope_of T (RemoveFolder folder)) folder.bits (λ q e. eq-eqb (index_of q) (index_of folder.bits) e)
kept_after T w (NewMessage folder class time values) = makes T w (scope_of T (NewMessage folder class time values)) folder.bits class time values (eq-eqb (new_id 4 (next_index T 4 message_kinds)) (new_id 4 (next_index T 4 message_kinds)) refl)
kept_after T w (SetProperty message value) = sets T w (scope_of T (SetProperty message value)) message.bits value
kept_after T w (UnsetProperty message tag) = unsets T w (scope_of T (UnsetProperty message tag)) message.bits tag
kept_after T w (MoveMessage message folder) = moves T w (scope_of T (MoveMessage message folder)) message.bits folder.bits
kept_after T w (CopyMessage message folder) = copies T w (scope_of T (CopyMessage message folder)) message.bits folder.bits (eq-eqb (new_id 4 (next_index T 4 message_kinds)) (new_id 4 (next_index T 4 message_kinds)) refl)
kept_after T w (RemoveMessage message) = removes T w (scope_of T (RemoveMessage message)) message.bits (eq-eqb message.bits message.bits refl)
kept_after T w (ListFolder folder) = if_weaker _ _ (outcome T (ListFolder folder)) (reads_only T (ListFolder folder) refl) (looks T w (scope_of T (ListFolder folder)))
kept_after T w (GetProperty message tag) = if_weaker _ _ (outcome T (GetProperty message tag)) (reads_only T (GetProperty message tag) refl) (looks T w (scope_of T (GetProperty message tag)))
kept_after T w (ListProperties message) = if_weaker _ _ (outcome T (ListProperties message)) (reads_only T (ListProperties message) refl) (looks T w (scope_of T (ListProperties message)))
kept_after T w (AddRecipient message kind address name) = adds_recipient T w (scope_of T (AddRecipient message kind address name)) message.bits kind address name
kept_after T w (RemoveRecipient message row) = removes_recipient T w (scope_of T (RemoveRecipient message row)) message.bits row
kept_after T w (AddAttachment message name held) = adds_attachment T w (scope_of T (AddAttachment message name held)) message.bits name held
kept_after T w (AppendData message attachment bytes) = appends_data T w (scope_of T (AppendData message attachment bytes)) message.bits attachment.bits bytes
kept_after T w (SetEmbedded message attachment node) = sets_embedded T w (scope_of T (SetEmbedded message attachment node)) message.bits attachment.bits node
kept_after T w (RemoveAttachment message attachment) = removes_attachment T w (scope_of T (RemoveAttachment message attachment)) message.bits attachment.bits
kept_after T w (FetchData message attachment) = if_weaker _ _ (outcome T (FetchData message attachment)) (reads_only T (FetchData message attachment) refl) (looks T w (scope_of T (FetchData message attachment)))
kept_after T w (NameProperty guid number) = names_property T w (scope_of T (NameProperty guid number)) guid number refl
kept_after T w (MakeSearch parent name) = tt
kept_after T w (SetCriteria folder flags scope restriction) = tt
kept_after T w (GetCriteria folder) = tt
kept_after T w Save = keeps_all T (scope_of T Save)
kept_after T w Quit = keeps_all T (scope_of T Quit)
