-- After each command an opening finds the tree.
use Rattle.command_text.specs.declared.reply.LastLine.{LastLine}
use Rattle.command_text.specs.declared.reply.Limit.TheVariants.{Rows}
use Rattle.command_text.specs.declared.reply.CommandRefusal.{CommandRefusal}
use Rattle.std.proofs.Common.{◌≡◌, ℕ, ◌%◌, ◌==◌, Bool, true, false, List, [], Option, None, Some, IsSome, IfOk, is_some, arith, refl, sym, subst, ap, ◌∙◌, inl, inr, not, Ok, ◌||◌}
use Rattle.std.specs.FinMap as map
use Rattle.std.specs.Ordering.{nat_cmp}
use Rattle.std.proofs.lemmas.Bool.{cases_Bool, cases_eq, false≢true, or_parts}
use Rattle.std.proofs.lemmas.Option.{none-some, same_Some}
use Rattle.mapi_values.specs.Characters.{folded}
use Rattle.node_port.specs.Nodes.{node_at}
use Rattle.mapi_values.specs.Keyed.{drop_key, put_key}
use Rattle.mapi_values.specs.Messages.{Mes}
use Rattle.mapi_values.specs.Properties.{put, remove_id}
use Rattle.mapi_values.specs.Tables.{drop_row, find_row}
use Rattle.mapi_values.specs.Values.{Val}
use Rattle.mapi_values.specs.declared.value.Tag.{Tag}
use Rattle.command_text.specs.declared.command.Command.{Command}
use Rattle.command_text.specs.declared.command.Held.{Held}
use Rattle.command_text.specs.declared.command.Command.TheVariants.{MakeFolder, RenameFolder, MoveFolder, RemoveFolder, ListFolder, NewMessage, SetProperty, UnsetProperty, GetProperty, ListProperties, MoveMessage, CopyMessage, RemoveMessage, AddRecipient, RemoveRecipient, AddAttachment, AppendData, RemoveAttachment, FetchData, Save, Quit, NameProperty, MakeSearch, SetCriteria, GetCriteria, SetEmbedded}
use Rattle.command_text.specs.declared.reply.LastLine.TheVariants.{Attached, Done, Row}
use Rattle.command_text.specs.declared.reply.Reply.{Reply}
use Rattle.mail_objects.specs.Forms.{Ctx, Tbl}
use Rattle.mail_objects.specs.declared.object.Object.{Object}
use Rattle.mail_objects.specs.declared.object.Object.TheVariants.{Context, Message, Table, Bare}
use Rattle.std.specs.List.{list_any}
use Rattle.mail_tree.specs.declared.places.FolderPlace.{FolderPlace}
use Rattle.mail_tree.specs.Places.{ROOT, children, find_place, is_deep, is_plain, is_within, moves_deep, place_id}
use Rattle.mail_tree.specs.Tree.{Tree, object_at}
use Rattle.mail_tree.specs.Values.{bytes_of, finished, folder_props, is_set_protected, is_unset_protected, message_props, name_of, text, with_props, is_withheld}
use Rattle.command_text.specs.declared.reply.CommandRefusal.TheVariants.{Ids, Limit, Object as NoObject, Property as NoProperty, Protected}
use Rattle.mail_tree.specs.Names.{NAMES, named_property, unless_nameless}
use Rattle.mail_laws.proofs.NameSteps.{PutsNames, puts_names_after}
use Rattle.mail_tree.specs.Changing.{Answer, Changed, ◌>>=◌, add_shown, associated, contents, context_at, drop_shown, hierarchy, newest, nothing, now_at, put_shown, table_at, with_object, with_rows, within_limits}
use Rattle.mail_tree.specs.Columns.{contents_table, hierarchy_table}
use Rattle.mail_tree.specs.Settling.{mirrored, settled, with_context, touched}
use Rattle.mail_tree.specs.Ids.{folder_kinds, is_spent, is_taken, message_kinds, new_id, next_index}
use Rattle.mail_tree.specs.Folders.{Outcome, associated_in, changing, has_associated, has_rows, made_folder, making, making_folder, moved_between, moved_folder, moving, nid, place, removed_folder, renamed_folder, replied, siblings, unchanged, unless_full, unless_named, unless_protected, with_folder, without_folder, without_node}
use Rattle.mail_tree.specs.Messages.{added_attachment, added_message, added_recipient, adding_attachment, adding_recipient, appended_data, appending, removed_attachment, spent_index, too_long, changed_message, copied_message, copy_of, copying, in_folder, is_overfull, making_message, message_in, moved_message, new_message, plain_message, remaking, removed_message, removed_recipient, set_value, spent_row, unset_value, given_message, set_embedded}
use Rattle.mail_tree.specs.Parts.{attachment_tags, has_recipient, is_full, is_wide, lengthened, new_part, new_row, next_part, next_row, part_in, part_nid, part_with, recipient_props, recipient_tags, room_for, rows_of, with_attachment, with_bytes, with_part, with_recipient, without_attachment, without_recipient, part_holding}
use Rattle.mail_tree.specs.Step.{after, outcome}
use Rattle.mail_tree.specs.Whole.{IsWhole}
use Rattle.mail_tree.specs.Found.{BelongsAt, BelongsOr, IsFound, IsFoundBeside}
use Rattle.mail_tree.proofs.AfterTree.{now_nothing, puts_object}
use Rattle.mail_laws.proofs.Closing.{plain_still}
use Rattle.mail_laws.proofs.Depths.{AreReached, SameBut, made_reached, moved_reached, removed_reached}
use Rattle.mail_tree.proofs.FineLaws.{cases_Option}
use Rattle.mail_laws.proofs.FolderSteps.{fine_protected, no_rows, not_placed, with_new_folder}
use Rattle.mail_laws.proofs.FoundSteps.{Finds, PlainIds, StandRightly, finds_add, finds_add_message, finds_drop_message, finds_elsewhere, finds_mirrored, finds_put_message, finds_values, found_after, found_alone, found_beside, get_other, kind_apart, named_place, owned_put, some_belongs, then_finds, finds_same}
use Rattle.mail_laws.proofs.KeptCommands.{kept_after, scope_of}
use Rattle.mail_laws.proofs.KeptObjects.{KeepsObjects, is_usual}
use Rattle.mail_laws.proofs.Keeping.{both, from_fine, if_any, if_found, if_test, if_then, if_weaker, never_made, if_replying}
use Rattle.mail_tree.proofs.KeyedFinds.{find-drop_other, find-drop_same, find-put_other, find-put_same, kept-put}
use Rattle.mail_tree.proofs.KindsOfPuts.{beside_kind, same_folder, same_table}
use Rattle.mail_laws.proofs.LawSteps.{before, reads_only}
use Rattle.mail_laws.proofs.MessageSteps.{Before, fine_message_in, finished_folder, finished_id, home_kind, home_of, new_message_id}
use Rattle.mail_laws.proofs.Touches.{if_context, if_table, touched_stays}
use Rattle.mail_tree.proofs.Nearly.{Puts, nearly, plain_id}
use Rattle.mail_laws.proofs.NewIds.{new_folder_id}
use Rattle.mail_tree.proofs.Settles.{store_of}
use Rattle.pst_base.specs.declared.ids.Nid.{Nid}
use Rattle.pst_base.specs.declared.subs.Sub.{Sub}

-- the id is none of a folder's nodes
abbrev Elsewhere : ℕ → ℕ → Type 0
Elsewhere f x = (x ≡ f → ⊥) × (x ≡ hierarchy f → ⊥) × (x ≡ contents f → ⊥) × (x ≡ associated f → ⊥)

folder_elsewhere : (f g : ℕ) → g % 32 ≡ 2 → (g ≡ f → ⊥) → Elsewhere f g
folder_elsewhere f g two other = (other, kind_apart g f 13 (omega arith) (λ e. omega arith), kind_apart g f 14 (omega arith) (λ e. omega arith), kind_apart g f 15 (omega arith) (λ e. omega arith))

table_elsewhere : (f g : ℕ) → f % 32 ≡ 2 → g % 32 ≡ 2 → (g ≡ f → ⊥) → Elsewhere f (hierarchy g)
table_elsewhere f g two_f two_g other =
    let kind = beside_kind g 13 (omega arith) in (
      λ e. omega arith,
      λ e. other (same_folder g f 13 two_g two_f e),
      kind_apart (hierarchy g) f 14 (omega arith) (λ e. omega arith),
      kind_apart (hierarchy g) f 15 (omega arith) (λ e. omega arith),
    )

-- elsewhere nothing changed where a folder's nodes are put or go
three_puts : (f x : ℕ) (a b c : Option Object) → Elsewhere f x → map.get (with_object (contents f) c (with_object (hierarchy f) b (with_object f a nothing))).objects x ≡ None
three_puts f x a b c e =
    let D1 = with_object f a nothing in
    get_other (with_object (hierarchy f) b D1) (contents f) x c e.2 ∙ get_other D1 (hierarchy f) x b e.1 ∙ get_other nothing f x a e.0 ∙ map.get-empty nat_cmp x

four_puts : (f x : ℕ) (a b c d : Option Object) → Elsewhere f x → map.get (with_object (associated f) d (with_object (contents f) c (with_object (hierarchy f) b (with_object f a nothing)))).objects x ≡ None
four_puts f x a b c d e = get_other (with_object (contents f) c (with_object (hierarchy f) b (with_object f a nothing))) (associated f) x d e.3 ∙ three_puts f x a b c e

with_untouched : (f parent x : ℕ) (name : List ℕ) → Elsewhere f x → map.get (with_folder f parent name nothing).objects x ≡ None
with_untouched f parent x name e = four_puts f x _ _ _ _ e

node_untouched : (f x : ℕ) (D : Changed) (b : Bool) → Elsewhere f x → map.get D.objects x ≡ None → map.get (without_node (associated f) b D).objects x ≡ None
node_untouched f x D false e none = none
node_untouched f x D true e none = get_other D (associated f) x None e.3 ∙ none

without_untouched : (T : Tree) (f x : ℕ) → Elsewhere f x → map.get (without_folder T f nothing).objects x ≡ None
without_untouched T f x e = node_untouched f x _ (is_taken T (associated f)) e (three_puts f x None None None e)

-- where nothing changed stands what stood there
now_still : (T : Tree) (D : Changed) (x : ℕ) → map.get D.objects x ≡ None → now_at T D x ≡ now_at T nothing x
now_still T D x none = ap (λ r. newest r (object_at T x)) (none ∙ sym (map.get-empty nat_cmp x))

module _ (aside : ℕ → Type 0) (T : Tree) (w : Before T) (h : IsFoundBeside aside T) where
  abbrev After : Outcome → Type 0
  After o = Finds aside T o.places o.changed × AreReached o.places

  two_of : (f : ℕ) (p : FolderPlace) → find_place f T.places ≡ Some p → is_plain p ≡ true → f % 32 ≡ 2
  two_of f p e plain = plain_id (nearly (λ x. ⊥) T.places (now_at T nothing) w) f p e plain

  ids : PlainIds T.places
  ids f p e plain = (
    two_of f p e plain,
    elim (cases_eq f ROOT) [
      | inl root ↦
          let same = same_Some w.root.0 p (sym w.root.1 ∙ ap (λ x. find_place x T.places) (sym root) ∙ e) in
          ap (λ (x : FolderPlace). x.parent.bits % 32) (sym same) ∙ ap (λ x. x % 32) w.root.3
      | inr other ↦ let q = w.parents f p e other in two_of p.parent.bits q.0 q.1 q.2
    ],
  )

  -- before the command
  start : Finds aside T T.places nothing
  start = record {
    listed = λ f p t r e plain is row s named. h.listed f p t r s e plain (sym (ap (λ g. g (hierarchy f)) (now_nothing T)) ∙ is) row named;
    told = λ f p c e plain no_root is. let d = w.contexts f p e in let same : d.0 ≡ c = cc in ap (λ (x : Ctx). x.parent) (sym same) ∙ d.2 no_root;
    owned = λ q o e. h.owned q o (sym (ap (λ g. g q) (now_nothing T)) ∙ e);
  }

  limited : {B : Type 0} (new : Option Nid) (Q : B → Type 0) (D : Changed) (f : Unit {0} → Answer B) → IfOk (f tt) Q → IfOk (within_limits T new D >>= f) Q
  limited new Q D f k = if_then (λ u. Unit {0}) Q (within_limits T new D) f (if_any (within_limits T new D)) (λ u v. k)

  then_changing : (a : Answer Changed) (reply : Reply) → IfOk a (Finds aside T T.places) → IfOk (a >>= changing T reply) After
  then_changing a reply k = if_then (Finds aside T T.places) After a (changing T reply) k (λ D s. limited _ After D _ (s, h.reached))

  then_moving : (places : List FolderPlace) → AreReached places → (a : Answer Changed) (reply : Reply) → IfOk a (Finds aside T places) → IfOk (a >>= moving T places reply) After
  then_moving places reached a reply k = if_then (Finds aside T places) After a (moving T places reply) k (λ D s. limited _ After D _ (s, reached))

  then_making : (places : List FolderPlace) → AreReached places → (a : Answer Changed) (kind index : ℕ) → IfOk a (Finds aside T places) → IfOk (a >>= making T places kind index) After
  then_making places reached a kind index k = if_then (Finds aside T places) After a (making T places kind index) k (λ D s. limited _ After D _ (if_test After (is_spent index) Ids _ (s, reached)))

  -- a message is put, or goes
  message_changes : (D D' : Changed) (m : ℕ) (o : Option Object) → m % 32 ≡ 4 → Finds aside T T.places D → Puts (now_at T D) (now_at T D') m o → ((x : Object) → o ≡ Some x → BelongsOr aside T.places m x) → Finds aside T T.places D'
  message_changes D D' m o four s puts fits = finds_elsewhere aside T T.places ids D D' m o s puts (λ e. omega arith) (λ e. omega arith) fits

  -- `rm`
  removes : (m : ℕ) → IfOk (removed_message T m) After
  unfolding removed_message
  removes m = if_then _ After (message_in T m) _ (from_fine _ (message_in T m) (fine_message_in T m w)) (λ M k.
      let D = with_object m None nothing in let v = home_of T w m M k.0 in
      let a = drop_shown T (contents M.folder) m D in
      then_changing (a >>= settled T T.places M.folder) (replied Done) (then_finds aside T T.places ids a M.folder v.1 v.2 v.3
      (finds_drop_message aside T T.places ids D M.folder m (message_changes nothing D m None k.1 start (puts_object T nothing m None) (λ x e. absurd (none-some x e))))))

  -- `mv`
  moves : (m folder : ℕ) → IfOk (moved_message T m folder) After
  unfolding moved_message
  moves m folder = if_then _ After (message_in T m) _ (from_fine _ (message_in T m) (fine_message_in T m w)) (λ M k. elim (cases_Option (find_place folder T.places)) [
    | inl e ↦ rw e tt
    | inr p ↦ rw p.1 (elim (cases_Bool (is_plain p.0)) [
      | inr plain ↦ rw plain tt
      | inl plain ↦ rw plain (elim (cases_Bool (M.folder == folder)) [
        | inl b ↦ rw b (start, h.reached)
        | inr b ↦
            let o = Some (Message (in_folder folder M)) in let D = with_object m o nothing in let v = home_of T w m M k.0 in
            let s = message_changes nothing D m o k.1 start (puts_object T nothing m o) (some_belongs aside T.places m (Message (in_folder folder M)) (inr tt)) in
            rw b (if_then (Finds aside T T.places) After (drop_shown T (contents M.folder) m D) _ (finds_drop_message aside T T.places ids D M.folder m s) (λ D' s'.
            let a = add_shown T (contents folder) m M.props D' in
            then_changing (a >>= settled T T.places M.folder >>= settled T T.places folder) (replied Done)
            (then_finds aside T T.places ids (a >>= settled T T.places M.folder) folder p.0 p.1 plain (then_finds aside T T.places ids a M.folder v.1 v.2 v.3
            (finds_add_message aside T T.places ids D' folder m M.props s')))))
      ])
    ])
  ])

  -- a new message is listed
  adds : (a : Answer Changed) → IfOk a (Finds aside T T.places) → (M : Mes) (p : FolderPlace) (index : ℕ) → M.nid % 32 ≡ 4 → find_place M.folder T.places ≡ Some p → is_plain p ≡ true → IfOk (a >>= added_message T M >>= making T T.places 4 index) After
  adds a k M p index four found plain = then_making T.places h.reached (a >>= added_message T M) 4 index (if_then (Finds aside T T.places) (Finds aside T T.places) a (added_message T M) k (λ D0 s0.
      let o = Some (Message M) in
      let D = with_object M.nid o D0 in
      then_finds aside T T.places ids (add_shown T (contents M.folder) M.nid M.props D) M.folder p found plain
      (finds_add_message aside T T.places ids D M.folder M.nid M.props (message_changes D0 D M.nid o four s0 (puts_object T D0 M.nid o) (some_belongs aside T.places M.nid (Message M) (inr tt))))))

  -- the folder of a message, put as it is before other changes
  touches : (m : ℕ) (M : Mes) → now_at T nothing m ≡ Some (Message M) → IfOk (touched T M.folder nothing) (Finds aside T T.places)
  touches m M is = touched_stays T (Finds aside T T.places) (finds_same aside T T.places ids) M.folder nothing (home_kind T w m M is) (record { listed = start.listed; told = start.told; owned = start.owned })

  -- `cp`
  copies : (m folder : ℕ) → IfOk (copied_message T m folder) After
  unfolding copied_message copying
  copies m folder = if_then _ After (message_in T m) _ (from_fine _ (message_in T m) (fine_message_in T m w)) (λ M k. elim (cases_Option (find_place folder T.places)) [
    | inl e ↦ rw e tt
    | inr p ↦ rw p.1 (elim (cases_Bool (is_plain p.0)) [
      | inr plain ↦ rw plain tt
      | inl plain ↦ rw plain (elim (cases_Bool (is_overfull M.recipients || is_overfull M.attachments)) [
        | inl b ↦ rw b tt
        | inr b ↦ rw b (if_then (λ u. Unit {0}) After (unless_full T (contents folder)) _ (if_any (unless_full T (contents folder))) (λ u v. elim (cases_Bool (is_spent (next_index T 4 message_kinds))) [
          | inl t ↦ never_made T T.places 4 (next_index T 4 message_kinds) After (touched T M.folder nothing >>= added_message T (copy_of (new_id 4 (next_index T 4 message_kinds)) folder M)) t
          | inr t ↦ (adds (touched T M.folder nothing) (touches m M k.0) (copy_of (new_id 4 (next_index T 4 message_kinds)) folder M) p.0 (next_index T 4 message_kinds) (new_message_id T t).0 p.1 plain)
        ]))
      ])
    ])
  ])

  -- `new`
  makes : (folder : ℕ) (class : List ℕ) (time : ℕ) (values : List Val) → IfOk (new_message T folder class time values) After
  unfolding new_message given_message making_message
  makes folder class time values = if_test After (list_any is_withheld values) Protected (λ u. given_message T folder class time values) (elim (cases_Option (find_place folder T.places)) [
    | inl e ↦ rw e tt
    | inr p ↦ rw p.1 (elim (cases_Bool (is_plain p.0)) [
      | inr plain ↦ rw plain tt
      | inl plain ↦
          let store = store_of w in
          rw (plain, store.1) (if_then (λ u. Unit {0}) After (unless_full T (contents folder)) _ (if_any (unless_full T (contents folder))) (λ u v. elim (cases_Bool (is_spent (next_index T 4 message_kinds))) [
            | inl t ↦
                let index = next_index T 4 message_kinds in
                let N = plain_message (new_id 4 index) folder (message_props (new_id 4 index) class time store.0.props values) in
                never_made T T.places 4 index After (added_message T (finished N) nothing) t
            | inr t ↦
                let index = next_index T 4 message_kinds in
                let N = plain_message (new_id 4 index) folder (message_props (new_id 4 index) class time store.0.props values) in
                (adds (Ok nothing) start (finished N) p.0 index (ap (λ x. x % 32) (finished_id N) ∙ (new_message_id T t).0) (ap (λ x. find_place x T.places) (finished_folder N) ∙ p.1) plain)
          ]))
    ])
  ])

  -- a message becomes another
  remakes : (m : ℕ) (M new : Mes) (reason : Option CommandRefusal) (last : LastLine) → now_at T nothing m ≡ Some (Message M) → m % 32 ≡ 4 → new.nid ≡ M.nid → new.folder ≡ M.folder → IfOk (remaking T new reason last) After
  unfolding remaking
  remakes m M new reason last is four same there =
      let N = finished new in
      let D0 = nothing in
      let D = with_object N.nid (Some (Message N)) D0 in let v = home_of T w m M is in
      let four' : N.nid % 32 ≡ 4 = ap (λ x. x % 32) (finished_id new ∙ same ∙ v.0) ∙ four in
      let folder : N.folder ≡ M.folder = finished_folder new ∙ there in
      let s0 : Finds aside T T.places D0 = record { listed = start.listed; told = start.told; owned = start.owned } in
      let s = message_changes D0 D N.nid (Some (Message N)) four' s0 (puts_object T D0 N.nid (Some (Message N))) (some_belongs aside T.places N.nid (Message N) (inr tt)) in
      let a = put_shown T (contents N.folder) N.nid N.props D in
      if_replying T (a >>= settled T T.places N.folder) reason (replied last) After
      (then_changing (a >>= settled T T.places N.folder) (replied last) (then_finds aside T T.places ids a N.folder v.1 (ap (λ x. find_place x T.places) folder ∙ v.2) v.3
      (finds_put_message aside T T.places ids D N.folder N.nid N.props s)))

  -- a message gets other values
  changes : (m : ℕ) (M : Mes) (props : List Val) → now_at T nothing m ≡ Some (Message M) → m % 32 ≡ 4 → IfOk (changed_message T M props) After
  unfolding changed_message
  changes m M props is four = remakes m M (with_props props M) None Done is four refl refl

  adds_recipient : (m kind : ℕ) (address name : List ℕ) → IfOk (added_recipient T m kind address name) After
  unfolding added_recipient adding_recipient
  adds_recipient m kind address name = if_then _ After (message_in T m) _ (from_fine _ (message_in T m) (fine_message_in T m w)) (λ M h.
      let row = next_row (rows_of M.recipients) in
      if_test After (is_full M.recipients) (Limit Rows) _ (if_test After (is_wide recipient_tags M.recipients) (Limit Rows) _
      (remakes m M (with_recipient (new_row row) (recipient_props kind address name) M) (spent_row row) (Row (new_row row)) h.0 h.1 refl refl)))

  removes_recipient : (m row : ℕ) → IfOk (removed_recipient T m row) After
  unfolding removed_recipient
  removes_recipient m row = if_then _ After (message_in T m) _ (from_fine _ (message_in T m) (fine_message_in T m w)) (λ M h.
      if_test After (not (has_recipient row M)) NoObject _ (remakes m M (without_recipient row M) None Done h.0 h.1 refl refl))

  adds_attachment : (m : ℕ) (name : List ℕ) (held : Held) → IfOk (added_attachment T m name held) After
  unfolding added_attachment adding_attachment
  adds_attachment m name held = if_then _ After (message_in T m) _ (from_fine _ (message_in T m) (fine_message_in T m w)) (λ M h.
      let index = next_part M in
      let new = with_attachment (new_part (part_nid index) name held) (room_for index M) in
      if_test After (is_full M.attachments) (Limit Rows) _ (if_test After (is_wide attachment_tags M.attachments) (Limit Rows) _
      (remakes m M new (spent_index index) (Attached (part_nid index)) h.0 h.1 refl refl)))

  appends_data : (m n : ℕ) (more : List ℕ) → IfOk (appended_data T m n more) After
  unfolding appended_data appending
  appends_data m n more = if_then _ After (message_in T m) _ (from_fine _ (message_in T m) (fine_message_in T m w)) (λ M h.
      if_found After NoObject (part_in n M) _ (λ part is. if_found After NoProperty (bytes_of 0x3701 0x0102 part.props) _ (λ old is'.
      let props = with_bytes (lengthened old more) part.props in
      (remakes m M (with_part (part_with props part) M) (too_long old more) Done h.0 h.1 refl refl))))

  sets_embedded : (m n : ℕ) (node : Sub) → IfOk (set_embedded T m n node) After
  unfolding set_embedded
  sets_embedded m n node = if_then _ After (message_in T m) _ (from_fine _ (message_in T m) (fine_message_in T m w)) (λ M h.
      if_found After NoObject (part_in n M) _ (λ part is.
      (remakes m M (with_part (part_holding node part) M) None Done h.0 h.1 refl refl)))

  removes_attachment : (m n : ℕ) → IfOk (removed_attachment T m n) After
  unfolding removed_attachment
  removes_attachment m n = if_then _ After (message_in T m) _ (from_fine _ (message_in T m) (fine_message_in T m w)) (λ M h.
      if_test After (not (is_some (part_in n M))) NoObject _ (remakes m M (without_attachment n M) None Done h.0 h.1 refl refl))

  -- `set`
  sets : (m : ℕ) (v : Val) → IfOk (set_value T m v) After
  unfolding set_value
  sets m v = if_then _ After (message_in T m) _ (from_fine _ (message_in T m) (fine_message_in T m w)) (λ M k. elim (cases_Bool (is_set_protected v.id M.props)) [
    | inl t ↦ rw t tt
    | inr t ↦ rw t (if_then (λ u. Unit {0}) After (unless_nameless T v.id) _ (if_any (unless_nameless T v.id)) (λ u x. changes m M (put v M.props) k.0 k.1))
  ])

  -- `unset`
  unsets : (m : ℕ) (tag : Tag) → IfOk (unset_value T m tag) After
  unfolding unset_value
  unsets m tag = if_then _ After (message_in T m) _ (from_fine _ (message_in T m) (fine_message_in T m w)) (λ M k. elim (cases_Bool (is_unset_protected tag.id tag.kind M.props)) [
    | inl t ↦ rw t tt
    | inr t ↦ rw t (elim (cases_Bool (is_some (bytes_of tag.id tag.kind M.props))) [ inr u ↦ rw u tt | inl u ↦ rw u (changes m M (remove_id tag.id M.props) k.0 k.1) ])
  ])

  -- `rename`
  renames : (f : ℕ) (name : List ℕ) → IfOk (renamed_folder T f name) After
  unfolding renamed_folder
  renames f name = elim (cases_Option (find_place f T.places)) [
    | inl e ↦ rw e tt
    | inr p ↦ rw p.1 (elim (cases_Bool (is_plain p.0)) [
      | inr plain ↦ rw plain tt
      | inl plain ↦ rw plain (
          if_then (λ u. Unit {0}) After (unless_protected T f) _ (if_any (unless_protected T f)) (λ u v.
          if_then (λ u. Unit {0}) After (unless_named T (folded false name) (siblings T p.0.parent.bits f)) _ (if_any (unless_named T (folded false name) (siblings T p.0.parent.bits f))) (λ u v.
          if_then (λ c. now_at T nothing f ≡ Some (Context c)) After (context_at T nothing f) _ (if_context T nothing f) (λ c is.
          let D = with_context f c (put (text 0x3001 name) c.props) nothing in
          then_changing (mirrored T f D) (replied Done) (finds_mirrored aside T T.places ids D f p.0 p.1 plain (finds_values aside T T.places ids nothing f c (put (text 0x3001 name) c.props) (two_of f p.0 p.1 plain) start is))))))
    ])
  ]

  -- a place is put
  put_is : (f parent g : ℕ) (p : FolderPlace) → g ≡ f → find_place g (put_key place_id (place f parent) T.places) ≡ Some p → place f parent ≡ p
  put_is f parent g p same e = same_Some (place f parent) p (sym (find-put_same place_id (place f parent) T.places) ∙ ap (λ x. find_place x (put_key place_id (place f parent) T.places)) (sym same) ∙ e)

  put_was : (f parent g : ℕ) (p : FolderPlace) → (g ≡ f → ⊥) → find_place g (put_key place_id (place f parent) T.places) ≡ Some p → find_place g T.places ≡ Some p
  put_was f parent g p other e = sym (find-put_other place_id g (place f parent) T.places other) ∙ e

  put_ids : (f parent : ℕ) → f % 32 ≡ 2 → parent % 32 ≡ 2 → PlainIds (put_key place_id (place f parent) T.places)
  put_ids f parent two two_parent g p e plain = elim (cases_eq g f) [
    | inl same ↦
        let one = put_is f parent g p same e in
        (ap (λ x. x % 32) same ∙ two, ap (λ (x : FolderPlace). x.parent.bits % 32) (sym one) ∙ two_parent)
    | inr other ↦ ids g p (put_was f parent g p other e) plain
  ]

  -- what belongs where it stands does so still when a folder gets a place
  belongs_more : (f parent k : ℕ) (o : Object) → BelongsAt T.places k o → BelongsAt (put_key place_id (place f parent) T.places) k o
  belongs_more f parent k (Context c) (inl e) = inl e
  belongs_more f parent k (Context c) (inr (inl e)) = inr (inl e)
  belongs_more f parent k (Context c) (inr (inr is)) = inr (inr (kept-put place_id k (place f parent) T.places is))
  belongs_more f parent k (Table t) x = (x.0, plain_still T.places f parent x.0 x.1.0 x.1.1 x.1.2, x.2)
  belongs_more f parent k (Message m) x = tt
  belongs_more f parent k (Bare above) x = absurd x

  owned_more : (f parent : ℕ) → StandRightly aside (put_key place_id (place f parent) T.places) (now_at T nothing)
  owned_more f parent q o e = elim (start.owned q o e) [ inl b ↦ inl b | inr b ↦ inr (belongs_more f parent q o b) ]

  -- the nodes of a new folder belong to it
  owned_new : (f parent : ℕ) (name : List ℕ) → StandRightly aside (put_key place_id (place f parent) T.places) (now_at T (with_folder f parent name nothing))
  owned_new f parent name =
      let Q = put_key place_id (place f parent) T.places in
      let is = find-put_same place_id (place f parent) T.places in
      let c : Object = Context (record { parent = parent; props = folder_props name; kept = [] }) in
      let D1 = with_object f (Some c) nothing in
      let D2 = with_object (hierarchy f) (Some (Table hierarchy_table)) D1 in
      let D3 = with_object (contents f) (Some (Table contents_table)) D2 in
      let D4 = with_object (associated f) (Some (Table contents_table)) D3 in
      let own1 = owned_put aside Q (now_at T nothing) (now_at T D1) f (Some c) (puts_object T nothing f (Some c)) (some_belongs aside Q f c (inr (inr (inr (subst IsSome (sym is) refl))))) (owned_more f parent) in
      let own2 = owned_put aside Q (now_at T D1) (now_at T D2) (hierarchy f) (Some (Table hierarchy_table)) (puts_object T D1 (hierarchy f) (Some (Table hierarchy_table))) (some_belongs aside Q (hierarchy f) (Table hierarchy_table) (inr (f, (place f parent, is, refl), inl refl))) own1 in
      let own3 = owned_put aside Q (now_at T D2) (now_at T D3) (contents f) (Some (Table contents_table)) (puts_object T D2 (contents f) (Some (Table contents_table))) (some_belongs aside Q (contents f) (Table contents_table) (inr (f, (place f parent, is, refl), inr (inl refl)))) own2 in
      owned_put aside Q (now_at T D3) (now_at T D4) (associated f) (Some (Table contents_table)) (puts_object T D3 (associated f) (Some (Table contents_table))) (some_belongs aside Q (associated f) (Table contents_table) (inr (f, (place f parent, is, refl), inr (inr refl)))) own3

  -- where nodes of a folder went, none of them stands
  left_of : (D : Changed) (q x : ℕ) (o : Object) → now_at T (with_object q None D) x ≡ Some o → (x ≡ q → ⊥) × (now_at T D x ≡ Some o)
  left_of D q x o e =
      let puts = puts_object T D q None in
      elim (cases_eq x q) [
        | inl same ↦ absurd (none-some o (sym (ap (now_at T (with_object q None D)) same ∙ puts.here) ∙ e))
        | inr other ↦ (other, sym (puts.others x other) ∙ e)
      ]

  three_left : (f x : ℕ) (o : Object) → now_at T (with_object (contents f) None (with_object (hierarchy f) None (with_object f None nothing))) x ≡ Some o
      → ((x ≡ f → ⊥) × (x ≡ hierarchy f → ⊥) × (x ≡ contents f → ⊥)) × (now_at T nothing x ≡ Some o)
  three_left f x o e =
      let D1 = with_object f None nothing in
      let a = left_of (with_object (hierarchy f) None D1) (contents f) x o e in let b = left_of D1 (hierarchy f) x o a.1 in let c = left_of nothing f x o b.1 in
      ((c.0, b.0, a.0), c.1)

  folder_left : (f x : ℕ) (o : Object) (b : Bool) → is_taken T (associated f) ≡ b
      → now_at T (without_node (associated f) b (with_object (contents f) None (with_object (hierarchy f) None (with_object f None nothing)))) x ≡ Some o → Elsewhere f x × (now_at T nothing x ≡ Some o)
  folder_left f x o true taken e =
      let a = left_of (with_object (contents f) None (with_object (hierarchy f) None (with_object f None nothing))) (associated f) x o e in let r = three_left f x o a.1 in
      ((r.0.0, r.0.1, r.0.2, a.0), r.1)
  folder_left f x o false taken e =
      let r = three_left f x o e in
      let free : is_some (object_at T (associated f)) ≡ false = (or_parts (is_some (object_at T (associated f))) (is_some (node_at T.others (associated f))) taken).0 in
      ((r.0.0, r.0.1, r.0.2, λ same. false≢true (sym free ∙ ap (λ g. is_some (g (associated f))) (sym (now_nothing T)) ∙ ap (λ y. is_some (now_at T nothing y)) (sym same) ∙ ap is_some r.1)), r.1)

  belongs_less : (f q : ℕ) (o : Object) → Elsewhere f q → BelongsAt T.places q o → BelongsAt (drop_key place_id f T.places) q o
  belongs_less f q (Context c) away (inl e) = inl e
  belongs_less f q (Context c) away (inr (inl e)) = inr (inl e)
  belongs_less f q (Context c) away (inr (inr is)) = inr (inr (subst IsSome (sym (find-drop_other place_id q f T.places away.0)) is))
  belongs_less f q (Table t) away x =
      let other : x.0 ≡ f → ⊥ = λ same. elim x.2 [
        | inl e ↦ away.1 (e ∙ ap hierarchy same)
        | inr r ↦ elim r [ inl e ↦ away.2 (e ∙ ap contents same) | inr e ↦ away.3 (e ∙ ap associated same) ]
      ] in
      (x.0, (x.1.0, find-drop_other place_id x.0 f T.places other ∙ x.1.1, x.1.2), x.2)
  belongs_less f q (Message m) away x = tt
  belongs_less f q (Bare above) away x = absurd x

  owned_less : (f : ℕ) → StandRightly aside (drop_key place_id f T.places) (now_at T (without_folder T f nothing))
  owned_less f q o e = let x = folder_left f q o (is_taken T (associated f)) refl e in elim (start.owned q o x.1) [ inl b ↦ inl b | inr b ↦ inr (belongs_less f q o x.0 b) ]

  same_context : (a b : Ctx) → ◌≡◌ {A = Option Object} (Some (Context a)) (Some (Context b)) → a ≡ b
  same_context a b e = cc

  -- the nodes of a new folder
  new_finds : (f parent : ℕ) (name : List ℕ) → f % 32 ≡ 2 → find_place f T.places ≡ None → Finds aside T (put_key place_id (place f parent) T.places) (with_folder f parent name nothing)
  new_finds f parent name two none =
      let D = with_folder f parent name nothing in
      let new = with_new_folder T f parent name w two none in record {
        listed = λ g p t r e plain is row s named. elim (cases_eq g f) [
          | inl same ↦
              let empty : hierarchy_table ≡ t = same_table hierarchy_table t (sym (ap (λ x. now_at T D (hierarchy x)) same ∙ new.2) ∙ is) in
              absurd (no_rows hierarchy_table.table.rows r refl (subst (λ (x : Tbl). IsSome (find_row r x.table.rows)) (sym empty) row))
          | inr other ↦
              let was = put_was f parent g p other e in
              let v = start.listed g p t r was plain (sym (now_still T D (hierarchy g) (with_untouched f parent (hierarchy g) name (table_elsewhere f g two (two_of g p was plain) other))) ∙ is) row s named in
              (v.0, find-put_other place_id r (place f parent) T.places (λ same. none-some (record { nid = nid r; parent = nid g; sort = s }) (sym none ∙ ap (λ x. find_place x T.places) (sym same) ∙ v.1)) ∙ v.1)
        ];
        told = λ g p c e plain no_root is. elim (cases_eq g f) [
          | inl same ↦
              let values : new.1.0 ≡ c = same_context new.1.0 c (sym (ap (now_at T D) same ∙ new.1.1) ∙ is) in
              ap (λ (x : Ctx). x.parent) (sym values) ∙ new.1.2 ∙ ap (λ (x : FolderPlace). x.parent.bits) (put_is f parent g p same e)
          | inr other ↦
              let was = put_was f parent g p other e in
              start.told g p c was plain no_root (sym (now_still T D g (with_untouched f parent g name (folder_elsewhere f g (two_of g p was plain) other))) ∙ is)
        ];
        owned = owned_new f parent name;
      }

  -- `mkdir`
  makes_folder : (parent : ℕ) (name : List ℕ) → IfOk (made_folder T parent name) After
  unfolding made_folder making_folder
  makes_folder parent name = elim (cases_Option (find_place parent T.places)) [
    | inl e ↦ rw e tt
    | inr p ↦ rw p.1 (elim (cases_Bool (is_plain p.0)) [
      | inr plain ↦ rw plain tt
      | inl plain ↦ rw plain (if_then (λ u. Unit {0}) After (unless_named T (folded false name) (children parent T.places)) _ (if_any (unless_named T (folded false name) (children parent T.places))) (λ u u'.
          elim (cases_Bool (is_deep T.places parent)) [
            | inl b ↦ rw b tt
            | inr b ↦ rw b (if_then (λ v. Unit {0}) After (unless_full T (hierarchy parent)) _ (if_any (unless_full T (hierarchy parent))) (λ v v'. elim (cases_Bool (is_spent (next_index T 2 folder_kinds))) [
              | inl t ↦
                  let index = next_index T 2 folder_kinds in let f = new_id 2 index in let places = put_key place_id (place f parent) T.places in
                  never_made T places 2 index After (add_shown T (hierarchy parent) f (folder_props name) (with_folder f parent name nothing) >>= settled T places parent) t
              | inr t ↦
                  let index = next_index T 2 folder_kinds in
                  let f = new_id 2 index in
                  let places = put_key place_id (place f parent) T.places in
                  let new = new_folder_id T t in
                  let none = not_placed T f w new.1 in
                  let no_root : f ≡ ROOT → ⊥ = λ e. none-some w.root.0 (sym none ∙ ap (λ x. find_place x T.places) e ∙ w.root.1) in
                  let two_parent = two_of parent p.0 p.1 plain in
                  let places_ids = put_ids f parent new.0 two_parent in
                  let still = plain_still T.places f parent parent p.0 p.1 plain in
                  let D = with_folder f parent name nothing in
                  let a = add_shown T (hierarchy parent) f (folder_props name) D in
                  (then_making places (made_reached T.places f parent p.0 h.reached none no_root p.1 b) (a >>= settled T places parent) 2 index
                  (then_finds aside T places places_ids a parent still.0 still.1 still.2
                  (finds_add aside T places places_ids D parent f (folder_props name) two_parent (new_finds f parent name new.0 none)
                  (named_place T places f parent (place f parent) (find-put_same place_id (place f parent) T.places) refl refl new.0 no_root))))
            ]))
          ]))
    ])
  ]

  -- the row of a folder goes from its parent's table, the only one that lists it
  dropped : (places : List FolderPlace) (places_ids : PlainIds places) (f : ℕ) (p : FolderPlace) (D : Changed) → find_place f T.places ≡ Some p → SameBut f T.places places
      → ((g : ℕ) (q : FolderPlace) → find_place g places ≡ Some q → is_plain q ≡ true → ((r : FolderPlace) × (find_place g T.places ≡ Some r) × (is_plain r ≡ true)) × (now_at T D (hierarchy g) ≡ now_at T nothing (hierarchy g)))
      → ((g : ℕ) (q : FolderPlace) (c : Ctx) → find_place g places ≡ Some q → is_plain q ≡ true → (g ≡ ROOT → ⊥) → now_at T D g ≡ Some (Context c) → c.parent ≡ q.parent.bits)
      → StandRightly aside places (now_at T D) → IfOk (drop_shown T (hierarchy p.parent.bits) f D) (Finds aside T places)
  unfolding drop_shown
  dropped places places_ids f p D found same_but was told owned =
      let from = p.parent.bits in
      if_then (λ t. now_at T D (hierarchy from) ≡ Some (Table t)) (Finds aside T places) (table_at T D (hierarchy from)) _ (if_table T D (hierarchy from)) (λ t is_t.
      let t' : Tbl = record { parent = t.parent; table = record t.table { rows = drop_row f t.table.rows } } in
      let o = Some (with_rows (drop_row f t.table.rows) t) in
      let D' = with_object (hierarchy from) o D in
      let puts = puts_object T D (hierarchy from) o in
      record {
        listed = λ g q u r e plain is row s named.
            let v = was g q e plain in
            elim (cases_eq (hierarchy g) (hierarchy from)) [
              | inl same ↦
                  let is_old : now_at T nothing (hierarchy g) ≡ Some (Table t) = sym v.1 ∙ ap (now_at T D) same ∙ is_t in
                  let new : t' ≡ u = same_table t' u (sym (ap (now_at T D') same ∙ puts.here) ∙ is) in
                  let left : IsSome (find_row r (drop_row f t.table.rows)) = subst (λ (x : Tbl). IsSome (find_row r x.table.rows)) (sym new) row in
                  let other : r ≡ f → ⊥ = λ one. false≢true (sym (ap is_some (find-drop_same (λ x. x.0) 0 f t.table.rows (w.rows_ascend (hierarchy g) t is_old))) ∙ ap (λ x. is_some (find_row x (drop_row f t.table.rows))) (sym one) ∙ left) in
                  let k = start.listed g v.0.0 t r v.0.1 v.0.2 is_old (subst IsSome (find-drop_other (λ x. x.0) r f t.table.rows other) left) s named in
                  (k.0, same_but r other ∙ k.1)
              | inr away ↦
                  let k = start.listed g v.0.0 u r v.0.1 v.0.2 (sym v.1 ∙ sym (puts.others (hierarchy g) away) ∙ is) row s named in
                  let other : r ≡ f → ⊥ = λ one.
                  let here = same_Some p (record { nid = nid r; parent = nid g; sort = s }) (sym found ∙ ap (λ x. find_place x T.places) (sym one) ∙ k.1) in
                  away (ap (λ (x : FolderPlace). hierarchy x.parent.bits) (sym here)) in
                  (k.0, same_but r other ∙ k.1)
            ];
        told = λ g q c e plain no_root is. told g q c e plain no_root (sym (puts.others g (kind_apart g from 13 (omega arith) (λ k. let two = (places_ids g q e plain).0 in omega arith))) ∙ is);
        owned = owned_put aside places (now_at T D) (now_at T D') (hierarchy from) o puts (some_belongs aside places (hierarchy from) (Table t') (owned (hierarchy from) (Table t) is_t)) owned;
      })

  -- `mvdir`
  moves_folder : (f parent : ℕ) → IfOk (moved_folder T f parent) After
  unfolding moved_folder moved_between
  moves_folder f parent = elim (cases_Option (find_place f T.places)) [
    | inl e ↦ rw e tt
    | inr p ↦ rw p.1 (elim (cases_Option (find_place parent T.places)) [
      | inl e ↦ rw e tt
      | inr q ↦ rw q.1 (elim (cases_Bool (is_plain p.0)) [
        | inr plain ↦ rw plain tt
        | inl plain_p ↦ rw plain_p (elim (cases_Bool (is_plain q.0)) [
          | inr plain ↦ rw plain tt
          | inl plain_q ↦ rw plain_q (if_then (λ u. f ≡ ROOT → ⊥) After (unless_protected T f) _ (from_fine (λ u. f ≡ ROOT → ⊥) (unless_protected T f) (fine_protected T f w)) (λ u no_root. elim (cases_Bool (is_within T.places f parent)) [
            | inl b ↦ rw b tt
            | inr out ↦ rw out (elim (cases_Bool (p.0.parent.bits == parent)) [
              | inl b ↦ rw b (start, h.reached)
              | inr b ↦
                  let c = w.contexts f p.0 p.1 in
                  let from = p.0.parent.bits in let v = w.parents f p.0 p.1 no_root in
                  let places = put_key place_id (place f parent) T.places in
                  let two = two_of f p.0 p.1 plain_p in let two_parent = two_of parent q.0 q.1 plain_q in
                  let places_ids = put_ids f parent two two_parent in
                  let from_still = plain_still T.places f parent from v.0 v.1 v.2 in
                  let to_still = plain_still T.places f parent parent q.0 q.1 plain_q in
                  let D = with_object f (Some (Context (record c.0 { parent = parent }))) nothing in
                  let a = drop_shown T (hierarchy from) f D in
                  rw (b, c.1) (if_then (λ u. Unit {0}) After (unless_named T (folded false (name_of c.0.props)) (children parent T.places)) _ (if_any (unless_named T (folded false (name_of c.0.props)) (children parent T.places))) (λ u u'.
                  elim (cases_Bool (moves_deep T.places f parent)) [
                    | inl b ↦ rw b tt
                    | inr deep ↦ rw deep (then_moving places (moved_reached T.places f parent p.0 q.0 h.reached p.1 no_root q.1 out deep) _ (replied Done)
                        (if_then (Finds aside T places) (Finds aside T places) a _ (move_drops f parent p.0 c.0 p.1 plain_p two places_ids) (λ D1 s.
                        let a' = add_shown T (hierarchy parent) f c.0.props D1 in
                        then_finds aside T places places_ids (a' >>= settled T places from) parent to_still.0 to_still.1 to_still.2
                        (then_finds aside T places places_ids a' from from_still.0 from_still.1 from_still.2
                        (finds_add aside T places places_ids D1 parent f c.0.props two_parent s (named_place T places f parent (place f parent) (find-put_same place_id (place f parent) T.places) refl refl two no_root))))))
                  ]))
            ])
          ]))
        ])
      ])
    ])
  ]
    where
      -- the folder leaves its parent's table, and its values tell the new one
      move_drops : (f parent : ℕ) (p : FolderPlace) (c : Ctx) → find_place f T.places ≡ Some p → is_plain p ≡ true → f % 32 ≡ 2 → PlainIds (put_key place_id (place f parent) T.places)
          → IfOk (drop_shown T (hierarchy p.parent.bits) f (with_object f (Some (Context (record c { parent = parent }))) nothing)) (Finds aside T (put_key place_id (place f parent) T.places))
      move_drops f parent p c e plain two places_ids =
          let o = Some (Context (record c { parent = parent })) in
          let D = with_object f o nothing in
          let puts = puts_object T nothing f o in
          dropped (put_key place_id (place f parent) T.places) places_ids f p D e (λ x other. find-put_other place_id x (place f parent) T.places other)
          (λ g q is plain_q. (
            elim (cases_eq g f) [ inl same ↦ (p, ap (λ x. find_place x T.places) same ∙ e, plain) | inr other ↦ (q, put_was f parent g q other is, plain_q) ],
            puts.others (hierarchy g) (λ same. kind_apart f g 13 (omega arith) (λ k. omega arith) (sym same)),
          ))
          (λ g q d is plain_q other_root at_g. elim (cases_eq g f) [
            | inl same ↦
                let values = same_context (record c { parent = parent }) d (sym (ap (now_at T D) same ∙ puts.here) ∙ at_g) in
                ap (λ (x : Ctx). x.parent) (sym values) ∙ ap (λ (x : FolderPlace). x.parent.bits) (put_is f parent g q same is)
            | inr other ↦ start.told g q d (put_was f parent g q other is) plain_q other_root (sym (puts.others g other) ∙ at_g)
          ])
          (owned_put aside (put_key place_id (place f parent) T.places) (now_at T nothing) (now_at T D) f o puts
          (some_belongs aside (put_key place_id (place f parent) T.places) f (Context (record c { parent = parent })) (inr (inr (inr (subst IsSome (sym (find-put_same place_id (place f parent) T.places)) refl))))) (owned_more f parent))

  -- `rmdir`
  removes_folder : (f : ℕ) → IfOk (removed_folder T f) After
  unfolding removed_folder
  removes_folder f = elim (cases_Option (find_place f T.places)) [
    | inl e ↦ rw e tt
    | inr p ↦ rw p.1 (elim (cases_Bool (is_plain p.0)) [
      | inr plain ↦ rw plain tt
      | inl plain ↦ rw plain (
          if_then (λ u. f ≡ ROOT → ⊥) After (unless_protected T f) _ (from_fine (λ u. f ≡ ROOT → ⊥) (unless_protected T f) (fine_protected T f w)) (λ u no_root.
          if_then (λ a. now_at T nothing (hierarchy f) ≡ Some (Table a)) After (table_at T nothing (hierarchy f)) _ (if_table T nothing (hierarchy f)) (λ a is_a.
          if_then (λ b. Unit {0}) After (table_at T nothing (contents f)) _ (if_any (table_at T nothing (contents f))) (λ b u.
          if_then (λ c. Unit {0}) After (associated_in T f) _ (if_any (associated_in T f)) (λ c u.
          elim (cases_Bool (has_rows a || (has_rows b || has_associated c))) [
            | inl some ↦ rw some tt
            | inr none ↦
                let from = p.0.parent.bits in let v = w.parents f p.0 p.1 no_root in
                let no_row = (or_parts (has_rows a) (has_rows b || has_associated c) none).0 in
                let childless : (g : ℕ) (q : FolderPlace) → find_place g T.places ≡ Some q → (g ≡ ROOT → ⊥) → q.parent.bits ≡ f → ⊥ = λ g q e other up.
                let row = (w.parents g q e other).3 in
                no_rows a.table.rows g no_row (subst (λ (x : Tbl). IsSome (find_row g x.table.rows)) (same_table row.0 a (sym row.1 ∙ ap (λ x. now_at T nothing (hierarchy x)) up ∙ is_a)) row.2) in
                let places = drop_key place_id f T.places in
                let two = two_of f p.0 p.1 plain in
                let gone = find-drop_same place_id 0 f T.places w.ascend in
                let apart : (g : ℕ) (q : FolderPlace) → find_place g places ≡ Some q → g ≡ f → ⊥ = λ g q e same. none-some q (sym gone ∙ ap (λ x. find_place x places) (sym same) ∙ e) in
                let was : (g : ℕ) (q : FolderPlace) → find_place g places ≡ Some q → find_place g T.places ≡ Some q = λ g q e. sym (find-drop_other place_id g f T.places (apart g q e)) ∙ e in
                let places_ids : PlainIds places = λ g q e plain. ids g q (was g q e) plain in
                let from_still : find_place from places ≡ Some v.0 = find-drop_other place_id from f T.places (childless f p.0 p.1 no_root) ∙ v.1 in
                let D = without_folder T f nothing in
                let a' = drop_shown T (hierarchy from) f D in
                rw none (then_moving places (removed_reached T.places f h.reached w.ascend childless) (a' >>= settled T places from) (replied Done) (then_finds aside T places places_ids a' from v.0 from_still v.2
                (dropped places places_ids f p.0 D p.1 (λ x other. find-drop_other place_id x f T.places other)
                (λ g q e plain. ((q, was g q e, plain), now_still T D (hierarchy g) (without_untouched T f (hierarchy g) (table_elsewhere f g two (places_ids g q e plain).0 (apart g q e)))))
                (λ g q d e plain other_root is. start.told g q d (was g q e) plain other_root (sym (now_still T D g (without_untouched T f g (folder_elsewhere f g (places_ids g q e plain).0 (apart g q e)))) ∙ is))
                (owned_less f))))
          ])))))
    ])
  ]

  -- a command that only looks
  looks : (o : Outcome) → o ≡ unchanged T o.reply → After o
  looks o same = subst After (sym same) (start, h.reached)

  finds_after : (c : Command) → IfOk (outcome T c) After
  unfolding outcome
  finds_after (MakeFolder parent name) = makes_folder parent.bits name
  finds_after (RenameFolder folder name) = renames folder.bits name
  finds_after (MoveFolder folder parent) = moves_folder folder.bits parent.bits
  finds_after (RemoveFolder folder) = removes_folder folder.bits
  finds_after (NewMessage folder class time values) = makes folder.bits class time values
  finds_after (SetProperty message value) = sets message.bits value
  finds_after (UnsetProperty message tag) = unsets message.bits tag
  finds_after (MoveMessage message folder) = moves message.bits folder.bits
  finds_after (CopyMessage message folder) = copies message.bits folder.bits
  finds_after (RemoveMessage message) = removes message.bits
  finds_after (ListFolder folder) = if_weaker (λ o. o ≡ unchanged T o.reply) After (outcome T (ListFolder folder)) (reads_only T (ListFolder folder) refl) looks
  finds_after (GetProperty message tag) = if_weaker (λ o. o ≡ unchanged T o.reply) After (outcome T (GetProperty message tag)) (reads_only T (GetProperty message tag) refl) looks
  finds_after (ListProperties message) = if_weaker (λ o. o ≡ unchanged T o.reply) After (outcome T (ListProperties message)) (reads_only T (ListProperties message) refl) looks
  finds_after (AddRecipient message kind address name) = adds_recipient message.bits kind address name
  finds_after (RemoveRecipient message row) = removes_recipient message.bits row
  finds_after (AddAttachment message name held) = adds_attachment message.bits name held
  finds_after (AppendData message attachment bytes) = appends_data message.bits attachment.bits bytes
  finds_after (SetEmbedded message attachment node) = sets_embedded message.bits attachment.bits node
  finds_after (RemoveAttachment message attachment) = removes_attachment message.bits attachment.bits
  finds_after (FetchData message attachment) = if_weaker (λ o. o ≡ unchanged T o.reply) After (outcome T (FetchData message attachment)) (reads_only T (FetchData message attachment) refl) looks
  finds_after (NameProperty guid number) = if_weaker (PutsNames T) After (named_property T guid number) (puts_names_after T guid number w) (λ o k.
      subst (λ places. Finds aside T places o.changed × AreReached places) (sym k.places_are)
      (finds_elsewhere aside T T.places ids nothing o.changed NAMES (Some (Context k.new)) start k.puts (λ e. omega arith) (λ e. omega arith) (some_belongs aside T.places NAMES (Context k.new) (inr (inr (inl refl)))), h.reached))
  finds_after (MakeSearch parent name) = tt
  finds_after (SetCriteria folder flags scope restriction) = tt
  finds_after (GetCriteria folder) = tt
  finds_after Save = (start, h.reached)
  finds_after Quit = (start, h.reached)

-- an opening finds the tree after each command, where it found it before with these beside
pub stays_beside : (aside : ℕ → Type 0) (T : Tree) (c : Command) → IsWhole T → IsFoundBeside aside T → IfOk (outcome T c) (λ o. IsFoundBeside aside (after T o))
stays_beside aside T c w h =
    both (λ o. Finds aside T o.places o.changed × AreReached o.places) (λ o. KeepsObjects T (scope_of T c) o.changed.objects) (λ o. IsFoundBeside aside (after T o)) (outcome T c) (finds_after aside T (before T w) h c) (kept_after T w c)
    (λ o k kept. found_after aside T o (λ q three. kept.apart q (ap is_usual three) (λ e. omega arith)) k.0 k.1)

-- the same where nothing stands beside
pub stays_found : (T : Tree) (c : Command) → IsWhole T → IsFound T → IfOk (outcome T c) (λ o. IsFound (after T o))
stays_found T c w h = if_weaker (λ o. IsFoundBeside (λ q. ⊥) (after T o)) (λ o. IsFound (after T o)) (outcome T c) (stays_beside (λ q. ⊥) T c w (found_beside (λ q. ⊥) T h)) (λ o k. found_alone (after T o) k)
