-- The commands on messages leave a tree whole.
use Rattle.command_text.specs.declared.reply.Reply.{Reply}
use Rattle.command_text.specs.declared.command.Held.{Held}
use Rattle.command_text.specs.declared.reply.LastLine.{LastLine}
use Rattle.command_text.specs.declared.reply.Limit.TheVariants.{Rows}
use Rattle.command_text.specs.declared.reply.CommandRefusal.{CommandRefusal}
use Rattle.std.proofs.Common.{◌≡◌, ℕ, ◌%◌, ◌==◌, true, false, nat_le, length, List, Option, None, Some, IsSome, is_some, Ok, arith, refl, sym, subst, ap, ◌∙◌, inl, inr, Err, not, IfOk, ◌||◌}
use Rattle.std.proofs.lemmas.Bool.{cases_Bool, eqb-true}
use Rattle.std.proofs.lemmas.Option.{none-some}
use Rattle.pst_base.specs.Ids.{nid_of}
use Rattle.mapi_values.specs.Messages.{Mes}
use Rattle.mapi_values.specs.Properties.{put, remove_id}
use Rattle.mapi_values.specs.declared.value.Tag.{Tag}
use Rattle.mapi_values.specs.Tables.{find_row, drop_row}
use Rattle.mapi_values.specs.Values.{Val}
use Rattle.command_text.specs.declared.reply.LastLine.TheVariants.{Attached, Done, Row}
use Rattle.mail_objects.specs.Forms.{Tbl}
use Rattle.mail_objects.specs.declared.object.Object.{Object}
use Rattle.mail_objects.specs.declared.object.Object.TheVariants.{Table, Message}
use Rattle.std.specs.List.{list_any}
use Rattle.mail_tree.specs.declared.places.FolderPlace.{FolderPlace}
use Rattle.mail_tree.specs.Places.{find_place, is_plain}
use Rattle.mail_tree.specs.Tree.{Tree}
use Rattle.mail_tree.specs.Values.{bytes_of, finished, is_set_protected, is_unset_protected, message_props, with_props, is_withheld}
use Rattle.command_text.specs.declared.reply.CommandRefusal.TheVariants.{Ids, Limit, Object as NoObject, Property as NoProperty, Protected}
use Rattle.named_props.specs.Finding.{is_property_named}
use Rattle.mail_tree.specs.Names.{names_in, unless_nameless}
use Rattle.mail_tree.specs.Changing.{Answer, Changed, ◌>>=◌, add_shown, contents, drop_shown, nothing, now_at, overfills, put_shown, shown_row, with_object, with_rows, within_limits}
use Rattle.mail_tree.specs.Settling.{settled, touched}
use Rattle.mail_tree.specs.Folders.{Outcome, changing, making, replied, unless_full, replying, nid}
use Rattle.mail_tree.specs.Messages.{added_attachment, added_message, added_recipient, adding_attachment, adding_recipient, appended_data, appending, fetched_data, removed_attachment, spent_index, too_long, changed_message, copied_message, copy_of, copying, details, in_folder, is_overfull, making_message, message_in, moved_message, new_message, parent_at, plain_message, remaking, removed_message, removed_recipient, set_value, spent_row, unset_value, value_in, value_of, given_message, set_embedded}
use Rattle.mail_tree.specs.Parts.{attachment_tags, data_tag, has_recipient, is_full, is_wide, lengthened, new_part, new_row, next_part, next_row, part_in, part_nid, part_with, recipient_props, recipient_tags, room_for, rows_of, with_attachment, with_bytes, with_part, with_recipient, without_attachment, without_recipient, part_holding}
use Rattle.mail_tree.specs.Ids.{is_spent, message_kinds, new_id, next_index}
use Rattle.mail_tree.specs.Whole.{AreWhole, Fine}
use Rattle.mail_tree.proofs.AfterTree.{now_nothing, puts_object}
use Rattle.mail_laws.proofs.NewIds.{free_message, new_id_is, next_is_free}
use Rattle.mail_tree.proofs.FineLaws.{after_found, after_test, cases_Option, fine_then, fine_either, fine_test}
use Rattle.mail_tree.proofs.Nearly.{AreNearly, Puts, message_id, table_of, nearly, plain_id}
use Rattle.mail_tree.proofs.KindsOfPuts.{beside_kind}
use Rattle.mail_laws.proofs.Closing.{whole_message}
use Rattle.mail_laws.proofs.MessagePuts.{apart, drops_message, lists_message, puts_at, removes_at}
use Rattle.mail_tree.proofs.Settles.{fine_settled, fine_touched, messages_of, store_of}
use Rattle.mail_laws.proofs.Spent.{fine_planned, new_id_kind, refused_later}
use Rattle.mail_tree.proofs.StoodLaws.{AreStood, IsNew, added_stood, dropped_stood, none_stood, settled_stood, stood_then, touched_stood, fine_stood}
use Rattle.mail_laws.proofs.Comparing.{fine_limits, own_new, message_stood, remade_stood, gone_stood, message_comes}
use Rattle.pst_base.specs.declared.subs.Sub.{Sub}

-- the tree is whole before the command
abbrev pub Before : Tree → Type 0
Before T = AreWhole T.places (now_at T nothing)

-- and after it
abbrev pub Keeps : Tree → Outcome → Type 0
Keeps T o = AreWhole o.places (now_at T o.changed)

-- changes leave the tree whole
abbrev pub Leaves : Tree → Changed → Type 0
Leaves T D = AreWhole T.places (now_at T D)

-- a message that is found stands in a plain folder
pub fine_message_in : (T : Tree) (m : ℕ) → Before T → Fine (message_in T m) (λ M. (now_at T nothing m ≡ Some (Message M)) × (m % 32 ≡ 4))
unfolding message_in
fine_message_in T m w = elim (cases_Bool (m % 32 == 4)) [
  | inr t ↦ rw t tt
  | inl t ↦ rw t (elim (cases_Option (parent_at T m)) [
    | inl e ↦ rw e tt
    | inr f ↦ rw f.1 (elim (cases_Option (find_place f.0 T.places)) [
      | inl e ↦ rw e tt
      | inr p ↦ rw p.1 (elim (cases_Bool (is_plain p.0)) [
        | inr plain ↦ rw plain tt
        | inl plain ↦ let four = eqb-true (m % 32) 4 t in let table = messages_of w f.0 p.0 p.1 plain in
            rw (plain, table.1) (elim (cases_Bool (is_some (find_row m table.0.table.rows))) [
              | inr row ↦ rw row tt
              | inl row ↦ let M = w.listed f.0 p.0 table.0 m p.1 plain table.1 row four in rw (row, M.1) (refl, four)
            ])
      ])
    ])
  ])
]

-- the table of a plain folder's messages, after a message was put
table_now : {E : ℕ → Type 0} {places : List FolderPlace} {at : ℕ → Option Object} → AreNearly E places at → (f : ℕ) (p : FolderPlace) → find_place f places ≡ Some p → is_plain p ≡ true → (t : Tbl) × (at (contents f) ≡ Some (Table t))
table_now {at = at} n f p e plain = table_of (contents f) (at (contents f)) (n.typed (contents f)) (inr (inl (beside_kind f 14 (omega arith)))) (n.tables f p e plain).1

-- before, only the folder of a message lists it
only_home : (T : Tree) (w : Before T) (D : Changed) (m : ℕ) (o : Option Object) (four : m % 32 ≡ 4) (puts : Puts (now_at T nothing) (now_at T D) m o) (M : Mes) → now_at T nothing m ≡ Some (Message M)
    → (f : ℕ) (q : FolderPlace) (u : Tbl) → find_place f T.places ≡ Some q → is_plain q ≡ true → now_at T D (contents f) ≡ Some (Table u) → IsSome (find_row m u.table.rows) → f ≡ M.folder
only_home T w D m o four puts M is f q u e plain at_u row =
    let v = w.listed f q u m e plain (sym (puts.others (contents f) (λ e. apart m f four (sym e))) ∙ at_u) row four in
    let same : v.0 ≡ M = cc in
    sym v.2 ∙ ap (λ x. x.folder) same

pub finished_id : (m : Mes) → (finished m).nid ≡ m.nid
unfolding finished
finished_id m = refl

pub finished_folder : (m : Mes) → (finished m).folder ≡ m.folder
unfolding finished
finished_folder m = refl

-- what is settled and keeps to the limits is done
pub fine_ending : (T : Tree) (reply : Reply) (a : Answer Changed) → Fine a (Leaves T) → IfOk a (AreStood T (IsNew None)) → Fine (a >>= changing T reply) (Keeps T)
fine_ending T reply a fine stood = fine_limits (Leaves T) (Keeps T) T None a (λ D u. Ok (record { changed = D; places = T.places; last = T.last; reply = reply })) fine stood (λ D w. w)

fine_refused : {A B : Type 0} (P : B → Type 0) (a : Answer A) (f : A → Answer B) (refusal : CommandRefusal) → Fine (a >>= f) P → Fine (a >>= λ x. Err (Some refusal)) P
fine_refused P (Ok x) f refusal k = tt
fine_refused P (Err None) f refusal k = k
fine_refused P (Err (Some r)) f refusal k = tt

-- the same where there may be another reason against it
fine_replying : (T : Tree) (a : Answer Changed) (reason : Option CommandRefusal) (reply : Reply) → Fine (a >>= changing T reply) (Keeps T) → Fine (a >>= replying T reason reply) (Keeps T)
fine_replying T (Err None) reason reply k = k
fine_replying T (Err (Some r)) reason reply k = tt
fine_replying T (Ok D) None reply k = k
fine_replying T (Ok D) (Some refusal) reply k = fine_refused (Keeps T) (within_limits T _ D) _ refusal k

-- a message gets other values
shown_message : (T : Tree) (old new : Mes) (p : FolderPlace) → Before T → now_at T nothing new.nid ≡ Some (Message old) → new.nid % 32 ≡ 4 → new.folder ≡ old.folder → old.nid ≡ new.nid → find_place new.folder T.places ≡ Some p → is_plain p ≡ true
    → Fine (put_shown T (contents new.folder) new.nid new.props (with_object new.nid (Some (Message new)) nothing)) (Leaves T)
unfolding put_shown
shown_message T old new p w is four folder nid found plain =
    let D0 = nothing in
    let D = with_object new.nid (Some (Message new)) D0 in
    let puts = puts_object T D0 new.nid (Some (Message new)) in
    let n = puts_at T.places new.nid four (now_at T nothing) (now_at T D) new w refl puts in
    let t = table_now n new.folder p found plain in
    rw t.1 (lists_message T.places new.nid four (now_at T D) _ n new.folder p found plain t.0 t.1 new new.props puts.here refl
    (λ f q u e plain_q at_u row. only_home T w D new.nid (Some (Message new)) four puts old is f q u e plain_q at_u row ∙ sym folder)
    (puts_object T D (contents new.folder) (Some (with_rows (shown_row new.nid new.props t.0.table) t.0))))

-- what a message of a whole tree has
pub home_of : (T : Tree) → Before T → (m : ℕ) (M : Mes) → now_at T nothing m ≡ Some (Message M) → (M.nid ≡ m) × (p : FolderPlace) × (find_place M.folder T.places ≡ Some p) × (is_plain p ≡ true)
home_of T w m M is = let v = w.held m M is in ((message_id m M (w.typed m (Message M) is)).1, v.0, v.1, v.2)

-- the folder of a message, put as it is before other changes
pub fine_home : (T : Tree) → Before T → (m : ℕ) (M : Mes) → now_at T nothing m ≡ Some (Message M) → Fine (touched T M.folder nothing) (λ D. now_at T D ≡ now_at T nothing)
fine_home T w m M is = let v = home_of T w m M is in fine_touched T T.places M.folder v.1 nothing w v.2 v.3

pub home_kind : (T : Tree) → Before T → (m : ℕ) (M : Mes) → now_at T nothing m ≡ Some (Message M) → M.folder % 32 ≡ 2
home_kind T w m M is = let v = home_of T w m M is in plain_id (nearly (λ x. ⊥) T.places (now_at T nothing) w) M.folder v.1 v.2 v.3

-- settled, and within the limits
settled_ending : (T : Tree) (a : Answer Changed) (f : ℕ) (p : FolderPlace) (reply : Reply) → find_place f T.places ≡ Some p → is_plain p ≡ true → Fine a (Leaves T) → IfOk a (AreStood T (IsNew None)) → Fine (a >>= settled T T.places f >>= changing T reply) (Keeps T)
settled_ending T a f p reply found plain fine stood =
    fine_ending T reply (a >>= settled T T.places f) (fine_then (Leaves T) (Leaves T) a (settled T T.places f) fine (λ D w. fine_settled T T.places f p D w found plain))
    (stood_then a (settled T T.places f) stood (λ D k. settled_stood T (IsNew None) T.places f D k))

settled_changing : (T : Tree) (a : Answer Changed) (f : ℕ) (p : FolderPlace) → find_place f T.places ≡ Some p → is_plain p ≡ true → Fine a (Leaves T) → IfOk a (AreStood T (IsNew None)) → Fine (a >>= settled T T.places f >>= changing T (replied Done)) (Keeps T)
settled_changing T a f p found plain fine stood = settled_ending T a f p (replied Done) found plain fine stood

-- a message becomes another of its id, in its folder
fine_remaking : (T : Tree) (m : ℕ) (M new : Mes) (reason : Option CommandRefusal) (last : LastLine) → Before T → now_at T nothing m ≡ Some (Message M) → m % 32 ≡ 4 → new.nid ≡ M.nid → new.folder ≡ M.folder
    → Fine (remaking T new reason last) (Keeps T)
unfolding remaking
fine_remaking T m M new reason last w is four same there =
    let N = finished new in
    let v = home_of T w m M is in
    let nid : N.nid ≡ m = finished_id new ∙ same ∙ v.0 in
    let folder : N.folder ≡ M.folder = finished_folder new ∙ there in
    let found : find_place N.folder T.places ≡ Some v.1 = ap (λ x. find_place x T.places) folder ∙ v.2 in
    let a = put_shown T (contents N.folder) N.nid N.props (with_object N.nid (Some (Message N)) nothing) in
    fine_replying T (a >>= settled T T.places N.folder) reason (replied last) (settled_ending T a N.folder v.1 (replied last) found v.3
    (shown_message T M N v.1 w (ap (now_at T nothing) nid ∙ is) (ap (λ x. x % 32) nid ∙ four) folder (v.0 ∙ sym nid) found v.3) (remade_stood T (IsNew None) M N (ap (now_at T nothing) nid ∙ is)))

fine_changed : (T : Tree) (m : ℕ) (M : Mes) (props : List Val) → Before T → now_at T nothing m ≡ Some (Message M) → m % 32 ≡ 4 → Fine (changed_message T M props) (Keeps T)
unfolding changed_message
fine_changed T m M props w is four = fine_remaking T m M (with_props props M) None Done w is four refl refl

-- `rcpt`
pub fine_added_recipient : (T : Tree) (m kind : ℕ) (address name : List ℕ) → Before T → Fine (added_recipient T m kind address name) (Keeps T)
unfolding added_recipient adding_recipient
fine_added_recipient T m kind address name w = fine_then _ (Keeps T) (message_in T m) _ (fine_message_in T m w) (λ M h.
    let row = next_row (rows_of M.recipients) in
    after_test (Keeps T) (is_full M.recipients) (Limit Rows) _ (λ u. after_test (Keeps T) (is_wide recipient_tags M.recipients) (Limit Rows) _ (λ v.
    fine_remaking T m M (with_recipient (new_row row) (recipient_props kind address name) M) (spent_row row) (Row (new_row row)) w h.0 h.1 refl refl)))

-- `unrcpt`
pub fine_removed_recipient : (T : Tree) (m row : ℕ) → Before T → Fine (removed_recipient T m row) (Keeps T)
unfolding removed_recipient
fine_removed_recipient T m row w = fine_then _ (Keeps T) (message_in T m) _ (fine_message_in T m w) (λ M h.
    after_test (Keeps T) (not (has_recipient row M)) NoObject _ (λ u. fine_remaking T m M (without_recipient row M) None Done w h.0 h.1 refl refl))

-- `attach`
pub fine_added_attachment : (T : Tree) (m : ℕ) (name : List ℕ) (held : Held) → Before T → Fine (added_attachment T m name held) (Keeps T)
unfolding added_attachment adding_attachment
fine_added_attachment T m name held w = fine_then _ (Keeps T) (message_in T m) _ (fine_message_in T m w) (λ M h.
    let index = next_part M in
    let new = with_attachment (new_part (part_nid index) name held) (room_for index M) in
    after_test (Keeps T) (is_full M.attachments) (Limit Rows) _ (λ u. after_test (Keeps T) (is_wide attachment_tags M.attachments) (Limit Rows) _ (λ v.
    fine_remaking T m M new (spent_index index) (Attached (part_nid index)) w h.0 h.1 refl refl)))

-- `append`
pub fine_appended_data : (T : Tree) (m n : ℕ) (more : List ℕ) → Before T → Fine (appended_data T m n more) (Keeps T)
unfolding appended_data appending
fine_appended_data T m n more w = fine_then _ (Keeps T) (message_in T m) _ (fine_message_in T m w) (λ M h.
    after_found (Keeps T) NoObject (part_in n M) _ (λ part is. after_found (Keeps T) NoProperty (bytes_of 0x3701 0x0102 part.props) _ (λ old is'.
    let props = with_bytes (lengthened old more) part.props in
    fine_remaking T m M (with_part (part_with props part) M) (too_long old more) Done w h.0 h.1 refl refl)))

-- `eset` and `eunset`
pub fine_set_embedded : (T : Tree) (m n : ℕ) (node : Sub) → Before T → Fine (set_embedded T m n node) (Keeps T)
unfolding set_embedded
fine_set_embedded T m n node w = fine_then _ (Keeps T) (message_in T m) _ (fine_message_in T m w) (λ M h.
    after_found (Keeps T) NoObject (part_in n M) _ (λ part is.
    fine_remaking T m M (with_part (part_holding node part) M) None Done w h.0 h.1 refl refl))

-- `detach`
pub fine_removed_attachment : (T : Tree) (m n : ℕ) → Before T → Fine (removed_attachment T m n) (Keeps T)
unfolding removed_attachment
fine_removed_attachment T m n w = fine_then _ (Keeps T) (message_in T m) _ (fine_message_in T m w) (λ M h.
    after_test (Keeps T) (not (is_some (part_in n M))) NoObject _ (λ u. fine_remaking T m M (without_attachment n M) None Done w h.0 h.1 refl refl))

-- `fetch`
pub fine_fetched_data : (T : Tree) (m n : ℕ) → Before T → Fine (fetched_data T m n) (Keeps T)
unfolding fetched_data
fine_fetched_data T m n w = fine_then _ (Keeps T) (message_in T m) _ (fine_message_in T m w) (λ M h.
    after_found (Keeps T) NoObject (part_in n M) _ (λ part is. after_found (Keeps T) NoProperty (value_of data_tag part.props) _ (λ v is'. w)))

-- the names are there
pub fine_nameless : (T : Tree) (id : ℕ) → Before T → Fine (unless_nameless T id) (λ u. Unit {0})
unfolding unless_nameless names_in
fine_nameless T id w =
    let names = w.names in
    let n = names.2 in
    fine_either (λ u. Unit {0}) (nat_le 0x8000 id) _ _ (λ b. rw (names.1, n.1) (fine_test (not (is_property_named n.0.entries id)) NoProperty)) (λ b. tt)

-- `set`
pub fine_set : (T : Tree) (m : ℕ) (v : Val) → Before T → Fine (set_value T m v) (Keeps T)
unfolding set_value
fine_set T m v w = fine_then _ (Keeps T) (message_in T m) _ (fine_message_in T m w) (λ M h. elim (cases_Bool (is_set_protected v.id M.props)) [
  | inl t ↦ rw t tt
  | inr t ↦ rw t (fine_then (λ u. Unit {0}) (Keeps T) (unless_nameless T v.id) _ (fine_nameless T v.id w) (λ u x. fine_changed T m M (put v M.props) w h.0 h.1))
])

-- `unset`
pub fine_unset : (T : Tree) (m : ℕ) (tag : Tag) → Before T → Fine (unset_value T m tag) (Keeps T)
unfolding unset_value
fine_unset T m tag w = fine_then _ (Keeps T) (message_in T m) _ (fine_message_in T m w) (λ M h. elim (cases_Bool (is_unset_protected tag.id tag.kind M.props)) [
  | inl t ↦ rw t tt
  | inr t ↦ rw t (elim (cases_Bool (is_some (bytes_of tag.id tag.kind M.props))) [ inr u ↦ rw u tt | inl u ↦ rw u (fine_changed T m M (remove_id tag.id M.props) w h.0 h.1) ])
])

-- `get`
pub fine_get : (T : Tree) (m : ℕ) (tag : Tag) → Before T → Fine (value_in T m tag) (Keeps T)
unfolding value_in
fine_get T m tag w = fine_then _ (Keeps T) (message_in T m) _ (fine_message_in T m w) (λ M h. elim (cases_Option (value_of tag M.props)) [ inl e ↦ rw e tt | inr v ↦ rw v.1 w ])

-- `props`
pub fine_details : (T : Tree) (m : ℕ) → Before T → Fine (details T m) (Keeps T)
unfolding details
fine_details T m w = fine_then _ (Keeps T) (message_in T m) _ (fine_message_in T m w) (λ M h. w)

-- `rm`
dropped_message : (T : Tree) (m : ℕ) (M : Mes) (p : FolderPlace) → Before T → now_at T nothing m ≡ Some (Message M) → m % 32 ≡ 4 → find_place M.folder T.places ≡ Some p → is_plain p ≡ true
    → Fine (drop_shown T (contents M.folder) m (with_object m None nothing)) (Leaves T)
unfolding drop_shown
dropped_message T m M p w is four found plain =
    let D = with_object m None nothing in
    let puts = puts_object T nothing m None in
    let n = removes_at T.places m four (now_at T nothing) (now_at T D) w puts in
    let t = table_now n M.folder p found plain in
    let puts' = puts_object T D (contents M.folder) (Some (with_rows (drop_row m t.0.table.rows) t.0)) in
    let d = drops_message T.places m four (now_at T D) _ n M.folder p found plain t.0 t.1 (only_home T w D m None four puts M is) puts' in
    rw t.1 (whole_message T.places _ m d.0 four (λ f q u e plain_q at_u row. absurd (d.1 f q u e plain_q at_u row))
    (λ N at_N. absurd (none-some (Message N) (sym (puts'.others m (apart m M.folder four) ∙ puts.here) ∙ at_N))))

pub fine_removed : (T : Tree) (m : ℕ) → Before T → Fine (removed_message T m) (Keeps T)
unfolding removed_message
fine_removed T m w = fine_then _ (Keeps T) (message_in T m) _ (fine_message_in T m w) (λ M h.
    let v = home_of T w m M h.0 in
    settled_changing T (drop_shown T (contents M.folder) m (with_object m None nothing)) M.folder v.1 v.2 v.3 (dropped_message T m M v.1 w h.0 h.1 v.2 v.3) (gone_stood T (IsNew None) m M.folder))

-- a row that shows a message that stands there is added
listed_message : (T : Tree) (D : Changed) (m : ℕ) (M : Mes) (props : List Val) (p : FolderPlace) → AreNearly (λ x. x ≡ m) T.places (now_at T D) → m % 32 ≡ 4 → now_at T D m ≡ Some (Message M) → find_place M.folder T.places ≡ Some p → is_plain p ≡ true
    → ((f : ℕ) (q : FolderPlace) (u : Tbl) → find_place f T.places ≡ Some q → is_plain q ≡ true → now_at T D (contents f) ≡ Some (Table u) → IsSome (find_row m u.table.rows) → f ≡ M.folder)
    → Fine (add_shown T (contents M.folder) m props D) (Leaves T)
unfolding add_shown
listed_message T D m M props p n four is found plain only =
    let t = table_now n M.folder p found plain in
    rw t.1 (elim (cases_Bool (overfills t.0.table.rows (shown_row m props t.0.table))) [
      | inl b ↦ rw b tt
      | inr b ↦ rw b (lists_message T.places m four (now_at T D) _ n M.folder p found plain t.0 t.1 M props is refl only
          (puts_object T D (contents M.folder) (Some (with_rows (shown_row m props t.0.table) t.0))))
    ])

-- a new message
fine_added : (T : Tree) (D : Changed) (M : Mes) (p : FolderPlace) → AreWhole T.places (now_at T D) → M.nid % 32 ≡ 4 → now_at T D M.nid ≡ None → find_place M.folder T.places ≡ Some p → is_plain p ≡ true
    → Fine (added_message T M D) (Leaves T)
fine_added T D M p w four none found plain =
    let puts = puts_object T D M.nid (Some (Message M)) in
    let D' = with_object M.nid (Some (Message M)) D in
    fine_then (Leaves T) (Leaves T) (add_shown T (contents M.folder) M.nid M.props D') (settled T T.places M.folder)
    (listed_message T D' M.nid M M.props p (puts_at T.places M.nid four (now_at T D) (now_at T D') M w refl puts) four puts.here found plain
    (λ f q u e plain_q at_u row.
    let v = w.listed f q u M.nid e plain_q (sym (puts.others (contents f) (λ e. apart M.nid f four (sym e))) ∙ at_u) row four in
    absurd (none-some (Message v.0) (sym none ∙ v.1))))
    (λ D'' w'. fine_settled T T.places M.folder p D'' w' found plain)

-- a folder's table has room
pub fine_unless_full : (T : Tree) (q : ℕ) (t : Tbl) → now_at T nothing q ≡ Some (Table t) → Fine (unless_full T q) (λ u. Unit {0})
unfolding unless_full
fine_unless_full T q t is = rw is (elim (cases_Bool (nat_le 100000 (length t.table.rows))) [ inl b ↦ rw b tt | inr b ↦ rw b tt ])

-- nothing stands at a new message's id
pub new_message_id : (T : Tree) → is_spent (next_index T 4 message_kinds) ≡ false → (new_id 4 (next_index T 4 message_kinds) % 32 ≡ 4) × (now_at T nothing (new_id 4 (next_index T 4 message_kinds)) ≡ None)
new_message_id T left =
    let free = next_is_free T 4 message_kinds left in
    let id = new_id_is 4 (next_index T 4 message_kinds) free.1 in
    (ap (λ x. x % 32) id ∙ kind_four (next_index T 4 message_kinds), ap (now_at T nothing) id ∙ ap (λ g. g (nid_of 4 (next_index T 4 message_kinds))) (now_nothing T) ∙ free_message T (next_index T 4 message_kinds) free.0)
  where
    kind_four : (index : ℕ) → nid_of 4 index % 32 ≡ 4
    kind_four index = omega arith

fine_making : (T : Tree) (a : Answer Changed) (kind index : ℕ) → Fine a (Leaves T) → IfOk a (AreStood T (IsNew (Some (nid (new_id kind index))))) → Fine (a >>= making T T.places kind index) (Keeps T)
fine_making T a kind index fine stood = fine_limits (Leaves T) (Keeps T) T (Some (nid (new_id kind index))) a _ fine stood (λ D w. after_test (Keeps T) (is_spent index) Ids _ (λ left. w))

-- `new`
fine_made : (T : Tree) (folder : ℕ) (p : FolderPlace) (class : List ℕ) (time : ℕ) (store values : List Val) → Before T → find_place folder T.places ≡ Some p → is_plain p ≡ true
    → Fine (making_message T folder class time store values (next_index T 4 message_kinds)) (Keeps T)
unfolding making_message
fine_made T folder p class time store values w found plain = elim (cases_Bool (is_spent (next_index T 4 message_kinds))) [
  | inl t ↦
      let m = new_id 4 (next_index T 4 message_kinds) in
      let M = plain_message m folder (message_props m class time store values) in
      refused_later T T.places 4 (next_index T 4 message_kinds) (Keeps T) (added_message T (finished M) nothing) t
      (fine_planned T (finished M) nothing p w (ap (λ x. x % 32) (finished_id M) ∙ new_id_kind 4 (next_index T 4 message_kinds) (omega arith)) (ap (λ x. find_place x T.places) (finished_folder M) ∙ found) plain)
      (message_comes T (IsNew (Some (nid m))) (finished M) nothing (subst (IsNew (Some (nid m))) (sym (finished_id M)) (own_new m)) (none_stood T (IsNew (Some (nid m)))))
  | inr t ↦
      let m = new_id 4 (next_index T 4 message_kinds) in
      let id = new_message_id T t in
      let M = plain_message m folder (message_props m class time store values) in
      (fine_making T (added_message T (finished M) nothing) 4 (next_index T 4 message_kinds)
      (fine_added T nothing (finished M) p w (ap (λ x. x % 32) (finished_id M) ∙ id.0) (ap (now_at T nothing) (finished_id M) ∙ id.1) (ap (λ x. find_place x T.places) (finished_folder M) ∙ found) plain)
      (message_comes T (IsNew (Some (nid m))) (finished M) nothing (subst (IsNew (Some (nid m))) (sym (finished_id M)) (own_new m)) (none_stood T (IsNew (Some (nid m))))))
]

pub fine_new : (T : Tree) (folder : ℕ) (class : List ℕ) (time : ℕ) (values : List Val) → Before T → Fine (new_message T folder class time values) (Keeps T)
unfolding new_message given_message
fine_new T folder class time values w = after_test (Keeps T) (list_any is_withheld values) Protected (λ u. given_message T folder class time values) (λ none. elim (cases_Option (find_place folder T.places)) [
  | inl e ↦ rw e tt
  | inr p ↦ rw p.1 (elim (cases_Bool (is_plain p.0)) [
    | inr plain ↦ rw plain tt
    | inl plain ↦
        let store = store_of w in let t = messages_of w folder p.0 p.1 plain in
        rw (plain, store.1) (fine_then (λ u. Unit {0}) (Keeps T) (unless_full T (contents folder)) _ (fine_unless_full T (contents folder) t.0 t.1) (λ u v. fine_made T folder p.0 class time store.0.props values w p.1 plain))
  ])
])

-- `cp`
fine_copying : (T : Tree) (m : ℕ) (M : Mes) (folder : ℕ) (p : FolderPlace) → Before T → now_at T nothing m ≡ Some (Message M) → find_place folder T.places ≡ Some p → is_plain p ≡ true
    → Fine (copying T M folder (next_index T 4 message_kinds)) (Keeps T)
unfolding copying
fine_copying T m M folder p w is found plain =
    let D : Changed = nothing in
    let N = copy_of (new_id 4 (next_index T 4 message_kinds)) folder M in
    let Same : Changed → Type 0 = λ D'. now_at T D' ≡ now_at T nothing in
    let touches : Fine (touched T M.folder D) Same = fine_home T w m M is in
    let New = IsNew (Some (nid N.nid)) in
    let stood : IfOk (touched T M.folder D >>= added_message T N) (AreStood T New) =
    stood_then (touched T M.folder D) (added_message T N) (touched_stood T New M.folder D (none_stood T New)) (λ D' k. message_comes T New N D' (own_new N.nid) k) in
    elim (cases_Bool (is_spent (next_index T 4 message_kinds))) [
      | inl t ↦ refused_later T T.places 4 (next_index T 4 message_kinds) (Keeps T) (touched T M.folder D >>= added_message T N) t
          (fine_then Same (λ D'. Unit {0}) (touched T M.folder D) (added_message T N) touches (λ D' same.
          fine_planned T N D' p (subst (AreWhole T.places) (sym same) w) (new_id_kind 4 (next_index T 4 message_kinds) (omega arith)) found plain)) stood
      | inr t ↦
          let id = new_message_id T t in
          (fine_making T (touched T M.folder D >>= added_message T N) 4 (next_index T 4 message_kinds)
          (fine_then Same (Leaves T) (touched T M.folder D) (added_message T N) touches (λ D' same.
          fine_added T D' N p (subst (AreWhole T.places) (sym same) w) id.0 (ap (λ at. at N.nid) same ∙ id.1) found plain)) stood)
    ]

pub fine_copied : (T : Tree) (m folder : ℕ) → Before T → Fine (copied_message T m folder) (Keeps T)
unfolding copied_message
fine_copied T m folder w = fine_then _ (Keeps T) (message_in T m) _ (fine_message_in T m w) (λ M h. elim (cases_Option (find_place folder T.places)) [
  | inl e ↦ rw e tt
  | inr p ↦ rw p.1 (elim (cases_Bool (is_plain p.0)) [
    | inr plain ↦ rw plain tt
    | inl plain ↦
        let t = messages_of w folder p.0 p.1 plain in
        rw plain (elim (cases_Bool (is_overfull M.recipients || is_overfull M.attachments)) [
          | inl b ↦ rw b tt
          | inr b ↦ rw b (fine_then (λ u. Unit {0}) (Keeps T) (unless_full T (contents folder)) _ (fine_unless_full T (contents folder) t.0 t.1) (λ u v. fine_copying T m M folder p.0 w h.0 p.1 plain))
        ])
  ])
])

-- `mv`
abbrev MovedFrom : Tree → ℕ → Mes → Changed → Type 0
MovedFrom T m M D = AreNearly (λ x. x ≡ m) T.places (now_at T D) × (now_at T D m ≡ Some (Message M))
    × ((f : ℕ) (q : FolderPlace) (u : Tbl) → find_place f T.places ≡ Some q → is_plain q ≡ true → now_at T D (contents f) ≡ Some (Table u) → IsSome (find_row m u.table.rows) → ⊥)

moved_from : (T : Tree) (m folder : ℕ) (M : Mes) (p : FolderPlace) → Before T → now_at T nothing m ≡ Some (Message M) → m % 32 ≡ 4 → M.nid ≡ m → find_place M.folder T.places ≡ Some p → is_plain p ≡ true
    → Fine (drop_shown T (contents M.folder) m (with_object m (Some (Message (in_folder folder M))) nothing)) (MovedFrom T m (in_folder folder M))
unfolding drop_shown
moved_from T m folder M p w is four nid found plain =
    let D = with_object m (Some (Message (in_folder folder M))) nothing in
    let puts = puts_object T nothing m (Some (Message (in_folder folder M))) in
    let n = puts_at T.places m four (now_at T nothing) (now_at T D) (in_folder folder M) w nid puts in
    let t = table_now n M.folder p found plain in
    let puts' = puts_object T D (contents M.folder) (Some (with_rows (drop_row m t.0.table.rows) t.0)) in
    let d = drops_message T.places m four (now_at T D) _ n M.folder p found plain t.0 t.1 (only_home T w D m (Some (Message (in_folder folder M))) four puts M is) puts' in
    rw t.1 (d.0, puts'.others m (apart m M.folder four) ∙ puts.here, d.1)

pub fine_moved : (T : Tree) (m folder : ℕ) → Before T → Fine (moved_message T m folder) (Keeps T)
unfolding moved_message
fine_moved T m folder w = fine_then _ (Keeps T) (message_in T m) _ (fine_message_in T m w) (λ M h. elim (cases_Option (find_place folder T.places)) [
  | inl e ↦ rw e tt
  | inr p ↦ rw p.1 (elim (cases_Bool (is_plain p.0)) [
    | inr plain ↦ rw plain tt
    | inl plain ↦ rw plain (elim (cases_Bool (M.folder == folder)) [
      | inl b ↦ rw b w
      | inr b ↦
          let v = home_of T w m M h.0 in
          let P = MovedFrom T m (in_folder folder M) in let S = AreStood T (IsNew None) in
          let drops = drop_shown T (contents M.folder) m (with_object m (Some (Message (in_folder folder M))) nothing) in
          let stood = dropped_stood T (IsNew None) (contents M.folder) m _ (message_stood T (IsNew None) m M (in_folder folder M) h.0) in
          rw b (fine_then (λ D. P D × S D) (Keeps T) drops _
          (fine_stood P S drops (moved_from T m folder M v.1 w h.0 h.1 v.0 v.2 v.3) stood)
          (λ D k. let d = k.0 in settled_changing T (add_shown T (contents folder) m M.props D >>= settled T T.places M.folder) folder p.0 p.1 plain
          (fine_then (Leaves T) (Leaves T) (add_shown T (contents folder) m M.props D) (settled T T.places M.folder)
          (listed_message T D m (in_folder folder M) M.props p.0 d.0 h.1 d.1 p.1 plain (λ f q u e plain_q at_u row. absurd (d.2 f q u e plain_q at_u row)))
          (λ D' w'. fine_settled T T.places M.folder v.1 D' w' v.2 v.3))
          (stood_then (add_shown T (contents folder) m M.props D) (settled T T.places M.folder) (added_stood T (IsNew None) (contents folder) m M.props D k.1) (λ D' j. settled_stood T (IsNew None) T.places M.folder D' j))))
    ])
  ])
])
