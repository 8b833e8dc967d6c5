-- What each command on messages makes of them.
use Rattle.mapi_values.specs.Tables.{find_row}
use Rattle.command_text.specs.declared.command.Held.{Held}
use Rattle.command_text.specs.declared.reply.LastLine.{LastLine}
use Rattle.command_text.specs.declared.reply.Limit.TheVariants.{Rows, Value as LongValue}
use Rattle.command_text.specs.declared.reply.CommandRefusal.TheVariants.{Ids, Limit, Object as NoObject, Property as NoProperty}
use Rattle.command_text.specs.declared.reply.CommandRefusal.{CommandRefusal}
use Rattle.std.proofs.Common.{◌≡◌, ℕ, ◌%◌, ◌==◌, Bool, true, false, List, Option, None, Some, IfOk, is_some, Ok, arith, refl, sym, subst, ap, ◌∙◌, inl, inr, not, [], ◌∷◌, ◌++◌, ◌≤◌, max, suc, if◌then◌else◌, Err, ◌||◌}
use Rattle.std.proofs.lemmas.Bool.{cases_Bool, cases_eq, eq-eqb, eqb-true, eqb-false, or_parts, ne_eqb, ltb-false}
use Rattle.mapi_values.specs.Messages.{Mes, size}
use Rattle.mapi_values.specs.Properties.{find, put, remove_id}
use Rattle.mapi_values.specs.Values.{Val}
use Rattle.mapi_values.specs.declared.value.Tag.{Tag}
use Rattle.command_text.specs.declared.reply.LastLine.TheVariants.{Attached, Done, Made, Row}
use Rattle.mail_objects.specs.Forms.{Ctx}
use Rattle.mail_objects.specs.declared.object.Object.{Object}
use Rattle.mail_objects.specs.declared.object.Object.TheVariants.{Context, Table, Message, Bare}
use Rattle.mail_tree.specs.declared.places.FolderPlace.{FolderPlace}
use Rattle.mail_tree.specs.Places.{find_place, is_plain}
use Rattle.mail_tree.specs.Tree.{Tree, object_at}
use Rattle.mail_tree.specs.Values.{bytes_of, finished, has_object, has_parts, is_own_id, is_set_protected, is_unset_protected, message_props, number, number_of, text, time_value, with_attachment_flag, with_flag, with_props, is_withheld, own_props}
use Rattle.mail_tree.specs.Names.{unless_nameless}
use Rattle.mail_tree.specs.Changing.{◌>>=◌, add_shown, as_message, contents, drop_shown, nothing, now_at, put_shown, with_object, within_limits, Answer, Changed}
use Rattle.mail_tree.specs.Settling.{settled, touched}
use Rattle.mail_tree.specs.Ids.{is_spent, message_kinds, new_id, next_index}
use Rattle.mail_tree.specs.Folders.{Outcome, changing, making, nid, replied, unless_full}
use Rattle.mail_tree.specs.Messages.{added_attachment, added_message, added_recipient, adding_attachment, adding_recipient, appended_data, appending, removed_attachment, spent_index, too_long, changed_message, copied_message, copy_of, copying, in_folder, is_overfull, making_message, message_in, moved_message, new_message, plain_message, remaking, removed_message, removed_recipient, set_value, spent_row, unset_value, given_message, set_embedded}
use Rattle.mail_tree.specs.Parts.{attachment_tags, greatest_kept, greatest_part, has_recipient, is_full, is_spent_row, is_too_long, is_wide, lengthened, new_part, new_row, next_part, next_row, part_in, part_nid, part_with, recipient_props, recipient_tags, room_for, rows_of, with_attachment, with_bytes, with_part, with_recipient, without_attachment, without_recipient, part_holding}
use Rattle.mail_tree.specs.Step.{after}
use Rattle.mail_tree.specs.Whole.{fits_id}
use Rattle.mail_laws.specs.Laws.{OnlyMessage}
use Rattle.mail_tree.proofs.KeyedFinds.{find-put_other}
use Rattle.mail_tree.proofs.AfterTree.{after_now, now_nothing, puts_object}
use Rattle.mail_tree.proofs.FineLaws.{cases_Option}
use Rattle.mail_tree.proofs.Nearly.{folder_kind, message_id, Puts}
use Rattle.mail_tree.proofs.KindsOfPuts.{low}
use Rattle.mail_tree.proofs.PartLaws.{past_parts}
use Rattle.mail_laws.proofs.NewIds.{new_id_is}
use Rattle.mapi_values.specs.declared.part.Part.{Part}
use Rattle.pst_base.specs.declared.ids.Nid.{Nid}
use Rattle.mail_laws.proofs.MessageSteps.{Before, Keeps, fine_message_in, finished_folder, finished_id, home_of, new_message_id, fine_home}
use Rattle.mail_laws.proofs.Keeping.{Comes, Four, no_table, KeepsAt, PutsMessage, add_keeps, drop_keeps, from_fine, if_any, if_then, if_weaker, kept_after, never_made, put_keeps, table_apart, then_changing, then_making, then_settled, if_found, if_replying, if_test}
use Rattle.mail_tree.proofs.Settles.{store_of}
use Rattle.std.specs.List.{list_any}
use Rattle.mail_tree.proofs.GivenValues.{find_withheld}
use Rattle.pst_base.specs.declared.subs.Sub.{Sub}

-- a folder is no message
pub place_apart : (T : Tree) → Before T → (f : ℕ) (p : FolderPlace) → find_place f T.places ≡ Some p → f % 32 ≡ 4 → ⊥
place_apart T w f p e four = let (above, below) = low f (folder_kind p.sort f (w.kinds f p e)) in omega arith

-- one message changed, and no place
pub record Changes (T : Tree) (m : ℕ) (now : Option Mes) (o : Outcome) : Type 0 where
  pub here : as_message (now_at T o.changed m) ≡ now
  pub others : (k : ℕ) → k % 32 ≡ 4 → (k ≡ m → ⊥) → now_at T o.changed k ≡ now_at T nothing k
  pub places_are : o.places ≡ T.places

changes : (T : Tree) (m : ℕ) (x : Option Object) (o : Outcome) → PutsMessage (now_at T nothing) (now_at T o.changed) m x → o.places ≡ T.places → Changes T m (as_message x) o
changes T m x o puts same = record { here = ap as_message puts.here; others = puts.others; places_are = same }

-- where no message may stand none does
pub no_message : (q : ℕ) (o : Option Object) → ((x : Object) → o ≡ Some x → fits_id q x ≡ true) → (q % 32 ≡ 4 → ⊥) → as_message o ≡ None
no_message q None fits other = refl
no_message q (Some (Context c)) fits other = refl
no_message q (Some (Table t)) fits other = refl
no_message q (Some (Bare parent)) fits other = refl
no_message q (Some (Message m)) fits other = absurd (other (message_id q m (fits (Message m) refl)).0)

-- the same in the words of mail
pub only_message : (T : Tree) (m : ℕ) (now : Option Mes) (o : Outcome) → Before T → Keeps T o → Changes T m now o → OnlyMessage T (after T o) m now
only_message T m now o w w' c = record {
  here = ap (λ g. as_message (g m)) (sym (after_now T o)) ∙ c.here;
  others = λ k other. ap (λ g. as_message (g k)) (sym (after_now T o)) ∙ elim (cases_eq (k % 32) 4) [
    | inl four ↦ ap as_message (c.others k four other)
    | inr four ↦ no_message k (now_at T o.changed k) (w'.typed k) four ∙ sym (no_message k (now_at T nothing k) (w.typed k) four)
  ] ∙ ap (λ g. as_message (g k)) (now_nothing T);
  places = c.places_are;
}

-- `rm`
pub removes : (T : Tree) (m : ℕ) → Before T → IfOk (removed_message T m) (Changes T m None)
unfolding removed_message
removes T m w = if_then _ (Changes T m None) (message_in T m) _ (from_fine _ (message_in T m) (fine_message_in T m w)) (λ M h.
    let D = with_object m None nothing in let v = home_of T w m M h.0 in let a = drop_shown T (contents M.folder) m D in
    if_weaker (Comes Four no_table T D T.places (replied Done)) (Changes T m None) (a >>= settled T T.places M.folder >>= changing T (replied Done))
    (then_changing Four no_table T D (a >>= settled T T.places M.folder) (replied Done) (then_settled Four no_table T T.places M.folder D a (place_apart T w M.folder v.1 v.2)
    (drop_keeps Four no_table T (contents M.folder) m D (table_apart M.folder 14 (omega arith) (omega arith)))))
    (λ o c. changes T m None o (kept_after _ _ _ m None h.1 (puts_object T nothing m None) c.keeps) c.places_are))

-- `mv`
abbrev pub Moved : Tree → ℕ → ℕ → Outcome → Type 0
Moved T m folder o = (M : Mes) × (now_at T nothing m ≡ Some (Message M)) × Changes T m (Some (in_folder folder M)) o

pub moves : (T : Tree) (m folder : ℕ) → Before T → IfOk (moved_message T m folder) (Moved T m folder)
unfolding moved_message
moves T m folder w = if_then _ (Moved T m folder) (message_in T m) _ (from_fine _ (message_in T m) (fine_message_in T m w)) (λ M h. elim (cases_Option (find_place folder T.places)) [
  | inl e ↦ rw e tt
  | inr p ↦ rw p.1 (elim (cases_Bool (is_plain p.0)) [
    | inr plain ↦ rw plain tt
    | inl plain ↦ rw plain (elim (cases_Bool (M.folder == folder)) [
      | inl b ↦ rw b (M, h.0, record { here = ap as_message h.0 ∙ ap (λ x. Some (in_folder x M)) (eqb-true M.folder folder b); others = λ k four other. refl; places_are = refl })
      | inr b ↦
          let N = in_folder folder M in let D = with_object m (Some (Message N)) nothing in let v = home_of T w m M h.0 in
          rw b (if_then (KeepsAt Four T D) (Moved T m folder) (drop_shown T (contents M.folder) m D) _ (drop_keeps Four no_table T (contents M.folder) m D (table_apart M.folder 14 (omega arith) (omega arith))) (λ D' k.
          let a = add_shown T (contents folder) m M.props D' in
          if_weaker (Comes Four no_table T D' T.places (replied Done)) (Moved T m folder) (a >>= settled T T.places M.folder >>= settled T T.places folder >>= changing T (replied Done))
          (then_changing Four no_table T D' (a >>= settled T T.places M.folder >>= settled T T.places folder) (replied Done)
          (then_settled Four no_table T T.places folder D' (a >>= settled T T.places M.folder) (place_apart T w folder p.0 p.1)
          (then_settled Four no_table T T.places M.folder D' a (place_apart T w M.folder v.1 v.2) (add_keeps Four no_table T (contents folder) m M.props D' (table_apart folder 14 (omega arith) (omega arith))))))
          (λ o c. (M, h.0, changes T m (Some (Message N)) o (kept_after _ _ _ m (Some (Message N)) h.1 (puts_object T nothing m (Some (Message N))) (λ q four. c.keeps q four ∙ k q four)) c.places_are))))
    ])
  ])
])

-- a new message
pub record Adds (T : Tree) (M : Mes) (index : ℕ) (o : Outcome) : Type 0 where
  pub changes_it : Changes T M.nid (Some M) o
  pub reply_is : o.reply ≡ replied (Made (nid (new_id 4 index)))

adds : (T : Tree) (a : Answer Changed) → IfOk a (λ D. now_at T D ≡ now_at T nothing) → (M : Mes) (p : FolderPlace) (index : ℕ) → Before T → M.nid % 32 ≡ 4 → find_place M.folder T.places ≡ Some p → IfOk (a >>= added_message T M >>= making T T.places 4 index) (Adds T M index)
adds T (Err e) same M p index w four found = tt
adds T (Ok D0) same M p index w four found =
    let D = with_object M.nid (Some (Message M)) D0 in
    let a = add_shown T (contents M.folder) M.nid M.props D in
    let puts = subst (λ at. Puts at (now_at T D) M.nid (Some (Message M))) same (puts_object T D0 M.nid (Some (Message M))) in
    if_weaker (Comes Four no_table T D T.places (replied (Made (nid (new_id 4 index))))) (Adds T M index) (a >>= settled T T.places M.folder >>= making T T.places 4 index)
    (then_making Four no_table T D (a >>= settled T T.places M.folder) T.places 4 index
    (then_settled Four no_table T T.places M.folder D a (place_apart T w M.folder p found) (add_keeps Four no_table T (contents M.folder) M.nid M.props D (table_apart M.folder 14 (omega arith) (omega arith)))))
    (λ o c. record { changes_it = changes T M.nid (Some (Message M)) o (kept_after _ _ _ M.nid (Some (Message M)) four puts c.keeps) c.places_are; reply_is = c.reply_is })

-- `cp`
abbrev pub Copied : Tree → ℕ → ℕ → Outcome → Type 0
Copied T m folder o = (M : Mes) × (index : ℕ) × (now_at T nothing m ≡ Some (Message M)) × (now_at T nothing (new_id 4 index) ≡ None) × Adds T (copy_of (new_id 4 index) folder M) index o

pub copies : (T : Tree) (m folder : ℕ) → Before T → IfOk (copied_message T m folder) (Copied T m folder)
unfolding copied_message copying
copies T m folder w = if_then _ (Copied T m folder) (message_in T m) _ (from_fine _ (message_in T m) (fine_message_in T m w)) (λ M h. elim (cases_Option (find_place folder T.places)) [
  | inl e ↦ rw e tt
  | inr p ↦ rw p.1 (elim (cases_Bool (is_plain p.0)) [
    | inr plain ↦ rw plain tt
    | inl plain ↦ rw plain (elim (cases_Bool (is_overfull M.recipients || is_overfull M.attachments)) [
      | inl b ↦ rw b tt
      | inr b ↦ rw b (if_then (λ u. Unit {0}) (Copied T m folder) (unless_full T (contents folder)) _ (if_any (unless_full T (contents folder))) (λ u v. elim (cases_Bool (is_spent (next_index T 4 message_kinds))) [
        | inl t ↦ never_made T T.places 4 (next_index T 4 message_kinds) (Copied T m folder) (touched T M.folder nothing >>= added_message T (copy_of (new_id 4 (next_index T 4 message_kinds)) folder M)) t
        | inr t ↦
            let index = next_index T 4 message_kinds in let id = new_message_id T t in
            let N = copy_of (new_id 4 index) folder M in
            let touches = touched T M.folder nothing in
            (if_weaker (Adds T N index) (Copied T m folder) (touches >>= added_message T N >>= making T T.places 4 index)
            (adds T touches (from_fine (λ D. now_at T D ≡ now_at T nothing) touches (fine_home T w m M h.0)) N p.0 index w id.0 p.1) (λ o a. (M, index, h.0, id.1, a)))
      ]))
    ])
  ])
])

-- values but for the flags and the size stay as a message is made right
pub finished_find : (m : Mes) (id : ℕ) → (id ≡ 0x0E07 → ⊥) → (id ≡ 0x0E08 → ⊥) → find id (finished m).props ≡ find id m.props
unfolding finished with_attachment_flag
finished_find m id no_flags no_size =
    find-put_other (λ v. v.id) id (number 0x0E08 (size (with_props (with_attachment_flag (has_parts m.parts) m.props) m))) (with_attachment_flag (has_parts m.parts) m.props) no_size
    ∙ flagged (has_parts m.parts) m.props
  where
    flagged : (on : Bool) (props : List Val) → find id (with_attachment_flag on props) ≡ find id props
    flagged on props = elim (cases_Bool (is_some (bytes_of 0x0E07 0x0003 props))) [
      | inl b ↦ rw b (find-put_other (λ v. v.id) id (number 0x0E07 (with_flag on (number_of 0x0E07 props))) props no_flags)
      | inr b ↦ rw b (elim (cases_Bool on) [
        | inl c ↦ rw c (find-put_other (λ v. v.id) id (number 0x0E07 16) props no_flags)
        | inr c ↦ rw c refl
      ])
    ]

-- `new`
pub record IsNew (folder : ℕ) (class : List ℕ) (time : ℕ) (M : Mes) : Type 0 where
  pub folder_is : M.folder ≡ folder
  pub class_is : find 0x001A M.props ≡ Some (text 0x001A class)
  pub time_is : find 0x3007 M.props ≡ Some (time_value 0x3007 time)

new_is : (m folder : ℕ) (class : List ℕ) (time : ℕ) (store values : List Val) → list_any is_withheld values ≡ false → IsNew folder class time (finished (plain_message m folder (message_props m class time store values)))
new_is m folder class time store values none = record {
  folder_is = finished_folder (plain_message m folder (message_props m class time store values));
  class_is = finished_find (plain_message m folder (message_props m class time store values)) 0x001A (λ e. omega arith) (λ e. omega arith) ∙ find_withheld 0x001A values (own_props m class time store) refl none;
  time_is = finished_find (plain_message m folder (message_props m class time store values)) 0x3007 (λ e. omega arith) (λ e. omega arith) ∙ find_withheld 0x3007 values (own_props m class time store) refl none;
}

abbrev pub MadeNew : Tree → ℕ → List ℕ → ℕ → List Val → Outcome → Type 0
MadeNew T folder class time values o = (index : ℕ) × (M : Mes) × (M.nid ≡ new_id 4 index) × (now_at T nothing (new_id 4 index) ≡ None) × IsNew folder class time M × Adds T M index o
    × ((store : Ctx) × (now_at T nothing 0x21 ≡ Some (Context store)) × (M ≡ finished (plain_message (new_id 4 index) folder (message_props (new_id 4 index) class time store.props values))) × (list_any is_withheld values ≡ false))

pub makes : (T : Tree) (folder : ℕ) (class : List ℕ) (time : ℕ) (values : List Val) → Before T → IfOk (new_message T folder class time values) (MadeNew T folder class time values)
unfolding new_message given_message making_message
makes T folder class time values w = elim (cases_Bool (list_any is_withheld values)) [
  | inl given ↦ rw given tt
  | inr none ↦ rw none (elim (cases_Option (find_place folder T.places)) [
    | inl e ↦ rw e tt
    | inr p ↦ rw p.1 (elim (cases_Bool (is_plain p.0)) [
      | inr plain ↦ rw plain tt
      | inl plain ↦
          let store = store_of w in
          rw (plain, store.1) (if_then (λ u. Unit {0}) (MadeNew T folder class time values) (unless_full T (contents folder)) _ (if_any (unless_full T (contents folder))) (λ u v. elim (cases_Bool (is_spent (next_index T 4 message_kinds))) [
            | inl t ↦
                let index = next_index T 4 message_kinds in
                let N = plain_message (new_id 4 index) folder (message_props (new_id 4 index) class time store.0.props values) in
                never_made T T.places 4 index (MadeNew T folder class time values) (added_message T (finished N) nothing) t
            | inr t ↦
                let index = next_index T 4 message_kinds in let id = new_message_id T t in
                let N = plain_message (new_id 4 index) folder (message_props (new_id 4 index) class time store.0.props values) in
                (if_weaker (Adds T (finished N) index) (MadeNew T folder class time values) (added_message T (finished N) nothing >>= making T T.places 4 index)
                (adds T (Ok nothing) refl (finished N) p.0 index w (ap (λ x. x % 32) (finished_id N) ∙ id.0) (ap (λ x. find_place x T.places) (finished_folder N) ∙ p.1))
                (λ o a. (index, finished N, finished_id N, id.1, new_is (new_id 4 index) folder class time store.0.props values none, a, (store.0, store.1, refl, none))))
          ]))
    ])
  ])
]

-- a message that became another
pub remakes : (T : Tree) (m : ℕ) (M new : Mes) (reason : Option CommandRefusal) (last : LastLine) → Before T → now_at T nothing m ≡ Some (Message M) → m % 32 ≡ 4 → new.nid ≡ M.nid → new.folder ≡ M.folder
    → IfOk (remaking T new reason last) (λ o. Changes T m (Some (finished new)) o × (o.reply ≡ replied last))
unfolding remaking
remakes T m M new reason last w is four same there =
    let N = finished new in
    let D0 = nothing in
    let D = with_object N.nid (Some (Message N)) D0 in let v = home_of T w m M is in
    let nid : N.nid ≡ m = finished_id new ∙ same ∙ v.0 in
    let folder : N.folder ≡ M.folder = finished_folder new ∙ there in
    let a = put_shown T (contents N.folder) N.nid N.props D in
    let Q : Outcome → Type 0 = λ o. Changes T m (Some N) o × (o.reply ≡ replied last) in
    if_replying T (a >>= settled T T.places N.folder) reason (replied last) Q
    (if_weaker (Comes Four no_table T D T.places (replied last)) Q (a >>= settled T T.places N.folder >>= changing T (replied last))
    (then_changing Four no_table T D (a >>= settled T T.places N.folder) (replied last) (then_settled Four no_table T T.places N.folder D a (place_apart T w N.folder v.1 (ap (λ x. find_place x T.places) folder ∙ v.2))
    (put_keeps Four no_table T (contents N.folder) N.nid N.props D (table_apart N.folder 14 (omega arith) (omega arith)))))
    (λ o c. (
      subst (λ x. Changes T x (Some N) o) nid (changes T N.nid (Some (Message N)) o (kept_after _ _ _ N.nid (Some (Message N)) (ap (λ x. x % 32) nid ∙ four) (puts_object T D0 N.nid (Some (Message N))) c.keeps) c.places_are),
      c.reply_is,
    )))

-- but for its flags and its size the message's values are these
abbrev pub ButForFlags : List Val → List Val → Type 0
ButForFlags old new = (id : ℕ) → (id ≡ 0x0E07 → ⊥) → (id ≡ 0x0E08 → ⊥) → find id new ≡ find id old

finished_is : (new : Mes) → finished new ≡ with_props (finished new).props new
unfolding finished
finished_is new = refl

-- a message becomes what this makes of it, but for its flags and its size
abbrev pub Remade : Tree → ℕ → (Mes → Mes) → Outcome → Type 0
Remade T m make o = (M : Mes) × (props : List Val) × (now_at T nothing m ≡ Some (Message M)) × Changes T m (Some (with_props props (make M))) o × ButForFlags (make M).props props

abbrev is_remade : (T : Tree) (m : ℕ) (M : Mes) (make : Mes → Mes) (o : Outcome) → now_at T nothing m ≡ Some (Message M) → Changes T m (Some (finished (make M))) o → Remade T m make o
is_remade T m M make o is c = (M, (finished (make M)).props, is, subst (λ x. Changes T m (Some x) o) (finished_is (make M)) c, λ id no_flags no_size. finished_find (make M) id no_flags no_size)

remade : (T : Tree) (m : ℕ) (M : Mes) (make : Mes → Mes) (reason : Option CommandRefusal) (last : LastLine) → Before T → now_at T nothing m ≡ Some (Message M) → m % 32 ≡ 4 → (make M).nid ≡ M.nid → (make M).folder ≡ M.folder
    → IfOk (remaking T (make M) reason last) (λ o. Remade T m make o × (o.reply ≡ replied last))
remade T m M make reason last w is four same there =
    if_weaker (λ o. Changes T m (Some (finished (make M))) o × (o.reply ≡ replied last)) (λ o. Remade T m make o × (o.reply ≡ replied last)) (remaking T (make M) reason last)
    (remakes T m M (make M) reason last w is four same there)
    (λ o c. (is_remade T m M make o is c.0, c.1))

-- no row has the number that follows the greatest, or a greater one
past_rows : (rows : List (ℕ × List Val)) (row : ℕ) → next_row rows ≤ row → find_row row rows ≡ None
past_rows [] row past = refl
past_rows (r ∷ rs) row past = let other : (r.0 == row) ≡ false = ne_eqb r.0 row (λ e. omega arith) in rw other (past_rows rs row (omega arith))

-- the row of a new recipient is one that none has, where one is left
row_is : (row : ℕ) → is_spent_row row ≡ false → new_row row ≡ row
row_is row left = let le = ltb-false 4294967295 row left in omega arith

-- a recipient's row is given only where one is left
given_row : (T : Tree) (new : Mes) (row : ℕ) (last : LastLine) (Q : Outcome → Type 0) → (is_spent_row row ≡ false → IfOk (remaking T new (spent_row row) last) Q) → IfOk (remaking T new (spent_row row) last) Q
unfolding remaking
given_row T new row last Q left = elim (cases_Bool (is_spent_row row)) [
  | inr f ↦ left f
  | inl t ↦
      let N = finished new in
      let a = put_shown T (contents N.folder) N.nid N.props (with_object N.nid (Some (Message N)) nothing) >>= settled T T.places N.folder in
      rw t (if_then (λ D. Unit {0}) Q a _ (if_any a) (λ D u. if_then (λ v. Unit {0}) Q (within_limits T _ D) _ (if_any (within_limits T _ D)) (λ v v'. tt)))
]

-- `rcpt`
abbrev pub GotRecipient : Tree → ℕ → ℕ → List ℕ → List ℕ → Outcome → Type 0
GotRecipient T m kind address name o = (row : ℕ) × (r : Remade T m (with_recipient row (recipient_props kind address name)) o) × (o.reply ≡ replied (Row row)) × (find_row row (rows_of r.0.recipients) ≡ None)

pub adds_recipient : (T : Tree) (m kind : ℕ) (address name : List ℕ) → Before T → IfOk (added_recipient T m kind address name) (GotRecipient T m kind address name)
unfolding added_recipient adding_recipient
adds_recipient T m kind address name w =
    let Q = GotRecipient T m kind address name in
    if_then _ Q (message_in T m) _ (from_fine _ (message_in T m) (fine_message_in T m w)) (λ M h.
    let row = next_row (rows_of M.recipients) in
    let make = with_recipient (new_row row) (recipient_props kind address name) in
    if_test Q (is_full M.recipients) (Limit Rows) _ (if_test Q (is_wide recipient_tags M.recipients) (Limit Rows) _ (given_row T (make M) row (Row (new_row row)) Q (λ left.
    let free = past_rows (rows_of M.recipients) (new_row row) (omega (arith, row_is row left)) in
    if_weaker (λ o. Changes T m (Some (finished (make M))) o × (o.reply ≡ replied (Row (new_row row)))) Q (remaking T (make M) (spent_row row) (Row (new_row row)))
    (remakes T m M (make M) (spent_row row) (Row (new_row row)) w h.0 h.1 refl refl) (λ o k. let r = is_remade T m M make o h.0 k.0 in (new_row row, (M, r.1, h.0, r.3, r.4), k.1, free))))))

-- `unrcpt`
pub removes_recipient : (T : Tree) (m row : ℕ) → Before T → IfOk (removed_recipient T m row) (Remade T m (without_recipient row))
unfolding removed_recipient
removes_recipient T m row w =
    let Q = Remade T m (without_recipient row) in
    if_then _ Q (message_in T m) _ (from_fine _ (message_in T m) (fine_message_in T m w)) (λ M h.
    if_test Q (not (has_recipient row M)) NoObject _ (if_weaker (λ o. Remade T m (without_recipient row) o × (o.reply ≡ replied Done)) Q (remaking T (without_recipient row M) None Done)
    (remade T m M (without_recipient row) None Done w h.0 h.1 refl refl) (λ o k. k.0)))

-- what is refused where there is a reason answers only where there is none
no_reason : (T : Tree) (new : Mes) (spent : Bool) (refusal : CommandRefusal) (last : LastLine) (Q : Outcome → Type 0)
    → (spent ≡ false → IfOk (remaking T new (if spent then Some refusal else None) last) Q) → IfOk (remaking T new (if spent then Some refusal else None) last) Q
unfolding remaking
no_reason T new false refusal last Q left = left refl
no_reason T new true refusal last Q left =
    let N = finished new in
    let a = put_shown T (contents N.folder) N.nid N.props (with_object N.nid (Some (Message N)) nothing) >>= settled T T.places N.folder in
    if_then (λ D. Unit {0}) Q a _ (if_any a) (λ D u. if_then (λ v. Unit {0}) Q (within_limits T _ D) _ (if_any (within_limits T _ D)) (λ v v'. tt))

-- where an index is left a message gets its attachment as it is
room_is : (index : ℕ) (M : Mes) → is_spent index ≡ false → room_for index M ≡ M
room_is index M left = rw left refl

-- the id of a new attachment is one that no attachment has, where an index is left
free_part : (M : Mes) → is_spent (next_part M) ≡ false → part_in (part_nid (next_part M)).bits M ≡ None
unfolding next_part
free_part M left =
    let index = suc (max 1024 (max (greatest_part M.parts) (greatest_kept M.kept))) in
    let le = ltb-false 134217727 index left in
    ap (λ (n : ℕ). part_in n M) (new_id_is 5 index le) ∙ past_parts M.parts index (omega arith)

-- `attach`
abbrev pub GotAttachment : Tree → ℕ → List ℕ → Held → Outcome → Type 0
GotAttachment T m name held o = (n : Nid) × (r : Remade T m (with_attachment (new_part n name held)) o) × (o.reply ≡ replied (Attached n)) × (part_in n.bits r.0 ≡ None)

pub adds_attachment : (T : Tree) (m : ℕ) (name : List ℕ) (held : Held) → Before T → IfOk (added_attachment T m name held) (GotAttachment T m name held)
unfolding added_attachment adding_attachment
adds_attachment T m name held w =
    let Q = GotAttachment T m name held in
    if_then _ Q (message_in T m) _ (from_fine _ (message_in T m) (fine_message_in T m w)) (λ M h.
    let index = next_part M in
    let make = with_attachment (new_part (part_nid index) name held) in
    let new = make (room_for index M) in
    let last = Attached (part_nid index) in
    if_test Q (is_full M.attachments) (Limit Rows) _ (if_test Q (is_wide attachment_tags M.attachments) (Limit Rows) _ (no_reason T new (is_spent index) Ids last Q (λ left.
    if_weaker (λ o. Changes T m (Some (finished new)) o × (o.reply ≡ replied last)) Q (remaking T new (spent_index index) last)
    (remakes T m M new (spent_index index) last w h.0 h.1 refl refl)
    (λ o k. let r = is_remade T m M make o h.0 (subst (λ x. Changes T m (Some (finished (make x))) o) (room_is index M left) k.0) in (part_nid index, (M, r.1, h.0, r.3, r.4), k.1, free_part M left))))))

-- data that doesn't get too long has these bytes more
lengthened_is : (old more : List ℕ) → is_too_long old more ≡ false → lengthened old more ≡ old ++ more
unfolding lengthened
lengthened_is old more short = rw short refl

-- `append`
abbrev pub Appended : Tree → ℕ → ℕ → List ℕ → Outcome → Type 0
Appended T m n more o = (a : Part × List ℕ) × (r : Remade T m (with_part (part_with (with_bytes (a.1 ++ more) a.0.props) a.0)) o) × ((part_in n r.0 ≡ Some a.0) × (bytes_of 0x3701 0x0102 a.0.props ≡ Some a.1))

pub appends_data : (T : Tree) (m n : ℕ) (more : List ℕ) → Before T → IfOk (appended_data T m n more) (Appended T m n more)
unfolding appended_data appending
appends_data T m n more w =
    let Q = Appended T m n more in
    if_then _ Q (message_in T m) _ (from_fine _ (message_in T m) (fine_message_in T m w)) (λ M h.
    if_found Q NoObject (part_in n M) _ (λ part is. if_found Q NoProperty (bytes_of 0x3701 0x0102 part.props) _ (λ old is'.
    let planned = with_bytes (lengthened old more) part.props in
    let make = with_part (part_with (with_bytes (old ++ more) part.props) part) in
    let new = with_part (part_with planned part) M in
    no_reason T new (is_too_long old more) (Limit LongValue) Done Q (λ short.
    if_weaker (λ o. Changes T m (Some (finished new)) o × (o.reply ≡ replied Done)) Q (remaking T new (too_long old more) Done)
    (remakes T m M new (too_long old more) Done w h.0 h.1 refl refl)
    (λ o k. let r = is_remade T m M make o h.0 (subst (λ x. Changes T m (Some (finished (with_part (part_with (with_bytes x part.props) part) M))) o) (lengthened_is old more short) k.0) in
    ((part, old), (M, r.1, h.0, r.3, r.4), (is, is')))))))

-- `eset` and `eunset`
abbrev pub HasEmbedded : Tree → ℕ → ℕ → Sub → Outcome → Type 0
HasEmbedded T m n node o = (part : Part) × (r : Remade T m (with_part (part_holding node part)) o) × (part_in n r.0 ≡ Some part)

pub sets_embedded : (T : Tree) (m n : ℕ) (node : Sub) → Before T → IfOk (set_embedded T m n node) (HasEmbedded T m n node)
unfolding set_embedded
sets_embedded T m n node w =
    let Q = HasEmbedded T m n node in
    if_then _ Q (message_in T m) _ (from_fine _ (message_in T m) (fine_message_in T m w)) (λ M h.
    if_found Q NoObject (part_in n M) _ (λ part is.
    let make = with_part (part_holding node part) in
    if_weaker (λ o. Changes T m (Some (finished (make M))) o × (o.reply ≡ replied Done)) Q (remaking T (make M) None Done)
    (remakes T m M (make M) None Done w h.0 h.1 refl refl)
    (λ o k. let r = is_remade T m M make o h.0 k.0 in (part, (M, r.1, h.0, r.3, r.4), is))))

-- `detach`
pub removes_attachment : (T : Tree) (m n : ℕ) → Before T → IfOk (removed_attachment T m n) (Remade T m (without_attachment n))
unfolding removed_attachment
removes_attachment T m n w =
    let Q = Remade T m (without_attachment n) in
    if_then _ Q (message_in T m) _ (from_fine _ (message_in T m) (fine_message_in T m w)) (λ M h.
    if_test Q (not (is_some (part_in n M))) NoObject _ (if_weaker (λ o. Remade T m (without_attachment n) o × (o.reply ≡ replied Done)) Q (remaking T (without_attachment n M) None Done)
    (remade T m M (without_attachment n) None Done w h.0 h.1 refl refl) (λ o k. k.0)))

-- `set` and `unset`
abbrev pub ChangedValues : Tree → ℕ → (Mes → List Val) → Outcome → Type 0
ChangedValues T m values o = (M : Mes) × (props : List Val) × (now_at T nothing m ≡ Some (Message M)) × Changes T m (Some (with_props props M)) o × ((id : ℕ) → (id ≡ 0x0E07 → ⊥) → (id ≡ 0x0E08 → ⊥) → find id props ≡ find id (values M))

changed : (T : Tree) (m : ℕ) (M : Mes) (values : Mes → List Val) → Before T → now_at T nothing m ≡ Some (Message M) → m % 32 ≡ 4 → IfOk (changed_message T M (values M)) (ChangedValues T m values)
unfolding changed_message
changed T m M values w is four =
    if_weaker (λ o. Remade T m (λ N. with_props (values N) N) o × (o.reply ≡ replied Done)) (ChangedValues T m values) (remaking T (with_props (values M) M) None Done)
    (remade T m M (λ N. with_props (values N) N) None Done w is four refl refl) (λ o k. k.0)

pub sets : (T : Tree) (m : ℕ) (v : Val) → Before T → IfOk (set_value T m v) (λ o. ChangedValues T m (λ M. put v M.props) o × (v.id ≡ 0x0E08 → ⊥))
unfolding set_value
sets T m v w = if_then _ _ (message_in T m) _ (from_fine _ (message_in T m) (fine_message_in T m w)) (λ M h. elim (cases_Bool (is_set_protected v.id M.props)) [
  | inl t ↦ rw t tt
  | inr t ↦ rw t (if_then (λ u. Unit {0}) _ (unless_nameless T v.id) _ (if_any (unless_nameless T v.id)) (λ u x.
      if_weaker (ChangedValues T m (λ M. put v M.props)) _ (changed_message T M (put v M.props)) (changed T m M (λ M. put v M.props) w h.0 h.1)
      (λ o c. (c, eqb-false v.id 0x0E08 (or_parts (v.id == 0x0E08) _ (or_parts (is_own_id v.id) (has_object v.id M.props) t).0).0))))
])

pub unsets : (T : Tree) (m : ℕ) (tag : Tag) → Before T → IfOk (unset_value T m tag) (λ o. ChangedValues T m (λ M. remove_id tag.id M.props) o × (tag.id ≡ 0x0E07 → ⊥) × (tag.id ≡ 0x0E08 → ⊥))
unfolding unset_value
unsets T m tag w = if_then _ _ (message_in T m) _ (from_fine _ (message_in T m) (fine_message_in T m w)) (λ M h. elim (cases_Bool (is_unset_protected tag.id tag.kind M.props)) [
  | inl t ↦ rw t tt
  | inr t ↦ rw t (elim (cases_Bool (is_some (bytes_of tag.id tag.kind M.props))) [
    | inr u ↦ rw u tt
    | inl u ↦
        let own = or_parts (is_own_id tag.id) _ t in
        rw u (if_weaker (ChangedValues T m (λ M. remove_id tag.id M.props)) _ (changed_message T M (remove_id tag.id M.props)) (changed T m M (λ M. remove_id tag.id M.props) w h.0 h.1)
        (λ o c. (c, eqb-false tag.id 0x0E07 (or_parts (tag.id == 0x0E07) _ own.1).0, eqb-false tag.id 0x0E08 (or_parts (tag.id == 0x0E08) _ own.0).0)))
  ])
])

-- a message of a whole tree is found
pub message_found : (T : Tree) (m : ℕ) (M : Mes) → Before T → now_at T nothing m ≡ Some (Message M) → message_in T m ≡ Ok M
unfolding message_in
message_found T m M w is =
    let four = (message_id m M (w.typed m (Message M) is)).0 in
    let v = w.held m M is in
    let is' : object_at T m ≡ Some (Message M) = sym (ap (λ g. g m) (now_nothing T)) ∙ is in
    let now = rw is' at is in
    rw (eq-eqb (m % 32) 4 four) (rw is' (rw (v.1, v.2, v.3.1, v.3.2, now) refl))
