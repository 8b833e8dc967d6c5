-- What is known of objects after changes.
use Rattle.std.proofs.Common.{◌≡◌, ◌∙◌, ◌==◌, ◌&&◌, ◌++◌, ℕ, Bool, T, true, false, not, cond, if◌then◌else◌, List, [], ◌∷◌, Option, None, Some, is_some, map as list_map, length, arith, refl, sym, ap, subst, ◌||◌}
use Rattle.std.proofs.lemmas.Bool.{eqb-true}
use Rattle.std.proofs.lemmas.Option.{same_Some}
use Rattle.std.specs.Ordering.{eq_by_cmp, nat_cmp}
use Rattle.std.specs.FinMap as map
use Rattle.std.specs.Map.{lookup}
use Rattle.std.specs.BTreeMap.{is_at}
use Rattle.mapi_values.specs.Characters.{folded}
use Rattle.mail_objects.specs.declared.object.Object.{Object}
use Rattle.mail_objects.specs.declared.object.Object.TheVariants.{Context, Table, Message, Bare}
use Rattle.mail_tree.specs.declared.note.Note.{Note}
use Rattle.mail_tree.specs.declared.note.Note.TheVariants.{Named, Unread}
use Rattle.mail_tree.specs.Changing.{Changed, newest}
use Rattle.mail_tree.specs.Flags.{AreFlags, FlagList, IsNoted, has_room, known_note, told}
use Rattle.mail_tree.specs.Folders.{Outcome}
use Rattle.mail_tree.specs.Step.{after}
use Rattle.mail_tree.specs.Tree.{Tree, object_at}
use Rattle.mail_tree.specs.Values.{is_read, name_of}
use Rattle.mail_tree.proofs.AfterTree.{after_now, tied}
use Rattle.mail_draft.specs.Unread.{entry_note, flag_changes, note_of}
use Rattle.mail_draft.proofs.SortedLaws.{first-once, sorted-rest}
use Rattle.mail_store.specs.Knowing.{GetsRoom, HasRooms, note_after, newly_known}

-- ---- room for what is to be known

pub rooms_stay : (old new : FlagList) (cs : List (ℕ × Option Note)) → ((q : ℕ) → has_room q old ≡ true → has_room q new ≡ true) → HasRooms old cs → HasRooms new cs
rooms_stay old new [] kept h = tt
rooms_stay old new (c ∷ cs) kept h = ((λ is. kept c.0 (h.0 is)), rooms_stay old new cs kept h.1)

pub one_room_more : (flags : FlagList) (cs : List (ℕ × Option Note)) (c : ℕ × Option Note) → HasRooms flags cs → GetsRoom flags c → HasRooms flags (cs ++ c ∷ [])
one_room_more flags [] c h is = (is, tt)
one_room_more flags (d ∷ cs) c h is = (h.0, one_room_more flags cs c h.1 is)

-- ---- entries that are written in turn

-- whether a message has an entry after one was written, and what that says then
abbrev pub room_then : Bool → Bool → Option Note → Bool
room_then here room said = room && (is_some said || not here)

abbrev pub note_then : Bool → Bool → Option Note → Option Note → Option Note
note_then here room said flag = if here && room then said else flag

-- what is known of a message after entries were written in turn
abbrev pub known_in_turn : ℕ → List (ℕ × Option Note) → Bool → Option Note → Option Note
known_in_turn q [] room flag = flag
known_in_turn q (c ∷ cs) room flag = known_in_turn q cs (room_then (q == c.0) room c.1) (note_then (q == c.0) room c.1 flag)

-- one was written
pub known_more : (q m : ℕ) (said : Option Note) (cs : List (ℕ × Option Note)) (old new : FlagList)
    → known_note q new ≡ (if (q == m) && has_room m old then said else known_note q old) → has_room q new ≡ has_room q old && (is_some said || not (q == m))
    → known_in_turn q ((m, said) ∷ cs) (has_room q old) (known_note q old) ≡ known_in_turn q cs (has_room q new) (known_note q new)
known_more q m said cs old new flag room = rw (room, flag, same (q == m) refl) refl
  where
    same : (b : Bool) → (q == m) ≡ b → ((q == m) && has_room m old) ≡ ((q == m) && has_room q old)
    same true e = ap (λ k. (q == m) && has_room k old) (sym (eqb-true q m e))
    same false e = rw e refl

hit : (room : Bool) (said flag : Option Note) → (room ≡ false → flag ≡ None)
    → (room_then true room said ≡ false → note_then true room said flag ≡ None) × ((if room_then true room said then note_then true room said flag else None) ≡ (if room then said else None))
hit true None flag none = ((λ e. refl), refl)
hit true (Some unread) flag none = ((λ e. cc), refl)
hit false said flag none = ((λ e. none refl), refl)

miss : (room : Bool) (said flag : Option Note) → (room_then false room said ≡ room) × (note_then false room said flag ≡ flag)
miss true None flag = (refl, refl)
miss true (Some unread) flag = (refl, refl)
miss false said flag = (refl, refl)

-- one entry, and then the others
in_turn_step : (q : ℕ) (e : ℕ × Option Object) (es : List (ℕ × Option Object)) (room : Bool) (flag : Option Note) → map.is_sorted nat_cmp (e ∷ es) ≡ true → (room ≡ false → flag ≡ None)
    → ((r : Bool) (f : Option Note) → (r ≡ false → f ≡ None) → known_in_turn q (list_map entry_note es) r f ≡ (if r then newly_known (map.find nat_cmp q es) f else None))
    → (b : Bool) → (q == e.0) ≡ b
    → known_in_turn q (list_map entry_note es) (room_then (q == e.0) room (note_of e.1)) (note_then (q == e.0) room (note_of e.1) flag)
    ≡ (if room then newly_known (cond (eq_by_cmp nat_cmp q e.0) (Some e.1) (map.find nat_cmp q es)) flag else None)
in_turn_step q e es room flag sorted none others true is =
    let said = note_of e.1 in
    let h = hit room said flag none in
    rw (tied true q e.0 is, is)
    (others (room_then true room said) (note_then true room said flag) h.0
    ∙ ap (λ r. if room_then true room said then newly_known r (note_then true room said flag) else None) (first-once q e es sorted (tied true q e.0 is))
    ∙ h.1)
in_turn_step q e es room flag sorted none others false is = let m = miss room (note_of e.1) flag in rw (tied false q e.0 is, is, m.0, m.1) (others room flag none)

in_turn_is : (q : ℕ) (es : List (ℕ × Option Object)) (room : Bool) (flag : Option Note) → map.is_sorted nat_cmp es ≡ true → (room ≡ false → flag ≡ None)
    → known_in_turn q (list_map entry_note es) room flag ≡ (if room then newly_known (map.find nat_cmp q es) flag else None)
in_turn_is q [] true flag sorted none = refl
in_turn_is q [] false flag sorted none = none refl
in_turn_is q (e ∷ es) room flag sorted none = in_turn_step q e es room flag sorted none (λ r f no. in_turn_is q es r f (sorted-rest e es sorted) no) (q == e.0) refl

holds_true : (b : Bool) → T b → b ≡ true
holds_true true t = refl
holds_true false t = absurd t

no_room : (entry : Option (Option Note)) → is_some entry ≡ false → told entry ≡ None
no_room None e = refl
no_room (Some said) e = cc

-- nothing is left to write
pub none_left : (cs : List (ℕ × Option Note)) → length cs ≡ 0 → cs ≡ []
none_left [] none = refl
none_left (c ∷ cs) none = absurd (omega (arith, none))

-- what changes put and remove was written in turn
pub flags_written : (D : Changed) (m : ℕ) (old : FlagList) → known_in_turn m (flag_changes D) (has_room m old) (known_note m old) ≡ note_after D m old
flags_written D m old =
    in_turn_is m (map.entries D.objects) (has_room m old) (known_note m old) (holds_true _ (map.entries_sorted D.objects)) (no_room (lookup (is_at (nat_cmp m)) old))
    ∙ ap (λ r. if has_room m old then newly_known r (known_note m old) else None) (sym (map.get-entries D.objects m))

-- ---- what is known is so

now_holds : (room : Bool) (put : Option (Option Object)) (object : Option Object) (known : Option Note) (said : Note)
    → (if room then newly_known put known else None) ≡ Some said → ((n : Note) → known ≡ Some n → IsNoted n object) → IsNoted said (newest put object)
now_holds false put object known said is before = cc
now_holds true None object known said is before = before said is
now_holds true (Some None) object known said is before = cc
now_holds true (Some (Some (Table t))) object known said is before = cc
now_holds true (Some (Some (Bare parent))) object known said is before = cc
now_holds true (Some (Some (Context c))) object known said is before =
    subst (λ (n : Note). IsNoted n (Some (Context c))) (same_Some (Named (folded false (name_of c.props))) said is) (c, refl, refl)
now_holds true (Some (Some (Message M))) object known said is before =
    subst (λ (n : Note). IsNoted n (Some (Message M))) (same_Some (Unread (not (is_read M.props))) said is) (M, refl, refl)

-- what is known after a command is so of the tree after it
pub flags_hold : (T : Tree) (o : Outcome) (old new : FlagList) → ((q : ℕ) → known_note q new ≡ note_after o.changed q old) → AreFlags (object_at T) old → AreFlags (object_at (after T o)) new
flags_hold T o old new are before q note is =
    subst (IsNoted note) (ap (λ (at : ℕ → Option Object). at q) (after_now T o))
    (now_holds (has_room q old) (map.get o.changed.objects q) (object_at T q) (known_note q old) note (sym (are q) ∙ is) (before q))

-- nothing is known
pub nothing_known : (at : ℕ → Option Object) (flags : FlagList) → flags ≡ [] → AreFlags at flags
nothing_known at flags none q note is = absurd (let clash : None ≡ Some note = ap (known_note q) (sym none) ∙ is in cc)
