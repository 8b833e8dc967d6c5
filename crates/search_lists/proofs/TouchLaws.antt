-- The messages that each command touches are all that matter to searches.
use Rattle.std.proofs.Common.{◌≡◌, ◌∙◌, ℕ, ◌==◌, true, false, List, [], ◌∷◌, ◌++◌, Option, None, Some, IfOk, ap, sym, refl, subst, inl, inr}
use Rattle.std.proofs.lemmas.Bool.{cases_Bool, cases_eq, eq-eqb, false≢true}
use Rattle.std.specs.FinMap as map
use Rattle.mapi_values.specs.Messages.{Mes}
use Rattle.command_text.specs.declared.command.Command.{Command}
use Rattle.command_text.specs.declared.command.Command.TheVariants.{MakeFolder, RenameFolder, MoveFolder, RemoveFolder, ListFolder, NewMessage, SetProperty, UnsetProperty, GetProperty, ListProperties, MoveMessage, CopyMessage, RemoveMessage, AddRecipient, RemoveRecipient, AddAttachment, AppendData, RemoveAttachment, FetchData, Save, Quit, NameProperty, MakeSearch, SetCriteria, GetCriteria, SetEmbedded}
use Rattle.command_text.specs.declared.reply.CommandRefusal.TheVariants.{Cycle}
use Rattle.command_text.specs.declared.reply.LastLine.TheVariants.{Done, Made}
use Rattle.command_text.specs.declared.reply.Reply.{Reply}
use Rattle.mail_objects.specs.declared.object.Object.{Object}
use Rattle.mail_objects.specs.declared.object.Object.TheVariants.{Bare, Context, Message, Table}
use Rattle.mail_tree.specs.declared.places.FolderPlace.{FolderPlace}
use Rattle.mail_tree.specs.Changing.{as_message, newest, nothing, now_at, refused_if}
use Rattle.mail_tree.specs.Folders.{Outcome, folder_in, moved_folder, nid, place, replied, unchanged, unless_plain, unless_protected}
use Rattle.mail_tree.specs.Ids.{new_id}
use Rattle.mail_tree.specs.Messages.{copy_of, in_folder}
use Rattle.mail_tree.specs.Names.{NAMES}
use Rattle.mail_tree.specs.Parts.{new_part, part_with, recipient_props, with_attachment, with_bytes, with_part, with_recipient, without_attachment, without_recipient, part_holding}
use Rattle.mail_tree.specs.Places.{ROOT, find_place, is_within, path}
use Rattle.mail_tree.specs.Step.{after, outcome}
use Rattle.mail_tree.specs.Tree.{Tree, object_at}
use Rattle.mail_tree.specs.Values.{with_props}
use Rattle.mail_tree.specs.Whole.{AreWhole, Fine, IsWhole}
use Rattle.mail_tree.proofs.AfterTree.{after_now, now_nothing}
use Rattle.mail_tree.proofs.FineLaws.{cases_Option, fine_weaker}
use Rattle.mail_laws.specs.Laws.{FindsName, OnlyMessage, OnlyPlace, message_with}
use Rattle.mail_laws.proofs.Effects as effects
use Rattle.mail_laws.proofs.FolderSteps.{not_placed}
use Rattle.mail_laws.proofs.Keeping.{if_any, if_then, if_weaker}
use Rattle.mail_laws.proofs.LawSteps.{before, both_hold, reads_only}
use Rattle.mail_laws.proofs.MessageSteps.{Before, Keeps}
use Rattle.mail_laws.proofs.NameEffects.{finds_name}
use Rattle.mail_laws.proofs.PlaceEffects as places
use Rattle.mail_searches.specs.Searches.{is_listed}
use Rattle.mail_searches.specs.Relisting.{Touch}
use Rattle.mail_searches.specs.Touching.{made, messages_below, stands_in, touch_at, touched}
use Rattle.mail_searches.specs.Searching.{Each}
use Rattle.search_lists.specs.Laws.{AreTouched, TouchesAll, is_touched}
use Rattle.search_lists.proofs.BelowLaws.{Stays, below-folder}
use Rattle.search_lists.proofs.RowLaws.{none-is}
use Rattle.search_lists.proofs.ScopeLaws.{meets-none, placed-out, same-listed}

-- one message is touched, and no other changed
one_touch : (T : Tree) (o : Outcome) (m : ℕ) (now : Option Mes) → OnlyMessage T (after T o) m now → AreTouched T o (touch_at T o m ∷ [])
one_touch T o m now only = record {
  old = (refl, tt);
  new = (ap (λ g. as_message (g m)) (after_now T o), tt);
  same = (λ kept. ap (λ x. as_message (newest x (object_at T m))) (none-is (map.get o.changed.objects m) kept), tt);
  stay = λ k none. only.others k (apart k none);
  others = λ s k none. sym (ap (λ places. is_listed places s (message_with (after T o) k)) only.places ∙ ap (is_listed T.places s) (only.others k (apart k none)));
}
  where
    apart : (k : ℕ) → is_touched (touch_at T o m ∷ []) k ≡ false → k ≡ m → ⊥
    apart k none e = false≢true (sym none ∙ rw (eq-eqb m k (sym e)) refl)

-- nothing is touched, where each message and each place of a folder is as it was
none_touched : (T : Tree) (o : Outcome) → ((k : ℕ) → message_with (after T o) k ≡ message_with T k) → o.places ≡ T.places → AreTouched T o []
none_touched T o messages places = record {
  old = tt;
  new = tt;
  same = tt;
  stay = λ k none. messages k;
  others = λ s k none. sym (ap (λ ps. is_listed ps s (message_with (after T o) k)) places ∙ ap (is_listed T.places s) (messages k));
}

-- where each folder stands as it stood all is listed as it was
stands : (T : Tree) (o : Outcome) (f : ℕ) (p : FolderPlace) → find_place f T.places ≡ Some p → OnlyPlace T (after T o) f (Some p) → AreTouched T o []
stands T o f p was only =
    let same : (g : ℕ) → find_place g o.places ≡ find_place g T.places = λ g. elim (cases_eq g f) [
      | inl e ↦ ap (λ x. find_place x o.places) e ∙ only.here ∙ sym was ∙ ap (λ x. find_place x T.places) (sym e)
      | inr n ↦ only.others g n
    ] in
    record {
      old = tt;
      new = tt;
      same = tt;
      stay = λ k none. only.messages k;
      others = λ s k none. sym (ap (is_listed o.places s) (only.messages k) ∙ same-listed (λ g. false) T.places o.places (λ g e. same g) s (message_with T k) (λ m is. meets-none (path T.places m.folder)));
    }

not_same : (f g : ℕ) → (g == f) ≡ false → g ≡ f → ⊥
not_same f g n e = false≢true (sym n ∙ eq-eqb g f e)

-- a message's folder is placed in a whole tree
home : (T : Tree) → AreWhole T.places (object_at T) → (k : ℕ) (m : Mes) → message_with T k ≡ Some m → (p : FolderPlace) × (find_place m.folder T.places ≡ Some p)
home T w k m is = let h = w.held k m (is_message (object_at T k) m is) in (h.0, h.1)
  where
    is_message : (o : Option Object) (m : Mes) → as_message o ≡ Some m → o ≡ Some (Message m)
    is_message None m e = cc
    is_message (Some (Context c)) m e = cc
    is_message (Some (Table t)) m e = cc
    is_message (Some (Bare parent)) m e = cc
    is_message (Some (Message n)) m e = cc

-- each folder's parent is placed in a whole tree
parents : (T : Tree) → AreWhole T.places (object_at T) → (g : ℕ) (p : FolderPlace) → find_place g T.places ≡ Some p → (g ≡ ROOT → ⊥) → (q : FolderPlace) × (find_place p.parent.bits T.places ≡ Some q)
parents T w g p is other = let h = w.parents g p is other in (h.0, h.1)

-- a folder that came holds no message that was there
came : (T : Tree) (o : Outcome) (f : ℕ) (now : Option FolderPlace) → IsWhole T → find_place f T.places ≡ None → OnlyPlace T (after T o) f now → AreTouched T o []
came T o f now w none only = record {
  old = tt;
  new = tt;
  same = tt;
  stay = λ k u. only.messages k;
  others = λ s k u. sym (ap (is_listed o.places s) (only.messages k) ∙ same-listed (λ g. g == f) T.places o.places (λ g n. only.others g (not_same f g n)) s (message_with T k)
      (λ m is. let h = home T w.objects k m is in placed-out T.places (parents T w.objects) f none m.folder h.0 h.1));
}

-- a folder that went held no message
went : (T : Tree) (o : Outcome) (f : ℕ) → AreWhole o.places (object_at (after T o)) → OnlyPlace T (after T o) f None → AreTouched T o []
went T o f w only =
    let T' = after T o in record {
      old = tt;
      new = tt;
      same = tt;
      stay = λ k u. only.messages k;
      others = λ s k u. ap (is_listed T.places s) (sym (only.messages k)) ∙ same-listed (λ g. g == f) o.places T.places (λ g n. sym (only.others g (not_same f g n))) s (message_with T' k)
          (λ m is. let h = home T' w k m is in placed-out o.places (parents T' w) f only.here m.folder h.0 h.1);
    }

-- a folder that moves touches all that is within it
moved : (T : Tree) (o : Outcome) (f : ℕ) (now : Option FolderPlace) → IsWhole T → OnlyPlace T (after T o) f now → Fine (messages_below T f T.places) (AreTouched T o)
moved T o f now w only = fine_weaker _ (AreTouched T o) (messages_below T f T.places) (below-folder T (before T w) f) (λ ts b. record {
  old = each-old ts b.0;
  new = each-new ts b.0;
  same = each-same ts b.0;
  stay = λ k none. only.messages k;
  others = λ s k none. sym (ap (is_listed o.places s) (only.messages k) ∙ same-listed (λ g. g == f) T.places o.places (λ g n. only.others g (not_same f g n)) s (message_with T k) (λ m is. b.1 k m is none));
})
  where
    each-old : (ts : List Touch) → Each (Stays T) ts → Each (λ t. t.old ≡ message_with T t.nid) ts
    each-old [] h = tt
    each-old (t ∷ ts) h = (h.0.0, each-old ts h.1)

    each-new : (ts : List Touch) → Each (Stays T) ts → Each (λ t. t.new ≡ message_with (after T o) t.nid) ts
    each-new [] h = tt
    each-new (t ∷ ts) h = (h.0.1 ∙ sym (only.messages t.nid), each-new ts h.1)

    each-same : (ts : List Touch) → Each (Stays T) ts → Each (λ t. t.anew ≡ false → t.new ≡ t.old) ts
    each-same [] h = tt
    each-same (t ∷ ts) h = (λ kept. h.0.1 ∙ sym h.0.0, each-same ts h.1)

-- `mvdir` to the parent in which the folder stands changes nothing
stays_there : (T : Tree) (f parent : ℕ) → stands_in T f parent ≡ true → IfOk (moved_folder T f parent) (λ o. o ≡ unchanged T (replied Done))
unfolding moved_folder
stays_there T f parent there = elim (cases_Option (find_place f T.places)) [
  | inl e ↦ rw e tt
  | inr p ↦
      let Q : Outcome → Type 0 = λ o. o ≡ unchanged T (replied Done) in
      let same : (p.0.parent.bits == parent) ≡ true = sym (rw p.1 refl) ∙ there in
      rw p.1 (if_then (λ q. Unit {0}) Q (folder_in T parent) _ (if_any (folder_in T parent)) (λ q q'.
      if_then (λ u. Unit {0}) Q (unless_plain p.0) _ (if_any (unless_plain p.0)) (λ u u'.
      if_then (λ u. Unit {0}) Q (unless_plain q) _ (if_any (unless_plain q)) (λ v v'.
      if_then (λ u. Unit {0}) Q (unless_protected T f) _ (if_any (unless_protected T f)) (λ x x'.
      if_then (λ u. Unit {0}) Q (refused_if (is_within T.places f parent) Cycle) _ (if_any (refused_if (is_within T.places f parent) Cycle)) (λ y y'.
      rw same refl))))))
]

-- nothing changed
nothing_touched : (T : Tree) (o : Outcome) (reply : Reply) → o ≡ unchanged T reply → AreTouched T o []
nothing_touched T o reply same = none_touched T o
    (λ k. ap (λ g. as_message (g k)) (sym (after_now T o)) ∙ ap (λ (x : Outcome). as_message (now_at T x.changed k)) same ∙ ap (λ g. as_message (g k)) (now_nothing T))
    (ap (λ (x : Outcome). x.places) same)

-- a message that was made is touched
made_one : (T : Tree) (o : Outcome) (m : ℕ) (now : Option Mes) → o.reply ≡ replied (Made (nid m)) → OnlyMessage T (after T o) m now → AreTouched T o (made T o o.reply.last)
made_one T o m now reply only = subst (λ (r : Reply). AreTouched T o (made T o r.last)) (sym reply) (one_touch T o m now only)

-- a message that was made anew is touched
remade : (T : Tree) (o : Outcome) (m : ℕ) (make : Mes → Mes) → Before T → Keeps T o → effects.Remade T m make o → AreTouched T o (touch_at T o m ∷ [])
remade T o m make b k r = one_touch T o m (Some (with_props r.1 (make r.0))) (effects.only_message T m (Some (with_props r.1 (make r.0))) o b k r.3)

-- the names are no message
names_apart : (T : Tree) (o : Outcome) (guid : List ℕ) (number : ℕ) → Before T → Keeps T o → FindsName T guid number o → (k : ℕ) → message_with (after T o) k ≡ message_with T k
names_apart T o guid number b k r q = elim (cases_eq q NAMES) [
  | inr n ↦ ap as_message (r.others q n)
  | inl e ↦
      let old : as_message (now_at T nothing NAMES) ≡ None = ap as_message b.names.1 in
      let new : as_message (now_at T o.changed NAMES) ≡ None = ap as_message k.names.1 in
      ap (λ x. message_with (after T o) x) e ∙ ap (λ g. as_message (g NAMES)) (sym (after_now T o)) ∙ new ∙ sym old ∙ ap (λ g. as_message (g NAMES)) (now_nothing T) ∙ ap (λ x. message_with T x) (sym e)
]

abbrev Touches : Tree → Command → Outcome → Type 0
Touches T c o = Fine (touched T c o) (AreTouched T o)

reading : (T : Tree) (c : Command) → IfOk (outcome T c) (λ o. o ≡ unchanged T o.reply) → IfOk (outcome T c) (λ o. AreTouched T o [])
reading T c reads = if_weaker (λ o. o ≡ unchanged T o.reply) (λ o. AreTouched T o []) (outcome T c) reads (λ o same. nothing_touched T o o.reply same)

pub touches_all : TouchesAll
unfolding outcome
touches_all T (MakeFolder parent name) w = let b = before T w in both_hold T (MakeFolder parent name) w (places.MadeFolder T parent.bits name) (Touches T (MakeFolder parent name)) (places.makes_folder T parent.bits name b)
    (λ o k r. came T o r.0 (Some (place r.0 parent.bits)) w (not_placed T r.0 b r.2) (places.only_place T r.0 (Some (place r.0 parent.bits)) o b k r.3))
touches_all T (RenameFolder folder name) w = let b = before T w in both_hold T (RenameFolder folder name) w (places.Renamed T folder.bits name) (Touches T (RenameFolder folder name)) (places.renames_folder T folder.bits name b)
    (λ o k r. stands T o folder.bits r.0 r.1 (places.only_place T folder.bits (Some r.0) o b k r.2))
touches_all T (MoveFolder folder parent) w = let b = before T w in let c = MoveFolder folder parent in elim (cases_Bool (stands_in T folder.bits parent.bits)) [
  | inl t ↦ if_weaker (λ o. o ≡ unchanged T (replied Done)) (Touches T c) (moved_folder T folder.bits parent.bits) (stays_there T folder.bits parent.bits t) (λ o same. rw t (nothing_touched T o (replied Done) same))
  | inr t ↦ both_hold T c w (places.Placed T folder.bits (Some (place folder.bits parent.bits))) (Touches T c) (places.moves_folder T folder.bits parent.bits b)
      (λ o k r. rw t (moved T o folder.bits (Some (place folder.bits parent.bits)) w (places.only_place T folder.bits (Some (place folder.bits parent.bits)) o b k r)))
]
touches_all T (RemoveFolder folder) w = let b = before T w in both_hold T (RemoveFolder folder) w (places.Placed T folder.bits None) (Touches T (RemoveFolder folder)) (places.removes_folder T folder.bits b)
    (λ o k r. went T o folder.bits (subst (AreWhole o.places) (after_now T o) k) (places.only_place T folder.bits None o b k r))
touches_all T (ListFolder folder) w = reading T (ListFolder folder) (reads_only T (ListFolder folder) refl)
touches_all T (NewMessage folder class time values) w = let b = before T w in both_hold T (NewMessage folder class time values) w (effects.MadeNew T folder.bits class time values) (Touches T (NewMessage folder class time values)) (effects.makes T folder.bits class time values b)
    (λ o k r. made_one T o (new_id 4 r.0) (Some r.1) r.5.reply_is (effects.only_message T (new_id 4 r.0) (Some r.1) o b k (subst (λ x. effects.Changes T x (Some r.1) o) r.2 r.5.changes_it)))
touches_all T (SetProperty message value) w = let b = before T w in both_hold T (SetProperty message value) w _ (Touches T (SetProperty message value)) (effects.sets T message.bits value b)
    (λ o k r. one_touch T o message.bits (Some (with_props r.0.1 r.0.0)) (effects.only_message T message.bits (Some (with_props r.0.1 r.0.0)) o b k r.0.3))
touches_all T (UnsetProperty message tag) w = let b = before T w in both_hold T (UnsetProperty message tag) w _ (Touches T (UnsetProperty message tag)) (effects.unsets T message.bits tag b)
    (λ o k r. one_touch T o message.bits (Some (with_props r.0.1 r.0.0)) (effects.only_message T message.bits (Some (with_props r.0.1 r.0.0)) o b k r.0.3))
touches_all T (GetProperty message tag) w = reading T (GetProperty message tag) (reads_only T (GetProperty message tag) refl)
touches_all T (ListProperties message) w = reading T (ListProperties message) (reads_only T (ListProperties message) refl)
touches_all T (MoveMessage message folder) w = let b = before T w in both_hold T (MoveMessage message folder) w (effects.Moved T message.bits folder.bits) (Touches T (MoveMessage message folder)) (effects.moves T message.bits folder.bits b)
    (λ o k r. one_touch T o message.bits (Some (in_folder folder.bits r.0)) (effects.only_message T message.bits (Some (in_folder folder.bits r.0)) o b k r.2))
touches_all T (CopyMessage message folder) w = let b = before T w in both_hold T (CopyMessage message folder) w (effects.Copied T message.bits folder.bits) (Touches T (CopyMessage message folder)) (effects.copies T message.bits folder.bits b)
    (λ o k r. made_one T o (new_id 4 r.1) (Some (copy_of (new_id 4 r.1) folder.bits r.0)) r.4.reply_is (effects.only_message T (new_id 4 r.1) (Some (copy_of (new_id 4 r.1) folder.bits r.0)) o b k r.4.changes_it))
touches_all T (RemoveMessage message) w = let b = before T w in both_hold T (RemoveMessage message) w (effects.Changes T message.bits None) (Touches T (RemoveMessage message)) (effects.removes T message.bits b)
    (λ o k r. one_touch T o message.bits None (effects.only_message T message.bits None o b k r))
touches_all T (AddRecipient message kind address name) w = let b = before T w in both_hold T (AddRecipient message kind address name) w _ (Touches T (AddRecipient message kind address name)) (effects.adds_recipient T message.bits kind address name b)
    (λ o k r. remade T o message.bits (with_recipient r.0 (recipient_props kind address name)) b k r.1)
touches_all T (RemoveRecipient message row) w = let b = before T w in both_hold T (RemoveRecipient message row) w _ (Touches T (RemoveRecipient message row)) (effects.removes_recipient T message.bits row b)
    (λ o k r. remade T o message.bits (without_recipient row) b k r)
touches_all T (AddAttachment message name held) w = let b = before T w in both_hold T (AddAttachment message name held) w _ (Touches T (AddAttachment message name held)) (effects.adds_attachment T message.bits name held b)
    (λ o k r. remade T o message.bits (with_attachment (new_part r.0 name held)) b k r.1)
touches_all T (AppendData message attachment bytes) w = let b = before T w in both_hold T (AppendData message attachment bytes) w _ (Touches T (AppendData message attachment bytes)) (effects.appends_data T message.bits attachment.bits bytes b)
    (λ o k r. remade T o message.bits (with_part (part_with (with_bytes (r.0.1 ++ bytes) r.0.0.props) r.0.0)) b k r.1)
touches_all T (SetEmbedded message attachment node) w = let b = before T w in both_hold T (SetEmbedded message attachment node) w _ (Touches T (SetEmbedded message attachment node)) (effects.sets_embedded T message.bits attachment.bits node b)
    (λ o k r. remade T o message.bits (with_part (part_holding node r.0)) b k r.1)
touches_all T (RemoveAttachment message attachment) w = let b = before T w in both_hold T (RemoveAttachment message attachment) w _ (Touches T (RemoveAttachment message attachment)) (effects.removes_attachment T message.bits attachment.bits b)
    (λ o k r. remade T o message.bits (without_attachment attachment.bits) b k r)
touches_all T (FetchData message attachment) w = reading T (FetchData message attachment) (reads_only T (FetchData message attachment) refl)
touches_all T (NameProperty guid number) w = let b = before T w in both_hold T (NameProperty guid number) w (FindsName T guid number) (Touches T (NameProperty guid number)) (finds_name T guid number b)
    (λ o k r. none_touched T o (names_apart T o guid number b k r) r.places)
touches_all T Save w = nothing_touched T (unchanged T (replied Done)) (replied Done) refl
touches_all T Quit w = nothing_touched T (unchanged T (replied Done)) (replied Done) refl
touches_all T (MakeSearch parent name) w = tt
touches_all T (SetCriteria search flags scope restriction) w = tt
touches_all T (GetCriteria search) w = tt
