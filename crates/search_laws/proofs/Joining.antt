-- Every command keeps a tree with its searches in order.
use Rattle.std.proofs.Common.{◌≡◌, ◌∙◌, ℕ, Bool, true, List, [], ◌∷◌, length, Option, None, Some, IfOk, Ok, Err, ap, arith, inl, inr, refl, subst, sym}
use Rattle.std.proofs.lemmas.Bool.{cases_Bool}
use Rattle.std.specs.FinMap as map
use Rattle.std.specs.Ordering.{nat_cmp}
use Rattle.command_text.specs.declared.command.Command.{Command}
use Rattle.command_text.specs.declared.command.Command.TheVariants.{MakeFolder, RenameFolder, MoveFolder, RemoveFolder, ListFolder, NewMessage, SetProperty, UnsetProperty, GetProperty, ListProperties, MoveMessage, CopyMessage, RemoveMessage, AddRecipient, RemoveRecipient, AddAttachment, AppendData, RemoveAttachment, FetchData, NameProperty, Save, Quit, MakeSearch, SetCriteria, GetCriteria, SetEmbedded}
use Rattle.command_text.specs.declared.reply.CommandRefusal.TheVariants as refusals
use Rattle.command_text.specs.declared.reply.Reply.{Reply}
use Rattle.pst_base.specs.declared.ids.Nid.{Nid}
use Rattle.mail_objects.specs.declared.object.Object.{Object}
use Rattle.mail_tree.specs.Changing.{Answer, ◌>>=◌, as_message, newest, nothing, now_at}
use Rattle.mail_tree.specs.Folders.{Outcome, listing, made_id, unchanged}
use Rattle.mail_tree.specs.Found.{IsFoundBeside}
use Rattle.mail_tree.specs.Places.{find_place}
use Rattle.mail_tree.specs.Step as tree
use Rattle.mail_tree.specs.Step.{outcome as tree_outcome}
use Rattle.mail_tree.specs.Tree.{Tree, object_at}
use Rattle.mail_tree.specs.Whole.{Fine, IsWhole}
use Rattle.mail_tree.proofs.AfterTree.{after_now, now_nothing}
use Rattle.mail_tree.proofs.FineLaws.{after_context, after_found, after_table, fine_either, fine_then, fine_weaker}
use Rattle.mail_tree.proofs.KindsOfPuts.{beside_kind}
use Rattle.mail_tree.proofs.StoodLaws.{AreStood, IsNew, after_limits}
use Rattle.mail_laws.proofs.StoodCommands.{command_stood}
use Rattle.search_lists.proofs.StoodLists.{followed_stood}
use Rattle.mail_laws.specs.AttachmentLaws.{AllMirrorAttachments}
use Rattle.mail_laws.specs.Laws.{AreCountedBut, AreShown, Counts, Mirrors}
use Rattle.mail_laws.specs.Stays.{Leaves}
use Rattle.mail_laws.proofs.CountCommands.{counted_after}
use Rattle.mail_laws.proofs.FoundCommands.{stays_beside}
use Rattle.mail_laws.proofs.Keeping.{both, if_weaker}
use Rattle.mail_laws.proofs.KeptLaws.{leaves_searches}
use Rattle.mail_laws.proofs.LawSteps.{before, reads_only}
use Rattle.mail_laws.proofs.MirrorCommands.{mirrored_after}
use Rattle.mail_laws.proofs.MirrorPuts.{AreShownBut, all_shown, shown_but}
use Rattle.mail_laws.proofs.Strays.{whole_after}
use Rattle.mail_searches.specs.Criteria.{Coming, marked, search_listing, staying, told_criteria, unless_other}
use Rattle.mail_searches.specs.Relisting.{around, settled_searches, with_searches}
use Rattle.mail_searches.specs.Searches.{criteria_node, find_search, results}
use Rattle.mail_searches.specs.Searching.{AllFresh, AreSearches, Each, IsOfSearch, Searching, is_own}
use Rattle.mail_searches.specs.Step.{after, concluded, if_within, listing_in, outcome, plain_outcome}
use Rattle.mail_searches.specs.Touching.{followed, touched}
use Rattle.search_lists.specs.Laws.{AllShow, AreTouched, with_tree}
use Rattle.search_lists.proofs.ApartLaws.{all-apart, each-found}
use Rattle.search_lists.proofs.PlainLaws.{plain_commands_stay}
use Rattle.search_lists.proofs.SettleLaws.{each}
use Rattle.search_lists.proofs.ShowLaws.{shows_after}
use Rattle.search_lists.proofs.TouchLaws.{touches_all}
use Rattle.search_lists.specs.Keeps.{IsThere, KeepsOrder, with_changes}
use Rattle.search_lists.specs.Order.{InOrder}
use Rattle.search_lists.proofs.AfterOrder.{settling_keeps_order}
use Rattle.search_lists.proofs.ClearLaws.{none_unclear}
use Rattle.search_lists.proofs.ResultSteps.{if_given}
use Rattle.search_laws.specs.Laws.{StaysInOrder}
use Rattle.search_laws.proofs.Attachments.{attachments_after, attachments_still}
use Rattle.search_laws.proofs.Making.{makes_in_order}
use Rattle.search_laws.proofs.Marked.{marks_still}
use Rattle.search_laws.proofs.Moves.{moves_in_order, removes_in_order, renames_in_order}
use Rattle.search_laws.proofs.Setting.{sets_in_order}

-- an answer or a refusal has both
fine_both : {A : Type 0} (P Q : A → Type 0) (a : Answer A) → Fine a P → IfOk a Q → Fine a (λ x. P x × Q x)
fine_both P Q (Ok x) p q = (p, q)
fine_both P Q (Err (Some refusal)) p q = tt
fine_both P Q (Err None) p q = p

-- an answer has both
if_both : {A : Type 0} (P Q : A → Type 0) (a : Answer A) → IfOk a P → IfOk a Q → IfOk a (λ x. P x × Q x)
if_both P Q a p q = both P Q (λ x. P x × Q x) a p q (λ x u v. (u, v))

-- an answer is fine where it is
fine_is : {A : Type 0} (P Q : A → Type 0) (a : Answer A) → Fine a P → IfOk a Q → Fine a Q
fine_is P Q a p q = fine_weaker (λ x. P x × Q x) Q a (fine_both P Q a p q) (λ x pq. pq.1)

-- rows mirror and counts are right after each command
mirrors_after : (T : Tree) (c : Command) → IsWhole T → Mirrors T → IfOk (tree.outcome T c) (λ o. Mirrors (tree.after T o))
mirrors_after T c w s =
    if_weaker (λ o. AreShownBut (λ x. ⊥) o.places (now_at T o.changed)) (λ o. Mirrors (tree.after T o)) (tree.outcome T c)
    (mirrored_after T (before T w) (shown_but T.places (now_at T nothing) (subst (AreShown T.places) (sym (now_nothing T)) s)) c)
    (λ o k. subst (AreShown o.places) (after_now T o) (all_shown o.places (now_at T o.changed) k))

counts_after : (T : Tree) (c : Command) → IsWhole T → Counts T → IfOk (tree.outcome T c) (λ o. Counts (tree.after T o))
counts_after T c w s =
    if_weaker (λ o. AreCountedBut (λ x. ⊥) o.places (now_at T o.changed)) (λ o. Counts (tree.after T o)) (tree.outcome T c)
    (counted_after T (before T w) (λ x. ⊥) (subst (AreCountedBut (λ x. ⊥) T.places) (sym (now_nothing T)) s) c)
    (λ o k. subst (AreCountedBut (λ x. ⊥) o.places) (after_now T o) k)

-- where nothing changes the tree stays
no_length : {A : Type 0} (xs : List A) → length xs ≡ 0 → xs ≡ []
no_length [] e = refl
no_length (x ∷ xs) e = absurd (omega (arith, e))

nothing_changes : map.entries nothing.objects ≡ []
nothing_changes = no_length (map.entries nothing.objects) (sym (map.len-entries nothing.objects) ∙ map.len-empty nat_cmp (Option Object))

unchanged_stays : (T : Tree) (r : Reply) → tree.after T (unchanged T r) ≡ T
unchanged_stays T r = λ i. record {
  places = T.places;
  objects = tree.with_changes (nothing_changes i) T.objects;
  others = tree.without_changed (nothing_changes i) T.others;
  last = T.last;
}

module _ (tidy : Bool) (X : Searching) (h : InOrder tidy X) where
  -- what only looks leaves all in order
  quiet : (o : Outcome) → o ≡ unchanged X.tree o.reply → InOrder tidy (with_tree X (tree.after X.tree o))
  quiet o is = subst (λ U. InOrder tidy (with_tree X U)) (sym (ap (tree.after X.tree) is ∙ unchanged_stays X.tree o.reply)) h

  quiet_staying : (a : Answer Outcome) → Fine a (λ o. o ≡ unchanged X.tree o.reply) → Fine (a >>= staying X) (λ x. InOrder tidy (after X x))
  quiet_staying a is = fine_then (λ o. o ≡ unchanged X.tree o.reply) (λ x. InOrder tidy (after X x)) a (staying X) is (λ o e. quiet o e)

  -- the searches' folders and lists are there after a command of the tree
  are-there : (o : Outcome) → Leaves X.tree o → Each (λ s. IsThere X.tree o s.nid) X.searches
  are-there o leaves = each (λ s. find_search s.nid X.searches ≡ Some s) (λ s. IsThere X.tree o s.nid) X.searches (each-found 0 X.searches h.searches.ascend) (λ s found.
      let own = h.searches.among s.nid s found in
      let three = h.searches.kinds s.nid own in
      let sixteen = beside_kind s.nid 16 (omega arith) in
      let t = h.searches.tables s.nid own in
      record {
        kind = three;
        placed = rw (leaves.places s.nid three) (h.searches.placed s.nid own);
        table = (t.0, ap (λ x. newest x (object_at X.tree (results s.nid))) (leaves.nodes (results s.nid) (inr (inr (inr sixteen)))) ∙ t.1);
      })

  -- the lists follow it, and all keeps its order
  abbrev Keeps : Outcome → Outcome → Type 0
  Keeps o o' = KeepsOrder X.tree o o'.changed × (o' ≡ with_changes o o'.changed)

  keeps : (c : Command) (o : Outcome) → IsWhole (tree.after X.tree o) → Leaves X.tree o → Fine (touched X.tree c o) (AreTouched X.tree o) → Fine (followed X.tree X.searches c o) (Keeps o)
  keeps c o whole leaves touches =
      fine_then (AreTouched X.tree o) (Keeps o) (touched X.tree c o) (λ ts. with_searches X.tree X.searches ts o) touches (λ ts are.
      fine_then (KeepsOrder X.tree o) (Keeps o) (settled_searches X.tree (around X.tree o) ts X.searches o.changed) _
      (settling_keeps_order X.tree o (around X.tree o) ts X.searches h.whole whole (all-apart X h.searches) (are-there o leaves))
      (λ D k. (k, refl)))

  -- what a command of the tree leaves
  abbrev Base : Command → Outcome → Type 0
  Base c o = IsWhole (tree.after X.tree o) × (IsFoundBeside (IsOfSearch X.own) (tree.after X.tree o) × ((tidy ≡ true → Mirrors (tree.after X.tree o)) × ((tidy ≡ true → Counts (tree.after X.tree o)) × (Leaves X.tree o × (Fine (touched X.tree c o) (AreTouched X.tree o)
      × (IfOk (followed X.tree X.searches c o) (λ o'. AreSearches (with_tree X (tree.after X.tree o')) × AllFresh (tree.after X.tree o') X.searches)
      × ((tidy ≡ true → AllMirrorAttachments (tree.after X.tree o)) × (tidy ≡ true → IfOk (followed X.tree X.searches c o) (λ o'. AllShow (tree.after X.tree o') X.searches)))))))))

  base : (c : Command) → Fine (tree.outcome X.tree c) (Base c)
  base c = let a = tree.outcome X.tree c in
      fine_both _ _ a (whole_after X.tree c h.whole) (if_both _ _ a (stays_beside (IsOfSearch X.own) X.tree c h.whole h.found)
      (if_both _ _ a (if_given (tidy ≡ true) (λ o. Mirrors (tree.after X.tree o)) a (λ t. mirrors_after X.tree c h.whole (h.mirrors t))) (if_both _ _ a (if_given (tidy ≡ true) (λ o. Counts (tree.after X.tree o)) a (λ t. counts_after X.tree c h.whole (h.counts t)))
      (if_both _ _ a (leaves_searches X.tree c h.whole) (if_both _ _ a (touches_all X.tree c h.whole) (if_both _ _ a (plain_commands_stay X c h.whole h.searches h.fresh)
      (if_both _ _ a (if_given (tidy ≡ true) (λ o. AllMirrorAttachments (tree.after X.tree o)) a (λ t. attachments_after X.tree c h.whole (h.attachments t)))
      (if_given (tidy ≡ true) (λ o. IfOk (followed X.tree X.searches c o) (λ o'. AllShow (tree.after X.tree o') X.searches)) a (λ t. shows_after X.tree c X.searches h.whole (all-apart X h.searches) h.fresh (h.lists t))))))))))

  -- what the lists that followed it leave
  abbrev Followed : Outcome → Type 0
  Followed o' = (AreSearches (with_tree X (tree.after X.tree o')) × AllFresh (tree.after X.tree o') X.searches) × (tidy ≡ true → AllShow (tree.after X.tree o') X.searches)

  -- what a command comes to is in order once its lists followed it
  abbrev Stands : Outcome → Type 0
  Stands o = InOrder tidy (with_tree X (tree.after X.tree o))

  in_order : (c : Command) (o o' : Outcome) → Base c o → Keeps o o' → Followed o' → Stands o'
  in_order c o o' b k s = record {
    whole = subst (λ x. IsWhole (tree.after X.tree x)) (sym k.1) (k.0.whole b.0);
    found = subst (λ x. IsFoundBeside (IsOfSearch X.own) (tree.after X.tree x)) (sym k.1) (k.0.found X.own b.1.0);
    mirrors = λ t. subst (λ x. Mirrors (tree.after X.tree x)) (sym k.1) (k.0.mirrors b.0 (b.1.1.0 t));
    counts = λ t. subst (λ x. Counts (tree.after X.tree x)) (sym k.1) (k.0.counts b.0 (b.1.1.1.0 t));
    attachments = λ t. attachments_still (tree.after X.tree o) (tree.after X.tree o') (λ m.
        ap (λ at. as_message (at m)) (sym (after_now X.tree o')) ∙ k.0.messages m ∙ ap (λ at. as_message (at m)) (after_now X.tree o)) (b.1.1.1.1.1.1.1.0 t);
    lists = s.1;
    searches = s.0.0;
    fresh = s.0.1;
    marked = marks_still X o' X.searches h.marked (λ f three other. ap (λ (x : Outcome). find_place f x.places) k.1 ∙ b.1.1.1.1.0.places f three);
  }

  -- what is put can be compared with the tree
  abbrev Known : Outcome → Type 0
  Known o = AreStood X.tree (IsNew (made_id o.reply.last)) o.changed

  concludes : (c : Command) (o : Outcome) → Base c o → Known o → Fine (concluded X.tree X.searches c o) Stands
  unfolding concluded
  concludes c o b known =
      fine_then (λ o'. Stands o' × Known o') Stands (followed X.tree X.searches c o) (if_within X.tree)
      (fine_both Stands Known (followed X.tree X.searches c o) (fine_weaker _ Stands (followed X.tree X.searches c o) (fine_both (Keeps o) Followed (followed X.tree X.searches c o) (keeps c o b.0 b.1.1.1.1.0 b.1.1.1.1.1.0)
      (if_both _ (λ o'. tidy ≡ true → AllShow (tree.after X.tree o') X.searches) (followed X.tree X.searches c o) b.1.1.1.1.1.1.0 (if_given (tidy ≡ true) (λ o'. AllShow (tree.after X.tree o') X.searches) (followed X.tree X.searches c o) b.1.1.1.1.1.1.1.1))) (λ o' p. in_order c o o' b p.0 p.1))
      (followed_stood X.tree X.searches c o known))
      (λ o' is. after_limits Stands X.tree (made_id o'.reply.last) o'.changed (λ u. Ok o') is.1 is.0)

  plain : (c : Command) → Fine (plain_outcome X c) (λ x. InOrder tidy (after X x))
  plain c =
      fine_then Stands (λ x. InOrder tidy (after X x)) (tree.outcome X.tree c >>= concluded X.tree X.searches c) (staying X)
      (fine_then (λ o. Base c o × Known o) Stands (tree.outcome X.tree c) (concluded X.tree X.searches c)
      (fine_both (Base c) Known (tree.outcome X.tree c) (base c) (command_stood X.tree (before X.tree h.whole) c)) (λ o b. concludes c o b.0 b.1)) (λ o is. is)

  -- what names an own search goes on
  own_after : (s : ℕ) → Fine (unless_other X s) (λ u. is_own X.own s ≡ true)
  own_after s = after_found (λ u. is_own X.own s ≡ true) refusals.Object (find_place s X.tree.places) _ (λ p e. elim (cases_Bool (is_own X.own s)) [
    | inl own ↦ rw own refl
    | inr other ↦ rw other tt
  ])

  -- the criteria of an own search are told
  told : (s : ℕ) → Fine (told_criteria X s) (λ o. o ≡ unchanged X.tree o.reply)
  unfolding told_criteria
  told s = fine_then (λ u. is_own X.own s ≡ true) (λ o. o ≡ unchanged X.tree o.reply) (unless_other X s) _ (own_after s) (λ u own.
      let c = h.searches.criteria s own in
      after_context (λ o. o ≡ unchanged X.tree o.reply) X.tree nothing (criteria_node s) c.0 _ (ap (λ g. g (criteria_node s)) (now_nothing X.tree) ∙ c.1) (rw c.2.1 refl))

  -- the messages of an own search are listed
  lists_own : (f : ℕ) → is_own X.own f ≡ true → Fine (search_listing X.tree f) (λ o. o ≡ unchanged X.tree o.reply)
  unfolding search_listing
  lists_own f own =
      let t = h.searches.tables f own in
      after_table (λ o. o ≡ unchanged X.tree o.reply) X.tree nothing (results f) t.0 _ (ap (λ g. g (results f)) (now_nothing X.tree) ∙ t.1)
      (rw (none_unclear X.tree nothing t.0.table.rows h.whole) refl)

  -- so is what is in any other folder
  lists_other : (folder : Nid) → Fine (listing X.tree folder.bits) (λ o. o ≡ unchanged X.tree o.reply)
  unfolding tree_outcome
  lists_other folder = fine_is (λ o. IsWhole (tree.after X.tree o)) (λ o. o ≡ unchanged X.tree o.reply) (listing X.tree folder.bits) (whole_after X.tree (ListFolder folder) h.whole) (reads_only X.tree (ListFolder folder) refl)

  lists : (folder : Nid) → Fine (listing_in X folder.bits) (λ o. o ≡ unchanged X.tree o.reply)
  unfolding listing_in
  lists folder = fine_either (λ o. o ≡ unchanged X.tree o.reply) (is_own X.own folder.bits) _ _ (λ own. lists_own folder.bits own)
      (λ other. fine_then (λ o. o ≡ unchanged X.tree o.reply) (λ o. o ≡ unchanged X.tree o.reply) (listing X.tree folder.bits) _ (lists_other folder) (λ o is. ap (λ (x : Outcome). record x { reply = marked X.own o.reply }) is))

  abbrev InOrderAfter : Coming → Type 0
  InOrderAfter o = InOrder tidy (after X o)

pub stays_in_order : StaysInOrder
unfolding outcome
stays_in_order tidy X (MakeSearch parent name) h = makes_in_order tidy X parent.bits name h
stays_in_order tidy X (SetCriteria search flags scope restriction) h = sets_in_order tidy X search.bits flags scope restriction h
stays_in_order tidy X (GetCriteria search) h = quiet_staying tidy X h (told_criteria X search.bits) (told tidy X h search.bits)
stays_in_order tidy X (ListFolder folder) h = quiet_staying tidy X h (listing_in X folder.bits) (lists tidy X h folder)
stays_in_order tidy X (RenameFolder folder name) h = fine_either (InOrderAfter tidy X h) (is_own X.own folder.bits) _ _ (λ own. renames_in_order tidy X folder.bits name h own) (λ other. plain tidy X h (RenameFolder folder name))
stays_in_order tidy X (MoveFolder folder parent) h = fine_either (InOrderAfter tidy X h) (is_own X.own folder.bits) _ _ (λ own. moves_in_order tidy X folder.bits parent.bits h own) (λ other. plain tidy X h (MoveFolder folder parent))
stays_in_order tidy X (RemoveFolder folder) h = fine_either (InOrderAfter tidy X h) (is_own X.own folder.bits) _ _ (λ own. removes_in_order tidy X folder.bits h own) (λ other. plain tidy X h (RemoveFolder folder))
stays_in_order tidy X (MakeFolder parent name) h = plain tidy X h (MakeFolder parent name)
stays_in_order tidy X (NewMessage folder class time values) h = plain tidy X h (NewMessage folder class time values)
stays_in_order tidy X (SetProperty message value) h = plain tidy X h (SetProperty message value)
stays_in_order tidy X (UnsetProperty message tag) h = plain tidy X h (UnsetProperty message tag)
stays_in_order tidy X (GetProperty message tag) h = plain tidy X h (GetProperty message tag)
stays_in_order tidy X (ListProperties message) h = plain tidy X h (ListProperties message)
stays_in_order tidy X (MoveMessage message folder) h = plain tidy X h (MoveMessage message folder)
stays_in_order tidy X (CopyMessage message folder) h = plain tidy X h (CopyMessage message folder)
stays_in_order tidy X (RemoveMessage message) h = plain tidy X h (RemoveMessage message)
stays_in_order tidy X (AddRecipient message kind address name) h = plain tidy X h (AddRecipient message kind address name)
stays_in_order tidy X (RemoveRecipient message row) h = plain tidy X h (RemoveRecipient message row)
stays_in_order tidy X (AddAttachment message name held) h = plain tidy X h (AddAttachment message name held)
stays_in_order tidy X (AppendData message attachment bytes) h = plain tidy X h (AppendData message attachment bytes)
stays_in_order tidy X (SetEmbedded message attachment node) h = plain tidy X h (SetEmbedded message attachment node)
stays_in_order tidy X (RemoveAttachment message attachment) h = plain tidy X h (RemoveAttachment message attachment)
stays_in_order tidy X (FetchData message attachment) h = plain tidy X h (FetchData message attachment)
stays_in_order tidy X (NameProperty guid number) h = plain tidy X h (NameProperty guid number)
stays_in_order tidy X Save h = plain tidy X h Save
stays_in_order tidy X Quit h = plain tidy X h Quit
