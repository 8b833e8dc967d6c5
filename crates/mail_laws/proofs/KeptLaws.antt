-- In the words of mail: which nodes, values and tables are as they were after each command.
use Rattle.std.proofs.Common.{◌≡◌, ◌%◌, ℕ, true, false, cond, Option, None, Some, IfOk, IsSome, is_some, refl, sym, subst, ap, ◌∙◌, inl, inr, arith}
use Rattle.std.proofs.lemmas.Bool.{eqb-true, false≢true}
use Rattle.std.proofs.lemmas.Option.{none-some}
use Rattle.std.specs.FinMap as map
use Rattle.node_port.specs.Nodes.{node_at}
use Rattle.pst_base.specs.Ids.{index_of}
use Rattle.mapi_values.specs.Messages.{Mes}
use Rattle.command_text.specs.declared.command.Command.{Command}
use Rattle.command_text.specs.declared.command.Command.TheVariants.{MakeFolder, RenameFolder, MoveFolder, RemoveFolder, ListFolder, NewMessage, SetProperty, UnsetProperty, GetProperty, ListProperties, MoveMessage, CopyMessage, RemoveMessage, AddRecipient, RemoveRecipient, AddAttachment, AppendData, RemoveAttachment, FetchData, Save, Quit, NameProperty, MakeSearch, SetCriteria, GetCriteria, SetEmbedded}
use Rattle.command_text.specs.declared.reply.LastLine.TheVariants.{Made}
use Rattle.command_text.specs.declared.reply.Reply.{Reply}
use Rattle.mail_objects.specs.Forms.{Ctx, Tbl}
use Rattle.mail_objects.specs.declared.object.Object.{Object}
use Rattle.mail_objects.specs.declared.object.Object.TheVariants.{Context, Table}
use Rattle.mail_tree.specs.declared.places.FolderPlace.{FolderPlace}
use Rattle.mail_tree.specs.Places.{find_place}
use Rattle.mail_tree.specs.Tree.{Tree, object_at}
use Rattle.mail_tree.proofs.KindsOfPuts.{low}
use Rattle.mail_tree.proofs.Nearly.{folder_kind}
use Rattle.mail_tree.specs.Changing.{as_message, newest, nothing, now_at}
use Rattle.mail_laws.specs.ComesAndGoes.{Brings, ComesAndGoes}
use Rattle.mail_tree.specs.Folders.{Outcome, made_folder, nid, replied}
use Rattle.mail_tree.specs.Ids.{folder_kinds, message_kinds, new_id, next_index}
use Rattle.mail_tree.specs.Messages.{copied_message, copy_of, new_message}
use Rattle.mail_laws.specs.Stays.{IsSearchId, KeepsNodes, KeepsTables, KeepsValues, Leaves, LeavesSearches, StaysFolder, StaysTable}
use Rattle.mail_tree.specs.Step.{after, outcome}
use Rattle.mail_tree.specs.Whole.{IsWhole}
use Rattle.mail_tree.proofs.AfterLaws.{get-without_changed}
use Rattle.mail_tree.proofs.AfterTree.{after_now}
use Rattle.mail_laws.proofs.CommandSteps.{keeps_whole}
use Rattle.mail_laws.proofs.Effects.{Adds, Copied, MadeNew, copies, makes}
use Rattle.mail_tree.proofs.FineLaws.{cases_Option}
use Rattle.mail_laws.proofs.Keeping.{both, from_fine, if_weaker}
use Rattle.mail_laws.proofs.KeptCommands.{brings_of, kept_after, scope_of}
use Rattle.mail_laws.proofs.KeptObjects.{KeepsFolder, KeepsObjects, KeepsTable, SameTable, Scope, Untouched, is_usual, now}
use Rattle.mail_laws.proofs.Strays.{Clear, stays_clear}
use Rattle.mail_laws.proofs.LawSteps.{before, was_nothing}
use Rattle.mail_laws.proofs.MessageSteps.{Keeps}
use Rattle.mail_laws.proofs.PlaceEffects.{MadeFolder, makes_folder}

module _ (T : Tree) (o : Outcome) where
  after_is : (q : ℕ) → object_at (after T o) q ≡ now T o.changed.objects q
  after_is q = ap (λ g. g q) (sym (after_now T o))

  -- no other node comes, and none goes but where something changed
  other_node : (q : ℕ) → node_at (after T o).others q ≡ cond (is_some (map.get o.changed.objects q)) None (node_at T.others q)
  other_node q = get-without_changed (map.entries o.changed.objects) T.others q ∙ ap (λ r. cond (is_some r) None (node_at T.others q)) (sym (map.get-entries o.changed.objects q))

  module _ (scope : Scope) (k : KeepsObjects T scope o.changed.objects) where
    -- where no object stands before and after, nothing changed
    untouched : (q : ℕ) → object_at T q ≡ None → object_at (after T o) q ≡ None → map.get o.changed.objects q ≡ None
    untouched q none none' = elim (cases_Option (map.get o.changed.objects q)) [
      | inl e ↦ e
      | inr x ↦
          let is : x.0 ≡ None = sym (ap (λ r. newest r (object_at T q)) x.1) ∙ sym (after_is q) ∙ none' in
          absurd (false≢true (sym (ap is_some is) ∙ (k.clear q x.0 x.1 none).0))
    ]

    same_node : (q : ℕ) → object_at T q ≡ None → object_at (after T o) q ≡ None → node_at (after T o).others q ≡ node_at T.others q
    same_node q none none' = other_node q ∙ ap (λ r. cond (is_some r) None (node_at T.others q)) (untouched q none none')

    free_node : (q : ℕ) → object_at T q ≡ None → IsSome (object_at (after T o) q) → node_at T.others q ≡ None
    free_node q none is = elim (cases_Option (map.get o.changed.objects q)) [
      | inl e ↦
          let gone : object_at (after T o) q ≡ None = after_is q ∙ ap (λ r. newest r (object_at T q)) e ∙ none in
          absurd (false≢true (sym (ap is_some gone) ∙ is))
      | inr x ↦ (k.clear q x.0 x.1 none).1
    ]

    -- what goes is taken, and what comes is brought
    taken : (q : ℕ) → IsSome (object_at T q) → object_at (after T o) q ≡ None → scope.takes q ≡ true
    taken q is gone = elim (cases_Option (map.get o.changed.objects q)) [
      | inl e ↦ absurd (false≢true (sym (ap is_some (sym (after_is q ∙ ap (λ r. newest r (object_at T q)) e) ∙ gone)) ∙ is))
      | inr x ↦ k.goes q (x.1 ∙ ap (λ z. Some z) (sym (ap (λ r. newest r (object_at T q)) x.1) ∙ sym (after_is q) ∙ gone))
    ]

    brought : (q : ℕ) → object_at T q ≡ None → IsSome (object_at (after T o) q) → scope.brings q ≡ true
    brought q none is = elim (cases_Option (map.get o.changed.objects q)) [
      | inl e ↦
          let gone : object_at (after T o) q ≡ None = after_is q ∙ ap (λ r. newest r (object_at T q)) e ∙ none in
          absurd (false≢true (sym (ap is_some gone) ∙ is))
      | inr x ↦ k.comes q x.0 x.1 none
    ]

    -- a folder that stays
    same_values : (f : ℕ) (p : FolderPlace) (old : Ctx) → Keeps T o → find_place f o.places ≡ Some p → object_at T f ≡ Some (Context old)
        → (new : Ctx) × (object_at (after T o) f ≡ Some (Context new)) × StaysFolder (scope.names f) old new
    same_values f p old w e is =
        let c = w.contexts f p e in
        let names_apart : f ≡ 0x61 → ⊥ = λ same. let (above, below) = low f (folder_kind p.sort f (w.kinds f p e)) in omega arith in
        (c.0, after_is f ∙ c.1, subst (KeepsFolder (scope.names f) old) c.1 (k.folders f old names_apart is))

    same_store : object_at (after T o) 0x21 ≡ object_at T 0x21
    same_store = after_is 0x21 ∙ ap (λ r. newest r (object_at T 0x21)) (k.apart 0x21 refl (λ e. omega arith))

    -- the names stay where none is added
    same_names : scope.adds_name ≡ false → object_at (after T o) 0x61 ≡ object_at T 0x61
    same_names none = after_is 0x61 ∙ ap (λ r. newest r (object_at T 0x61)) (k.names none)

    -- a table that stays
    same_table : (q : ℕ) (old new : Tbl) → object_at T q ≡ Some (Table old) → object_at (after T o) q ≡ Some (Table new) → StaysTable T (after T o) old new
    same_table q old new is is' =
        let s : SameTable (Untouched T o.changed.objects) old new = subst (KeepsTable (Untouched T o.changed.objects) old) (sym (after_is q) ∙ is') (k.tables q old is) in
        record {
          parent = s.parent;
          columns = s.columns;
          ends = s.ends;
          kept = s.kept;
          rows = λ r none none'. s.rows r (none, untouched r none none');
        }

pub keeps_nodes : KeepsNodes
keeps_nodes = record {
  same = λ T c w. if_weaker _ _ (outcome T c) (kept_after T w c) (λ o k. same_node T o (scope_of T c) k);
  free = λ T c w. if_weaker _ _ (outcome T c) (kept_after T w c) (λ o k. free_node T o (scope_of T c) k);
}

pub keeps_values : KeepsValues
keeps_values = record {
  folders = λ T c w. both (Keeps T) (λ o. KeepsObjects T (scope_of T c) o.changed.objects) _ (outcome T c) (from_fine (Keeps T) (outcome T c) (keeps_whole T c (before T w) w.no_stray)) (kept_after T w c)
      (λ o w' k f p old. same_values T o (scope_of T c) k f p old w');
  store = λ T c w. if_weaker _ _ (outcome T c) (kept_after T w c) (λ o k. same_store T o (scope_of T c) k);
  names = λ T c w none. if_weaker _ _ (outcome T c) (kept_after T w c) (λ o k. same_names T o (scope_of T c) k none);
}

-- what searches have stands at ids of other kinds than what folders and messages have
search_id_apart : (q : ℕ) → IsSearchId q → (is_usual (q % 32) ≡ false) × (q ≡ 0x61 → ⊥)
search_id_apart q (inl e) = (ap is_usual e, λ same. omega arith)
search_id_apart q (inr (inl e)) = (ap is_usual e, λ same. omega arith)
search_id_apart q (inr (inr (inl e))) = (ap is_usual e, λ same. omega arith)
search_id_apart q (inr (inr (inr e))) = (ap is_usual e, λ same. omega arith)

pub leaves_searches : LeavesSearches
leaves_searches T c w = both (Clear T) (λ o. KeepsObjects T (scope_of T c) o.changed.objects) (Leaves T) (outcome T c) (stays_clear T (before T w) w.no_stray c) (kept_after T w c)
    (λ o clear k. record { nodes = λ q of_search. let s = search_id_apart q of_search in k.apart q s.0 s.1; places = clear.searches })

pub keeps_tables : KeepsTables
keeps_tables T c w = if_weaker _ _ (outcome T c) (kept_after T w c) (λ o k. same_table T o (scope_of T c) k)

some_message : (o : Option Object) (M : Mes) → as_message o ≡ Some M → IsSome o
some_message None M e = absurd (none-some M e)
some_message (Some x) M e = refl

module _ (T : Tree) (w : IsWhole T) where
  abbrev Kept : Command → Outcome → Type 0
  Kept c o = KeepsObjects T (scope_of T c) o.changed.objects

  abbrev Brought : Outcome → Type 0
  Brought o = (q : ℕ) → object_at T q ≡ None → IsSome (object_at (after T o) q) → Brings o.reply.last q

  -- a command that makes nothing
  nothing_comes : (c : Command) → ((q : ℕ) → brings_of T c q ≡ false) → IfOk (outcome T c) Brought
  nothing_comes c none = if_weaker (Kept c) Brought (outcome T c) (kept_after T w c) (λ o k q free is. absurd (false≢true (sym (none q) ∙ brought T o (scope_of T c) k q free is)))

  -- where an id that comes is replied, all that comes has its index
  replied_comes : (c : Command) (o : Outcome) (N n : ℕ) → Kept c o → o.reply ≡ replied (Made (nid n)) → object_at T n ≡ None → IsSome (object_at (after T o) n)
      → ((q : ℕ) → brings_of T c q ≡ true → index_of q ≡ index_of N) → Brought o
  replied_comes c o N n k reply free is at q none some =
      subst (λ (r : Reply). Brings r.last q) (sym reply) (at q (brought T o (scope_of T c) k q none some) ∙ sym (at n (brought T o (scope_of T c) k n free is)))

  -- a message that comes
  message_comes : (c : Command) (o : Outcome) (N index : ℕ) (M : Mes) → Kept c o → M.nid ≡ new_id 4 index → now_at T nothing (new_id 4 index) ≡ None → Adds T M index o → ((q : ℕ) → brings_of T c q ≡ true → q ≡ N) → Brought o
  message_comes c o N index M k same none a at =
      replied_comes c o N (new_id 4 index) k a.reply_is (was_nothing T (new_id 4 index) none)
      (subst IsSome (sym (after_is T o (new_id 4 index))) (some_message (now_at T o.changed (new_id 4 index)) M (subst (λ x. as_message (now_at T o.changed x) ≡ Some M) same a.changes_it.here)))
      (λ q e. ap index_of (at q e))

  brings : (c : Command) → IfOk (outcome T c) Brought
  unfolding outcome
  brings (MakeFolder parent name) =
      let c = MakeFolder parent name in let N = new_id 2 (next_index T 2 folder_kinds) in
      both (Kept c) (MadeFolder T parent.bits name) Brought (made_folder T parent.bits name) (kept_after T w c) (makes_folder T parent.bits name (before T w)) (λ o k r.
      replied_comes c o N r.0 k r.1 (was_nothing T r.0 r.2) (subst IsSome (sym (after_is T o r.0 ∙ r.4.1)) refl) (λ q e. eqb-true (index_of q) (index_of N) e))
  brings (NewMessage folder class time values) =
      let c = NewMessage folder class time values in let N = new_id 4 (next_index T 4 message_kinds) in
      both (Kept c) (MadeNew T folder.bits class time values) Brought (new_message T folder.bits class time values) (kept_after T w c) (makes T folder.bits class time values (before T w)) (λ o k r.
      message_comes c o N r.0 r.1 k r.2 r.3 r.5 (λ q e. eqb-true q N e))
  brings (CopyMessage message folder) =
      let c = CopyMessage message folder in let N = new_id 4 (next_index T 4 message_kinds) in
      both (Kept c) (Copied T message.bits folder.bits) Brought (copied_message T message.bits folder.bits) (kept_after T w c) (copies T message.bits folder.bits (before T w)) (λ o k r.
      message_comes c o N r.1 (copy_of (new_id 4 r.1) folder.bits r.0) k refl r.3 r.4 (λ q e. eqb-true q N e))
  brings (RenameFolder folder name) = nothing_comes (RenameFolder folder name) (λ q. refl)
  brings (MoveFolder folder parent) = nothing_comes (MoveFolder folder parent) (λ q. refl)
  brings (RemoveFolder folder) = nothing_comes (RemoveFolder folder) (λ q. refl)
  brings (ListFolder folder) = nothing_comes (ListFolder folder) (λ q. refl)
  brings (SetProperty message value) = nothing_comes (SetProperty message value) (λ q. refl)
  brings (UnsetProperty message tag) = nothing_comes (UnsetProperty message tag) (λ q. refl)
  brings (GetProperty message tag) = nothing_comes (GetProperty message tag) (λ q. refl)
  brings (ListProperties message) = nothing_comes (ListProperties message) (λ q. refl)
  brings (MoveMessage message folder) = nothing_comes (MoveMessage message folder) (λ q. refl)
  brings (RemoveMessage message) = nothing_comes (RemoveMessage message) (λ q. refl)
  brings (AddRecipient message kind address name) = nothing_comes (AddRecipient message kind address name) (λ q. refl)
  brings (RemoveRecipient message row) = nothing_comes (RemoveRecipient message row) (λ q. refl)
  brings (AddAttachment message name held) = nothing_comes (AddAttachment message name held) (λ q. refl)
  brings (AppendData message attachment bytes) = nothing_comes (AppendData message attachment bytes) (λ q. refl)
  brings (SetEmbedded message attachment node) = nothing_comes (SetEmbedded message attachment node) (λ q. refl)
  brings (RemoveAttachment message attachment) = nothing_comes (RemoveAttachment message attachment) (λ q. refl)
  brings (FetchData message attachment) = nothing_comes (FetchData message attachment) (λ q. refl)
  brings (NameProperty guid number) = nothing_comes (NameProperty guid number) (λ q. refl)
  brings (MakeSearch parent name) = tt
  brings (SetCriteria folder flags scope restriction) = tt
  brings (GetCriteria folder) = tt
  brings Save = nothing_comes Save (λ q. refl)
  brings Quit = nothing_comes Quit (λ q. refl)

pub comes_and_goes : ComesAndGoes
comes_and_goes = record {
  comes = λ T c w. brings T w c;
  goes = λ T c w. if_weaker _ _ (outcome T c) (kept_after T w c) (λ o k. taken T o (scope_of T c) k);
}
