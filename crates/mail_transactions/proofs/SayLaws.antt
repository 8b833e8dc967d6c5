-- A line within a transaction that changes no node changes no counter.
use Rattle.std.proofs.Common.{◌≡◌, ◌⊎◌, inl, inr, ◌∙◌, ℕ, Bool, true, false, cond, List, [], ◌∷◌, map, length, Option, None, Some, IsSome, Result, Ok, Err, refl, sym, ap, subst, arith}
use Rattle.std.specs.FinMap as finite
use Rattle.std.specs.Ordering.{eq_by_cmp, is_eq, nat_cmp}
use Rattle.std.specs.Cmp.{nat_cmp_total, tied_itself}
use Rattle.std.specs.List.{AllZip}
use Rattle.pst_base.specs.declared.ids.Nid.{Nid}
use Rattle.command_text.specs.declared.command.Command.{Command}
use Rattle.command_text.specs.declared.command.Command.TheVariants.{MakeFolder, RenameFolder, MoveFolder, RemoveFolder, ListFolder, NewMessage, SetProperty, UnsetProperty, GetProperty, ListProperties, MoveMessage, CopyMessage, RemoveMessage, AddRecipient, RemoveRecipient, AddAttachment, AppendData, RemoveAttachment, FetchData, NameProperty, Save, Quit, MakeSearch, SetCriteria, GetCriteria, SetEmbedded}
use Rattle.command_text.specs.declared.reply.Reply.{Reply}
use Rattle.node_port.specs.Stops.{Room}
use Rattle.node_port.specs.declared.node.NodeRec.{NodeRec}
use Rattle.mail_tree.specs.Changing.{Answer}
use Rattle.mail_tree.specs.Tree.{Tree}
use Rattle.mail_searches.specs.Criteria.{Coming}
use Rattle.mail_searches.specs.Searching.{Searching}
use Rattle.mail_searches.specs.Step.{after, outcome, stepped}
use Rattle.session_lines.specs.declared.line.SessionLine.{SessionLine}
use Rattle.session_lines.specs.declared.line.SessionLine.TheVariants.{Pin, At, Unpin, OpenView, ShowView, CloseView, Embedded, Command as StoreCommand}
use Rattle.staged_store.proofs.store_session_laws.search_store_laws.QuietLaws.{stays_unwritten}
use Rattle.staged_store.specs.Saying.{Adds, LacksOn, MeansOn, SaysOn, ShowsOn, StagesCommand, Underway}
use Rattle.staged_store.specs.staged_nodes.Staged.{Staged, change_of, listed, with_changes}
use Rattle.staged_store.specs.pinned_session.mail_embedding.declared.meaning.Meaning.{Meaning}
use Rattle.staged_store.specs.pinned_session.mail_embedding.declared.meaning.Meaning.TheVariants.{Replies, Becomes}
use Rattle.staged_store.specs.pinned_session.store_session.mail_draft.Written.{Writes}
use Rattle.staged_store.specs.pinned_session.store_session.mail_draft.declared.stop.Stop.{Stop}
use Rattle.staged_store.specs.pinned_session.store_session.mail_draft.declared.stop.Stop.TheVariants.{Refused, Fault, Changed as StopChanged, Memory}
use Rattle.staged_store.specs.pinned_session.store_session.mail_store.Planning.{StaysUnwritten}
use Rattle.staged_store.proofs.store_session_laws.mail_store_laws.StoreLaws.{of_answer}

-- ---- what is changed stays changed

with_some : (b : Bool) (node : Option NodeRec) (x : Option (Option NodeRec)) → IsSome x → IsSome (cond b (Some node) x)
with_some true change x is = refl
with_some false change x is = is

some_with : (F : Staged) (cs : List (Nid × Option NodeRec)) (q : ℕ) → IsSome (finite.get F q) → IsSome (finite.get (with_changes F cs) q)
some_with F [] q is = is
some_with F (c ∷ cs) q is = some_with (finite.insert F (c.0).bits c.1) cs q (subst (λ (x : Option (Option NodeRec)). IsSome x) (sym (finite.get-insert nat_cmp_total F (c.0).bits c.1 q)) (with_some (eq_by_cmp nat_cmp q (c.0).bits) c.1 (finite.get F q) is))

some_put : (F : Staged) (q : ℕ) (node : Option NodeRec) → IsSome (finite.get (finite.insert F q node) q)
some_put F q node = subst (λ (x : Option (Option NodeRec)). IsSome x) (sym (finite.get-insert nat_cmp_total F q node q)) (by (eq_by_cmp nat_cmp q q) (same q))
  where
    same : (n : ℕ) → eq_by_cmp nat_cmp n n ≡ true
    same n = ap is_eq (tied_itself nat_cmp_total n)

    by : (b : Bool) → b ≡ true → IsSome (cond b (Some node) (finite.get F q))
    by true e = refl
    by false e = absurd (cc)

-- where nothing is listed nothing is changed
none_listed : (F : Staged) → listed F ≡ [] → (q : ℕ) → IsSome (finite.get F q) → ⊥
none_listed F none q is = by (finite.entries F) none (subst (λ (x : Option (Option NodeRec)). IsSome x) (finite.get-entries F q) is)
  where
    by : (es : List (ℕ × Option NodeRec)) → map change_of es ≡ [] → IsSome (finite.find nat_cmp q es) → ⊥
    by [] none is = absurd (cc)
    by (e ∷ es) none is = absurd (cc)

pub none_added : (F : Staged) (c : Nid × Option NodeRec) (cs : List (Nid × Option NodeRec)) → listed (with_changes F (c ∷ cs)) ≡ [] → ⊥
none_added F c cs none = none_listed (with_changes F (c ∷ cs)) none (c.0).bits (some_with (finite.insert F (c.0).bits c.1) cs (c.0).bits (some_put F (c.0).bits c.1))

-- ---- a command

-- it changed no object, or it added changes
added : {X : Type 0} (R : ℕ × X → Nid × Option NodeRec → Type 0) (objects : finite.FinMap nat_cmp X) (cs : List (Nid × Option NodeRec)) → (objects ≡ finite.empty → ⊥) → AllZip R (finite.entries objects) cs → (F : Staged) → listed (with_changes F cs) ≡ [] → ⊥
added {X} R objects cs some are F none = by (finite.entries objects) cs refl are none
  where
    by : (es : List (ℕ × X)) (ds : List (Nid × Option NodeRec)) → finite.entries objects ≡ es → AllZip R es ds → listed (with_changes F ds) ≡ [] → ⊥
    by [] ds e are none = some (finite.empty_of_len objects (finite.len-entries objects ∙ ap length e))
    by (x ∷ es) [] e are none = are
    by (x ∷ es) (d ∷ ds) e are none = none_added F d ds none

cases_empty : {X P : Type 0} (objects : finite.FinMap nat_cmp X) → (objects ≡ finite.empty → P) → ((objects ≡ finite.empty → ⊥) → P) → P
cases_empty {X} {P} objects none some = by (finite.entries objects) refl
  where
    by : (es : List (ℕ × X)) → finite.entries objects ≡ es → P
    by [] is = none (finite.empty_of_len objects (finite.len-entries objects ∙ ap length is))
    by (x ∷ es) is = some (λ empty.
        let none_there : length (finite.entries objects) ≡ 0 = sym (finite.len-entries objects) ∙ ap finite.len empty ∙ finite.len-empty nat_cmp X in
        let one_there : length (finite.entries objects) ≡ length (x ∷ es) = ap length is in
        omega (arith, none_there, one_there))

module _ (X : Searching) (L : List ℕ) (F G : Staged) (was : listed F ≡ [] → X.tree.last ≡ L) where
  made_counted : (o : Coming) (c : Command) → outcome X c ≡ Ok o → Adds (Ok o) F G → listed G ≡ [] → (after X o).tree.last ≡ L
  made_counted o c e adds none = cases_empty o.outcome.changed.objects
      (λ empty. ap (λ (T : Tree). T.last) (of_answer (λ (o : Coming). StaysUnwritten X.tree o.outcome) (outcome X c) o (stays_unwritten X c) e empty) ∙ was (subst (λ (H : Staged). listed H ≡ []) (adds.1 empty) none))
      (λ some. let made = adds.0 some in absurd (added Writes o.outcome.changed.objects made.0 some made.1 F (subst (λ (H : Staged). listed H ≡ []) made.2 none)))

  command_counted : (c : Command) (answer : Answer Coming) → outcome X c ≡ answer → (Y : Searching) (reply : Reply) → stepped X answer ≡ Some (Y, reply) → Adds answer F G → listed G ≡ [] → Y.tree.last ≡ L
  command_counted c (Ok o) e Y reply is adds none = ap (λ (Z : Searching). Z.tree.last) (sym (same_first (after X o) Y o.outcome.reply reply is)) ∙ made_counted o c e adds none
    where
      same_first : (A B : Searching) (r s : Reply) → ◌≡◌ {A = Option (Searching × Reply)} (Some (A, r)) (Some (B, s)) → A ≡ B
      same_first A B r s f = let pairs : ◌≡◌ {A = Searching × Reply} (A, r) (B, s) = cc in ap (λ (p : Searching × Reply). p.0) pairs
  command_counted c (Err (Some refusal)) e Y reply is adds none = ap (λ (Z : Searching). Z.tree.last) (sym (same_first X Y _ reply is)) ∙ was (subst (λ (H : Staged). listed H ≡ []) adds none)
    where
      same_first : (A B : Searching) (r s : Reply) → ◌≡◌ {A = Option (Searching × Reply)} (Some (A, r)) (Some (B, s)) → A ≡ B
      same_first A B r s f = let pairs : ◌≡◌ {A = Searching × Reply} (A, r) (B, s) = cc in ap (λ (p : Searching × Reply). p.0) pairs
  command_counted c (Err None) e Y reply is adds none = absurd (cc)

-- ---- a line

-- what is so of the counters of a transaction that changed no node
abbrev Counted : List ℕ → Underway → Type 0
Counted L U = listed U.nodes ≡ [] → U.now.tree.last ≡ L

module _ (room : Room) (U : Underway) (L : List ℕ) (was : Counted L U) where
  same_counted : (V : Underway) → V ≡ U → Counted L V
  same_counted V e = subst (Counted L) (sym e) was

  staged_counted : (c : Command) (said : List ℕ) (V : Underway) → StagesCommand room U c said V → Counted L V
  staged_counted c said V (inl is) none = command_counted U.now L U.nodes V.nodes was c (outcome U.now c) refl V.now is.steps.0 is.steps.1 is.adds none
  staged_counted c said V (inr (inl is)) none = same_counted V is.1 none
  staged_counted c said V (inr (inr is)) none = same_counted V is.2 none

  shown_counted : (asked : SessionLine) (said : List ℕ) (V : Underway) → ShowsOn room U asked said V → Counted L V
  shown_counted asked said V is = subst (Counted L) (sym is.2) was

  meant_counted : (meant : Result Meaning Stop) (said : List ℕ) (V : Underway) → MeansOn room U meant said V → Counted L V
  meant_counted (Ok (Replies reply)) said V is = same_counted V is.1
  meant_counted (Ok (Becomes c)) said V is = staged_counted c said V is
  meant_counted (Err (Refused refusal)) said V is = same_counted V is.1
  meant_counted (Err Fault) said V is = absurd is
  meant_counted (Err (StopChanged ib stored computed)) said V is = absurd is
  meant_counted (Err Memory) said V is = absurd is

  store_counted : (c : Command) (said : List ℕ) (V : Underway) → SaysOn room U (StoreCommand c) said V → Counted L V
  store_counted Save said V is = same_counted V is.1
  store_counted (MakeFolder parent name) said V is = staged_counted (MakeFolder parent name) said V is
  store_counted (RenameFolder folder name) said V is = staged_counted (RenameFolder folder name) said V is
  store_counted (MoveFolder folder parent) said V is = staged_counted (MoveFolder folder parent) said V is
  store_counted (RemoveFolder folder) said V is = staged_counted (RemoveFolder folder) said V is
  store_counted (ListFolder folder) said V is = staged_counted (ListFolder folder) said V is
  store_counted (NewMessage folder class time values) said V is = staged_counted (NewMessage folder class time values) said V is
  store_counted (SetProperty message value) said V is = staged_counted (SetProperty message value) said V is
  store_counted (UnsetProperty message tag) said V is = staged_counted (UnsetProperty message tag) said V is
  store_counted (GetProperty message tag) said V is = staged_counted (GetProperty message tag) said V is
  store_counted (ListProperties message) said V is = staged_counted (ListProperties message) said V is
  store_counted (MoveMessage message folder) said V is = staged_counted (MoveMessage message folder) said V is
  store_counted (CopyMessage message folder) said V is = staged_counted (CopyMessage message folder) said V is
  store_counted (RemoveMessage message) said V is = staged_counted (RemoveMessage message) said V is
  store_counted (AddRecipient message kind address name) said V is = staged_counted (AddRecipient message kind address name) said V is
  store_counted (RemoveRecipient message row) said V is = staged_counted (RemoveRecipient message row) said V is
  store_counted (AddAttachment message name held) said V is = staged_counted (AddAttachment message name held) said V is
  store_counted (AppendData message attachment bytes) said V is = staged_counted (AppendData message attachment bytes) said V is
  store_counted (SetEmbedded message attachment node) said V is = staged_counted (SetEmbedded message attachment node) said V is
  store_counted (RemoveAttachment message attachment) said V is = staged_counted (RemoveAttachment message attachment) said V is
  store_counted (FetchData message attachment) said V is = staged_counted (FetchData message attachment) said V is
  store_counted (NameProperty guid number) said V is = staged_counted (NameProperty guid number) said V is
  store_counted (MakeSearch parent name) said V is = staged_counted (MakeSearch parent name) said V is
  store_counted (SetCriteria search flags scope restriction) said V is = staged_counted (SetCriteria search flags scope restriction) said V is
  store_counted (GetCriteria search) said V is = staged_counted (GetCriteria search) said V is
  store_counted Quit said V is = staged_counted Quit said V is

  pub says_counted : (asked : SessionLine) (said : List ℕ) (V : Underway) → SaysOn room U asked said V ⊎ LacksOn room U said V → Counted L V
  says_counted asked said V (inr is) = same_counted V is.1
  says_counted (StoreCommand c) said V (inl is) = store_counted c said V is
  says_counted (OpenView folder tag direction) said V (inl is) = shown_counted (OpenView folder tag direction) said V is
  says_counted (ShowView view grouped) said V (inl is) = shown_counted (ShowView view grouped) said V is
  says_counted (CloseView view) said V (inl is) = shown_counted (CloseView view) said V is
  says_counted (Embedded asked) said V (inl is) = meant_counted is.0 said V is.2
  says_counted Pin said V (inl is) = same_counted V is.1
  says_counted (At pin c) said V (inl is) = same_counted V is.1
  says_counted (Unpin pin) said V (inl is) = same_counted V is.1
