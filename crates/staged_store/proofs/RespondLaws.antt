-- What is said to a line within a transaction.
use Rattle.std.proofs.Common.{◌≡◌, ◌∙◌, ◌⊎◌, inl, inr, ℕ, ◌≤◌, Bool, true, false, List, Option, None, Some, Result, Ok, Err, refl, sym, ap, subst}
use Rattle.std.proofs.lemmas.Bool.{true≢false}
use Rattle.node_port.specs.Stops.{Room}
use Rattle.command_text.specs.Replies.{text}
use Rattle.command_text.specs.declared.command.Command.{Command}
use Rattle.command_text.specs.declared.command.Command.TheVariants.{MakeFolder, RenameFolder, MoveFolder, RemoveFolder, ListFolder, NewMessage, SetProperty, UnsetProperty, GetProperty, ListProperties, MoveMessage, CopyMessage, RemoveMessage, AddRecipient, RemoveRecipient, AddAttachment, AppendData, RemoveAttachment, FetchData, NameProperty, Save, Quit, MakeSearch, SetCriteria, GetCriteria, SetEmbedded}
use Rattle.command_text.specs.declared.embedded.EmbeddedCommand.{EmbeddedCommand}
use Rattle.command_text.specs.declared.reply.CommandRefusal.{CommandRefusal}
use Rattle.command_text.specs.declared.reply.CommandRefusal.TheVariants.{Line}
use Rattle.command_text.specs.declared.reply.LastLine.TheVariants as last
use Rattle.command_text.specs.declared.reply.Reply.{Reply}
use Rattle.line_server.specs.Spoken.{no_memory_text, spoken_text}
use Rattle.line_server.specs.declared.spoken.Spoken.{Spoken}
use Rattle.mail_tree.specs.Changing.{Answer}
use Rattle.mail_tree.specs.Folders.{replied}
use Rattle.mail_tree.specs.Whole.{Fine}
use Rattle.mail_searches.specs.Criteria.{Coming}
use Rattle.mail_searches.specs.Step.{after, outcome, stepped}
use Rattle.session_lines.specs.Texts.{transaction_text}
use Rattle.session_lines.specs.declared.line.SessionLine.{SessionLine}
use Rattle.session_lines.specs.declared.line.SessionLine.TheVariants.{Pin, At, Unpin, Embedded, Command as StoreCommand}
use Rattle.session_lines.specs.declared.line.TransactionReply.TheVariants.{Full}
use Rattle.pinned_session.specs.Showing.{AnswersView, LacksMemory}
use Rattle.pinned_session.specs.Viewing.{Viewing, standing, viewing_of}
use Rattle.pinned_session.specs.declared.views.OpenViews.{OpenViews}
use Rattle.pinned_session.specs.mail_embedding.Meant.{Means}
use Rattle.pinned_session.specs.mail_embedding.declared.meaning.Meaning.{Meaning}
use Rattle.pinned_session.specs.mail_embedding.declared.meaning.Meaning.TheVariants.{Replies, Becomes}
use Rattle.pinned_session.specs.store_session.Carrying.{ComesTo, SaysRefusal}
use Rattle.pinned_session.specs.store_session.Disks.{is_save}
use Rattle.pinned_session.specs.store_session.Run.{refused}
use Rattle.pinned_session.specs.store_session.declared.carrying.StoreStop.{StoreStop}
use Rattle.pinned_session.specs.store_session.declared.carrying.StoreStop.TheVariants.{Disk, Changed}
use Rattle.pinned_session.specs.store_session.mail_draft.Answers.{Says}
use Rattle.pinned_session.specs.store_session.mail_draft.declared.stop.Stop.{Stop}
use Rattle.pinned_session.specs.store_session.mail_draft.declared.stop.Stop.TheVariants as stops
use Rattle.pinned_session.specs.store_session.mail_store.Space.{HasRoom}
use Rattle.pinned_session.specs.store_session.search_store.Planning.{PlansComing}
use Rattle.pinned_session.proofs.mail_embedding_laws.Calm as calm
use Rattle.pinned_session.proofs.store_session_laws.Carry.{memory_text, plan_made}
use Rattle.pinned_session.specs.store_session.Carrying.{InOrder}
use Rattle.staged_nodes.specs.Sizes.{MOST_STAGED}
use Rattle.staged_nodes.specs.Staged.{Staged, staged_size}
use Rattle.staged_store.specs.Saying.{Adds, IsTooMuch, RefusesOn, SaysOn, StagesCommand, Underway, left}
use Rattle.staged_store.specs.Standing.{Responds, Stages}

-- nothing was found changed
never_changed : {A B : Type 0} (view : B → A) (answer : Answer A) (ib stored computed : ℕ) → Fine answer (λ x. Unit {0}) → Says view answer (Err (stops.Changed ib stored computed)) → ⊥
never_changed view (Ok x) ib stored computed fine is = is
never_changed view (Err (Some r)) ib stored computed fine is = is
never_changed view (Err None) ib stored computed fine is = fine

-- a refusal is that of the answer
refusal_of : {A B : Type 0} (view : B → A) (answer : Answer A) (refusal : CommandRefusal) → Fine answer (λ x. Unit {0}) → Says view answer (Err (stops.Refused refusal)) → answer ≡ Err (Some refusal)
refusal_of view (Ok x) refusal fine is = absurd is
refusal_of view (Err (Some r)) refusal fine is = ap (λ (g : CommandRefusal). Err (Some g)) (sym is)
refusal_of view (Err None) refusal fine is = absurd fine

clash : {x : Answer Coming} (o : Coming) → x ≡ Ok o → x ≡ Err None → ⊥
clash o e f = cc

module _ (room : Room) (U : Underway) (has : Underway → Type 0) where
  -- ---- commands of the store, as lines

  says_command : (c : Command) (said : List ℕ) (after : Underway) → is_save c ≡ false → StagesCommand room U c said after → SaysOn room U (StoreCommand c) said after
  says_command (MakeFolder parent name) said after other is = is
  says_command (RenameFolder folder name) said after other is = is
  says_command (MoveFolder folder parent) said after other is = is
  says_command (RemoveFolder folder) said after other is = is
  says_command (ListFolder folder) said after other is = is
  says_command (NewMessage folder class time values) said after other is = is
  says_command (SetProperty message value) said after other is = is
  says_command (UnsetProperty message tag) said after other is = is
  says_command (GetProperty message tag) said after other is = is
  says_command (ListProperties message) said after other is = is
  says_command (MoveMessage message folder) said after other is = is
  says_command (CopyMessage message folder) said after other is = is
  says_command (RemoveMessage message) said after other is = is
  says_command (AddRecipient message kind address name) said after other is = is
  says_command (RemoveRecipient message row) said after other is = is
  says_command (AddAttachment message name held) said after other is = is
  says_command (AppendData message attachment bytes) said after other is = is
  says_command (SetEmbedded message attachment node) said after other is = is
  says_command (RemoveAttachment message attachment) said after other is = is
  says_command (FetchData message attachment) said after other is = is
  says_command (NameProperty guid number) said after other is = is
  says_command (MakeSearch parent name) said after other is = is
  says_command (SetCriteria search flags scope restriction) said after other is = is
  says_command (GetCriteria search) said after other is = is
  says_command Quit said after other is = is
  says_command Save said after other is = absurd (true≢false other)

  says_save : (c : Command) (said : List ℕ) (after : Underway) → is_save c ≡ true → RefusesOn room U said after → SaysOn room U (StoreCommand c) said after
  says_save (MakeFolder parent name) said after saves is = absurd (true≢false (sym saves))
  says_save (RenameFolder folder name) said after saves is = absurd (true≢false (sym saves))
  says_save (MoveFolder folder parent) said after saves is = absurd (true≢false (sym saves))
  says_save (RemoveFolder folder) said after saves is = absurd (true≢false (sym saves))
  says_save (ListFolder folder) said after saves is = absurd (true≢false (sym saves))
  says_save (NewMessage folder class time values) said after saves is = absurd (true≢false (sym saves))
  says_save (SetProperty message value) said after saves is = absurd (true≢false (sym saves))
  says_save (UnsetProperty message tag) said after saves is = absurd (true≢false (sym saves))
  says_save (GetProperty message tag) said after saves is = absurd (true≢false (sym saves))
  says_save (ListProperties message) said after saves is = absurd (true≢false (sym saves))
  says_save (MoveMessage message folder) said after saves is = absurd (true≢false (sym saves))
  says_save (CopyMessage message folder) said after saves is = absurd (true≢false (sym saves))
  says_save (RemoveMessage message) said after saves is = absurd (true≢false (sym saves))
  says_save (AddRecipient message kind address name) said after saves is = absurd (true≢false (sym saves))
  says_save (RemoveRecipient message row) said after saves is = absurd (true≢false (sym saves))
  says_save (AddAttachment message name held) said after saves is = absurd (true≢false (sym saves))
  says_save (AppendData message attachment bytes) said after saves is = absurd (true≢false (sym saves))
  says_save (SetEmbedded message attachment node) said after saves is = absurd (true≢false (sym saves))
  says_save (RemoveAttachment message attachment) said after saves is = absurd (true≢false (sym saves))
  says_save (FetchData message attachment) said after saves is = absurd (true≢false (sym saves))
  says_save (NameProperty guid number) said after saves is = absurd (true≢false (sym saves))
  says_save (MakeSearch parent name) said after saves is = absurd (true≢false (sym saves))
  says_save (SetCriteria search flags scope restriction) said after saves is = absurd (true≢false (sym saves))
  says_save (GetCriteria search) said after saves is = absurd (true≢false (sym saves))
  says_save Quit said after saves is = absurd (true≢false (sym saves))
  says_save Save said after saves is = is

  pub command_responds : (c : Command) (r : Result Spoken StoreStop) → is_save c ≡ false → Stages room U c has r → Responds room U (StoreCommand c) has r
  command_responds c (Ok spoken) other (to, inl is, h) = (to, inl (says_command c (spoken_text spoken) to other is), h)
  command_responds c (Ok spoken) other (to, inr is, h) = (to, inr is, h)
  command_responds c (Err Disk) other is = tt
  command_responds c (Err (Changed ib stored computed)) other is = is

  pub line_responds : (asked line : SessionLine) (r : Result Spoken StoreStop) → asked ≡ line → Responds room U line has r → Responds room U asked has r
  line_responds asked line r is responds = subst (λ (a : SessionLine). Responds room U a has r) (sym is) responds

  -- ---- where nothing changes

  module _ (h : has U) where
    pub lacking : (asked : SessionLine) (spoken : Spoken) → spoken_text spoken ≡ no_memory_text → Responds room U asked has (Ok spoken)
    lacking asked spoken is = (U, inr (is ∙ memory_text, refl), h)

    pub refuses : (asked : SessionLine) (spoken : Spoken) → ((said : List ℕ) (to : Underway) → RefusesOn room U said to → SaysOn room U asked said to) → SaysRefusal Line spoken → Responds room U asked has (Ok spoken)
    refuses asked spoken says (inl is) = (U, inl (says (spoken_text spoken) U (is, refl)), h)
    refuses asked spoken says (inr is) = lacking asked spoken is

    pub refuses_save : (c : Command) (spoken : Spoken) → is_save c ≡ true → SaysRefusal Line spoken → Responds room U (StoreCommand c) has (Ok spoken)
    refuses_save c spoken saves is = refuses (StoreCommand c) spoken (λ said to says. says_save c said to saves says) is

    pub refuses_any : (asked : SessionLine) (spoken : Spoken) → SaysRefusal Line spoken → (asked ≡ Pin) ⊎ (((pin : Option ℕ) × (c : Command) × (asked ≡ At pin c)) ⊎ ((pin : Option ℕ) × (asked ≡ Unpin pin))) → Responds room U asked has (Ok spoken)
    refuses_any asked spoken is (inl e) = line_responds asked Pin (Ok spoken) e (refuses Pin spoken (λ said to says. says) is)
    refuses_any asked spoken is (inr (inl e)) = line_responds asked (At e.0 e.1) (Ok spoken) e.2 (refuses (At e.0 e.1) spoken (λ said to says. says) is)
    refuses_any asked spoken is (inr (inr e)) = line_responds asked (Unpin e.0) (Ok spoken) e.1 (refuses (Unpin e.0) spoken (λ said to says. says) is)

    -- what a folder lists couldn't be read
    pub listing_stops : {A B : Type 0} (view : B → A) (answer : Answer A) (asked : SessionLine) (stop : Stop) (r : Result Spoken StoreStop) → Fine answer (λ x. Unit {0}) → ComesTo stop r → Says view answer (Err stop)
        → ((refusal : CommandRefusal) (spoken : Spoken) → answer ≡ Err (Some refusal) → spoken_text spoken ≡ refused refusal → SaysOn room U asked (spoken_text spoken) U) → Responds room U asked has r
    listing_stops {A} {B} view answer asked stop (Ok spoken) fine (inl is) says by =
        (U, inl (by is.0 spoken (refusal_of {A = A} {B = B} view answer is.0 fine (subst (λ (s : Stop). Says {A = A} {B = B} view answer (Err s)) is.1 says)) is.2), h)
    listing_stops view answer asked stop (Ok spoken) fine (inr is) says by = lacking asked spoken is
    listing_stops view answer asked stop (Err Disk) fine is says by = tt
    listing_stops {A} {B} view answer asked stop (Err (Changed ib stored computed)) fine is says by = never_changed {A = A} {B = B} view answer ib stored computed fine (subst (λ (s : Stop). Says {A = A} {B = B} view answer (Err s)) is says)

    -- a line on the message in an attachment came to a reply, or stopped
    pub replies : (line : EmbeddedCommand) (meant : Result Meaning Stop) (reply : Reply) (spoken : Spoken) → Means U.now.tree line meant → meant ≡ Ok (Replies reply) → (spoken_text spoken ≡ text reply) ⊎ (spoken_text spoken ≡ no_memory_text)
        → Responds room U (Embedded line) has (Ok spoken)
    replies line meant reply spoken means is (inl says) = (U, inl (Ok (Replies reply), subst (λ (m : Result Meaning Stop). Means U.now.tree line m) is means, (says, refl)), h)
    replies line meant reply spoken means is (inr says) = lacking (Embedded line) spoken says

    pub stops_meant : (line : EmbeddedCommand) (meant : Result Meaning Stop) (stop : Stop) (r : Result Spoken StoreStop) → Means U.now.tree line meant → meant ≡ Err stop → ComesTo stop r → Responds room U (Embedded line) has r
    stops_meant line meant stop (Ok spoken) means is (inl comes) =
        (U, inl (Err (stops.Refused comes.0), subst (λ (m : Result Meaning Stop). Means U.now.tree line m) (is ∙ ap (λ (s : Stop). Err s) comes.1) means, (comes.2, refl)), h)
    stops_meant line meant stop (Ok spoken) means is (inr says) = lacking (Embedded line) spoken says
    stops_meant line meant stop (Err Disk) means is comes = tt
    stops_meant line meant stop (Err (Changed ib stored computed)) means is comes =
        calm.never_changed ib stored computed U.now.tree line (subst (λ (m : Result Meaning Stop). Means U.now.tree line m) (is ∙ ap (λ (s : Stop). Err s) comes) means)

  -- it came to a command
  pub becomes : (line : EmbeddedCommand) (meant : Result Meaning Stop) (c : Command) (r : Result Spoken StoreStop) → Means U.now.tree line meant → meant ≡ Ok (Becomes c) → Stages room U c has r → Responds room U (Embedded line) has r
  becomes line meant c (Ok spoken) means is (to, inl says, h) = (to, inl (Ok (Becomes c), subst (λ (m : Result Meaning Stop). Means U.now.tree line m) is means, says), h)
  becomes line meant c (Ok spoken) means is (to, inr says, h) = (to, inr says, h)
  becomes line meant c (Err Disk) means is says = tt
  becomes line meant c (Err (Changed ib stored computed)) means is says = says

  -- ---- a line on views

  pub views_answer : (asked : SessionLine) (olds news : OpenViews) (spoken : Spoken) → ((said : List ℕ) (V : Viewing) → AnswersView U.now U.views asked said V → SaysOn room U asked said (record U { views = V })) → U.views ≡ viewing_of olds
      → ((V : Viewing) → V ≡ viewing_of news → has (record U { views = V })) → AnswersView U.now (viewing_of olds) asked (spoken_text spoken) (viewing_of news) ⊎ LacksMemory olds news (spoken_text spoken) → Responds room U asked has (Ok spoken)
  views_answer asked olds news spoken says was on (inl is) =
      let V = viewing_of news in
      (record U { views = V }, inl (says (spoken_text spoken) V (subst (λ (W : Viewing). AnswersView U.now W asked (spoken_text spoken) V) (sym was) is)), on V refl)
  views_answer asked olds news spoken says was on (inr is) = lacking (on U.views (was ∙ sym is.1)) asked spoken is.0

  -- ---- a command of the store

  module _ (tidy : Bool) (order : InOrder tidy U.now) (c : Command) where
    -- it comes to an answer
    formless : outcome U.now c ≡ Err None → ⊥
    formless e =
        let plans : Coming → Unit {0} → Type 0 = λ o p. Unit {0} in
        let made = plan_made (left room U) tidy U.now c order plans tt (subst (λ (a : Answer Coming). PlansComing (left room U) plans a (Ok tt)) (sym e) tt) in
        clash made.0 made.1 e

    -- it stopped
    module _ (h : has U) (few : staged_size U.nodes ≤ MOST_STAGED) where
      stages_lacking : (spoken : Spoken) → spoken_text spoken ≡ no_memory_text → Stages room U c has (Ok spoken)
      stages_lacking spoken is = (U, inr (is ∙ memory_text, refl), h)

      never : (o : Coming) (r : CommandRefusal) → outcome U.now c ≡ Ok o → outcome U.now c ≡ Err (Some r) → ⊥
      never o r made refused_is = cc

      stage_refused : {P : Type 0} (plans : Coming → P → Type 0) (refusal : CommandRefusal) (said : List ℕ) (x : Answer Coming) → outcome U.now c ≡ x → PlansComing {P = P} (left room U) plans x (Err (stops.Refused refusal)) → said ≡ refused refusal → StagesCommand room U c said U
      stage_refused plans refusal said (Ok o) e is says = inr (inl ((o, e, (refusal, is, says), refl), refl))
      stage_refused plans refusal said (Err (Some r)) e is says = inl (record {
        steps = (replied (last.Refused r), ap (stepped U.now) e, says ∙ ap refused is);
        suffices = λ o made. absurd (never o r made e);
        adds = rw e refl;
        few = few;
        views = rw e refl;
      })
      stage_refused plans refusal said (Err None) e is says = absurd (formless e)

      stage_changed : {P : Type 0} (plans : Coming → P → Type 0) (ib stored computed : ℕ) (x : Answer Coming) → outcome U.now c ≡ x → PlansComing {P = P} (left room U) plans x (Err (stops.Changed ib stored computed)) → ⊥
      stage_changed plans ib stored computed (Ok o) e is = is
      stage_changed plans ib stored computed (Err (Some r)) e is = is
      stage_changed plans ib stored computed (Err None) e is = formless e

      pub stage_stops : {P : Type 0} (plans : Coming → P → Type 0) (stop : Stop) (r : Result Spoken StoreStop) → ComesTo stop r → PlansComing {P = P} (left room U) plans (outcome U.now c) (Err stop) → Stages room U c has r
      stage_stops {P} plans stop (Ok spoken) (inl is) answers =
          (U, inl (stage_refused plans is.0 (spoken_text spoken) (outcome U.now c) refl (subst (λ (s : Stop). PlansComing {P = P} (left room U) plans (outcome U.now c) (Err s)) is.1 answers) is.2), h)
      stage_stops plans stop (Ok spoken) (inr is) answers = stages_lacking spoken is
      stage_stops plans stop (Err Disk) is answers = tt
      stage_stops {P} plans stop (Err (Changed ib stored computed)) is answers = stage_changed plans ib stored computed (outcome U.now c) refl (subst (λ (s : Stop). PlansComing {P = P} (left room U) plans (outcome U.now c) (Err s)) is answers)

      pub stage_lacks : (spoken : Spoken) → spoken_text spoken ≡ no_memory_text → Stages room U c has (Ok spoken)
      stage_lacks spoken is = stages_lacking spoken is

      -- its changes are too much
      pub stage_full : (o : Coming) (spoken : Spoken) → outcome U.now c ≡ Ok o → IsTooMuch (Ok o) U.nodes → (spoken_text spoken ≡ transaction_text Full) ⊎ (spoken_text spoken ≡ no_memory_text) → Stages room U c has (Ok spoken)
      stage_full o spoken e much (inl says) = (U, inl (inr (inr (says, subst (λ (a : Answer Coming). IsTooMuch a U.nodes) (sym e) much, refl))), h)
      stage_full o spoken e much (inr says) = stages_lacking spoken says

    same_outcome : (o p : Coming) → outcome U.now c ≡ Ok o → outcome U.now c ≡ Ok p → o ≡ p
    same_outcome o p e f = cc

    -- its changes were made
    pub stage_made : (o : Coming) (spoken : Spoken) (G : Staged) (reply : Reply) → outcome U.now c ≡ Ok o → HasRoom (left room U) o.outcome.changed → reply ≡ o.outcome.reply → spoken_text spoken ≡ text reply → Adds (Ok o) U.nodes G → staged_size G ≤ MOST_STAGED
        → has (record { now = after U.now o; views = standing (after U.now o).tree.places U.views; nodes = G }) → Stages room U c has (Ok spoken)
    stage_made o spoken G reply e space is says adds few h = (
      record { now = after U.now o; views = standing (after U.now o).tree.places U.views; nodes = G },
      inl (inl (record {
        steps = (o.outcome.reply, ap (stepped U.now) e, says ∙ ap text is);
        suffices = λ p f. subst (λ (x : Coming). HasRoom (left room U) x.outcome.changed) (same_outcome o p e f) space;
        adds = subst (λ (a : Answer Coming). Adds a U.nodes G) (sym e) adds;
        few = few;
        views = rw e refl;
      })),
      h,
    )
