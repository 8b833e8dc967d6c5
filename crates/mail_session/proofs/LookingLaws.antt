-- What is said to a line of a session that only reads.
use Rattle.std.proofs.Common.{◌≡◌, ◌⊎◌, ◌∙◌, ℕ, Bool, true, false, List, Some, Result, Ok, Err, IfErr, IfOk, ap, inl, inr, refl, subst, sym}
use Rattle.pst_outside.specs.World.{SameDisk, World}
use Rattle.pst_outside.specs.Calls.{Untouched}
use Rattle.command_text.specs.declared.command.Command.{Command}
use Rattle.command_text.specs.declared.command.LineRefusal.{LineRefusal}
use Rattle.command_text.specs.declared.embedded.EmbeddedCommand.{EmbeddedCommand}
use Rattle.command_text.specs.declared.embedded.EmbeddedCommand.TheVariants.{Embed, List as ListsInside, Get, Set, Unset}
use Rattle.command_text.specs.declared.reply.CommandRefusal.{CommandRefusal}
use Rattle.command_text.specs.declared.reply.CommandRefusal.TheVariants.{Line}
use Rattle.command_text.specs.declared.reply.LastLine.TheVariants as last
use Rattle.command_text.specs.declared.reply.LastLine.TheVariants.{NoMemory}
use Rattle.command_text.specs.declared.reply.Reply.{Reply}
use Rattle.command_text.specs.Replies.{text}
use Rattle.line_server.specs.Spoken.{no_memory_text, spoken_text}
use Rattle.line_server.specs.declared.spoken.Spoken.{Spoken}
use Rattle.node_port.specs.Nodes.{Nodes}
use Rattle.node_port.specs.Stops.{Room}
use Rattle.tree_look.specs.mail_draft.Answers.{IsCaused, Looks}
use Rattle.tree_look.specs.mail_draft.declared.stop.Stop.{Stop}
use Rattle.tree_look.specs.mail_draft.declared.stop.Stop.TheVariants as draft
use Rattle.mail_tree.specs.declared.known.Known.{Known}
use Rattle.mail_tree.specs.Folders.{replied}
use Rattle.mail_tree.specs.Tree.{Tree}
use Rattle.mail_searches.specs.Searching.{Searching}
use Rattle.mail_searches.specs.Step.{step}
use Rattle.mail_searches.specs.declared.known.KnownSearches.{KnownSearches}
use Rattle.file_filling.specs.mail_reading.Asked.{reads}
use Rattle.file_filling.proofs.mail_reading_laws.Answered.{StopAnswers}
use Rattle.file_filling.specs.store_session.Carrying.{ComesTo, SaysRefusal}
use Rattle.file_filling.specs.store_session.declared.carrying.StoreStop.{StoreStop}
use Rattle.file_filling.specs.store_session.declared.carrying.StoreStop.TheVariants.{Disk, Changed}
use Rattle.file_filling.proofs.store_session_laws.Carry.{memory_text}
use Rattle.file_filling.specs.pinned_session.mail_embedding.Meant.{Means}
use Rattle.file_filling.specs.pinned_session.mail_embedding.declared.meaning.Meaning.{Meaning}
use Rattle.file_filling.specs.pinned_session.mail_embedding.declared.meaning.Meaning.TheVariants.{Replies, Becomes}
use Rattle.file_filling.proofs.pinned_session_laws.mail_embedding_laws.Asking.{gets_only, lists_only}
use Rattle.file_filling.proofs.pinned_session_laws.mail_embedding_laws.Calm.{never_changed}
use Rattle.session_lines.specs.Lines.{session_line}
use Rattle.session_lines.specs.declared.line.SessionLine.{SessionLine}
use Rattle.session_lines.specs.declared.line.SessionLine.TheVariants.{Embedded, Command as StoreCommand}
use Rattle.mail_session.specs.Looking.{Asks, AsksCommand, AsksInside, ReaderAnswers, ReaderSays, ReaderStops, SaysMeant, TellsTree, reads_inside}
use Rattle.file_filling.specs.store_session.Run.{refused}
use Rattle.mail_session.specs.declared.looking.Reader.{Reader}

-- a call that only looks leaves what is told
pub looks_on : {holds holds' : Nodes → Type 0} {before after : List ℕ} {room room' : Room} {v w : World} (known : Known) (of_searches : KnownSearches) (X : Searching) → Looks holds holds' before after room room' v w
    → TellsTree holds before known of_searches X → TellsTree holds' after known of_searches X
looks_on known of_searches X looks h =
    let s = h.shown in
    record {
      shown = record { nodes = s.nodes; held = looks.stays s.nodes s.held; at = s.at; counters = s.counters ∙ sym looks.counters };
      knows = h.knows;
      searches = h.searches;
      whole = h.whole;
      are = h.are;
    }

-- what is said to what a line asks for, or that there was no memory for it
abbrev pub AsksOrLacks : Searching → Result SessionLine LineRefusal → List ℕ → Type 0
AsksOrLacks X asked said = Asks X asked said ⊎ (said ≡ text (replied NoMemory))

-- there was no memory
pub lacks_memory : (X : Searching) (asked : Result SessionLine LineRefusal) (said : List ℕ) → said ≡ no_memory_text → AsksOrLacks X asked said
lacks_memory X asked said is = inr (is ∙ memory_text)

-- a refusal was said
pub refusal_asks : (X : Searching) (asked : Result SessionLine LineRefusal) (refusal : CommandRefusal) (spoken : Spoken) → (spoken_text spoken ≡ refused refusal → Asks X asked (spoken_text spoken)) → SaysRefusal refusal spoken → AsksOrLacks X asked (spoken_text spoken)
refusal_asks X asked refusal spoken asks (inl is) = inl (asks is)
refusal_asks X asked refusal spoken asks (inr is) = lacks_memory X asked (spoken_text spoken) is

-- what was said to what a line asks for is said to the line
pub answers_line : {has has' : Searching → Type 0} {old new : World} {said : List ℕ} (bytes : List ℕ) (asked : Result SessionLine LineRefusal) → session_line bytes ≡ asked → ReaderSays has has' old new asked said → ReaderAnswers has has' old new bytes said
answers_line {said = said} bytes asked is r = record {
  same = r.same;
  answered = λ X h. (subst (λ a. AsksOrLacks X a said) (sym is) (r.says X h).0, (r.says X h).1);
}

-- the same where it may be that none was said
pub answers_if : (has has' : Searching → Type 0) (old new : World) (bytes : List ℕ) (asked : Result SessionLine LineRefusal) → session_line bytes ≡ asked → (r : Result Spoken StoreStop)
    → IfOk r (λ spoken. ReaderSays has has' old new asked (spoken_text spoken)) → IfOk r (λ spoken. ReaderAnswers has has' old new bytes (spoken_text spoken))
answers_if has has' old new bytes asked is (Ok spoken) says = answers_line bytes asked is says
answers_if has has' old new bytes asked is (Err stop) says = tt

-- a refusal was said to a line, of which nothing was asked
pub refusal_answers : (has : Searching → Type 0) {v : World} → Untouched v v → (bytes : List ℕ) (asked : Result SessionLine LineRefusal) → session_line bytes ≡ asked → (refusal : CommandRefusal) (spoken : Spoken)
    → ((X : Searching) → spoken_text spoken ≡ refused refusal → Asks X asked (spoken_text spoken)) → SaysRefusal refusal spoken → ReaderAnswers has has v v bytes (spoken_text spoken)
refusal_answers has same bytes asked is refusal spoken asks says = answers_line bytes asked is (record { same = same; says = λ X h. (refusal_asks X asked refusal spoken (asks X) says, h) })

-- there was no memory to read a line
pub lacks_line : (has : Searching → Type 0) {v : World} → Untouched v v → (bytes said : List ℕ) → said ≡ no_memory_text → ReaderAnswers has has v v bytes said
lacks_line has same bytes said is = record { same = same; answered = λ X h. (inr (is ∙ memory_text), h) }

-- ---- a command of the store

-- it was answered
pub reply_says : (X : Searching) (said : List ℕ) (c : Command) (reply : Reply) → (reads c ≡ true) × (step X c ≡ Some (X, reply)) → (said ≡ text reply) ⊎ (said ≡ no_memory_text) → AsksOrLacks X (Ok (StoreCommand c)) said
reply_says X said c reply asked (inl says) = inl (subst (λ b. AsksCommand b X c said) (sym asked.0) (reply, asked.1, says))
reply_says X said c reply asked (inr says) = lacks_memory X (Ok (StoreCommand c)) said says

-- it was refused
pub refusal_says : (X : Searching) (c : Command) (stop : Stop) → StopAnswers X c stop → (refusal : CommandRefusal) → stop ≡ draft.Refused refusal → (said : List ℕ) → said ≡ refused refusal → Asks X (Ok (StoreCommand c)) said
refusal_says X c stop asks refusal is said says = by (subst (StopAnswers X c) is asks)
  where
    by : StopAnswers X c (draft.Refused refusal) → AsksCommand (reads c) X c said
    by (inl asked) = subst (λ b. AsksCommand b X c said) (sym asked.0) (replied (last.Refused refusal), asked.1, says)
    by (inr other) = subst (λ b. AsksCommand b X c said) (sym other.0) (says ∙ ap refused other.1)

-- ---- a line on the message in an attachment

-- to one that may change something it is said that it is none
pub none_says : (X : Searching) (asked : EmbeddedCommand) (said : List ℕ) → reads_inside asked ≡ false → said ≡ refused Line → Asks X (Ok (Embedded asked)) said
none_says X asked said other says = subst (λ b. AsksInside b X asked said) (sym other) says

-- one that only reads becomes no command
pub becomes_none : (T : Tree) (asked : EmbeddedCommand) (c : Command) → reads_inside asked ≡ true → Means T asked (Ok (Becomes c)) → ⊥
becomes_none T (Embed m source name) c reads is = absurd (cc)
becomes_none T (ListsInside m n) c reads is = lists_only c T m n is
becomes_none T (Get m n tag) c reads is = gets_only c T m n tag is
becomes_none T (Set m n v) c reads is = absurd (cc)
becomes_none T (Unset m n tag) c reads is = absurd (cc)

module _ (X : Searching) (asked : EmbeddedCommand) (reads : reads_inside asked ≡ true) (meant : Result Meaning Stop) (means : Means X.tree asked meant) where
  inside_says : (said : List ℕ) (is : Result Meaning Stop) → meant ≡ is → SaysMeant is said → Asks X (Ok (Embedded asked)) said
  inside_says said is same says = subst (λ b. AsksInside b X asked said) (sym reads) (is, subst (Means X.tree asked) same means, says)

  -- it was answered
  pub inside_replies : (said : List ℕ) (reply : Reply) → meant ≡ Ok (Replies reply) → (said ≡ text reply) ⊎ (said ≡ no_memory_text) → AsksOrLacks X (Ok (Embedded asked)) said
  inside_replies said reply is (inl says) = inl (inside_says said (Ok (Replies reply)) is says)
  inside_replies said reply is (inr says) = lacks_memory X (Ok (Embedded asked)) said says

  -- nothing is found changed
  pub inside_calm : (stop : Stop) → meant ≡ Err stop → (ib stored computed : ℕ) → stop ≡ draft.Changed ib stored computed → ⊥
  inside_calm stop is ib stored computed changed = never_changed ib stored computed X.tree asked (subst (Means X.tree asked) (is ∙ ap (λ (s : Stop). Err s) changed) means)

  -- it was refused
  pub inside_refuses : (stop : Stop) → meant ≡ Err stop → (refusal : CommandRefusal) → stop ≡ draft.Refused refusal → (said : List ℕ) → said ≡ refused refusal → Asks X (Ok (Embedded asked)) said
  inside_refuses stop is refusal refuses said says = inside_says said (Err (draft.Refused refusal)) (is ∙ ap (λ (s : Stop). Err s) refuses) says

-- ---- a stop

module _ (has has' : Searching → Type 0) (old new : World) (asked : Result SessionLine LineRefusal) (stop : Stop) (same : Untouched old new) (disk : Bool) (cause : IsCaused disk old.disk_faults new.disk_faults stop)
    (refuses : (X : Searching) → has X → (refusal : CommandRefusal) → stop ≡ draft.Refused refusal → (said : List ℕ) → said ≡ refused refusal → Asks X asked said)
    (never : (X : Searching) → has X → (ib stored computed : ℕ) → stop ≡ draft.Changed ib stored computed → ⊥) (keeps : (X : Searching) → has X → has' X) where
  stop_asks : (X : Searching) (spoken : Spoken) → has X → ComesTo stop (Ok spoken) → AsksOrLacks X asked (spoken_text spoken)
  stop_asks X spoken h (inl refusal) = inl (refuses X h refusal.0 refusal.1 (spoken_text spoken) refusal.2)
  stop_asks X spoken h (inr says) = lacks_memory X asked (spoken_text spoken) says

  -- what a stop comes to
  pub stop_says : (r : Result Spoken StoreStop) → ComesTo stop r → IfOk r (λ spoken. ReaderSays has has' old new asked (spoken_text spoken))
  stop_says (Ok spoken) comes = record { same = same; says = λ X h. (stop_asks X spoken h comes, keeps X h) }
  stop_says (Err why) comes = tt

  pub stop_stops : (r : Result Spoken StoreStop) → ComesTo stop r → IfErr r (ReaderStops has old new)
  stop_stops (Ok spoken) comes = tt
  stop_stops (Err Disk) comes = record { same = same; cause = λ e. (subst (IsCaused disk old.disk_faults new.disk_faults) comes cause).0; failed = λ X h. refl }
  stop_stops (Err (Changed ib stored computed)) comes = record { same = same; cause = λ e. absurd (cc); failed = λ X h. absurd (never X h ib stored computed comes) }

-- ---- what a reader has

module _ {K W : Type 0} (view : W → World) (holds : K → World → Nodes → Type 0) (before : K → List ℕ) where
  abbrev pub reader_has : Reader K → W → Searching → Type 0
  reader_has a v X = TellsTree (holds a.keeper (view v)) (before a.keeper) a.known a.searches X

  -- it has it wherever the disk is the same
  pub reader_on : (disk : Bool) → ((k : K) (v w : W) → (disk ≡ true → (view w).tells × SameDisk (view v).here (view w).here) → (N : Nodes) → holds k (view v) N → holds k (view w) N)
      → (a : Reader K) (v w : W) → (view w).tells → SameDisk (view v).here (view w).here → (X : Searching) → reader_has a v X → reader_has a w X
  reader_on disk holds_on a v w told same X h =
      let s = h.shown in
      record {
        shown = record { nodes = s.nodes; held = holds_on a.keeper v w (λ d. (told, same)) s.nodes s.held; at = s.at; counters = s.counters };
        knows = h.knows;
        searches = h.searches;
        whole = h.whole;
        are = h.are;
      }
