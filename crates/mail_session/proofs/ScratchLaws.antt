-- What the turns of a server over a mailbox are: a run from a new store, which leaves the disk as it was.
use Rattle.std.proofs.Common.{◌≡◌, ◌⊎◌, ℕ, inl, inr, ap, sym, subst, refl, false, List, [], ◌∷◌, arith}
use Rattle.std.proofs.lemmas.Bool.{true≢false}
use Rattle.std.proofs.lemmas.List.{append-nil}
use Rattle.pst_outside.specs.World.{World}
use Rattle.line_server.specs.declared.end.ServerEnd.{ServerEnd}
use Rattle.line_server.specs.declared.end.ServerEnd.TheVariants as server_ends
use Rattle.line_server.proofs.PieceLaws.{nothing_cuts}
use Rattle.line_server.specs.History.{Hushes, Turns}
use Rattle.line_server.specs.Lines.{Piece, up_to_quit}
use Rattle.line_server.specs.Server.{ServerEnds}
use Rattle.mail_session.specs.declared.mailbox.NoStop.{NoStop}
use Rattle.mail_session.specs.declared.exit.Status.{Status}
use Rattle.mail_session.specs.declared.exit.Status.TheVariants.{Done, Input, Output, Memory, Lines}
use Rattle.mail_session.specs.declared.mailbox.Mailbox.{Mailbox}
use Rattle.mail_session.specs.Mailboxes.{BoxAnswers, BoxStops, Sits}
use Rattle.file_filling.specs.mail_transactions.Run.{Run}
use Rattle.file_filling.specs.mail_transactions.State.{AfterEach, State, begins}
use Rattle.file_filling.specs.store_session.Turns.{StoreTurn, replies_of}
use Rattle.mail_session.specs.Boxes.{IsSession, IsSound, NAME, no_disk}
use Rattle.mail_session.specs.Memory.{memory_effects}
use Rattle.mail_session.specs.Scratch.{ScratchEnds, status_of}
use Rattle.mail_session.specs.Worlds.{KeepsDisk}
use Rattle.mail_session.proofs.Disks.{keeps_front, keeps_listens, keeps_started}
use Rattle.mail_session.proofs.MailboxLaws.{box_answered, same_world, sits_sound}
use Rattle.mail_searches.specs.Searching.{Searching, StartsSearching}

-- the replies are those of a run, each state of which is sound
pub runs : {W : Type 0} (view : W → World) (whole : Type 0) (ps : List Piece) (rs : List (List ℕ)) (a b : Mailbox) (v w : W)
    → Turns view BoxAnswers whole ps rs a v b w → (S : State) → Sits a S → (turns : List (StoreTurn State)) × Run memory_effects ⊥ S no_disk ps turns × (rs ≡ replies_of turns) × AfterEach IsSound turns
runs view whole [] [] a b v w turns S sits = ([], tt, refl, tt)
runs view whole (p ∷ ps) (r ∷ rs) a b v w turns S sits =
    let turn = turns.2 in
    let one = box_answered p r a turns.0 turn.heard turn.answered turn.answer S sits in
    let rest = runs view whole ps rs turns.0 b turns.1 w turns.3 one.0 one.2 in
    (record { said = r; tree = one.0; disk = no_disk } ∷ rest.0, (one.1, rest.1), ap (λ (replies : List (List ℕ)). r ∷ replies) rest.2, (sits_sound turns.0 one.0 one.2, rest.3))
runs view whole [] (r ∷ rs) a b v w turns S sits = absurd turns
runs view whole (p ∷ ps) [] a b v w turns S sits = absurd turns

-- the disk is as it was
pub keeps_turns : {W : Type 0} (view : W → World) (whole : Type 0) (ps : List Piece) (rs : List (List ℕ)) (a b : Mailbox) (v w : W) (first : World)
    → Turns view BoxAnswers whole ps rs a v b w → KeepsDisk first (view v) → KeepsDisk first (view w)
keeps_turns view whole [] [] a b v w first turns so_far = keeps_listens so_far turns.1
keeps_turns view whole (p ∷ ps) (r ∷ rs) a b v w first turns so_far =
    let turn = turns.2 in
    let heard : KeepsDisk first (view turn.heard) = keeps_listens so_far turn.hears in
    let answered : KeepsDisk first (view turn.answered) = subst (λ x. KeepsDisk first (view x)) (sym (same_world p r a turns.0 turn.heard turn.answered turn.answer)) heard in
    keeps_turns view whole ps rs turns.0 b turns.1 w first turns.3 (keeps_front answered turn.says)
keeps_turns view whole [] (r ∷ rs) a b v w first turns so_far = absurd turns
keeps_turns view whole (p ∷ ps) [] a b v w first turns so_far = absurd turns

-- a session, from the tree of a new store on
is_session : {W : Type 0} (view : W → World) (whole : Type 0) (ps : List Piece) (rs : List (List ℕ)) (a b : Mailbox) (v w : W)
    → ((X : Searching) × StartsSearching NAME X × Sits a (begins X)) → Turns view BoxAnswers whole ps rs a v b w → IsSession ps rs
is_session view whole ps rs a b v w start turns =
    let run = runs view whole ps rs a b v w turns (begins start.0) start.2 in
    inr (record { start = start.0; new = start.1; turns = run.0; run = run.1; are = run.2; first = sits_sound a (begins start.0) start.2; sound = run.3 })

-- a mailbox says nothing itself
hushes : {W : Type 0} (view : W → World) → Hushes view BoxAnswers BoxStops
hushes view = record { answering = λ a b v w bytes said is told. ap (λ x. (view x).here.said) is.1; stopping = λ a b v w bytes stop is told. absurd is }

-- how a session ends whose server ended so
ended_as : {W : Type 0} (view : W → World) (a b : Mailbox) (first now : W) (end : ServerEnd NoStop) (status : Status)
    → (status ≡ Done) ⊎ (status ≡ Input) ⊎ (status ≡ Output) ⊎ (status ≡ Memory) ⊎ (status ≡ Lines)
    → (status ≡ Done → end ≡ server_ends.Done) → (status ≡ Input → end ≡ server_ends.Input) → (status ≡ Output → end ≡ server_ends.Output) → (end ≡ server_ends.Output → status ≡ Output)
    → (status ≡ Lines → end ≡ server_ends.Lines) → (status ≡ Memory → ⊥)
    → ((X : Searching) × StartsSearching NAME X × Sits a (begins X)) → (e : ServerEnds view BoxAnswers BoxStops a first b now end) → now ≡ e.last → ScratchEnds (view first) (view now) status
ended_as view a b first now end status statuses done input output is_output lines memory start e at_end = record {
  keeps = subst (λ x. KeepsDisk (view first) (view x)) (sym at_end) (keeps_turns view _ e.done e.replies a e.behind first e.last (view first) e.turns (keeps_started (view first)));
  taken = e.taken;
  input = e.input;
  all = e.all;
  end = e.spent_input;
  done = e.done;
  left = e.left;
  cuts = e.cuts;
  replies = e.replies;
  run = is_session view _ e.done e.replies a e.behind first e.last start e.turns;
  front = e.front (hushes view);
  whole = λ no. e.whole (hushes view) (λ is. no (is_output is));
  statuses = statuses;
  finished = λ is. e.finished (done is);
  input_failed = λ is. e.input_failed (input is);
  output_failed = λ is. e.output_failed (output is);
  no_memory = λ is. absurd (memory is);
  spent = λ is. e.spent (lines is);
  few = e.few;
}

pub scratch_ends : {W : Type 0} (view : W → World) (a b : Mailbox) (first now : W) (end : ServerEnd NoStop)
    → ((X : Searching) × StartsSearching NAME X × Sits a (begins X)) → ServerEnds view BoxAnswers BoxStops a first b now end → ScratchEnds (view first) (view now) (status_of end)
scratch_ends view a b first now server_ends.Done start e =
    ended_as view a b first now server_ends.Done Done (inl refl) (λ is. refl) (λ is. absurd (cc)) (λ is. absurd (cc)) (λ is. absurd (cc)) (λ is. absurd (cc)) (λ is. cc) start e e.closes.1
scratch_ends view a b first now server_ends.Input start e =
    ended_as view a b first now server_ends.Input Input (inr (inl refl)) (λ is. absurd (cc)) (λ is. refl) (λ is. absurd (cc)) (λ is. absurd (cc)) (λ is. absurd (cc)) (λ is. cc) start e e.closes.1
scratch_ends view a b first now server_ends.Output start e =
    ended_as view a b first now server_ends.Output Output (inr (inr (inl refl))) (λ is. absurd (cc)) (λ is. absurd (cc)) (λ is. refl) (λ is. refl) (λ is. absurd (cc)) (λ is. cc) start e e.closes.1
scratch_ends view a b first now server_ends.Lines start e =
    ended_as view a b first now server_ends.Lines Lines (inr (inr (inr (inr refl)))) (λ is. absurd (cc)) (λ is. absurd (cc)) (λ is. absurd (cc)) (λ is. absurd (cc)) (λ is. refl) (λ is. cc) start e e.closes.1
scratch_ends view a b first now (server_ends.Stopped never) start e = elim never [ ]

-- there was no memory for a session
pub ends_by_memory : (world : World) → ScratchEnds world world Memory
ends_by_memory world = record {
  keeps = keeps_started world;
  taken = [];
  input = λ t. refl;
  all = false;
  end = λ is t. absurd (true≢false (sym is));
  done = [];
  left = [];
  cuts = ap up_to_quit (nothing_cuts false false);
  replies = [];
  run = inl (refl, refl);
  front = λ t. (0, sym (append-nil _));
  whole = λ no t. sym (append-nil _);
  statuses = inr (inr (inr (inl refl)));
  finished = λ is. absurd (cc);
  input_failed = λ is. absurd (cc);
  output_failed = λ is. absurd (cc);
  no_memory = λ is. (refl, refl);
  spent = λ is. absurd (cc);
  few = omega arith;
}
