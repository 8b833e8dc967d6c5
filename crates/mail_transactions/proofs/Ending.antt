-- How a session ends.
use Rattle.std.proofs.Common.{◌≡◌, ◌∙◌, ℕ, Bool, true, false, List, [], ◌∷◌, ◌++◌, inl, inr, refl, sym, ap, subst, arith}
use Rattle.std.proofs.lemmas.Bool.{true≢false}
use Rattle.std.proofs.lemmas.List.{append-nil}
use Rattle.pst_outside.specs.World.{Image, World}
use Rattle.pst_outside.specs.Calls.{LeavesOnly, Settled}
use Rattle.pst_outside.proofs.Moments.{weaker}
use Rattle.line_server.specs.declared.end.ServerEnd.{ServerEnd}
use Rattle.line_server.specs.declared.end.ServerEnd.TheVariants as server_ends
use Rattle.line_server.specs.History.{Answering, Stopping, StopsAt, Turns}
use Rattle.line_server.specs.Lines.{Piece, line, too_long, further, up_to_quit}
use Rattle.line_server.specs.Server.{ServerEnds}
use Rattle.line_server.proofs.PieceLaws.{nothing_cuts}
use Rattle.node_port.specs.Stops.{Room}
use Rattle.node_port.specs.Pins.{Pins}
use Rattle.staged_store.specs.pinned_session.store_session.Carrying.{IsCaused, Leaves}
use Rattle.staged_store.specs.pinned_session.store_session.Disks.{Effects, medium}
use Rattle.staged_store.specs.pinned_session.store_session.Session.{HasCause, end_of}
use Rattle.mail_transactions.specs.Keeping.{Keeping}
use Rattle.mail_transactions.specs.Lines.{StopLeaves}
use Rattle.mail_transactions.specs.Run.{Answers}
use Rattle.mail_transactions.specs.Session.{SessionEnds}
use Rattle.mail_transactions.specs.State.{State}
use Rattle.staged_store.specs.pinned_session.store_session.Turns.{IsReached, StoreTurn, texts, tree_after}
use Rattle.staged_store.specs.pinned_session.store_session.declared.carrying.StoreStop.{StoreStop}
use Rattle.staged_store.specs.pinned_session.store_session.declared.carrying.StoreStop.TheVariants as store_stops
use Rattle.staged_store.specs.pinned_session.store_session.declared.session.SessionEnd.{SessionEnd}
use Rattle.staged_store.specs.pinned_session.store_session.declared.session.SessionEnd.TheVariants.{Done, Input, Output, Lines, Disk, Changed, Memory}
use Rattle.staged_store.proofs.store_session_laws.Carry.{rose_later, same_as, standing}
use Rattle.mail_transactions.proofs.LineLaws.{answers_on}
use Rattle.staged_store.proofs.store_session_laws.Reached.{commit_leaves, reached_before, reached_then, said_all, said_none}
use Rattle.mail_transactions.proofs.Sessions.{heard_has, heard_leaves, turns_counts, turns_run}

-- the causes of ends, whatever the store has
stop_cause : {S W : Type 0} (view : W → World) (disk : Bool) (stops : Stopping S W StoreStop) → ((a b : S) (v w : W) (bytes : List ℕ) (stop : StoreStop) → stops a v bytes stop b w → IsCaused disk (view v) (view w) stop)
    → (piece : Piece) (stop : StoreStop) (a b : S) (v w : W) → StopsAt stops piece a v stop b w → IsCaused disk (view v) (view w) stop
stop_cause view disk stops causes (line bytes) stop a b v w is = causes a b v w bytes stop is
stop_cause view disk stops causes too_long stop a b v w is = absurd is
stop_cause view disk stops causes further stop a b v w is = absurd is

pub has_cause : {S W : Type 0} (view : W → World) (disk : Bool) (answers : Answering S W) (stops : Stopping S W StoreStop) → ((a b : S) (v w : W) (bytes : List ℕ) (stop : StoreStop) → stops a v bytes stop b w → IsCaused disk (view v) (view w) stop)
    → (a b : S) (first now : W) (end : ServerEnd StoreStop) → ServerEnds view answers stops a first b now end → HasCause disk (view first) (view now) (end_of end)
has_cause view disk answers stops causes a b first now server_ends.Done e = tt
has_cause view disk answers stops causes a b first now server_ends.Input e = (e.input_failed refl).0
has_cause view disk answers stops causes a b first now server_ends.Output e = e.output_failed refl
has_cause view disk answers stops causes a b first now server_ends.Lines e = tt
has_cause view disk answers stops causes a b first now (server_ends.Stopped store_stops.Disk) e =
    let turn = e.closes.3 in
    let cause = stop_cause view disk stops causes e.closes.0 store_stops.Disk e.behind b turn.heard now turn.stopped in
    let counts = turns_counts view answers _ e.done e.replies a e.behind first e.last e.turns in
    (rose_later (view first).disk_faults (view turn.heard).disk_faults (view now).disk_faults (omega (arith, counts.disk_faults, turn.hears.counts.disk_faults)) cause.0, cause.1)
has_cause view disk answers stops causes a b first now (server_ends.Stopped (store_stops.Changed ib stored computed)) e = tt

module _ {S W : Type 0} (view : W → World) (disk : Bool) (has : S → W → State → Type 0) (stands : Image → State → Type 0) (ordered : State → Type 0) (rests : Image → Type 0) (effects : Pins → Effects) (room : S → Room) (answers : Answering S W) (stops : Stopping S W StoreStop) (keeps : Keeping view disk has stands ordered rests effects room answers stops)
    (a b : S) (first now : W) (X : State) (h : has a first X) (tells : disk ≡ true → (view now).tells) where
  -- a session whose server wasn't stopped
  ended_as : (end : ServerEnd StoreStop) (to : SessionEnd) → (to ≡ Disk → ⊥) → (to ≡ Memory → ⊥) → ((ib stored computed : ℕ) → to ≡ Changed ib stored computed → ⊥)
      → (to ≡ Done → end ≡ server_ends.Done) → (to ≡ Input → end ≡ server_ends.Input) → (end ≡ server_ends.Output → to ≡ Output) → (to ≡ Lines → end ≡ server_ends.Lines)
      → (e : ServerEnds view answers stops a first b now end) → (b ≡ e.behind) × (now ≡ e.last) → SessionEnds effects stands ordered rests (medium (view first)) (view first) (view now) X to
  ended_as end to disk_ memory changed done input output lines_ e closes =
      let turns : Turns view answers (end ≡ server_ends.Output → ⊥) e.done e.replies a first b now =
      subst (λ (s : S). Turns view answers (end ≡ server_ends.Output → ⊥) e.done e.replies a first s now) (sym closes.0) (subst (λ (x : W). Turns view answers (end ≡ server_ends.Output → ⊥) e.done e.replies a first e.behind x) (sym closes.1) e.turns) in
      let r = turns_run view disk has stands ordered rests effects room answers stops keeps (view now).tells (end ≡ server_ends.Output → ⊥) e.done e.replies a b first now X (λ t. t) h turns tells in
      record {
        taken = e.taken;
        input = e.input;
        all = e.all;
        all_of_it = e.spent_input;
        answered = e.done;
        hand = [];
        left = e.left;
        one = omega arith;
        cuts = e.cuts;
        none_in_hand = λ no. refl;
        turns = r.turns;
        last = [];
        run = r.run;
        in_order = r.in_order;
        in_hand = tt;
        stand = r.stand;
        disk_is = λ no. r.disk_is;
        written = λ no. r.written;
        front = r.front;
        whole = λ no. r.said (λ is. no (output is));
        images = subst (λ (l : List (StoreTurn State)). LeavesOnly (view first) (view now) (IsReached stands (view first).here.said X l)) (sym (append-nil r.turns)) r.images;
        ends_as = λ no. keeps.here b now (tree_after X r.turns) r.holds;
        settled = λ no. keeps.settled b now (tree_after X r.turns) r.holds;
        at_rest = λ no. keeps.at_rest b now (tree_after X r.turns) r.holds;
        finished = λ is. e.finished (done is);
        input_failed = λ is. let k = e.input_failed (input is) in (k.1, k.2, k.3);
        spent = λ is. e.spent (lines_ is);
        no_memory = λ is. absurd (memory is);
        not_changed = changed;
        few = e.few;
      }

  -- what the line in hand came to
  stop_piece : (piece : Piece) (stop : StoreStop) (c : S) (v : W) (Y : State) → StopsAt stops piece c v stop b now → has c v Y → (bytes : List ℕ) × (piece ≡ line bytes) × StopLeaves stands effects (room c) (view v) (view now) Y bytes stop
  stop_piece (line bytes) stop c v Y is held = (bytes, refl, keeps.stopped c b v now bytes stop Y is held tells)
  stop_piece too_long stop c v Y is held = absurd is
  stop_piece further stop c v Y is held = absurd is

  -- the disk failed
  ended_by_disk : ServerEnds view answers stops a first b now (server_ends.Stopped store_stops.Disk) → SessionEnds effects stands ordered rests (medium (view first)) (view first) (view now) X Disk
  ended_by_disk e =
      let turn = e.closes.3 in
      let told : (view now).tells → (view e.last).tells = λ t. turn.hears.stays.told (turn.quiet.told t) in
      let r = turns_run view disk has stands ordered rests effects room answers stops keeps (view now).tells _ e.done e.replies a e.behind first e.last X told h e.turns (λ d. told (tells d)) in
      let Y : State = tree_after X r.turns in
      let held : has e.behind turn.heard Y = heard_has view disk has stands ordered rests effects room answers stops keeps e.behind e.last turn.heard Y r.holds turn.hears (λ d. turn.quiet.told (tells d)) in
      let s = stop_piece e.closes.0 store_stops.Disk e.behind turn.heard Y turn.stopped held in
      let next : State = s.2.0 in
      let reply : List ℕ = s.2.1 in
      let hand_turn : StoreTurn State = record { said = reply; tree = next; disk = medium (view now) } in
      let answer : Answers effects (room e.behind) Y (medium (view turn.heard)) ⊥ e.closes.0 reply next (medium (view now)) = subst (λ (p : Piece). Answers effects (room e.behind) Y (medium (view turn.heard)) ⊥ p reply next (medium (view now))) (sym s.1) s.2.2 in
      let leaves : Leaves stands (view e.last) (view now) Y next = heard_leaves view disk has stands ordered rests effects room answers stops keeps e.behind e.last turn.heard now Y next r.holds turn.hears turn.quiet.told s.2.3 in
      let said : (view e.last).tells → (view e.last).here.said ≡ (view first).here.said ++ texts r.turns = r.said (λ is. absurd (cc)) in
      let whole : (view now).tells → (view now).here.said ≡ (view first).here.said ++ texts r.turns = λ t. (leaves.here t).0 ∙ said (told t) in
      record {
        taken = e.taken;
        input = e.input;
        all = e.all;
        all_of_it = e.spent_input;
        answered = e.done;
        hand = e.closes.0 ∷ [];
        left = e.closes.1;
        one = omega arith;
        cuts = e.cuts ∙ ap (λ l. e.done ++ l) e.closes.2;
        none_in_hand = λ no. absurd (no refl);
        turns = r.turns;
        last = hand_turn ∷ [];
        run = r.run;
        in_order = r.in_order;
        in_hand = ((room e.behind, r.measured, answers_on effects (room e.behind) Y (λ none. none) (λ none. absurd none) (λ none. absurd none) e.closes.0 reply next answer), tt);
        stand = r.stand;
        disk_is = λ no. absurd (no refl);
        written = λ no. absurd (no refl);
        front = λ t. said_all (view first).here.said (view now).here.said r.turns (whole t);
        whole = λ no. whole;
        images = reached_then stands (view first).here.said X r.turns (hand_turn ∷ []) r.images (λ t. said (told t)) (commit_leaves stands Y hand_turn leaves);
        ends_as = λ no. absurd (no refl);
        settled = λ no. absurd (no refl);
        at_rest = λ no. absurd (no refl);
        finished = λ is. absurd (cc);
        input_failed = λ is. absurd (cc);
        spent = λ is. absurd (cc);
        no_memory = λ is. absurd (cc);
        not_changed = λ ib stored computed is. absurd (cc);
        few = e.few;
      }

  -- something changed: that never comes
  never_changed : (ib stored computed : ℕ) → ServerEnds view answers stops a first b now (server_ends.Stopped (store_stops.Changed ib stored computed)) → ⊥
  never_changed ib stored computed e =
      let turn = e.closes.3 in
      let told : (view now).tells → (view e.last).tells = λ t. turn.hears.stays.told (turn.quiet.told t) in
      let r = turns_run view disk has stands ordered rests effects room answers stops keeps (view now).tells _ e.done e.replies a e.behind first e.last X told h e.turns (λ d. told (tells d)) in
      let Y : State = tree_after X r.turns in
      let held : has e.behind turn.heard Y = heard_has view disk has stands ordered rests effects room answers stops keeps e.behind e.last turn.heard Y r.holds turn.hears (λ d. turn.quiet.told (tells d)) in
      (stop_piece e.closes.0 (store_stops.Changed ib stored computed) e.behind turn.heard Y turn.stopped held).2

  pub session_ends : (end : ServerEnd StoreStop) → ServerEnds view answers stops a first b now end → SessionEnds effects stands ordered rests (medium (view first)) (view first) (view now) X (end_of end)
  session_ends server_ends.Done e =
      ended_as server_ends.Done Done (λ is. cc) (λ is. cc) (λ ib stored computed is. cc) (λ is. refl) (λ is. absurd (cc)) (λ is. absurd (cc)) (λ is. absurd (cc)) e e.closes
  session_ends server_ends.Input e =
      ended_as server_ends.Input Input (λ is. cc) (λ is. cc) (λ ib stored computed is. cc) (λ is. absurd (cc)) (λ is. refl) (λ is. absurd (cc)) (λ is. absurd (cc)) e e.closes
  session_ends server_ends.Output e =
      ended_as server_ends.Output Output (λ is. cc) (λ is. cc) (λ ib stored computed is. cc) (λ is. absurd (cc)) (λ is. absurd (cc)) (λ is. refl) (λ is. absurd (cc)) e e.closes
  session_ends server_ends.Lines e =
      ended_as server_ends.Lines Lines (λ is. cc) (λ is. cc) (λ ib stored computed is. cc) (λ is. absurd (cc)) (λ is. absurd (cc)) (λ is. absurd (cc)) (λ is. refl) e e.closes
  session_ends (server_ends.Stopped store_stops.Disk) e = ended_by_disk e
  session_ends (server_ends.Stopped (store_stops.Changed ib stored computed)) e = absurd (never_changed ib stored computed e)

-- there was no memory for a session
pub ends_by_memory : (effects : Pins → Effects) (stands : Image → State → Type 0) (ordered : State → Type 0) (rests : Image → Type 0) (v : World) (X : State) → Settled v → (v.tells → rests v.here) → stands v.here X → SessionEnds effects stands ordered rests (medium v) v v X Memory
ends_by_memory effects stands ordered rests v X settled at_rest is = record {
  taken = [];
  input = λ t. refl;
  all = false;
  all_of_it = λ is t. absurd (true≢false (sym is));
  answered = [];
  hand = [];
  left = [];
  one = omega arith;
  cuts = ap up_to_quit (nothing_cuts false false);
  none_in_hand = λ no. refl;
  turns = [];
  last = [];
  run = tt;
  in_hand = tt;
  in_order = tt;
  stand = is;
  disk_is = λ no t. same_as refl;
  written = λ no. refl;
  front = λ t. said_none v.here.said v.here.said refl;
  whole = λ no t. sym (append-nil v.here.said);
  images = weaker (IsReached stands v.here.said X []) (standing stands v X settled is) (λ c told k. reached_before stands v.here.said X [] c k.0 (elim k.1 [ inl is ↦ is | inr is ↦ is ]));
  ends_as = λ no. is;
  settled = λ no. settled;
  at_rest = λ no. at_rest;
  finished = λ is. absurd (cc);
  input_failed = λ is. absurd (cc);
  spent = λ is. absurd (cc);
  no_memory = λ is. (refl, refl);
  not_changed = λ ib stored computed is. absurd (cc);
  few = omega arith;
}
