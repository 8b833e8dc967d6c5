-- How `look` ends, put together from the server of its lines, from its opening and from what it says.
use Rattle.std.proofs.Common.{◌≡◌, ◌⊎◌, ◌∙◌, ◌++◌, ◌≤◌, ℕ, false, List, [], ◌∷◌, take, inl, inr, refl, sym, ap, subst, arith}
use Rattle.std.proofs.lemmas.Bool.{true≢false}
use Rattle.std.specs.List.{concat}
use Rattle.std.proofs.lemmas.List.{append-nil}
use Rattle.pst_outside.specs.World.{Image, SameDisk, World}
use Rattle.pst_outside.specs.Calls.{Rose, Untouched}
use Rattle.command_text.specs.Replies.{last_text, last_words, text}
use Rattle.command_text.specs.Refusals.{refusal_words}
use Rattle.command_text.specs.Limits.{limit_word}
use Rattle.command_text.specs.declared.reply.CommandRefusal.TheVariants.{Limit}
use Rattle.command_text.specs.declared.reply.Limit.TheVariants as limits
use Rattle.line_server.specs.declared.end.ServerEnd.{ServerEnd}
use Rattle.line_server.specs.declared.end.ServerEnd.TheVariants as server_ends
use Rattle.line_server.specs.History.{Answering, Answers, Hushes, Stopping, StopsAt, Turns}
use Rattle.line_server.specs.Lines.{Piece, line, too_long, further, up_to_quit}
use Rattle.line_server.specs.Server.{Closes, ServerEnds}
use Rattle.line_server.specs.Spoken.{too_long_text}
use Rattle.line_server.proofs.PieceLaws.{nothing_cuts}
use Rattle.tree_look.proofs.mail_draft_laws.Looking.{untouched_same}
use Rattle.mail_searches.specs.Searching.{Searching}
use Rattle.pst_header.specs.declared.header.Header.{Header}
use Rattle.pst_commit.specs.Keeping.{Holds}
use Rattle.file_mending.specs.store_open.declared.open.OpenedTree.{OpenedTree}
use Rattle.file_mending.specs.file_open.Opening.{IsFileRefused, IsLooked, ReadsFresh, ReadsTree}
use Rattle.file_mending.specs.file_open.declared.stops.FileRefusal.{FileRefusal}
use Rattle.file_filling.specs.store_session.declared.carrying.StoreStop.{StoreStop}
use Rattle.file_filling.specs.store_session.declared.carrying.StoreStop.TheVariants as stops
use Rattle.file_filling.proofs.store_session_laws.Carry.{rose_later, same_as}
use Rattle.file_filling.proofs.mail_transactions_laws.Sessions.{turns_counts, turns_told}
use Rattle.mail_session.specs.Look.{KeepsReading, LookEnds, LookEndsWell, LookRefused, LookRuns, LookServes, LookUnread, status_of_look}
use Rattle.mail_session.specs.Info.{Says}
use Rattle.mail_session.specs.Looking.{LookAnswers, LookRun, ReaderAnswers, ReaderStops, TellsTree}
use Rattle.file_filling.specs.store_session.Run.{refused}
use Rattle.mail_session.specs.Statuses.{EndsAs}
use Rattle.mail_session.specs.Texts.{file_line}
use Rattle.mail_session.specs.Worlds.{KeepsDisk}
use Rattle.mail_session.specs.declared.exit.ChangedAt.{ChangedAt}
use Rattle.mail_session.specs.declared.exit.Status.{Status}
use Rattle.mail_session.specs.declared.exit.Status.TheVariants.{Done, Refused, Disk, Input, Output, Memory, Lines, Changed}
use Rattle.mail_session.proofs.FileLaws.{refused_says, refused_silent}
use Rattle.mail_session.proofs.Disks.{keeps_along, keeps_front, keeps_listens, keeps_started, keeps_untouched}

limit_text : too_long_text ≡ refused (Limit limits.Line)
unfolding text last_text last_words refusal_words limit_word
limit_text = refl

-- ---- statuses tell ends

status_done : (end : ServerEnd StoreStop) → status_of_look end ≡ Done → end ≡ server_ends.Done
status_done server_ends.Done is = refl
status_done server_ends.Input is = absurd (cc)
status_done server_ends.Output is = absurd (cc)
status_done server_ends.Lines is = absurd (cc)
status_done (server_ends.Stopped stops.Disk) is = absurd (cc)
status_done (server_ends.Stopped (stops.Changed ib stored computed)) is = absurd (cc)

status_input : (end : ServerEnd StoreStop) → status_of_look end ≡ Input → end ≡ server_ends.Input
status_input server_ends.Done is = absurd (cc)
status_input server_ends.Input is = refl
status_input server_ends.Output is = absurd (cc)
status_input server_ends.Lines is = absurd (cc)
status_input (server_ends.Stopped stops.Disk) is = absurd (cc)
status_input (server_ends.Stopped (stops.Changed ib stored computed)) is = absurd (cc)

status_output : (end : ServerEnd StoreStop) → status_of_look end ≡ Output → end ≡ server_ends.Output
status_output server_ends.Done is = absurd (cc)
status_output server_ends.Input is = absurd (cc)
status_output server_ends.Output is = refl
status_output server_ends.Lines is = absurd (cc)
status_output (server_ends.Stopped stops.Disk) is = absurd (cc)
status_output (server_ends.Stopped (stops.Changed ib stored computed)) is = absurd (cc)

status_lines : (end : ServerEnd StoreStop) → status_of_look end ≡ Lines → end ≡ server_ends.Lines
status_lines server_ends.Done is = absurd (cc)
status_lines server_ends.Input is = absurd (cc)
status_lines server_ends.Output is = absurd (cc)
status_lines server_ends.Lines is = refl
status_lines (server_ends.Stopped stops.Disk) is = absurd (cc)
status_lines (server_ends.Stopped (stops.Changed ib stored computed)) is = absurd (cc)

status_disk : (end : ServerEnd StoreStop) → status_of_look end ≡ Disk → end ≡ server_ends.Stopped stops.Disk
status_disk server_ends.Done is = absurd (cc)
status_disk server_ends.Input is = absurd (cc)
status_disk server_ends.Output is = absurd (cc)
status_disk server_ends.Lines is = absurd (cc)
status_disk (server_ends.Stopped stops.Disk) is = refl
status_disk (server_ends.Stopped (stops.Changed ib stored computed)) is = absurd (cc)

never_memory : (end : ServerEnd StoreStop) → status_of_look end ≡ Memory → ⊥
never_memory server_ends.Done is = cc
never_memory server_ends.Input is = cc
never_memory server_ends.Output is = cc
never_memory server_ends.Lines is = cc
never_memory (server_ends.Stopped stops.Disk) is = cc
never_memory (server_ends.Stopped (stops.Changed ib stored computed)) is = cc

one_of : (end : ServerEnd StoreStop) → let s = status_of_look end in (s ≡ Done) ⊎ (s ≡ Disk) ⊎ (s ≡ Input) ⊎ (s ≡ Output) ⊎ (s ≡ Memory) ⊎ (s ≡ Lines) ⊎ ((at : ChangedAt) × (s ≡ Changed at))
one_of server_ends.Done = inl refl
one_of server_ends.Input = inr (inr (inl refl))
one_of server_ends.Output = inr (inr (inr (inl refl)))
one_of server_ends.Lines = inr (inr (inr (inr (inr (inl refl)))))
one_of (server_ends.Stopped stops.Disk) = inr (inl refl)
one_of (server_ends.Stopped (stops.Changed ib stored computed)) = inr (inr (inr (inr (inr (inr (record { ib = ib; stored = stored; computed = computed }, refl))))))

-- ---- turns over a store that is only read

module _ {S W : Type 0} (view : W → World) (has : S → W → Searching → Type 0) where
  abbrev pub reads_lines : Answering S W
  reads_lines a v bytes said b w = ReaderAnswers (has a v) (has b w) (view v) (view w) bytes said

  abbrev pub stops_reading : Stopping S W StoreStop
  stops_reading a v bytes stop b w = ReaderStops (has a v) (view v) (view w) stop

  -- nothing is touched
  piece_untouched : (piece : Piece) (said : List ℕ) (a b : S) (v w : W) → Answers reads_lines piece a v said b w → Untouched (view v) (view w)
  piece_untouched (line bytes) said a b v w is = is.same
  piece_untouched too_long said a b v w is = subst (λ x. Untouched (view v) (view x)) (sym is.2) (untouched_same (view v))
  piece_untouched further said a b v w is = subst (λ x. Untouched (view v) (view x)) (sym is.2) (untouched_same (view v))

  stop_untouched : (piece : Piece) (stop : StoreStop) (a b : S) (v w : W) → StopsAt stops_reading piece a v stop b w → ReaderStops (has a v) (view v) (view w) stop
  stop_untouched (line bytes) stop a b v w is = is
  stop_untouched too_long stop a b v w is = absurd is
  stop_untouched further stop a b v w is = absurd is

  keeps_turns : (whole : Type 0) (ps : List Piece) (rs : List (List ℕ)) (a b : S) (v w : W) (first : World) → Turns view reads_lines whole ps rs a v b w → KeepsDisk first (view v) → KeepsDisk first (view w)
  keeps_turns whole [] [] a b v w first turns so_far = keeps_listens so_far turns.1
  keeps_turns whole (p ∷ ps) (r ∷ rs) a b v w first turns so_far =
      let turn = turns.2 in
      keeps_turns whole ps rs turns.0 b turns.1 w first turns.3
      (keeps_front (keeps_untouched (keeps_listens so_far turn.hears) (piece_untouched p r a turns.0 turn.heard turn.answered turn.answer)) turn.says)
  keeps_turns whole [] (r ∷ rs) a b v w first turns so_far = absurd turns
  keeps_turns whole (p ∷ ps) [] a b v w first turns so_far = absurd turns

  -- it says nothing itself
  hushes : Hushes view reads_lines stops_reading
  hushes = record {
    answering = λ a b v w bytes said is told. ap (λ (i : Image). i.said) (is.same.stays.here told);
    stopping = λ a b v w bytes stop is told. ap (λ (i : Image). i.said) (is.same.stays.here told);
  }

  module _ (a b : S) (first now : W) where
    keeps_to : (left : List Piece) (behind : S) (last : W) (end : ServerEnd StoreStop) → KeepsDisk (view first) (view last) → Closes view stops_reading left behind last b now end → KeepsDisk (view first) (view now)
    keeps_to left behind last server_ends.Done so_far closes = subst (λ x. KeepsDisk (view first) (view x)) (sym closes.1) so_far
    keeps_to left behind last server_ends.Input so_far closes = subst (λ x. KeepsDisk (view first) (view x)) (sym closes.1) so_far
    keeps_to left behind last server_ends.Output so_far closes = subst (λ x. KeepsDisk (view first) (view x)) (sym closes.1) so_far
    keeps_to left behind last server_ends.Lines so_far closes = subst (λ x. KeepsDisk (view first) (view x)) (sym closes.1) so_far
    keeps_to left behind last (server_ends.Stopped stop) so_far closes =
        let turn = closes.3 in
        keeps_untouched (keeps_listens so_far turn.hears) (stop_untouched closes.0 stop behind b turn.heard now turn.stopped).same

    -- where the disk failed its count of faults rose
    disk_rose : (left : List Piece) (behind : S) (last : W) (end : ServerEnd StoreStop) → (view first).disk_faults ≤ (view last).disk_faults → Closes view stops_reading left behind last b now end → end ≡ server_ends.Stopped stops.Disk
        → Rose (view first).disk_faults (view now).disk_faults
    disk_rose left behind last server_ends.Done so_far closes is = absurd (cc)
    disk_rose left behind last server_ends.Input so_far closes is = absurd (cc)
    disk_rose left behind last server_ends.Output so_far closes is = absurd (cc)
    disk_rose left behind last server_ends.Lines so_far closes is = absurd (cc)
    disk_rose left behind last (server_ends.Stopped stops.Disk) so_far closes is =
        let turn = closes.3 in
        rose_later (view first).disk_faults (view turn.heard).disk_faults (view now).disk_faults (omega (arith, so_far, turn.hears.counts.disk_faults)) ((stop_untouched closes.0 stops.Disk behind b turn.heard now turn.stopped).cause refl)
    disk_rose left behind last (server_ends.Stopped (stops.Changed ib stored computed)) so_far closes is = absurd (cc)

    pub keeps_reading : (end : ServerEnd StoreStop) → ServerEnds view reads_lines stops_reading a first b now end → KeepsReading (view first) (view now) (status_of_look end)
    keeps_reading end e = record {
      keeps = keeps_to e.left e.behind e.last end (keeps_turns _ e.done e.replies a e.behind first e.last (view first) e.turns (keeps_started (view first))) e.closes;
      statuses = one_of end;
      disk_failed = λ is. disk_rose e.left e.behind e.last end (turns_counts view reads_lines _ e.done e.replies a e.behind first e.last e.turns).disk_faults e.closes (status_disk end is);
      input_failed = λ is. (e.input_failed (status_input end is)).0;
      output_failed = λ is. e.output_failed (status_output end is);
    }

  -- what the store has it has wherever the disk is the same
  module _ (on : (a : S) (v w : W) → (view w).tells → SameDisk (view v).here (view w).here → (X : Searching) → has a v X → has a w X) where
    piece_answers : (piece : Piece) (said : List ℕ) (a b : S) (v w : W) (X : Searching) → Answers reads_lines piece a v said b w → has a v X → LookAnswers X piece said × has b w X
    piece_answers (line bytes) said a b v w X is h = is.answered X h
    piece_answers too_long said a b v w X is h = (is.0 ∙ limit_text, subst (λ x. has x w X) (sym is.1) (subst (λ x. has a x X) (sym is.2) h))
    piece_answers further said a b v w X is h = (is.0, subst (λ x. has x w X) (sym is.1) (subst (λ x. has a x X) (sym is.2) h))

    -- the replies are those of the tree
    runs : (whole : Type 0) (ps : List Piece) (rs : List (List ℕ)) (a b : S) (v w : W) (X : Searching) → (view w).tells → Turns view reads_lines whole ps rs a v b w → has a v X → LookRun X ps rs × has b w X
    runs whole [] [] a b v w X told turns h = (tt, subst (λ x. has x w X) (sym turns.0) (on a v w told (same_as (turns.1.stays.here told)) X h))
    runs whole (p ∷ ps) (r ∷ rs) a b v w X told turns h =
        let turn = turns.2 in
        let between : (view turns.1).tells = turns_told view reads_lines whole ps rs turns.0 b turns.1 w turns.3 told in
        let answered : (view turn.answered).tells = turn.says.stays.told between in
        let heard : (view turn.heard).tells = turn.quiet.told answered in
        let one = piece_answers p r a turns.0 turn.heard turn.answered X turn.answer (on a v turn.heard heard (same_as (turn.hears.stays.here heard)) X h) in
        let rest = runs whole ps rs turns.0 b turns.1 w X told turns.3 (on turns.0 turn.answered turns.1 between (turn.says.stays.here between) X one.1) in
        ((one.0, rest.0), rest.1)
    runs whole [] (r ∷ rs) a b v w X told turns h = absurd turns
    runs whole (p ∷ ps) [] a b v w X told turns h = absurd turns

    module _ (a b : S) (first now : W) (X : Searching) (told : (view now).tells) (h : has a first X) where
      -- the world told before the last turn, too
      told_last : (left : List Piece) (behind : S) (last : W) (end : ServerEnd StoreStop) → Closes view stops_reading left behind last b now end → (view last).tells
      told_last left behind last server_ends.Done closes = subst (λ x. (view x).tells) closes.1 told
      told_last left behind last server_ends.Input closes = subst (λ x. (view x).tells) closes.1 told
      told_last left behind last server_ends.Output closes = subst (λ x. (view x).tells) closes.1 told
      told_last left behind last server_ends.Lines closes = subst (λ x. (view x).tells) closes.1 told
      told_last left behind last (server_ends.Stopped stop) closes = let turn = closes.3 in turn.hears.stays.told (turn.quiet.told told)

      -- nothing is found changed
      unchanged : (left : List Piece) (behind : S) (last : W) (end : ServerEnd StoreStop) → Closes view stops_reading left behind last b now end → has behind last X → (at : ChangedAt) → status_of_look end ≡ Changed at → ⊥
      unchanged left behind last server_ends.Done closes held at is = cc
      unchanged left behind last server_ends.Input closes held at is = cc
      unchanged left behind last server_ends.Output closes held at is = cc
      unchanged left behind last server_ends.Lines closes held at is = cc
      unchanged left behind last (server_ends.Stopped stops.Disk) closes held at is = cc
      unchanged left behind last (server_ends.Stopped (stops.Changed ib stored computed)) closes held at is =
          let turn = closes.3 in
          let heard : (view turn.heard).tells = turn.quiet.told told in
          let failed = (stop_untouched closes.0 (stops.Changed ib stored computed) behind b turn.heard now turn.stopped).failed X (on behind last turn.heard heard (same_as (turn.hears.stays.here heard)) X held) in
          no failed
        where
          no : stops.Changed ib stored computed ≡ stops.Disk → ⊥
          no e = cc

      pub look_runs : (end : ServerEnd StoreStop) → ServerEnds view reads_lines stops_reading a first b now end → LookRuns X (view first) (view now) (status_of_look end)
      look_runs end e =
          let ran = runs _ e.done e.replies a e.behind first e.last X (told_last e.left e.behind e.last end e.closes) e.turns h in
          record {
            taken = e.taken;
            input = e.input told;
            all = e.all;
            end = λ is. e.spent_input is told;
            done = e.done;
            left = e.left;
            cuts = e.cuts;
            replies = e.replies;
            run = ran.0;
            front = e.front hushes told;
            whole = λ no. e.whole hushes (λ is. no (ap status_of_look is)) told;
            finished = λ is. e.finished (status_done end is);
            input_failed = λ is. let f = e.input_failed (status_input end is) in (f.1, f.2, f.3);
            no_memory = λ is. absurd (never_memory end is);
            spent = λ is. e.spent (status_lines end is);
            few = e.few;
            not_changed = unchanged e.left e.behind e.last end e.closes ran.1;
          }

-- there was no memory for a session
pub keeps_nothing : (world : World) → KeepsReading world world Memory
keeps_nothing world = record {
  keeps = keeps_started world;
  statuses = inr (inr (inr (inr (inl refl))));
  disk_failed = λ is. absurd (cc);
  input_failed = λ is. absurd (cc);
  output_failed = λ is. absurd (cc);
}

pub runs_nothing : (X : Searching) (world : World) → LookRuns X world world Memory
runs_nothing X world = record {
  taken = [];
  input = refl;
  all = false;
  end = λ is. absurd (true≢false (sym is));
  done = [];
  left = [];
  cuts = ap up_to_quit (nothing_cuts false false);
  replies = [];
  run = tt;
  front = (0, sym (append-nil _));
  whole = λ no. sym (append-nil _);
  finished = λ is. absurd (cc);
  input_failed = λ is. absurd (cc);
  no_memory = λ is. (refl, refl);
  spent = λ is. absurd (cc);
  few = omega arith;
  not_changed = λ at is. cc;
}

-- ---- an opening, and then what comes of it

pub looked_tells : {knows : Header → List ℕ → Type 0} {bytes : List ℕ} {header : Header} {old : Image} {now : World} {opened : OpenedTree} (o : IsLooked knows bytes header old now opened) → TellsTree (Holds knows bytes header now) header.indexes opened.known opened.searches o.tree.tree
looked_tells o =
    let k = o.tree in
    record {
      shown = record { nodes = o.nodes; held = o.held; at = k.shows.at; counters = k.counters };
      knows = k.knows;
      searches = k.searches;
      whole = k.shows.whole;
      are = k.shows.searches;
    }

-- files that are opened are read
fresh_reads : {image : Image} {X : Searching} → ReadsFresh image X → ReadsTree image X
fresh_reads fresh = record { nodes = fresh.reads.nodes; laid = fresh.reads.laid; shows = fresh.reads.shows.0 }

module _ {old mid : World} (call : Untouched old mid) where
  keeps_on : {new : World} {status : Status} → KeepsReading mid new status → KeepsReading old new status
  keeps_on {new} k = record {
    keeps = keeps_along (keeps_untouched (keeps_started old) call) k.keeps;
    statuses = k.statuses;
    disk_failed = λ is. rose_later old.disk_faults mid.disk_faults new.disk_faults call.counts.disk_faults (k.disk_failed is);
    input_failed = λ is. rose_later old.in_faults mid.in_faults new.in_faults call.counts.in_faults (k.input_failed is);
    output_failed = λ is. rose_later old.out_faults mid.out_faults new.out_faults call.counts.out_faults (k.output_failed is);
  }

  runs_on : {new : World} {status : Status} (X : Searching) → mid.tells → LookRuns X mid new status → LookRuns X old new status
  runs_on X told r =
      let same = call.stays.here told in
      record {
        taken = r.taken;
        input = sym (call.stays.input told) ∙ r.input;
        all = r.all;
        end = r.end;
        done = r.done;
        left = r.left;
        cuts = r.cuts;
        replies = r.replies;
        run = r.run;
        front = (r.front.0, r.front.1 ∙ ap (λ (i : Image). i.said ++ take r.front.0 (concat r.replies)) same);
        whole = λ no. r.whole no ∙ ap (λ (i : Image). i.said ++ concat r.replies) same;
        finished = r.finished;
        input_failed = r.input_failed;
        no_memory = r.no_memory;
        spent = r.spent;
        few = r.few;
        not_changed = r.not_changed;
      }

  -- the files were read, and then a session was held
  pub look_serves : {knows : Header → List ℕ → Type 0} {bytes : List ℕ} {header : Header} {opened : OpenedTree} {new : World} {status : Status} → (mid.tells → IsLooked knows bytes header old.here mid opened) → KeepsReading mid new status
      → ((X : Searching) → TellsTree (Holds knows bytes header mid) header.indexes opened.known opened.searches X → new.tells → LookRuns X mid new status) → LookEnds old new status
  look_serves looked keeps runs = inr (record {
    keeps = keeps_on keeps;
    told = λ t. let told = keeps.keeps.told t in let o = looked told in inr (o.tree.tree, o.reads, runs_on o.tree.tree told (runs o.tree.tree (looked_tells o) t));
  })

  -- they weren't read
  unread : (status : Status) → (status ≡ Disk) ⊎ (status ≡ Memory) → (status ≡ Disk → Rose old.disk_faults mid.disk_faults) → LookEnds old mid status
  unread status one rose = inr (record {
    keeps = record {
      keeps = keeps_untouched (keeps_started old) call;
      statuses = elim one [ inl d ↦ inr (inl d) | inr m ↦ inr (inr (inr (inr (inl m)))) ];
      disk_failed = rose;
      input_failed = λ is. absurd (elim one [ inl d ↦ disk_input (sym d ∙ is) | inr m ↦ memory_input (sym m ∙ is) ]);
      output_failed = λ is. absurd (elim one [ inl d ↦ disk_output (sym d ∙ is) | inr m ↦ memory_output (sym m ∙ is) ]);
    };
    told = λ t. inl (one, call.stays.input t, ap (λ (i : Image). i.said) (call.stays.here t));
  })
    where
      disk_input : Disk ≡ Input → ⊥
      disk_input is = cc

      disk_output : Disk ≡ Output → ⊥
      disk_output is = cc

      memory_input : Memory ≡ Input → ⊥
      memory_input is = cc

      memory_output : Memory ≡ Output → ⊥
      memory_output is = cc

  pub look_fails : Rose old.disk_faults mid.disk_faults → LookEnds old mid Disk
  look_fails rose = unread Disk (inl refl) (λ is. rose)

  pub look_lacks : LookEnds old mid Memory
  look_lacks = unread Memory (inr refl) (λ is. absurd (cc))

  -- something changed, and so the world doesn't tell
  pub look_changed : (at : ChangedAt) → (mid.tells → ⊥) → LookEnds old mid (Changed at)
  look_changed at untold = inr (record {
    keeps = record {
      keeps = keeps_untouched (keeps_started old) call;
      statuses = inr (inr (inr (inr (inr (inr (at, refl))))));
      disk_failed = λ is. absurd (cc);
      input_failed = λ is. absurd (cc);
      output_failed = λ is. absurd (cc);
    };
    told = λ t. absurd (untold t);
  })

  module _ (refusal : FileRefusal) (holds : mid.tells → IsFileRefused old.here refusal × ((X : Searching) → ReadsTree old.here X → ⊥)) where
    none_fresh : mid.tells → IsFileRefused old.here refusal × ((X : Searching) → ReadsFresh old.here X → ⊥)
    none_fresh t = ((holds t).0, λ X fresh. (holds t).1 X (fresh_reads fresh))

    -- they were refused, and then the line of that was said
    pub tree_refused : {new : World} {text : List ℕ} {status : Status} → text ≡ file_line refusal → Says text Refused mid new status → LookRefused old new status
    tree_refused is says = (refused_says refusal call none_fresh is says, λ t. (holds (says.keeps.told t)).1)

    pub tree_refused_silent : LookRefused old mid Memory
    tree_refused_silent = (refused_silent refusal call none_fresh, λ t. (holds t).1)

    pub look_refused : {new : World} {text : List ℕ} {status : Status} → text ≡ file_line refusal → Says text Refused mid new status → LookEnds old new status
    look_refused is says = inl (tree_refused is says)

    pub look_refused_silent : LookEnds old mid Memory
    look_refused_silent = inl tree_refused_silent

-- nothing was asked of the world
pub look_unread : (world : World) → LookEnds world world Memory
look_unread world = look_lacks (untouched_same world)

-- ---- it comes to its end

disk_or_memory : (old new : World) (at : ChangedAt) (status : Status) → status ≡ Changed at → LookUnread old new status → ⊥
disk_or_memory old new at status is silent = elim silent.0 [ inl d ↦ disk_changed (sym d ∙ is) | inr m ↦ memory_changed (sym m ∙ is) ]
  where
    disk_changed : Disk ≡ Changed at → ⊥
    disk_changed e = cc

    memory_changed : Memory ≡ Changed at → ⊥
    memory_changed e = cc

serves_well : (old new : World) (status : Status) → LookServes old new status → LookEndsWell old new status
serves_well old new status s = λ t X reads none. elim s.keeps.statuses [
  | inl done ↦ inl done
  | inr (inl disk) ↦ absurd (none.disk (s.keeps.disk_failed disk))
  | inr (inr (inl input)) ↦ absurd (none.input (s.keeps.input_failed input))
  | inr (inr (inr (inl output))) ↦ absurd (none.output (s.keeps.output_failed output))
  | inr (inr (inr (inr (inl memory)))) ↦ inr (inr memory)
  | inr (inr (inr (inr (inr (inl lines))))) ↦ inr (inl lines)
  | inr (inr (inr (inr (inr (inr (at, is)))))) ↦ absurd (elim (s.told t) [ inl silent ↦ disk_or_memory old new at status is silent | inr ran ↦ ran.2.not_changed at is ])
]

ends_well : (old new : World) (status : Status) → LookEnds old new status → LookEndsWell old new status
ends_well old new status (inl refused) = λ t X reads none. absurd (refused.1 t X reads)
ends_well old new status (inr served) = serves_well old new status served

-- the number of a status with which it comes to its end
pub look_well_as : (old new : World) (number : ℕ) → EndsAs (LookEnds old new) number → EndsAs (LookEndsWell old new) number
look_well_as old new number is = (is.0, is.1, ends_well old new is.0 is.2)
