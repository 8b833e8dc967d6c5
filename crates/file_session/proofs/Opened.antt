-- From the opening to the end of a session over a file.
use Rattle.std.proofs.Common.{◌≡◌, ◌∙◌, ℕ, ◌+◌, ◌≤◌, Bool, true, false, List, Option, ◌++◌, refl, sym, ap, subst, inl, inr}
use Rattle.pst_outside.specs.World.{Image, World}
use Rattle.pst_outside.specs.Calls.{LeavesOnly, Settled, Untouched}
use Rattle.pst_outside.proofs.Moments.{continues, weaker}
use Rattle.pst_header.specs.declared.header.Header.{Header}
use Rattle.gate_file.specs.Gate.{IsShut, SameStore}
use Rattle.lays_kept.specs.Stands.{Stands}
use Rattle.node_port.specs.Nodes.{Nodes}
use Rattle.node_port.specs.declared.node.NodeRec.{NodeRec}
use Rattle.pst_base.specs.declared.ids.Nid.{Nid}
use Rattle.pst_commit.specs.Commit.{LeavesNodes}
use Rattle.pst_commit.specs.Keeping.{Holds}
use Rattle.mail_searches.specs.Searching.{Searching}
use Rattle.file_open.proofs.Files.{same_spent}
use Rattle.file_open.proofs.Keepers.{laid_stands}
use Rattle.file_open.specs.Opening.{IsFileRefused, IsOpened, LaysNodes, OpenedTree, ReadsFresh, StopsOpening}
use Rattle.file_open.specs.declared.stops.FileRefusal.{FileRefusal}
use Rattle.file_open.specs.declared.stops.FileStop.{FileStop}
use Rattle.file_open.specs.declared.stops.FileStop.TheVariants as stops
use Rattle.mail_transactions.specs.pinned_session.store_session.Carrying.{Has, InOrder, StandsFor}
use Rattle.mail_transactions.specs.pinned_session.store_session.Disks.{Effects, Medium, medium}
use Rattle.mail_transactions.specs.Session.{SessionEnds}
use Rattle.mail_transactions.specs.Stands.{IsOrdered, StandsCommitted}
use Rattle.mail_transactions.specs.State.{State, begins}
use Rattle.node_port.specs.Pins.{Pins}
use Rattle.mail_transactions.specs.pinned_session.store_session.Turns.{IsReached, SaysTurns, StoreTurn, texts}
use Rattle.mail_transactions.proofs.pinned_session_laws.store_session_laws.Carry.{same_medium}
use Rattle.mail_transactions.proofs.pinned_session_laws.store_session_laws.Reached.{reached_before}
use Rattle.mail_transactions.specs.pinned_session.store_session.declared.session.SessionEnd.{SessionEnd}
use Rattle.mail_transactions.specs.pinned_session.store_session.declared.session.SessionEnd.TheVariants.{Disk, Changed, Memory}
use Rattle.file_session.specs.FileRun.{EndsOpened, EndsUnopened, ReadsAs, file_effects, front_of}
use Rattle.file_session.specs.Stops.{unopened}
use Rattle.file_session.specs.declared.run.FileRun.{FileRun}
use Rattle.file_session.specs.declared.run.FileRun.TheVariants.{Refused, Ended}

-- ---- a session that began behind an opening

module _ (effects : Pins → Effects) (stands : Image → State → Type 0) (ordered : State → Type 0) (rests : Image → Type 0) (opened : Medium) (first mid now : World) (X : State) (end : SessionEnd)
    (told : now.tells → mid.tells)
    (input : mid.tells → mid.input ≡ first.input)
    (said : mid.tells → mid.here.said ≡ first.here.said)
    (opening : LeavesOnly first mid (λ c. (c.said ≡ first.here.said) × stands c X)) where
  -- before the first line
  at_start : (turns : List (StoreTurn State)) (c : Image) → (c.said ≡ first.here.said) × stands c X → IsReached stands first.here.said X turns c
  at_start turns c is = reached_before stands first.here.said X turns c is.0 is.1

  pub session_behind : SessionEnds effects stands ordered rests opened mid now X end → SessionEnds effects stands ordered rests opened first now X end
  session_behind s =
      let before : LeavesOnly first mid (IsReached stands first.here.said X (s.turns ++ s.last)) =
      weaker (IsReached stands first.here.said X (s.turns ++ s.last)) opening (λ c t is. at_start (s.turns ++ s.last) c is) in
      record {
        taken = s.taken;
        input = λ t. sym (input (told t)) ∙ s.input t;
        all = s.all;
        all_of_it = s.all_of_it;
        answered = s.answered;
        hand = s.hand;
        left = s.left;
        one = s.one;
        cuts = s.cuts;
        none_in_hand = s.none_in_hand;
        turns = s.turns;
        last = s.last;
        run = s.run;
        in_hand = s.in_hand;
        in_order = s.in_order;
        stand = s.stand;
        disk_is = s.disk_is;
        written = s.written;
        front = λ t. subst (λ l. SaysTurns l s.turns now.here.said) (said (told t)) (s.front t);
        whole = λ no t. s.whole no t ∙ ap (λ l. l ++ texts s.turns) (said (told t));
        images = continues before s.images (λ c t is. subst (λ l. IsReached stands l X (s.turns ++ s.last) c) (said (told t)) is);
        ends_as = s.ends_as;
        settled = s.settled;
        at_rest = s.at_rest;
        finished = s.finished;
        input_failed = s.input_failed;
        spent = s.spent;
        no_memory = s.no_memory;
        not_changed = s.not_changed;
        few = s.few;
      }

-- ---- what an opening gives to a session

-- a world that leaves nodes leaves what they show
pub leaves_tree : (tidy : Bool) (found : List ℕ) (first mid : World) (N : Nodes) (X : Searching) → ((c : Image) → Stands found c N X.tree.last → StandsFor (Stands found c) X.tree) → InOrder tidy X → LeavesNodes first mid found N X.tree.last
    → LeavesOnly first mid (λ c. (c.said ≡ first.here.said) × ReadsAs tidy found c X)
leaves_tree tidy found first mid N X shows order leaves =
    weaker (λ c. (c.said ≡ first.here.said) × ReadsAs tidy found c X) leaves (λ c t is. (is.0, (shows c is.1, order)))

-- the opening of files that stand for nodes leaves them
abbrev pub Leaving : World → World → Type 0
Leaving first mid = (found : List ℕ) (N : Nodes) (last : List ℕ) → (first.tells → Stands found first.here N last) → LeavesNodes first mid found N last

-- ---- an opening that gave a keeper

-- where some tree is read with numbers left, so is the one that was opened
fresh_start : {knows : Header → List ℕ → Type 0} {bytes : List ℕ} {header : Header} {image : Image} {mid : World} {tree : OpenedTree} (o : IsOpened knows bytes header image mid tree) → ((X : Searching) × ReadsFresh image X) → ReadsFresh image o.tree.tree
fresh_start {image = image} o fresh =
    let laid : LaysNodes image o.nodes o.tree.tree.tree.last = record {
      header = o.laid.header;
      opened = o.laid.opened;
      m = o.laid.m;
      lays = o.laid.lays;
      those = o.laid.those;
      counters = o.laid.counters ∙ sym o.tree.counters;
    } in
    let other = fresh.1.reads in
    record {
      reads = record { nodes = o.nodes; laid = laid; shows = o.tree.shows };
      left = same_spent image o.nodes other.nodes o.tree.tree.tree.last fresh.0.tree.last laid other.laid ∙ fresh.1.left;
    }

-- What an opening gives that gave a keeper.
pub record StartsOpened (knows : Header → List ℕ → Type 0) (bytes : List ℕ) (header : Header) (tree : OpenedTree) (first mid : World) : Type 0 where
  pub start : Searching
  pub reads : ReadsAs false (front_of first.here) first.here start
  pub fresh : ReadsFresh first.here start
  pub front : bytes ≡ front_of first.here
  pub opening : Settled first → (tidy : Bool) → ReadsAs tidy (front_of first.here) first.here start → LeavesOnly first mid (λ c. (c.said ≡ first.here.said) × ReadsAs tidy bytes c start)
  pub has : Settled first → (tidy : Bool) → ReadsAs tidy (front_of first.here) first.here start → Has (Holds knows bytes header mid) header.indexes tree.known tree.searches (λ image. IsShut image.side) mid tidy start

pub starts_opened : (knows : Header → List ℕ → Type 0) (bytes : List ℕ) (header : Header) (tree : OpenedTree) (first mid : World)
    → IsOpened knows bytes header first.here mid tree
    → ((X : Searching) × ReadsFresh first.here X)
    → (Settled first → Settled mid) → (mid.tells → IsShut mid.here.side)
    → (Settled first → Leaving first mid)
    → StartsOpened knows bytes header tree first mid
starts_opened knows bytes header tree first mid o fresh settled shut leaving =
    let X : Searching = o.tree.tree in
    let shown = o.tree.shows.0 in
    let sound : InOrder false X = record {
      whole = shown.whole;
      found = shown.found;
      mirrors = λ e. absurd (no_truth e);
      counts = λ e. absurd (no_truth e);
      attachments = λ e. absurd (no_truth e);
      lists = λ e. absurd (no_truth e);
      searches = shown.searches;
      fresh = o.tree.shows.1;
      marked = shown.marked;
    } in
    let shows : (c : Image) → Stands bytes c o.nodes X.tree.last → StandsFor (Stands bytes c) X.tree = λ c is. record { nodes = o.nodes; held = is; at = shown.at; counters = refl } in
    let stands : Stands bytes first.here o.nodes X.tree.last = subst (λ l. Stands bytes first.here o.nodes l) (sym o.tree.counters) (laid_stands bytes o.laid o.front) in
    record {
      start = X;
      fresh = fresh_start o fresh;
      reads = subst (λ f. ReadsAs false f first.here X) o.front (shows first.here stands, sound);
      front = o.front;
      opening = λ still tidy read. leaves_tree tidy bytes first mid o.nodes X shows read.1 (leaving still bytes o.nodes X.tree.last (λ t. stands));
      has = λ still tidy read. record {
        stores = record {
          tree = record { shown = record { nodes = o.nodes; held = o.held; at = shown.at; counters = o.tree.counters }; knows = o.tree.knows };
          searches = o.tree.searches;
        };
        order = read.1;
        settled = settled still;
        at_rest = shut;
      };
    }
  where
    no_truth : false ≡ true → ⊥
    no_truth e = cc

pub ends_opened : (knows : Header → List ℕ → Type 0) (becomes : List (ℕ × List Bool) → List ℕ → List ℕ → Type 0) (costs : List ℕ → List ℕ → List (Nid × Option NodeRec) → ℕ → Type 0) (bytes : List ℕ) (header : Header) (tree : OpenedTree) (first mid now : World) (end : SessionEnd)
    → StartsOpened knows bytes header tree first mid
    → now.tells → (now.tells → mid.tells)
    → (mid.tells → mid.input ≡ first.input) → SameStore first.here mid.here
    → mid.written ≤ first.written + 580 → (IsShut first.here.side → Untouched first mid)
    → ((tidy : Bool) (X : Searching) → Has (Holds knows bytes header mid) header.indexes tree.known tree.searches (λ image. IsShut image.side) mid tidy X → (true ≡ true → now.tells)
    → SessionEnds (file_effects becomes costs) (StandsCommitted Stands bytes tidy) (IsOrdered tidy) (λ image. IsShut image.side) (medium mid) mid now (begins X) end)
    → EndsOpened becomes costs first now end
ends_opened knows becomes costs bytes header tree first mid now end s tells told input store written idle session =
    let X : Searching = s.start in
    record {
      start = X;
      fresh = s.fresh;
      reads = s.reads;
      opened = medium mid;
      store = store;
      opening = written;
      idle = λ shut. let same = idle shut in same_medium first mid (same.stays.here (told tells)) same.stays.written;
      session = λ still tidy read.
          let opening : LeavesOnly first mid (λ c. (c.said ≡ first.here.said) × ReadsAs tidy bytes c X) = s.opening still tidy read in
          subst (λ f. SessionEnds (file_effects becomes costs) (StandsCommitted Stands f tidy) (IsOrdered tidy) (λ image. IsShut image.side) (medium mid) first now (begins X) end) s.front
          (session_behind (file_effects becomes costs) (StandsCommitted Stands bytes tidy) (IsOrdered tidy) (λ image. IsShut image.side) (medium mid) first mid now (begins X) end told input (λ t. (opening.here t).0) opening (session tidy X (s.has still tidy read) (λ e. tells)));
    }

-- ---- one that gave none

abbrev end_in : SessionEnd → FileRun → SessionEnd
end_in e (Refused refusal) = e
end_in e (Ended end) = end

pub same_end : (d e : SessionEnd) → Ended d ≡ Ended e → d ≡ e
same_end d e is = ap (end_in d) is

abbrev refusal_in : FileRefusal → FileRun → FileRefusal
refusal_in r (Refused refusal) = refusal
refusal_in r (Ended end) = r

same_refusal : (q r : FileRefusal) → Refused q ≡ Refused r → q ≡ r
same_refusal q r is = ap (refusal_in q) is

-- a refusal is no end, and no failure
no_end : (r : FileRefusal) (e : SessionEnd) → Refused r ≡ Ended e → ⊥
no_end r e is = cc

no_refusal : (r : FileRefusal) (e : SessionEnd) → Ended e ≡ Refused r → ⊥
no_refusal r e is = cc

no_fault : (r : FileRefusal) → stops.Refused r ≡ stops.Fault → ⊥
no_fault r is = cc

-- the trees that the files are read as stay
still_reads : (found : List ℕ) (first now : World) → Leaving first now → (tidy : Bool) (X : Searching) → ReadsAs tidy found first.here X → LeavesOnly first now (λ c. (c.said ≡ first.here.said) × ReadsAs tidy found c X)
still_reads found first now leaving tidy X r =
    leaves_tree tidy found first now r.0.nodes X (λ c is. record { nodes = r.0.nodes; held = is; at = r.0.at; counters = r.0.counters }) r.1 (leaving found r.0.nodes X.tree.last (λ t. r.0.held))

memory_fault : stops.Memory ≡ stops.Fault → ⊥
memory_fault is = cc

disk_memory : Disk ≡ Memory → ⊥
disk_memory is = cc

pub ends_unopened : (first now : World) (stop : FileStop) (end : SessionEnd) → unopened stop ≡ Ended end → now.tells
    → StopsOpening first.here stop → (now.tells → now.input ≡ first.input) → (now.tells → SameStore first.here now.here) → ((stop ≡ stops.Fault → ⊥) → Untouched first now)
    → (((X : Searching) → ReadsFresh first.here X → ⊥) → Untouched first now) → (Settled first → Leaving first now) → now.written ≤ first.written + 580
    → EndsUnopened first now end
ends_unopened first now (stops.Refused refusal) end is tells why input store clean kept leaving written = absurd (no_end refusal end is)
ends_unopened first now stops.Fault end is tells why input store clean kept leaving written = record {
  ends = inl (sym (same_end Disk end is));
  input = input;
  said = λ t. (store t).said;
  memory = λ m. absurd (disk_memory (same_end Disk end is ∙ m));
  no_tree = kept;
  store = store;
  written = written;
  images = λ still. still_reads (front_of first.here) first now (leaving still);
}
ends_unopened first now (stops.Changed ib stored computed) end is tells why input store clean kept leaving written = absurd why
ends_unopened first now stops.Memory end is tells why input store clean kept leaving written = record {
  ends = inr (sym (same_end Memory end is));
  input = input;
  said = λ t. (store t).said;
  memory = λ m. clean memory_fault;
  no_tree = kept;
  store = store;
  written = written;
  images = λ still. still_reads (front_of first.here) first now (leaving still);
}

pub refused_is : (first now : World) (stop : FileStop) (refusal : FileRefusal) → unopened stop ≡ Refused refusal
    → ((stop ≡ stops.Fault → ⊥) → Untouched first now) → (now.tells → StopsOpening first.here stop)
    → Untouched first now × (now.tells → IsFileRefused first.here refusal × ((X : Searching) → ReadsFresh first.here X → ⊥))
refused_is first now (stops.Refused r) refusal is clean why = (clean (no_fault r), λ t. (subst (IsFileRefused first.here) (same_refusal r refusal is) ((why t).0), (why t).1))
refused_is first now stops.Fault refusal is clean why = absurd (no_refusal refusal Disk is)
refused_is first now (stops.Changed ib stored computed) refusal is clean why = absurd (no_refusal refusal (Changed ib stored computed) is)
refused_is first now stops.Memory refusal is clean why = absurd (no_refusal refusal Memory is)
