-- From the opening of a file to the end of the mending of its searches.
use Rattle.std.proofs.Common.{◌≡◌, ◌∙◌, ℕ, ◌+◌, ◌≤◌, Bool, true, false, List, [], ◌++◌, length, take, Result, Ok, Err, IfErr, refl, sym, ap, subst, inl, inr, arith}
use Rattle.std.proofs.Math.Seq.{take-append_seam}
use Rattle.pst_outside.specs.World.{Image, World}
use Rattle.pst_outside.specs.Calls.{LeavesOnly, NeverFall, Rose, Settled, Untouched}
use Rattle.pst_outside.proofs.Moments.{continues, weaker}
use Rattle.pst_header.specs.declared.header.Header.{Header}
use Rattle.gate_file.specs.Gate.{IsShut, SameStore}
use Rattle.lays_kept.specs.Stands.{Stands}
use Rattle.node_port.specs.Nodes.{Nodes}
use Rattle.node_port.specs.Stops.{Room}
use Rattle.pst_commit.specs.Commit.{LeavesNodes}
use Rattle.node_port.specs.Pins.{Pins, no_pins}
use Rattle.pst_commit.specs.Keeping.{HasRoom, Holds, IsCommitted}
use Rattle.search_mends.specs.store_session.Disks.{medium}
use Rattle.search_mends.proofs.store_session_laws.Carry.{same_medium}
use Rattle.search_mends.specs.mail_store.Planning.{StandsFor}
use Rattle.mail_tree.specs.Changing.{Answer}
use Rattle.mail_tree.specs.Whole.{Fine}
use Rattle.mail_searches.specs.Searching.{Searching}
use Rattle.search_obj.specs.Scope.{is_among}
use Rattle.search_mends.specs.search_mending.Laws.{IsMendable, MendsThese}
use Rattle.search_mends.specs.search_mending.Mended.{mended_all}
use Rattle.search_mends.proofs.search_mending_laws.AllLaws.{front_in_order}
use Rattle.search_mends.specs.search_store.Planning.{StoresSearches}
use Rattle.search_mends.specs.search_store.declared.store.SearchStore.{SearchStore}
use Rattle.search_mends.specs.Mends.{HasMendable, LeavesMended, MendRun, MendedSoFar, MendsSearches}
use Rattle.search_mends.specs.Stops.{IsCaused, UnlessFault}
use Rattle.search_mends.specs.declared.all.Mended.{Mended}
use Rattle.search_mends.specs.declared.stop.MendStop.{MendStop}
use Rattle.search_mends.specs.declared.stop.MendStop.TheVariants as mends
use Rattle.file_open.proofs.Keepers.{laid_stands}
use Rattle.file_open.specs.Opening.{IsFileRefused, IsLooked, OpenedTree, ReadsTree, StopsLooking}
use Rattle.file_open.specs.declared.stops.FileRefusal.{FileRefusal}
use Rattle.file_open.specs.declared.stops.FileStop.{FileStop}
use Rattle.file_open.specs.declared.stops.FileStop.TheVariants as stops
use Rattle.file_mending.specs.FileMends.{Becomes, Costs, MendOpened, MendUnopened, MendsFiles, ReadsMendable, StandsMendable, front_of, unopened}
use Rattle.file_mending.specs.declared.mend.FileMend.{FileMend}
use Rattle.file_mending.specs.declared.mend.FileMend.TheVariants.{Refused, Ended}

-- ---- what stays in order

-- the tree after some of the first searches were mended is in order but for what is left
still_mendable : (tidy : Bool) (X Y : Searching) (front rest : List ℕ) → X.own ≡ front ++ rest → mended_all X front ≡ Ok Y → IsMendable tidy X → IsMendable tidy Y
still_mendable tidy X Y front rest cuts mended order =
    let part : take (length front) X.own ≡ front = ap (take (length front)) cuts ∙ take-append_seam front rest in
    let fine : Fine (mended_all X front) (MendsThese tidy X (is_among front)) =
    subst (λ (fs : List ℕ). Fine (mended_all X fs) (MendsThese tidy X (is_among fs))) part (front_in_order tidy X (length front) order) in
    let these : MendsThese tidy X (is_among front) Y = subst (λ (a : Answer Searching). Fine a (MendsThese tidy X (is_among front))) mended fine in
    these.order

so_far_reads : (tidy : Bool) (found : List ℕ) (c : Image) (X : Searching) → IsMendable tidy X → MendedSoFar (λ Y. StandsFor (Stands found c) Y.tree) X → MendedSoFar (ReadsMendable tidy found c) X
so_far_reads tidy found c X order m = record {
  front = m.front;
  rest = m.rest;
  cuts = m.cuts;
  so_far = m.so_far;
  mended = m.mended;
  is_so = (m.is_so, still_mendable tidy X m.so_far m.front m.rest m.cuts m.mended order);
}

-- none was mended yet
none_yet : (P : Searching → Type 0) (X : Searching) → P X → MendedSoFar P X
none_yet P X is = record { front = []; rest = X.own; cuts = refl; so_far = X; mended = refl; is_so = is }

-- ---- what a store has that has come so far

unless_then : (P Q : Type 0) (stop : MendStop) → (P → Q) → UnlessFault P stop → UnlessFault Q stop
unless_then P Q (mends.Rows n) f p = f p
unless_then P Q (mends.Full free need) f p = f p
unless_then P Q mends.Ids f p = f p
unless_then P Q mends.Fault f p = tt
unless_then P Q (mends.Changed ib stored computed) f p = f p
unless_then P Q mends.Memory f p = f p

pub mends_then : (P Q : Searching → Type 0) (room : Room) (X : Searching) (end : Result Mended MendStop) → ((Y : Searching) → P Y → Q Y) → MendsSearches P room X end → MendsSearches Q room X end
mends_then P Q room X (Ok done) f m = record { so_far = m.so_far; mended = m.mended; has_it = f m.so_far m.has_it; stale = m.stale; migrated = m.migrated }
mends_then P Q room X (Err stop) f m = record { front = m.front; rest = m.rest; cuts = m.cuts; so_far = m.so_far; mended = m.mended; why = m.why; has_it = unless_then (P m.so_far) (Q m.so_far) stop (f m.so_far) m.has_it }

-- a store that has the tree is over a disk that stands for it
pub stood : {K W : Type 0} (view : W → World) (holds : K → World → Nodes → Type 0) (last : K → List ℕ) (rests : Image → Type 0) (stands : List ℕ → Image → Nodes → List ℕ → Type 0) (measures : Image → Room → Type 0) (room : K → Room)
    → ((k : K) (w : W) (N : Nodes) → holds k (view w) N → stands (room k).found (view w).here N (last k))
    → ((k : K) (w : W) (N : Nodes) → holds k (view w) N → measures (view w).here (room k))
    → (found : List ℕ) (store : SearchStore K) (w : W) → (room store.store.keeper).found ≡ found → (tidy : Bool) (Y : Searching)
    → HasMendable holds last rests store (view w) tidy Y → StandsMendable tidy (stands found) measures (room store.store.keeper) (view w) Y
stood view holds last rests stands measures room held_stands held_measures found store w is tidy Y h =
    let s = h.stores.tree.shown in
    let k = store.store.keeper in
    let held = subst (λ (f : List ℕ). stands f (view w).here s.nodes (last k)) is (held_stands k w s.nodes s.held) in (
      (record { nodes = s.nodes; held = subst (λ (l : List ℕ). stands found (view w).here s.nodes l) (sym s.counters) held; at = s.at; counters = refl }, h.order),
      h.settled,
      held_measures k w s.nodes s.held,
    )

-- the same run over the pins that a keeper had
pub mends_over : (becomes : Becomes) (costs : Costs) (tidy : Bool) (found : List ℕ) (room : Room) (mid now : World) (X : Searching) (end : Result Mended MendStop) {p q : Pins} → p ≡ q
    → MendsSearches (λ Y. StandsMendable tidy (Stands found) HasRoom room now Y × MendRun (IsCommitted becomes costs p.opened) now.tells X (medium mid) Y (medium now)) room X end
    → MendsSearches (λ Y. StandsMendable tidy (Stands found) HasRoom room now Y × MendRun (IsCommitted becomes costs q.opened) now.tells X (medium mid) Y (medium now)) room X end
mends_over becomes costs tidy found room mid now X end e m =
    subst (λ (p : Pins). MendsSearches (λ Y. StandsMendable tidy (Stands found) HasRoom room now Y × MendRun (IsCommitted becomes costs p.opened) now.tells X (medium mid) Y (medium now)) room X end) e m

-- ---- an opening that gave a keeper

-- the opening of files that stand for nodes leaves them
abbrev pub Leaving : World → World → Type 0
Leaving first mid = (found : List ℕ) (N : Nodes) (last : List ℕ) → (first.tells → Stands found first.here N last) → LeavesNodes first mid found N last

-- a world that leaves nodes leaves what they show
leaves_tree : (tidy : Bool) (found : List ℕ) (first mid : World) (N : Nodes) (X : Searching) → ((c : Image) → Stands found c N X.tree.last → StandsFor (Stands found c) X.tree) → IsMendable tidy X → LeavesNodes first mid found N X.tree.last
    → LeavesOnly first mid (λ c. (c.said ≡ first.here.said) × ReadsMendable tidy found c X)
leaves_tree tidy found first mid N X shows order leaves =
    weaker (λ c. (c.said ≡ first.here.said) × ReadsMendable tidy found c X) leaves (λ c t is. (is.0, (shows c is.1, order)))

pub ends_mended : (becomes : Becomes) (costs : Costs) (knows : Header → List ℕ → Type 0) (bytes : List ℕ) (header : Header) (tree : OpenedTree) (first mid now : World) (end : Result Mended MendStop) (room : Room)
    → IsLooked knows bytes header first.here mid tree
    → now.tells → (now.tells → mid.tells) → SameStore first.here mid.here
    → mid.written ≤ first.written + 580 → (IsShut first.here.side → Untouched first mid)
    → (Settled first → Settled mid) → (mid.tells → IsShut mid.here.side)
    → (Settled first → Leaving first mid)
    → ((tidy : Bool) (X : Searching) → StoresSearches (Holds knows bytes header mid) header.indexes tree.known tree.searches X → IsMendable tidy X → Settled mid → (mid.tells → IsShut mid.here.side)
    → MendsSearches (λ Y. StandsMendable tidy (Stands bytes) HasRoom room now Y × MendRun (IsCommitted becomes costs no_pins.opened) now.tells X (medium mid) Y (medium now)) room X end × LeavesMended (Stands bytes) mid now X)
    → MendOpened becomes costs first now end
ends_mended becomes costs knows bytes header tree first mid now end room o tells told store written idle settled shut leaving mending =
    let X : Searching = o.tree.tree in
    let shown = o.reads.shows in
    let N : Nodes = o.reads.nodes in
    let sound : IsMendable false X = record {
      whole = o.tree.shows.whole;
      found = o.tree.shows.found;
      mirrors = λ e. absurd (no_truth e);
      counts = λ e. absurd (no_truth e);
      attachments = λ e. absurd (no_truth e);
      lists = λ e. absurd (no_truth e);
      searches = o.tree.shows.searches;
      marked = o.tree.shows.marked;
    } in
    let shows : (c : Image) → Stands bytes c N X.tree.last → StandsFor (Stands bytes c) X.tree = λ c is. record { nodes = N; held = is; at = shown.at; counters = refl } in
    let stands : Stands bytes first.here N X.tree.last = laid_stands bytes o.reads.laid o.front in
    record {
      start = X;
      reads = o.reads;
      stands = subst (λ f. ReadsMendable false f first.here X) o.front (shows first.here stands, sound);
      mends = λ still tidy read.
          let order : IsMendable tidy X = read.1 in
          let opening : LeavesOnly first mid (λ c. (c.said ≡ first.here.said) × ReadsMendable tidy bytes c X) = leaves_tree tidy bytes first mid N X shows order (leaving still bytes N X.tree.last (λ t. stands)) in
          let stores : StoresSearches (Holds knows bytes header mid) header.indexes tree.known tree.searches X = record {
            tree = record { shown = record { nodes = o.nodes; held = o.held; at = o.tree.shows.at; counters = o.tree.counters }; knows = o.tree.knows };
            searches = o.tree.searches;
          } in
          let both = mending tidy X stores order (settled still) shut in
          let begins : LeavesOnly first mid (λ c. (c.said ≡ first.here.said) × MendedSoFar (ReadsMendable tidy bytes c) X) =
          weaker (λ c. (c.said ≡ first.here.said) × MendedSoFar (ReadsMendable tidy bytes c) X) opening (λ c t is. (is.0, none_yet (ReadsMendable tidy bytes c) X is.1)) in
          subst (λ f. MendsFiles becomes costs tidy f first now X end) o.front (record {
            images = continues begins both.1 (λ c t is. (is.0 ∙ store.said, so_far_reads tidy bytes c X order is.1));
            room = room;
            opened = medium mid;
            store = store;
            opening = written;
            idle = λ closed. let same = idle closed in same_medium first mid (same.stays.here (told tells)) same.stays.written;
            mends = both.0;
          });
    }
  where
    no_truth : false ≡ true → ⊥
    no_truth e = cc

-- ---- one that gave none

abbrev end_in : Result Mended MendStop → FileMend → Result Mended MendStop
end_in e (Refused refusal) = e
end_in e (Ended end) = end

pub same_end : (d e : Result Mended MendStop) → Ended d ≡ Ended e → d ≡ e
same_end d e is = ap (end_in d) is

abbrev refusal_in : FileRefusal → FileMend → FileRefusal
refusal_in r (Refused refusal) = refusal
refusal_in r (Ended end) = r

same_refusal : (q r : FileRefusal) → Refused q ≡ Refused r → q ≡ r
same_refusal q r is = ap (refusal_in q) is

no_end : (r : FileRefusal) (e : Result Mended MendStop) → Refused r ≡ Ended e → ⊥
no_end r e is = cc

no_refusal : (r : FileRefusal) (e : Result Mended MendStop) → Ended e ≡ Refused r → ⊥
no_refusal r e is = cc

no_fault : (r : FileRefusal) → stops.Refused r ≡ stops.Fault → ⊥
no_fault r is = cc

memory_fault : stops.Memory ≡ stops.Fault → ⊥
memory_fault is = cc

abbrev is_memory : Result Mended MendStop → Type 0
is_memory (Err mends.Memory) = Unit {0}
is_memory other = ⊥

fault_memory : ◌≡◌ {A = Result Mended MendStop} (Err mends.Fault) (Err mends.Memory) → ⊥
fault_memory is = subst is_memory (sym is) tt

-- the tree that the files are read as stays
still_reads : (first now : World) → Leaving first now → (tidy : Bool) (X : Searching) → ReadsMendable tidy (front_of first.here) first.here X
    → LeavesOnly first now (λ c. (c.said ≡ first.here.said) × ReadsMendable tidy (front_of first.here) c X)
still_reads first now leaving tidy X r =
    leaves_tree tidy (front_of first.here) first now r.0.nodes X (λ c is. record { nodes = r.0.nodes; held = is; at = r.0.at; counters = r.0.counters }) r.1 (leaving (front_of first.here) r.0.nodes X.tree.last (λ t. r.0.held))

pub ends_unmended : (first now : World) (stop : FileStop) (end : Result Mended MendStop) → unopened stop ≡ Ended end
    → StopsLooking first.here stop → SameStore first.here now.here → ((stop ≡ stops.Fault → ⊥) → Untouched first now) → (Settled first → Leaving first now)
    → MendUnopened first now end
ends_unmended first now (stops.Refused refusal) end is why store clean leaving = absurd (no_end refusal end is)
ends_unmended first now stops.Fault end is why store clean leaving = record {
  ends = inl (sym (same_end (Err mends.Fault) end is));
  memory = λ m. absurd (fault_memory (same_end (Err mends.Fault) end is ∙ m));
  said = store.said;
  images = λ still. still_reads first now (leaving still);
}
ends_unmended first now (stops.Changed ib stored computed) end is why store clean leaving = absurd why
ends_unmended first now stops.Memory end is why store clean leaving = record {
  ends = inr (sym (same_end (Err mends.Memory) end is));
  memory = λ m. clean memory_fault;
  said = store.said;
  images = λ still. still_reads first now (leaving still);
}

pub refused_is : (first now : World) (stop : FileStop) (refusal : FileRefusal) → unopened stop ≡ Refused refusal
    → ((stop ≡ stops.Fault → ⊥) → Untouched first now) → (now.tells → StopsLooking first.here stop)
    → Untouched first now × (now.tells → IsFileRefused first.here refusal × ((X : Searching) → ReadsTree first.here X → ⊥))
refused_is first now (stops.Refused r) refusal is clean why = (clean (no_fault r), λ t. (subst (IsFileRefused first.here) (same_refusal r refusal is) ((why t).0), (why t).1))
refused_is first now stops.Fault refusal is clean why = absurd (no_refusal refusal (Err mends.Fault) is)
refused_is first now (stops.Changed ib stored computed) refusal is clean why = absurd (no_refusal refusal (Err (mends.Changed ib stored computed)) is)
refused_is first now stops.Memory refusal is clean why = absurd (no_refusal refusal (Err mends.Memory) is)

-- ---- causes

caused_late : {first mid : World} (n : ℕ) (stop : MendStop) → NeverFall first mid → IsCaused true mid.disk_faults n stop → IsCaused true first.disk_faults n stop
caused_late n (mends.Rows q) counts c = tt
caused_late n (mends.Full free need) counts c = tt
caused_late n mends.Ids counts c = tt
caused_late {first} {mid} n mends.Fault counts c = (rose c.0, c.1)
  where
    rose : Rose mid.disk_faults n → Rose first.disk_faults n
    rose r = omega (arith, counts.disk_faults, r)
caused_late n (mends.Changed ib stored computed) counts c = tt
caused_late n mends.Memory counts c = tt

pub ends_caused : {first mid : World} (n : ℕ) (end : Result Mended MendStop) → NeverFall first mid → IfErr end (IsCaused true mid.disk_faults n) → IfErr end (IsCaused true first.disk_faults n)
ends_caused n (Ok done) counts c = tt
ends_caused n (Err stop) counts c = caused_late n stop counts c

pub stop_caused : (first now : World) (stop : FileStop) (end : Result Mended MendStop) → unopened stop ≡ Ended end → (stop ≡ stops.Fault → Rose first.disk_faults now.disk_faults) → IfErr end (IsCaused true first.disk_faults now.disk_faults)
stop_caused first now (stops.Refused refusal) end is fault = absurd (no_end refusal end is)
stop_caused first now stops.Fault end is fault = subst (λ (e : Result Mended MendStop). IfErr e (IsCaused true first.disk_faults now.disk_faults)) (same_end (Err mends.Fault) end is) (fault refl, refl)
stop_caused first now (stops.Changed ib stored computed) end is fault = subst (λ (e : Result Mended MendStop). IfErr e (IsCaused true first.disk_faults now.disk_faults)) (same_end (Err (mends.Changed ib stored computed)) end is) tt
stop_caused first now stops.Memory end is fault = subst (λ (e : Result Mended MendStop). IfErr e (IsCaused true first.disk_faults now.disk_faults)) (same_end (Err mends.Memory) end is) tt
