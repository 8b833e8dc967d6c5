-- How the answers of calls that follow one another join to one answer.
use Rattle.std.proofs.Common.{◌≡◌, ℕ, ◌≤◌, List, [], ◌++◌, Option, Result, Ok, Err, refl, sym, ap, ◌∙◌, arith, append_assoc, append-nil}
use Rattle.pst_base.specs.declared.stops.MemOr.{MemOr}
use Rattle.pst_base.specs.declared.stops.MemOr.TheVariants.{Memory, Refused}
use Rattle.pst_base.specs.declared.stops.SourceStop.{SourceStop}
use Rattle.pst_base.specs.declared.stops.SourceStop.TheVariants.{Failed, Changed}
use Rattle.data_tree.specs.declared.source.TreeStop.{TreeStop}
use Rattle.data_tree.specs.declared.source.TreeStop.TheVariants.{Missing, Form, Long, Deep, Many, Source as BySource}
use Rattle.data_tree.specs.Source.{Source, Rose, Later, StoppedBy}
use Rattle.data_tree.specs.Stops.{TreeStops, Reads, ReadsAlone}
use Rattle.data_tree.specs.Tree.{and_then}

pub later-same : {A : Type 0} (s : Source A) → Later s s
later-same s = record { fails = omega arith; changes = omega arith; eof = refl; told = λ find h. h; since = λ first h. h }

pub later-then : {A : Type 0} (old mid new : Source A) → Later old mid → Later mid new → Later old new
later-then old mid new first next =
    let a = first.fails in
    let b = next.fails in
    let c = first.changes in
    let d = next.changes in
    record {
      fails = omega (arith, a, b);
      changes = omega (arith, c, d);
      eof = next.eof ∙ first.eof;
      told = λ find h. next.told find (first.told find h);
      since = λ earlier h. next.since earlier (first.since earlier h);
    }

rose-before : (a b c : ℕ) → a ≤ b → Rose b c → Rose a c
rose-before a b c h r = omega (arith, h, r)

stopped-after : {A : Type 0} (old mid new : Source A) → Later old mid → (stop : SourceStop) → StoppedBy mid new stop → StoppedBy old new stop
stopped-after old mid new first Failed rose = rose-before old.fails mid.fails new.fails first.fails rose
stopped-after old mid new first (Changed ib stored computed) both =
    (rose-before old.changes mid.changes new.changes first.changes both.0, λ find h. both.1 find (first.told find h))

-- the stop of a call after others is the whole's, where the whole's reading has the fault of the call's
pub stops-after : {A X Y : Type 0} (old mid new : Source A) (part : (ℕ → Option (List ℕ)) → Result X TreeStop) (whole : (ℕ → Option (List ℕ)) → Result Y TreeStop)
    → Later old mid → ((find : ℕ → Option (List ℕ)) → old.holds find → (fault : TreeStop) → part find ≡ Err fault → whole find ≡ Err fault)
    → (stop : MemOr TreeStop) → TreeStops mid new part stop → TreeStops old new whole stop
stops-after old mid new part whole first faults Memory stops = tt
stops-after old mid new part whole first faults (Refused (BySource stop)) stops = stopped-after old mid new first stop stops
stops-after old mid new part whole first faults (Refused (Missing bid)) stops = λ find h. faults find h (Missing bid) (stops find (first.told find h))
stops-after old mid new part whole first faults (Refused (Form bid)) stops = λ find h. faults find h (Form bid) (stops find (first.told find h))
stops-after old mid new part whole first faults (Refused Long) stops = λ find h. faults find h Long (stops find (first.told find h))
stops-after old mid new part whole first faults (Refused Deep) stops = λ find h. faults find h Deep (stops find (first.told find h))
stops-after old mid new part whole first faults (Refused Many) stops = λ find h. faults find h Many (stops find (first.told find h))

-- the same of a whole answer, where the whole's reading is then that of the call
pub reads-after : {A X Y : Type 0} (view : X → Y) (old mid new : Source A) (part whole : (ℕ → Option (List ℕ)) → Result Y TreeStop)
    → Later old mid → ((find : ℕ → Option (List ℕ)) → old.holds find → whole find ≡ part find)
    → (answer : Result X (MemOr TreeStop)) → Reads view mid new part answer → Reads view old new whole answer
reads-after view old mid new part whole first same (Ok x) reads = λ find h. same find h ∙ reads find (first.told find h)
reads-after view old mid new part whole first same (Err stop) reads =
    stops-after old mid new part whole first (λ find h fault e. same find h ∙ e) stop reads

-- an answer that asks no source
pub reads-alone : {A X Y : Type 0} (view : X → Y) (old new : Source A) (part : Result Y TreeStop) (whole : (ℕ → Option (List ℕ)) → Result Y TreeStop)
    → ((find : ℕ → Option (List ℕ)) → old.holds find → whole find ≡ part)
    → (answer : Result X (MemOr TreeStop)) → ReadsAlone view answer part → Reads view old new whole answer
reads-alone view old new part whole same (Ok x) reads = λ find h. same find h ∙ reads
reads-alone view old new part whole same (Err Memory) reads = tt
reads-alone view old new part whole same (Err (Refused (BySource stop))) reads = absurd reads
reads-alone view old new part whole same (Err (Refused (Missing bid))) reads = λ find h. same find h ∙ reads
reads-alone view old new part whole same (Err (Refused (Form bid))) reads = λ find h. same find h ∙ reads
reads-alone view old new part whole same (Err (Refused Long)) reads = λ find h. same find h ∙ reads
reads-alone view old new part whole same (Err (Refused Deep)) reads = λ find h. same find h ∙ reads
reads-alone view old new part whole same (Err (Refused Many)) reads = λ find h. same find h ∙ reads

-- ---- a loop over parts

-- what was read so far, and then the rest
abbrev pub before : {Y : Type 0} → List Y → Result (List Y) TreeStop → Result (List Y) TreeStop
before out rest = and_then rest (λ more. Ok (out ++ more))

-- the loop has read out since old, and the rest completes the whole
pub record Along {A Y : Type 0} (old now : Source A) (out : List Y) (rest whole : (ℕ → Option (List ℕ)) → Result (List Y) TreeStop) : Type 0 where
  pub later : Later old now
  pub so_far : (find : ℕ → Option (List ℕ)) → old.holds find → before out (rest find) ≡ whole find

before-more : {Y : Type 0} (out here : List Y) (rest : Result (List Y) TreeStop) → before (out ++ here) rest ≡ before out (before here rest)
before-more out here (Ok more) = ap Ok (append_assoc out here more)
before-more out here (Err fault) = refl

pub along-next : {A Y : Type 0} (old mid now : Source A) (out here : List Y) (rest next whole : (ℕ → Option (List ℕ)) → Result (List Y) TreeStop)
    → Along old mid out rest whole → Later mid now → ((find : ℕ → Option (List ℕ)) → mid.holds find → rest find ≡ before here (next find))
    → Along old now (out ++ here) next whole
along-next old mid now out here rest next whole along later step = record {
  later = later-then old mid now along.later later;
  so_far = λ find h. before-more out here (next find) ∙ ap (before out) (sym (step find (along.later.told find h))) ∙ along.so_far find h;
}

pub along-stop : {A X Y : Type 0} (old mid now : Source A) (out : List Y) (part : (ℕ → Option (List ℕ)) → Result X TreeStop) (rest whole : (ℕ → Option (List ℕ)) → Result (List Y) TreeStop)
    → Along old mid out rest whole → ((find : ℕ → Option (List ℕ)) → mid.holds find → (fault : TreeStop) → part find ≡ Err fault → rest find ≡ Err fault)
    → (stop : MemOr TreeStop) → TreeStops mid now part stop → TreeStops old now whole stop
along-stop old mid now out part rest whole along faults stop stops =
    stops-after old mid now part whole along.later
    (λ find h fault e. sym (along.so_far find h) ∙ ap (before out) (faults find (along.later.told find h) fault e)) stop stops

pub along-end : {A Y : Type 0} (old now : Source A) (out : List Y) (rest whole : (ℕ → Option (List ℕ)) → Result (List Y) TreeStop)
    → Along old now out rest whole → ((find : ℕ → Option (List ℕ)) → rest find ≡ Ok []) → (find : ℕ → Option (List ℕ)) → old.holds find → whole find ≡ Ok out
along-end old now out rest whole along none find h =
    sym (along.so_far find h) ∙ ap (before out) (none find) ∙ ap Ok (append-nil out)
