-- A loop over parts that keeps how much it has read, and not what.
use Rattle.std.proofs.Common.{◌≡◌, ℕ, ◌+◌, List, [], ◌++◌, Option, Result, Ok, Err, refl, sym, ap, ◌∙◌, arith}
use Rattle.pst_base.specs.declared.stops.MemOr.{MemOr}
use Rattle.data_tree.specs.declared.source.TreeStop.{TreeStop}
use Rattle.data_tree.specs.Source.{Source, Later}
use Rattle.data_tree.specs.Stops.{TreeStops}
use Rattle.data_tree.specs.Tree.{and_then}
use Rattle.data_tree.proofs.Steps.{later-then, stops-after, before}

-- how much a reading gives
abbrev pub tallied : {Y : Type 0} → (List Y → ℕ) → Result (List Y) TreeStop → Result ℕ TreeStop
tallied tally r = and_then r (λ found. Ok (tally found))

-- so much, and then the rest
abbrev pub adding : ℕ → Result ℕ TreeStop → Result ℕ TreeStop
adding n rest = and_then rest (λ more. Ok (n + more))

-- a tally of lists is the sum of that of their parts
abbrev pub IsTally : {Y : Type 0} → (List Y → ℕ) → Type 0
IsTally {Y} tally = (xs ys : List Y) → tally (xs ++ ys) ≡ tally xs + tally ys

-- the loop has counted so much since old, and the rest completes the whole
pub record Counting {A Y : Type 0} (tally : List Y → ℕ) (old now : Source A) (count : ℕ) (rest whole : (ℕ → Option (List ℕ)) → Result (List Y) TreeStop) : Type 0 where
  pub later : Later old now
  pub so_far : (find : ℕ → Option (List ℕ)) → old.holds find → adding count (tallied tally (rest find)) ≡ tallied tally (whole find)

-- what a reading of so much has read
pub tallied-ok : {Y : Type 0} (tally : List Y → ℕ) (r : Result (List Y) TreeStop) (n : ℕ) → tallied tally r ≡ Ok n → (found : List Y) × (r ≡ Ok found) × (tally found ≡ n)
tallied-ok tally (Ok found) n e = (found, refl, cc)
tallied-ok tally (Err fault) n e = absurd cc

pub tallied-fault : {Y : Type 0} (tally : List Y → ℕ) (r : Result (List Y) TreeStop) (fault : TreeStop) → tallied tally r ≡ Err fault → r ≡ Err fault
tallied-fault tally (Ok found) fault e = absurd cc
tallied-fault tally (Err other) fault e = cc

adding-more : {Y : Type 0} (tally : List Y → ℕ) (here : List Y) (n k : ℕ) (rest : Result (List Y) TreeStop) → IsTally tally → tally here ≡ k
    → adding n (tallied tally (before here rest)) ≡ adding (n + k) (tallied tally rest)
adding-more tally here n k (Ok more) sums e =
    let sum = sums here more in
    let same : n + tally (here ++ more) ≡ n + k + tally more = omega (arith, sum, e) in
    ap Ok same
adding-more tally here n k (Err fault) sums e = refl

pub counting-next : {A Y : Type 0} (tally : List Y → ℕ) (old mid now : Source A) (n k : ℕ) (rest next whole : (ℕ → Option (List ℕ)) → Result (List Y) TreeStop)
    → IsTally tally → Counting tally old mid n rest whole → Later mid now
    → ((find : ℕ → Option (List ℕ)) → mid.holds find → (here : List Y) × (tally here ≡ k) × (rest find ≡ before here (next find)))
    → Counting tally old now (n + k) next whole
counting-next {Y} tally old mid now n k rest next whole sums counting later step = record {
  later = later-then old mid now counting.later later;
  so_far = λ find h.
      let one = step find (counting.later.told find h) in
      sym (adding-more tally one.0 n k (next find) sums one.1)
      ∙ ap (λ (r : Result (List Y) TreeStop). adding n (tallied tally r)) (sym one.2) ∙ counting.so_far find h;
}

pub counting-fault : {A Y : Type 0} (tally : List Y → ℕ) (old now : Source A) (n : ℕ) (rest whole : (ℕ → Option (List ℕ)) → Result (List Y) TreeStop)
    → Counting tally old now n rest whole → (find : ℕ → Option (List ℕ)) → old.holds find → (fault : TreeStop) → rest find ≡ Err fault → tallied tally (whole find) ≡ Err fault
counting-fault {Y} tally old now n rest whole counting find h fault e =
    sym (counting.so_far find h) ∙ ap (λ (r : Result (List Y) TreeStop). adding n (tallied tally r)) e

pub counting-stop : {A X Y : Type 0} (tally : List Y → ℕ) (old mid now : Source A) (n : ℕ) (part : (ℕ → Option (List ℕ)) → Result X TreeStop) (rest whole : (ℕ → Option (List ℕ)) → Result (List Y) TreeStop)
    → Counting tally old mid n rest whole → ((find : ℕ → Option (List ℕ)) → mid.holds find → (fault : TreeStop) → part find ≡ Err fault → rest find ≡ Err fault)
    → (stop : MemOr TreeStop) → TreeStops mid now part stop → TreeStops old now (λ find. tallied tally (whole find)) stop
counting-stop tally old mid now n part rest whole counting faults stop stops =
    stops-after old mid now part (λ find. tallied tally (whole find)) counting.later
    (λ find h fault e. counting-fault tally old mid n rest whole counting find h fault (faults find (counting.later.told find h) fault e)) stop stops

pub counting-end : {A Y : Type 0} (tally : List Y → ℕ) (old now : Source A) (n : ℕ) (rest whole : (ℕ → Option (List ℕ)) → Result (List Y) TreeStop)
    → Counting tally old now n rest whole → tally [] ≡ 0 → ((find : ℕ → Option (List ℕ)) → rest find ≡ Ok [])
    → (find : ℕ → Option (List ℕ)) → old.holds find → tallied tally (whole find) ≡ Ok n
counting-end {Y} tally old now n rest whole counting zero none find h =
    let same : n + tally [] ≡ n = omega (arith, zero) in
    sym (counting.so_far find h) ∙ ap (λ (r : Result (List Y) TreeStop). adding n (tallied tally r)) (none find) ∙ ap Ok same
