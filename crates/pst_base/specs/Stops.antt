-- What an answer with want of memory says of a reading of the same bytes.
use Rattle.std.specs.Prelude.{◌≡◌, Option, Some, None, Result, Ok, Err}
use Rattle.pst_base.specs.declared.stops.MemOr.{MemOr}
use Rattle.pst_base.specs.declared.stops.MemOr.TheVariants.{Memory, Refused}

-- a refusal comes only where the reading gives nothing
abbrev pub StopsAtNone : {Y F : Type 0} → MemOr F → Option Y → Type 0
StopsAtNone Memory read = Unit {0}
StopsAtNone (Refused fault) read = read ≡ None

-- unless memory ran out, what was found, seen by view, is what the reading gives
abbrev pub Finds : {X Y F : Type 0} → (X → Y) → Result X (MemOr F) → Option Y → Type 0
Finds view (Ok x) read = read ≡ Some (view x)
Finds view (Err e) read = StopsAtNone e read

-- a refusal is the fault of the reading
abbrev pub StopsAt : {Y F : Type 0} → MemOr F → Result Y F → Type 0
StopsAt Memory read = Unit {0}
StopsAt (Refused fault) read = read ≡ Err fault

-- unless memory ran out, what was given, seen by view, is what the reading gives, and so is each fault
abbrev pub Gives : {X Y F : Type 0} → (X → Y) → Result X (MemOr F) → Result Y F → Type 0
Gives view (Ok x) read = read ≡ Ok (view x)
Gives view (Err e) read = StopsAt e read
