-- What the calls of this crate answer.
use Rattle.std.specs.Prelude.{ℕ, ◌≡◌, ◌<◌, ◌^◌, List, ◌++◌, length, map, Option, Some, None, Result, Ok, Err}
use Rattle.pst_base.specs.declared.stops.MemOr.{MemOr}
use Rattle.pst_base.specs.Stops.{StopsAtNone}
use Rattle.bth_tree.specs.declared.record.Record.{Record}
use Rattle.bth_tree.specs.declared.record.BthFault.{BthFault}
use Rattle.bth_tree.specs.Records.{entry_of}

-- a record as clauses see it
abbrev pub seen : Record → ℕ × List ℕ
seen r = (r.key, r.entry.now)

-- unless memory ran out, the records that were put behind the old ones are those of the reading
abbrev pub Puts : {X : Type 0} → Result X (MemOr BthFault) → Option (List (ℕ × List ℕ)) → List Record → List Record → Type 0
Puts (Ok x) read old new = (rs : List (ℕ × List ℕ)) × (read ≡ Some rs) × (map seen new ≡ map seen old ++ rs)
Puts (Err e) read old new = StopsAtNone e read

-- the record's key fits so many bytes, and its entry has so many
pub record IsRecord (k e : ℕ) (r : Record) : Type 0 where
  pub key : r.key < 256 ^ k
  pub entry : length r.entry.now ≡ e

-- what was found is the entry of the key in the records of the reading; a refusal comes only where there are none
abbrev pub FindsEntry : {F : Type 0} → ℕ → Result (Option (List ℕ)) F → Option (List (ℕ × List ℕ)) → Type 0
FindsEntry key (Ok found) read = (rs : List (ℕ × List ℕ)) × (read ≡ Some rs) × (found ≡ entry_of key rs)
FindsEntry key (Err e) read = read ≡ None
