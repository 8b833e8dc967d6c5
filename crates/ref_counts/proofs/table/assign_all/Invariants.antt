use Rattle.std.proofs.Common.{◌≡◌, ℕ, take}
use Rattle.ref_counts.specs.Tables.{first, refs_in, HasKey, IsAscending}
use Rattle.ref_counts.specs.Changes.{change_of, number_by, HasRoomFor}
use Rattle.ref_counts.proofs.table.assign_all.Given as goal

abbrev pub invariant-loop-change : goal.invariant-loop-change
invariant-loop-change l =
    IsAscending first l.entries
    × ((key : ℕ) → HasKey l.initial.entries key → HasKey l.entries key)
    × (HasRoomFor l.initial.entries l.changes → (key : ℕ) → refs_in l.entries key ≡ number_by (change_of key (take l.change-index l.changes)) (refs_in l.initial.entries key))
