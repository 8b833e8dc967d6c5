use Rattle.std.proofs.Common.{◌≡◌, ℕ, take, All}
use Rattle.ref_counts.specs.Tables.{first, refs_in, HasKey, IsAscending}
use Rattle.ref_counts.specs.declared.table.RefChange.{RefChange}
use Rattle.ref_counts.proofs.table.add_keys.Given as goal

abbrev pub invariant-loop-change : goal.invariant-loop-change
invariant-loop-change l =
    IsAscending first l.entries.items
    × ((key : ℕ) → refs_in l.entries.items key ≡ refs_in l.initial.entries.items key)
    × All (λ (c : RefChange). HasKey l.entries.items c.key) (take l.change-index l.changes)
