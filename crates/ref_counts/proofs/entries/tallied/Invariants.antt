use Rattle.std.proofs.Common.{◌≡◌, ℕ, take}
use Rattle.data_tree.specs.Keys.{count_of}
use Rattle.ref_counts.specs.Tables.{first, refs_in, IsAscending}
use Rattle.ref_counts.proofs.entries.tallied.Given as goal

abbrev pub invariant-loop-key : goal.invariant-loop-key
invariant-loop-key l = IsAscending first l.entries.items × ((key : ℕ) → refs_in l.entries.items key ≡ count_of key (take l.key-index l.key-items))
