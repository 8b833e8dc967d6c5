use Rattle.std.proofs.Common.{◌≡◌, ℕ, ◌<◌, ◌+◌, ◌*◌, length, slice_index}
use Rattle.pst_base.specs.Fields.{number_at}
use Rattle.pst_header.proofs.fields.indexes.Given as goal

abbrev pub invariant-loop-kind : goal.invariant-loop-kind
invariant-loop-kind l = record {
  size : length l.all ≡ 32;
  read : (k : ℕ) → k < l.kind → slice_index l.all k ≡ number_at 4 (44 + 4 * k) l.b;
}
