use Rattle.std.proofs.Common.{◌≡◌, ◌≤◌, ◌+◌, ◌-◌, ◌^◌, drop}
use Rattle.std.specs.Prelude.{min}
use Rattle.store_filling.specs.Counts.{sizes_in}
use Rattle.store_filling.proofs.counting.sizes_in.Given as goal

-- those before are summed
abbrev pub invariant-loop-line : goal.invariant-loop-line
invariant-loop-line l = record {
  summed : min (l.sum + sizes_in (drop l.line-index l.lines)) (2 ^ 64 - 1) ≡ min (sizes_in l.lines) (2 ^ 64 - 1);
  bound : l.sum ≤ 2 ^ 64 - 1;
}
