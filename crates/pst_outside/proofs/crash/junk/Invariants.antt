use Rattle.std.proofs.Common.{◌≡◌, take}
use Rattle.pst_outside.specs.Replay.{junked}
use Rattle.pst_outside.proofs.crash.junk.Given as goal

-- the ranges so far hold A5h
abbrev pub invariant-loop-range : goal.invariant-loop-range
invariant-loop-range l = l.bytes ≡ junked l.initial.bytes (take l.range-index l.ranges)
