use Rattle.std.proofs.Common.{◌≡◌, ◌++◌, map, take, drop}
use Rattle.block_encoding.specs.Encoding.{back}
use Rattle.block_encoding.proofs.decoding.put_back.Given as goal

abbrev pub invariant-loop-i : goal.invariant-loop-i
invariant-loop-i l = take l.i l.bytes ++ map back (drop l.i l.bytes) ≡ map back l.initial.bytes
