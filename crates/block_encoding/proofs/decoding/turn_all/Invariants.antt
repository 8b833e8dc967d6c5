use Rattle.std.proofs.Common.{◌≡◌, ◌++◌, take, drop}
use Rattle.block_encoding.specs.Encoding.{turned_from}
use Rattle.block_encoding.proofs.decoding.turn_all.Given as goal

abbrev pub invariant-loop-i : goal.invariant-loop-i
invariant-loop-i l = take l.i l.bytes ++ turned_from l.word (drop l.i l.bytes) ≡ turned_from l.first l.initial.bytes
