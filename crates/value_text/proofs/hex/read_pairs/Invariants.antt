use Rattle.std.proofs.Common.{◌≡◌, length}
use Rattle.value_text.specs.Hex.{before, hex_pairs}
use Rattle.value_text.proofs.hex.read_pairs.Given as goal

-- the bytes so far, before those of the rest, are all
abbrev pub invariant-loop-rest : goal.invariant-loop-rest
invariant-loop-rest l = before l.bytes.items (hex_pairs l.rest) ≡ hex_pairs l.digits

abbrev pub decreases-loop-rest : goal.decreases-loop-rest
decreases-loop-rest l = length l.rest
