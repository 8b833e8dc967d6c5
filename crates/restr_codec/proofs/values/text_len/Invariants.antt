use Rattle.std.proofs.Common.{◌≡◌, ◌+◌, length}
use Rattle.restr_codec.specs.Reading.{longer, text_len}
use Rattle.restr_codec.proofs.values.text_len.Given as goal

abbrev pub invariant-loop-rest : goal.invariant-loop-rest
invariant-loop-rest l = (text_len l.bytes ≡ longer l.len (text_len l.rest)) × (l.len + length l.rest ≡ length l.bytes)

abbrev pub decreases-loop-rest : goal.decreases-loop-rest
decreases-loop-rest l = length l.rest
