use Rattle.command_text.proofs.DigitLaws.{ReadsHex}
use Rattle.command_text.proofs.words.hex_value.Given as goal

abbrev pub invariant-loop-digit : goal.invariant-loop-digit
invariant-loop-digit l = ReadsHex l.digits l.digit-index l.number
