use Rattle.std.proofs.Common.{arith, rules, refl, sym, ◌<◌}
use Rattle.command_text.proofs.DigitLaws.{hex-small, hex-more, hex-fault, hex-end}
use Rattle.command_text.proofs.words.hex_value.Goals as goal

pub returns-in_default : goal.returns-in_default
returns-in_default c =
    sym (hex-fault c.args.digits.now c.loop-digit.digit-index _ c.loop-digit.invariant c.loop-digit-test.true (search rules))

pub overflow_mul-number : goal.overflow_mul-number
overflow_mul-number c =
    let sum = hex-small c.args.digits.now c.loop-digit.digit-index c.loop-digit.number 0 c.loop-digit.invariant (omega arith) (omega arith) in
    omega arith

pub overflow_add-number : goal.overflow_add-number
overflow_add-number c =
    let small : c.in-Some.value < 16 = search rules in
    let sum = hex-small c.args.digits.now c.loop-digit.digit-index c.loop-digit.number c.in-Some.value c.loop-digit.invariant (omega arith) small in
    omega arith

pub loop-digit-preserved : goal.loop-digit-preserved
loop-digit-preserved c =
    hex-more c.args.digits.now c.loop-digit.digit-index c.loop-digit.number _ c.in-Some.value c.loop-digit.invariant c.loop-digit-test.true (search rules) (search rules) refl

pub returns : goal.returns
returns c = sym (hex-end c.args.digits.now c.loop-digit.digit-index _ c.loop-digit.invariant (omega arith))
