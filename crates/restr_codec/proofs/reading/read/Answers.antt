use Rattle.std.proofs.Common.{length, arith, subst}
use Rattle.restr_codec.proofs.FieldLaws.{Finds}
use Rattle.restr_codec.proofs.PartFound.{WholeFound, whole_found}
use Rattle.restr_codec.proofs.reading.read.Goals as goal

pub returns-in-Ok-clause-spelled : goal.returns-in-Ok-clause-spelled
returns-in-Ok-clause-spelled c =
    let found = subst (Finds (WholeFound c.args.bytes.now) (length c.args.bytes.now)) c.in-Ok.ensures (whole_found c.args.bytes.now (λ i. omega (arith, c.type_inv.bytes i))) in
    (found.spelled, found.has)

pub overflow_sub-result : goal.overflow_sub-result
overflow_sub-result c =
    let found = subst (Finds (WholeFound c.args.bytes.now) (length c.args.bytes.now)) (rw c.in-Err-Refused.field-0-is at c.in-Err-Refused.ensures) (whole_found c.args.bytes.now (λ i. omega (arith, c.type_inv.bytes i))) in
    omega (arith, found)
