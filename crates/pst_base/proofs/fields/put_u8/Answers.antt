use Rattle.std.proofs.Common.{arith}
use Rattle.pst_base.proofs.FieldLaws.{replaced-by_set}
use Rattle.pst_base.proofs.fields.put_u8.Goals as goal

pub returns-clause-written : goal.returns-clause-written
returns-clause-written c = replaced-by_set c.args.at c.args.x c.args.b.now c.requires (omega arith)
