use Rattle.std.proofs.Common.{refl}
use Rattle.byteorder.specs.Endian.{little_bytes}
use Rattle.pst_base.proofs.FieldLaws.{replaced-by_tail}
use Rattle.pst_base.proofs.fields.put_u32.Goals as goal

pub returns-clause-written : goal.returns-clause-written
returns-clause-written c = replaced-by_tail c.args.at 4 c.args.b.now (little_bytes 4 c.args.x) c.write_u32.new.buf c.requires refl c.write_u32.ensures
