use Rattle.std.proofs.Common.{refl}
use Rattle.pst_base.specs.Cells.{written}
use Rattle.block_frame.specs.Block.{trailer_of}
use Rattle.block_frame.proofs.sealing.trailer.Goals as goal

pub returns-clause-bytes : goal.returns-clause-bytes
unfolding trailer_of written
returns-clause-bytes c = rw (c.put_u64.ensures.written, c.put_u32.ensures.written, c.put_u16-2.ensures.written, c.put_u16.ensures.written) refl
