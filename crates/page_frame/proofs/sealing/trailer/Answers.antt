use Rattle.std.proofs.Common.{refl}
use Rattle.pst_base.specs.Cells.{written}
use Rattle.page_frame.specs.Page.{trailer_of}
use Rattle.page_frame.proofs.sealing.trailer.Goals as goal

pub returns-clause-bytes : goal.returns-clause-bytes
unfolding trailer_of written
returns-clause-bytes c = rw (c.put_u64.ensures.written, c.put_u32.ensures.written, c.put_u16.ensures.written, c.put_u8-2.ensures.written, c.put_u8.ensures.written) refl
