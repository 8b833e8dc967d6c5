use Rattle.std.proofs.Common.{◌∙◌, refl}
use Rattle.page_frame.specs.Page.{page_of}
use Rattle.page_frame.proofs.PageLaws.{put_end}
use Rattle.page_frame.proofs.sealing.sealed.Goals as goal

pub returns-clause-bytes : goal.returns-clause-bytes
unfolding page_of
returns-clause-bytes c =
    put_end c.copy_from_slice.new.self _ c.copy_from_slice-2.new.self c.copy_from_slice.ensures.len refl
    ∙ rw (c.copy_from_slice.ensures.after, c.copy_from_slice-2.ensures.after, c.trailer-trailer.ensures.bytes, c.signature.ensures, c.crc.ensures) refl
