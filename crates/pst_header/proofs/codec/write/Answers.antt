use Rattle.std.proofs.Common.{◌≡◌, length, ap, sym, ◌∙◌, arith}
use Rattle.pst_header.specs.Format.{reading}
use Rattle.pst_header.proofs.ReadingLaws.{read_only, reads_back}
use Rattle.pst_header.proofs.codec.write.Goals as goal

pub returns-clause-back : goal.returns-clause-back
returns-clause-back c =
    let h = c.args.h.now in
    let kept : length h.kept ≡ 564 = omega arith in
    let indexes : length h.indexes ≡ 32 = omega arith in
    ap reading c.sealed.ensures.bytes ∙ reads_back h c.requires kept indexes c.sealed.ensures.fits

pub returns-clause-only : goal.returns-clause-only
returns-clause-only c = λ b len range is. read_only b c.args.h.now len range is ∙ sym c.sealed.ensures.bytes
