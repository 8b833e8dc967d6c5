use Rattle.std.proofs.Common.{◌≡◌, ◌∙◌, ap, length, sym, arith}
use Rattle.page_frame.specs.Page.{reading}
use Rattle.page_frame.proofs.PageLaws.{page_only, page_reads}
use Rattle.page_frame.proofs.sealing.seal.Goals as goal

pub returns-clause-page : goal.returns-clause-page
returns-clause-page c =
    let body : length c.args.body.now ≡ 496 = omega arith in
    (omega arith, ap (reading c.args.kind c.args.at) c.sealed.ensures.bytes ∙ page_reads c.args.kind c.args.at c.args.body.now body c.sealed.ensures.fits)

pub returns-clause-only : goal.returns-clause-only
returns-clause-only c = λ page is range. page_only c.args.kind c.args.at c.args.body.now page is range ∙ sym c.sealed.ensures.bytes
