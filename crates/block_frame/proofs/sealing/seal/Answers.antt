use Rattle.std.proofs.Common.{◌∙◌, ap, length}
use Rattle.block_frame.specs.Block.{reading}
use Rattle.block_frame.proofs.BlockLaws.{block_reads}
use Rattle.block_frame.proofs.sealing.seal.Goals as goal

pub returns-clause-reads : goal.returns-clause-reads
returns-clause-reads c =
    let block = c.from_vec.ensures ∙ c.in_ok-sealed.ensures.bytes in
    ap (reading (length c.args.body.now) c.args.at) block ∙ block_reads c.args.at c.args.body.now c.in_ok-sealed.ensures.fits
