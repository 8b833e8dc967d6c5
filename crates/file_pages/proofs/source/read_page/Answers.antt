use Rattle.std.proofs.Common.{◌≤◌, ◌+◌, ◌∙◌, ap, arith, length, take, drop}
use Rattle.pst_outside.specs.World.{Image}
use Rattle.file_blocks.specs.Blocks.{file_of}
use Rattle.file_blocks.proofs.FileLaws.{behind_header}
use Rattle.file_pages.proofs.source.read_page.Goals as goal

pub returns-clause-bytes : goal.returns-clause-bytes
returns-clause-bytes g c = λ told within.
    let same = c.read_part.ensures.same.stays in
    let here = same.here told in
    let low = c.requires in
    let room : c.args.ib + 512 ≤ length (g.W.Outside.view c.read_part.new.w).here.main = omega (arith, ap (λ (i : Image). length i.main) here, within) in
    c.in_ok-read_part.ensures.whole told room
    ∙ behind_header (g.W.Outside.view c.read_part.new.w).here.main (g.W.Outside.view c.read_part.new.w).here.side c.args.ib 512 (omega (arith, low))
    ∙ ap (λ (i : Image). take 512 (drop c.args.ib (file_of i))) here
