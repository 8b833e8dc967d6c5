use Rattle.std.proofs.Common.{◌≡◌, ◌∙◌, arith, drop, length}
use Rattle.std.proofs.lemmas.Result.{on_ok_weaker}
use Rattle.block_frame.specs.Size.{disk_size_of}
use Rattle.file_blocks.proofs.FileLaws.{behind_header, front_of}
use Rattle.file_blocks.proofs.check.read_bytes.Goals as goal

pub returns-clause-bytes : goal.returns-clause-bytes
returns-clause-bytes g c =
    on_ok_weaker c.read_part.result
    (λ whole told room.
    let low = c.requires.low in
    let size = c.disk_size.ensures in
    let n = length c.split_at_mut-front.result.0.now in
    let cut : n ≡ c.disk_size.result = omega (arith, c.split_at_mut-front.ensures) in
    let main = (g.W.Outside.view c.read_part.new.w).here.main in
    let side = (g.W.Outside.view c.read_part.new.w).here.side in
    front_of n (disk_size_of c.args.entry.cb) c.read_part.new.buf _ (drop c.args.entry.at.ib main) (cut ∙ size) (omega (arith, c.read_part.auto.buf)) (whole told (omega (arith, room, size)))
    ∙ behind_header main side c.args.entry.at.ib (disk_size_of c.args.entry.cb) (omega (arith, low)))
    c.read_part.ensures.whole
