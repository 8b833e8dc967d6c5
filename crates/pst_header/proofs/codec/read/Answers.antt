use Rattle.std.proofs.Common.{◌≡◌, length, arith}
use Rattle.pst_header.proofs.ReadingLaws.{Passes, writable-passed}
use Rattle.pst_header.proofs.codec.read.Goals as goal

pub returns-clause-writable : goal.returns-clause-writable
returns-clause-writable c =
    let b = c.args.b.now in
    let len : length b ≡ 564 = omega arith in
    let passes : Passes b = record {
      magic = cc;
      client = cc;
      version = cc;
      partial = cc;
      full = cc;
      plain = cc;
    } in
    rw c.header.ensures (writable-passed b len passes)
