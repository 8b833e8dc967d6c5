use Rattle.std.proofs.Common.{◌≡◌, length, subst, sym, arith}
use Rattle.pst_header.specs.Format.{IsWritable}
use Rattle.pst_header.proofs.NewLaws.{new-writable}
use Rattle.pst_header.proofs.fields.new_header.Goals as goal

pub returns : goal.returns
returns c =
    let len : length c.new_bytes.result ≡ 564 = omega arith in
    let new = c.new_bytes.ensures in
    subst IsWritable (sym c.header.ensures) (new-writable c.new_bytes.result len (record { magic = new.magic; client = new.client; version = new.version; plain = new.plain }))
