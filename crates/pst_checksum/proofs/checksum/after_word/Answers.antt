use Rattle.std.proofs.Common.{◌/◌, ◌^◌}
use Rattle.std.proofs.lemmas.Nat.{and_mask}
use Rattle.pst_checksum.proofs.RegisterLaws.{after_bits-eight}
use Rattle.pst_checksum.proofs.checksum.after_word.Goals as goal

pub returns : goal.returns
returns c =
    let y = c.args.y in
    cc (after_bits-eight 0 y, and_mask (y / 2 ^ 48) 8, and_mask (y / 2 ^ 40) 8, and_mask (y / 2 ^ 32) 8, and_mask (y / 2 ^ 24) 8, and_mask (y / 2 ^ 16) 8, and_mask (y / 2 ^ 8) 8, and_mask y 8)
