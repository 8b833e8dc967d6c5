use Rattle.std.proofs.Common.{◌∙◌, ◌≡◌, ◌≤◌, ◌-◌, ◌++◌, List, ℕ, ap, length, replicate, arith}
use Rattle.std.proofs.lemmas.List.{take-replicate}
use Rattle.pst_checksum.specs.Crc.{crc_of}
use Rattle.pst_checksum.specs.Sig.{sig_of}
use Rattle.block_frame.specs.Block.{block_of, trailer_at, trailer_of}
use Rattle.block_frame.proofs.sealing.sealed.Goals as goal

pub returns-clause-bytes : goal.returns-clause-bytes
unfolding block_of
returns-clause-bytes c =
    let body = c.args.body.now in
    let k = c.disk_size-size.result - 16 - length body in
    let few : k ≤ 63 = omega (arith, c.disk_size-size.ensures) in
    let same : k ≡ trailer_at (length body) - length body = omega (arith, c.disk_size-size.ensures) in
    let trailer = trailer_of (length body) (sig_of c.args.at.ib c.args.at.bid.bits) (crc_of body) c.args.at.bid.bits in
    rw (c.in_ok-extend_from_slice-3.ensures.items, c.in_ok-extend_from_slice-2.ensures.items, c.in_ok-extend_from_slice.ensures.items, c.in_ok-block.ensures.items, c.trailer-trailer.ensures.bytes, c.sig.ensures, c.crc.ensures)
    (ap (λ (z : List ℕ). body ++ z ++ trailer) (take-replicate k 63 0 few ∙ ap (λ (n : ℕ). replicate n 0) same))
