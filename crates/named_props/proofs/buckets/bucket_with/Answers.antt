use Rattle.std.proofs.Common.{◌≡◌, ◌+◌, ◌^◌, ap, arith, length, length-append, ℕ}
use Rattle.std.proofs.lemmas.Bool.{leb-false}
use Rattle.named_props.specs.Adding.{bucket_of}
use Rattle.named_props.specs.Holding.{bytes_at}
use Rattle.named_props.proofs.EntryLaws.{length-bytes_of}
use Rattle.named_props.proofs.buckets.bucket_with.Goals as goal

pub binary-requires : goal.binary-requires
binary-requires c =
    let e = c.args.entry.now in
    let old : length c.bytes_at-old.result.now ≡ length (bytes_at (bucket_of e) c.args.props.now) =
    rw c.bucket_of-id.ensures at c.bytes_at-old.ensures.len in
    let pushed = ap length c.in_ok-push_to.ensures.bytes in
    let extended = ap length c.in_ok-extend_from_slice.ensures.items in
    let empty = ap length c.in_ok-bytes.ensures.items in
    let short = leb-false (2 ^ 32) (length (bytes_at (bucket_of e) c.args.props.now) + 8) c.requires.short in
    omega (arith, pushed, extended, empty, old, short, length-append {A = ℕ}, length-bytes_of e)
