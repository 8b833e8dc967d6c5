use Rattle.std.proofs.Common.{ap, arith, length, refl}
use Rattle.named_props.specs.Entries.{bytes_of}
use Rattle.named_props.specs.Holding.{written}
use Rattle.named_props.proofs.ListLaws.{length-pieces}
use Rattle.named_props.proofs.WriteLaws.{entries-long, names_of-written}
use Rattle.named_props.proofs.write.write_names.Goals as goal

pub binary-requires : goal.binary-requires
binary-requires c =
    let bytes = ap length c.in_ok-entries.ensures.bytes in
    let joined = length-pieces bytes_of 8 c.as_slice-2.result.now (entries-long c.as_slice-2.result.now) in
    omega (arith, bytes, joined, c.as_slice-2.ensures.len, c.requires.entries_fit)

pub binary-requires-2 : goal.binary-requires-2
binary-requires-2 c =
    let bytes = ap length c.in_ok-guids.ensures.bytes in
    let joined = length-pieces (λ g. g) 16 c.as_slice.result.now c.in_ok-guids.ensures.each in
    omega (arith, bytes, joined, c.as_slice.ensures.len, c.requires.guids_fit)

pub returns-clause-values : goal.returns-clause-values
unfolding written
returns-clause-values c =
    rw (
      c.in_ok-put-2.ensures.ok,
      c.binary-2.ensures,
      c.in_ok-put.ensures.ok,
      c.binary.ensures,
      c.in_ok-guids.ensures.bytes,
      c.in_ok-entries.ensures.bytes,
      c.as_slice.ensures.value,
      c.as_slice-2.ensures.value,
      c.in_ok-props.ensures,
    ) refl

pub returns-clause-reads : goal.returns-clause-reads
returns-clause-reads c =
    rw (returns-clause-values c) (names_of-written c.args.n.now c.requires (rw c.as_slice.ensures.value at c.in_ok-guids.ensures.each)
    c.as_slice-2.ensures.range (rw c.as_slice-2.ensures.value at c.in_ok-entries.ensures.fit))
