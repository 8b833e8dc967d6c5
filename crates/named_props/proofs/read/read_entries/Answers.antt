use Rattle.named_props.proofs.ReadLaws.{none-in_range}
use Rattle.named_props.proofs.read.read_entries.Goals as goal

pub returns-then-entry-gt-GREATEST_INDEX-clause-exact : goal.returns-then-entry-gt-GREATEST_INDEX-clause-exact
returns-then-entry-gt-GREATEST_INDEX-clause-exact c =
    none-in_range c.args.chunks.now c.loop-chunk.chunk-index _ c.from_bytes-entry.result c.loop-chunk-test.true c.from_bytes-entry.ensures.entry c.if-entry-gt-GREATEST_INDEX.true
