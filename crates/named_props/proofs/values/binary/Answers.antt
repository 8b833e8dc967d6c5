use Rattle.std.proofs.Common.{length}
use Rattle.named_props.proofs.EntryLaws.{fits-binary}
use Rattle.named_props.proofs.values.binary.Goals as goal

pub new-requires : goal.new-requires
new-requires c = rw c.from_vec.ensures (fits-binary (length c.args.bytes.items) c.requires)
