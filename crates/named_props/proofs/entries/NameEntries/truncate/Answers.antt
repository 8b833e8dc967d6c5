use Rattle.named_props.specs.Entries.{in_range}
use Rattle.named_props.proofs.ListLaws.{all-take}
use Rattle.named_props.proofs.entries.NameEntries.truncate.Goals as goal

pub invariant_of-self : goal.invariant_of-self
invariant_of-self c = rw c.truncate.ensures.items (all-take in_range c.args.len _ c.self.invariant)
