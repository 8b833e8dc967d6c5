use Rattle.std.proofs.Common.{◌≡◌, drop, max}
use Rattle.named_props.specs.Adding.{next_index}
use Rattle.named_props.proofs.add.next_index.Given as goal

abbrev pub invariant-loop-entry : goal.invariant-loop-entry
invariant-loop-entry l = max l.next (next_index (drop l.entry-index l.entry-items)) ≡ next_index l.entries
