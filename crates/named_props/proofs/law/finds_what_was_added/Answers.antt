use Rattle.named_props.proofs.FoundLaws.{name_at-added, name_at-kept, next-unnamed}
use Rattle.named_props.proofs.law.finds_what_was_added.Goals as goal

pub returns : goal.returns
returns c = record {
  found = name_at-added;
  kept = name_at-kept;
  unnamed = λ n. next-unnamed n.entries;
}
