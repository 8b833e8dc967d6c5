use Rattle.std.proofs.Common.{◌≡◌, ℕ, ◌||◌, map, drop}
use Rattle.std.specs.Ordering.{nat_cmp}
use Rattle.std.specs.BTreeSet.{contains}
use Rattle.bth_tree.specs.Answers.{seen}
use Rattle.property_context.specs.Context.{is_named}
use Rattle.property_context.proofs.value.named_ids.Given as goal

abbrev pub invariant-loop-property : goal.invariant-loop-property
invariant-loop-property l =
    (nid : ℕ) → (contains nat_cmp l.ids nid || is_named (map seen (drop l.property-index l.records)) nid) ≡ is_named (map seen l.records) nid
