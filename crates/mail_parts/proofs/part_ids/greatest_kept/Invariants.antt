use Rattle.std.proofs.Common.{◌≡◌, ◌<◌, ◌^◌, drop, max}
use Rattle.pst_base.specs.Subs.{flattened}
use Rattle.mail_tree.specs.Parts.{greatest_kept}
use Rattle.mail_parts.proofs.part_ids.greatest_kept.Given as goal

-- what is left is looked at
abbrev pub invariant-loop-sub : goal.invariant-loop-sub
invariant-loop-sub l = record {
  value : max l.greatest (greatest_kept (flattened (drop l.sub-index l.sub-items))) ≡ greatest_kept (flattened l.sub-items);
  few : l.greatest < 2 ^ 27;
}
