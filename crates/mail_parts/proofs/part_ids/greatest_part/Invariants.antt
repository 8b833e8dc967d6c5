use Rattle.std.proofs.Common.{◌≡◌, ◌<◌, ◌^◌, drop, max}
use Rattle.mail_tree.specs.Parts.{greatest_part}
use Rattle.mail_parts.proofs.part_ids.greatest_part.Given as goal

-- what is left is looked at
abbrev pub invariant-loop-part : goal.invariant-loop-part
invariant-loop-part l = record {
  value : max l.greatest (greatest_part (drop l.part-index l.parts)) ≡ greatest_part l.parts;
  few : l.greatest < 2 ^ 27;
}
