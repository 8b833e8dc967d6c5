use Rattle.std.proofs.Common.{◌≡◌, ◌≤◌, ◌^◌, drop, max}
use Rattle.mail_tree.specs.Parts.{next_row}
use Rattle.mail_parts.proofs.with_recipients.next_row.Given as goal

-- what is left is looked at
abbrev pub invariant-loop-row : goal.invariant-loop-row
invariant-loop-row l = record {
  value : max l.next (next_row (drop l.row-index l.rows)) ≡ next_row l.rows;
  few : l.next ≤ 2 ^ 32;
}
