use Rattle.std.proofs.Common.{◌≡◌, ◌++◌, ◌+◌, ◌≤◌, length, string_bytes}
use Rattle.sorted_views.specs.Groups.{groups}
use Rattle.sorted_views.specs.Rows.{cell_of}
use Rattle.session_lines.specs.Texts.{group_lines}
use Rattle.session_lines.proofs.rows.groups_text.Given as goal

-- the lines so far, with those of the groups that are left, are all
abbrev pub invariant-loop-first : goal.invariant-loop-first
invariant-loop-first l = record {
  told : string_bytes l.text ++ group_lines (cell_of l.table l.tag) (groups l.rest) ≡ group_lines (cell_of l.table l.tag) (groups l.rows);
  counted : l.count + length (groups l.rest) ≡ length (groups l.rows);
  within : l.count + length l.rest ≤ length l.rows;
}

abbrev pub decreases-loop-first : goal.decreases-loop-first
decreases-loop-first l = length l.rest
