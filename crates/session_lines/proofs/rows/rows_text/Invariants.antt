use Rattle.std.proofs.Common.{◌≡◌, ◌++◌, drop, string_bytes}
use Rattle.sorted_views.specs.Rows.{cell_of}
use Rattle.session_lines.specs.Texts.{row_lines}
use Rattle.session_lines.proofs.rows.rows_text.Given as goal

-- the lines so far, with those of the rows that are left, are all
abbrev pub invariant-loop-row : goal.invariant-loop-row
invariant-loop-row l = string_bytes l.text ++ row_lines (cell_of l.table l.tag) (drop l.row-index l.rows) ≡ row_lines (cell_of l.table l.tag) l.rows
