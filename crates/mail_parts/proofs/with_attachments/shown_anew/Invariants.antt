use Rattle.std.proofs.Common.{◌≡◌, ◌++◌, drop, map, true}
use Rattle.std.specs.List.{list_all}
use Rattle.mapi_values.specs.Tables.{row_suits}
use Rattle.mail_tree.specs.Parts.{part_row}
use Rattle.mail_parts.proofs.with_attachments.shown_anew.Given as goal

-- the rows so far, with those of the rest, are all, and those so far suit the columns
abbrev pub invariant-loop-part : goal.invariant-loop-part
invariant-loop-part l = record {
  all : l.rows.items ++ map (part_row l.table-inside.columns.items) (drop l.part-index l.parts) ≡ map (part_row l.table-inside.columns.items) l.parts;
  suit : list_all (row_suits l.table-inside.columns.items) l.rows.items ≡ true;
}
