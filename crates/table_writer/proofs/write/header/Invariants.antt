use Rattle.std.proofs.Common.{◌≡◌, ◌++◌, length, take}
use Rattle.std.specs.List.{flat_map}
use Rattle.table_writer.specs.Writing.{AllFit, EndsFit, column_bytes, front_of}
use Rattle.table_writer.proofs.write.header.Given as goal

-- the fixed fields, and the columns so far
abbrev pub invariant-loop-column : goal.invariant-loop-column
invariant-loop-column l = record {
  ends : EndsFit l.ends;
  bytes : l.x.items ≡ front_of (length l.columns) l.ends l.index l.matrix ++ flat_map column_bytes (take l.column-index l.columns);
  fit : AllFit (take l.column-index l.columns);
}
