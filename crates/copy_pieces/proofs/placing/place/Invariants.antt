use Rattle.std.proofs.Common.{◌≤◌, map, take}
use Rattle.copy_layout.specs.Order.{InOrder}
use Rattle.file_layout.specs.Nodes.{place_of}
use Rattle.file_scan.specs.Parts.{AllShort}
use Rattle.ref_counts.specs.Tables.{refs_in}
use Rattle.copy_pieces.specs.Moved.{AreMoved}
use Rattle.copy_pieces.proofs.placing.place.Given as goal

abbrev pub invariant-loop-entry : goal.invariant-loop-entry
invariant-loop-entry l = record {
  moved : AreMoved (refs_in l.refs) (take l.entry-index l.entries) l.placed.items;
  order : InOrder 64 17408 (map place_of l.placed.items) l.end;
  low : 17408 ≤ l.end;
  short : AllShort l.placed.items;
  fits : AllShort (take l.entry-index l.entries);
}
