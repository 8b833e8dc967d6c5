use Rattle.std.proofs.Common.{◌≡◌, map, take}
use Rattle.node_layout.specs.Pieces.{piece_place}
use Rattle.node_layout.specs.Written.{AreWritten}
use Rattle.plan_pieces.specs.Names.{named}
use Rattle.plan_pieces.proofs.pages.seal_pages.Given as goal

abbrev pub invariant-loop-i : goal.invariant-loop-i
invariant-loop-i g l = record {
  written : AreWritten g.E.Entry.rule g.E.Entry.size g.E.Entry.entry_of l.kind (named l.first l.places) 0 (take l.i l.pages) l.pieces.items;
  placed : map piece_place l.pieces.items ≡ take l.i l.places;
}
