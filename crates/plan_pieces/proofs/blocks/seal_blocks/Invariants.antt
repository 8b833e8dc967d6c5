use Rattle.std.proofs.Common.{◌≡◌, All, map, take}
use Rattle.btree_pages.specs.declared.entry.BlockEntry.{BlockEntry}
use Rattle.file_layout.specs.Nodes.{place_of}
use Rattle.node_layout.specs.Pieces.{piece_place}
use Rattle.node_layout.specs.Sealed.{AreSealed}
use Rattle.plan_pieces.proofs.blocks.seal_blocks.Given as goal

abbrev pub invariant-loop-i : goal.invariant-loop-i
invariant-loop-i l = record {
  sealed : AreSealed (take l.i l.blocks) l.entries.items l.pieces.items;
  placed : map piece_place l.pieces.items ≡ take l.i l.places;
  entries : map place_of l.entries.items ≡ take l.i l.places;
  refs : All (λ (e : BlockEntry). e.refs ≡ 2) l.entries.items;
}
