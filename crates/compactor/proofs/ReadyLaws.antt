-- What is known of a plan while it is written.
use Rattle.std.proofs.Common.{◌≡◌, ℕ, ◌-◌, ◌/◌, ◌≤◌, List, [], ◌∷◌, length, sym, subst, arith}
use Rattle.pst_outside.specs.World.{World}
use Rattle.alloc_map.specs.Ends.{region_end}
use Rattle.btree_pages.specs.declared.entry.BlockEntry.{BlockEntry}
use Rattle.btree_pages.specs.declared.entry.NodeEntry.{NodeEntry}
use Rattle.copy_layout.proofs.OrderLaws.{Ascends}
use Rattle.copy_part.specs.Keeps.{KeepsSource}
use Rattle.copy_pieces.specs.Moved.{AreMoved}
use Rattle.copy_pieces.proofs.PlaceLaws.{same-file}
use Rattle.file_blocks.specs.Blocks.{AllStand}
use Rattle.file_layout.specs.Nodes.{LARGEST}
use Rattle.file_scan.specs.Parts.{AllShort}
use Rattle.compactor.specs.Layout.{layout_places}
use Rattle.compactor.specs.Steps.{HasRegions, IsPlan, IsReady, layout_of}
use Rattle.compactor.specs.declared.planning.Plan.{Plan}
use Rattle.compactor.proofs.PlacedLaws.{ascends-apart, ascends-laid, layout-ascends}

-- it can be written still after a call that writes to Copy alone
pub ready-after : (old new : World) (eof : ℕ) (nodes : List NodeEntry) (plan : Plan) → KeepsSource old new → IsReady old eof nodes plan → IsReady new eof nodes plan
ready-after old new eof nodes plan keeps ready = record {
  whole = λ told. subst (λ (l : List ℕ). eof ≤ length l) (sym (keeps.same told).main) (ready.whole (keeps.told told));
  stand = λ told. subst (λ (f : List ℕ). AllStand f eof plan.chosen.items) (sym (same-file (keeps.same told))) (ready.stand (keeps.told told));
  short = ready.short;
  uses = ready.uses;
  blocks = ready.blocks;
  need = ready.need;
  first = ready.first;
  planned = ready.planned;
  block_keys = ready.block_keys;
  node_keys = ready.node_keys;
}

pub moved-short : (uses : ℕ → ℕ) (olds news : List BlockEntry) → AreMoved uses olds news → AllShort olds → AllShort news
moved-short uses [] news moved short = subst AllShort (sym moved) tt
moved-short uses (o ∷ olds) [] moved short = absurd moved
moved-short uses (o ∷ olds) (n ∷ news) moved short =
    let size = moved.0.size in
    let least = short.0 in
    (omega (arith, size, least), moved-short uses olds news moved.1 short.1)

pub has-regions : (uses : ℕ → ℕ) (blocks : List BlockEntry) (nodes : List NodeEntry) (need first : ℕ) (plan : Plan) (regions : ℕ) → IsPlan uses blocks nodes need first plan → plan.eof ≤ LARGEST → regions ≡ (plan.eof - 17408) / 253952 → HasRegions plan regions
has-regions uses blocks nodes need first plan regions planned small is =
    let lay = planned.layout in
    let ends = lay.ends.ends in
    let some = lay.ends.some in
    let enough = lay.ends.enough in
    let same : plan.eof ≡ region_end regions = omega (arith, ends, is) in
    let up : Ascends 0x4400 (layout_places (layout_of plan)) plan.tree.end = layout-ascends uses blocks nodes need first (layout_of plan) lay in
    record {
      some = omega (arith, ends, is, some);
      few = omega (arith, same, small);
      ends = same;
      laid = ascends-laid regions 0x4400 plan.tree.end (layout_places (layout_of plan)) (omega (arith, enough, same)) up;
      apart = ascends-apart 0x4400 plan.tree.end regions (layout_places (layout_of plan)) up;
    }
