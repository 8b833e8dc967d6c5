-- What the steps of a copy's making come to, and why one stops.
use Rattle.std.proofs.Common.{◌≡◌, ◌∙◌, ℕ, ◌^◌, ◌<◌, List, map, refl, sym, subst}
use Rattle.pst_outside.specs.World.{Image, World}
use Rattle.pst_outside.specs.Calls.{Untouched}
use Rattle.btree_pages.specs.declared.entry.BlockEntry.{BlockEntry}
use Rattle.btree_pages.specs.declared.entry.NodeEntry.{NodeEntry}
use Rattle.btree_pages.specs.Entries.{block_of, node_of}
use Rattle.btree_pages.specs.EntryLaws.{key-block_of, key-node_of}
use Rattle.file_blocks.specs.Blocks.{AllStand, entry_key, file_of}
use Rattle.file_layout.specs.Nodes.{LARGEST, block_tree, blocks_in, node_tree, nodes_in}
use Rattle.file_scan.specs.Parts.{AllShort}
use Rattle.node_layout.specs.Joined.{node_id}
use Rattle.ref_counts.specs.Tables.{refs_in}
use Rattle.tree_edit.specs.Shapes.{RiseIn}
use Rattle.copy_pieces.specs.declared.stops.CompactStop.{CompactStop}
use Rattle.copy_pieces.specs.declared.stops.CompactStop.TheVariants.{Changed, Fault, Large, Memory}
use Rattle.copy_pieces.specs.Moved.{reached}
use Rattle.copy_pieces.specs.Stops.{StopsCopy}
use Rattle.compactor.specs.Compacted.{IsCompacted, StopsCompact}
use Rattle.compactor.specs.Layout.{IsLayout, IsLayoutOf, IsTooLarge}
use Rattle.compactor.specs.Steps.{IsFound, IsPlan, WritesCopy, layout_of, uses_in}
use Rattle.compactor.specs.Written.{IsWritten}
use Rattle.compactor.specs.declared.finding.Found.{Found}
use Rattle.compactor.specs.declared.planning.Plan.{Plan}
use Rattle.compactor.specs.declared.source.Source.{Source}
use Rattle.compactor.proofs.BlockLaws.{moved-keys, reached-rise}
use Rattle.compactor.proofs.StepLaws.{reached-stand, stand-short}
use Rattle.compactor.proofs.TreeLaws.{tree-rises}
use Rattle.compactor.proofs.WholeLaws.{compacted}

-- ---- what is planned of what was found

-- the plan of what was found
abbrev pub IsPlanOf : Found → Source → Plan → Type 0
IsPlanOf found source plan = IsPlan (refs_in found.refs) found.entries.blocks.items found.entries.nodes.items found.need source.next_page plan

module _ (image : Image) (source : Source) (found : Found) (plan : Plan) (is : IsFound image source found) (planned : IsPlanOf found source plan) where
  same-uses : refs_in found.refs ≡ uses_in is.source_is
  same-uses = λ i key. is.refs key i

  pub layout-found : IsLayoutOf image source is.source_is (layout_of plan)
  layout-found =
      let s = is.source_is in
      record {
        layout = subst (λ (n : ℕ). IsLayout (uses_in s) (blocks_in s.lays.blocks) (nodes_in s.lays.nodes) n source.next_page (layout_of plan)) is.need
            (subst (λ (es : List NodeEntry). IsLayout (uses_in s) (blocks_in s.lays.blocks) es found.need source.next_page (layout_of plan)) is.nodes
            (subst (λ (es : List BlockEntry). IsLayout (uses_in s) es found.entries.nodes.items found.need source.next_page (layout_of plan)) is.blocks
            (subst (λ (u : ℕ → ℕ). IsLayout u found.entries.blocks.items found.entries.nodes.items found.need source.next_page (layout_of plan)) same-uses planned.layout)));
      }

  chosen-is : plan.chosen.items ≡ reached (uses_in is.source_is) (blocks_in is.source_is.lays.blocks)
  chosen-is = planned.chosen ∙ (λ i. reached (same-uses i) (is.blocks i))

  -- the blocks that are copied stand
  pub chosen-stand : AllStand (file_of image) source.header.eof plan.chosen.items
  chosen-stand = subst (AllStand (file_of image) source.header.eof) (sym chosen-is) (reached-stand (file_of image) source.header.eof (uses_in is.source_is) (blocks_in is.source_is.lays.blocks) is.source_is.lays.stand)

  -- and the entries of both trees ascend by their keys
  pub block-keys : RiseIn 0 (2 ^ 64) (map entry_key plan.blocks.items)
  block-keys =
      let s = is.source_is in
      let lay = layout-found.layout in
      subst (RiseIn 0 (2 ^ 64)) (sym (moved-keys (uses_in s) (reached (uses_in s) (blocks_in s.lays.blocks)) plan.blocks.items lay.moved))
      (reached-rise (uses_in s) 0 (2 ^ 64) (blocks_in s.lays.blocks) (tree-rises block_of entry_key (block_tree (file_of image) source.header.eof) key-block_of source.header.bbt s.lays.blocks s.lays.block_pages))

  pub node-keys : RiseIn 0 (2 ^ 64) (map node_id found.entries.nodes.items)
  node-keys =
      let s = is.source_is in
      subst (λ (es : List NodeEntry). RiseIn 0 (2 ^ 64) (map node_id es)) (sym is.nodes) (tree-rises node_of node_id (node_tree (file_of image) source.header.eof) key-node_of source.header.nbt s.lays.nodes s.lays.node_pages)

  pub too-large : LARGEST < plan.eof → IsTooLarge image source plan.eof
  too-large past = record { source_is = is.source_is; l = layout_of plan; layout = layout-found; eof_is = refl; past = past }

  -- what is written of it is a copy without holes
  pub whole : (copy : List ℕ) → WritesCopy (file_of image) source found.entries.nodes.items plan copy → IsCompacted image source plan.eof copy
  whole copy writes =
      let s = is.source_is in
      let written = subst (λ (es : List NodeEntry). IsWritten (file_of image) (reached (uses_in s) (blocks_in s.lays.blocks)) es (layout_of plan) writes.used writes.regions writes.header copy) is.nodes
      (subst (λ (es : List BlockEntry). IsWritten (file_of image) es found.entries.nodes.items (layout_of plan) writes.used writes.regions writes.header copy) chosen-is writes.written) in
      compacted image source s (layout_of plan) layout-found writes.header writes.used writes.regions writes.made copy written

-- blocks that were found are no longer than one may be
pub found-short : (image : Image) (source : Source) (found : Found) → IsFound image source found → AllShort found.entries.blocks.items
found-short image source found is =
    subst AllShort (sym is.blocks) (stand-short (file_of image) source.header.eof (blocks_in is.source_is.lays.blocks) is.source_is.lays.stand)

-- ---- stops

pub copy-stops : (source : Source) (stop : CompactStop) (old new : World) → StopsCopy stop new → StopsCompact source stop old new
copy-stops source Fault old new stops = tt
copy-stops source Memory old new stops = tt
copy-stops source (Changed ib stored computed) old new stops = stops
copy-stops source (Large eof) old new stops = absurd stops

-- a plan's
pub plan-stops : (source : Source) (stop : CompactStop) (old new : World) (blocks : List BlockEntry) → Untouched old new → (AllShort blocks → stop ≡ Memory) → (new.tells → AllShort blocks) → StopsCompact source stop old new
plan-stops source Fault old new blocks same memory short = tt
plan-stops source Memory old new blocks same memory short = tt
plan-stops source (Changed ib stored computed) old new blocks same memory short = λ told. let is = memory (short told) in absurd (cc)
plan-stops source (Large eof) old new blocks same memory short = (same, λ told. let is = memory (short told) in absurd (cc))
