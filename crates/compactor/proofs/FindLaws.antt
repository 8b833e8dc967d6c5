-- What was read of a source is what it has.
use Rattle.std.proofs.Common.{◌≡◌, ◌∙◌, ℕ, List, Option, sym, ap, subst}
use Rattle.pst_outside.specs.World.{Image, World}
use Rattle.pst_outside.specs.Calls.{Untouched}
use Rattle.btree_pages.specs.declared.entry.BlockEntry.{BlockEntry}
use Rattle.btree_pages.specs.declared.entry.NodeEntry.{NodeEntry}
use Rattle.file_blocks.specs.Blocks.{file_of, found_in}
use Rattle.file_blocks.specs.Stops.{Holds}
use Rattle.file_layout.specs.Nodes.{AreNodes, Node, blocks_in, nodes_in}
use Rattle.file_scan.proofs.NodeSteps.{holds-still}
use Rattle.node_needs.specs.Needs.{needs}
use Rattle.node_reach.specs.Reach.{uses_of}
use Rattle.ref_counts.specs.Tables.{refs_in}
use Rattle.copy_pieces.specs.Source.{HasEntries, HasTrees}
use Rattle.copy_pieces.specs.declared.source.Entries.{Entries}
use Rattle.compactor.specs.Source.{IsSource}
use Rattle.compactor.specs.Steps.{IsFound}
use Rattle.compactor.specs.declared.finding.Found.{Found}
use Rattle.compactor.specs.declared.source.Source.{Source}
use Rattle.compactor.proofs.StepLaws.{AreTold, source-holds, source-told, source-trees}

-- a source is one still after calls that change nothing
pub source-after : (old mid : World) (source : Source) → Untouched old mid → (old.tells → IsSource old.here source) → mid.tells → IsSource mid.here source
source-after old mid source same is told = subst (λ (i : Image). IsSource i source) (sym (same.stays.here told)) (is (same.stays.told told))

pub trees-after : (old mid : World) (source : Source) → Untouched old mid → (old.tells → IsSource old.here source) → mid.tells → HasTrees source.header mid.here
trees-after old mid source same is told = source-trees mid.here source (source-after old mid source same is told)

module _ (mid : World) (source : Source) (entries : Entries) (blocks : List BlockEntry) (nodes : List NodeEntry) (is : mid.tells → IsSource mid.here source) (has : mid.tells → HasEntries source.header mid.here entries)
    (one : blocks ≡ entries.blocks.items) (two : nodes ≡ entries.nodes.items) where
  -- its entries are told
  pub entries-told : mid.tells → AreTold mid source.header.eof blocks nodes
  entries-told told =
      let s = is told in
      let h = has told in
      source-told mid source s told blocks nodes (one ∙ h.blocks s.lays.blocks s.lays.block_pages) (two ∙ h.nodes s.lays.nodes s.lays.node_pages)

  -- and all that is made of them
  pub all-found : (later : World) (found : Found) → Untouched mid later → found.entries ≡ entries
      → ((find : ℕ → Option (List ℕ)) → Holds mid source.header.eof blocks find → (key : ℕ) → refs_in found.refs key ≡ uses_of find key nodes)
      → ((find : ℕ → Option (List ℕ)) (are : List Node) → Holds later source.header.eof blocks find → AreNodes find source.header.eof nodes are → found.need ≡ needs are)
      → mid.tells → IsFound mid.here source found
  all-found later found same own refs need told =
      let s = is told in
      let h = has told in
      let find : ℕ → Option (List ℕ) = found_in (file_of mid.here) (blocks_in s.lays.blocks) in
      let bs : blocks ≡ blocks_in s.lays.blocks = one ∙ h.blocks s.lays.blocks s.lays.block_pages in
      let ns : nodes ≡ nodes_in s.lays.nodes = two ∙ h.nodes s.lays.nodes s.lays.node_pages in
      let holds : Holds mid source.header.eof blocks find = subst (λ (es : List BlockEntry). Holds mid source.header.eof es find) (sym bs) (source-holds mid source s told) in
      record {
        source_is = s;
        blocks = ap (λ (e : Entries). e.blocks.items) own ∙ h.blocks s.lays.blocks s.lays.block_pages;
        nodes = ap (λ (e : Entries). e.nodes.items) own ∙ h.nodes s.lays.nodes s.lays.node_pages;
        refs = λ key. refs find holds key ∙ ap (λ (es : List NodeEntry). uses_of find key es) ns;
        need = need find (s.m).nodes (holds-still same holds) (subst (λ (es : List NodeEntry). AreNodes find source.header.eof es (s.m).nodes) (sym ns) s.lays.are);
      }

pub told-still : (mid later : World) (eof : ℕ) (blocks : List BlockEntry) (nodes : List NodeEntry) → Untouched mid later → AreTold mid eof blocks nodes → AreTold later eof blocks nodes
told-still mid later eof blocks nodes same t = record { find = t.find; holds = holds-still same t.holds; found = t.found; are = t.are }
