-- What a copy without holes is.
use Rattle.std.specs.Prelude.{◌≡◌, ◌≤◌, ℕ, ◌+◌, List, [], length, take, drop, replicate, Ok}
use Rattle.pst_outside.specs.World.{Image, World}
use Rattle.pst_outside.specs.Calls.{Untouched}
use Rattle.pst_header.specs.declared.header.Header.{Header}
use Rattle.page_frame.specs.Page.{IsPage}
use Rattle.data_tree.proofs.PieceLaws.{joined}
use Rattle.tree_edit.specs.Plans.{tally}
use Rattle.file_layout.specs.Nodes.{LARGEST, Lays, blocks_in, nodes_in, places_of}
use Rattle.file_layout.specs.Opening.{opening}
use Rattle.lays_kept.specs.Stands.{Maps}
use Rattle.copy_pieces.specs.Headers.{Succeeds}
use Rattle.copy_pieces.specs.declared.stops.CompactStop.{CompactStop}
use Rattle.copy_pieces.specs.declared.stops.CompactStop.TheVariants.{Changed, Fault, Large, Memory}
use Rattle.compactor.specs.Layout.{IsLayoutOf, IsTooLarge, Layout}
use Rattle.compactor.specs.Source.{IsSource}
use Rattle.compactor.specs.declared.source.Source.{Source}

-- The copy alone is a file of the same nodes, whose blocks and pages are those of the layout, each in its place; its header follows the source's, its maps are exact, and it ends where the layout does.
pub record IsCompacted (image : Image) (source : Source) (eof : ℕ) (copy : List ℕ) : Type 0 where
  pub source_is : IsSource image source
  pub l : Layout
  pub layout : IsLayoutOf image source source_is l
  pub small_enough : l.eof ≤ LARGEST
  pub eof_is : eof ≡ l.eof
  pub size : length copy ≡ l.eof
  pub header : Header
  pub opened : opening copy [] ≡ Ok header
  pub lays : Lays header copy source_is.m
  pub blocks : blocks_in lays.blocks ≡ l.blocks
  pub nodes : nodes_in lays.nodes ≡ nodes_in (source_is.lays).nodes
  pub block_pages : (ib : ℕ) → tally ib lays.blocks.pages ≡ tally ib (joined l.tree.levels)
  pub node_pages : (ib : ℕ) → tally ib lays.nodes.pages ≡ tally ib (joined l.nodes.levels)
  -- the next page number counts the page that older readers look for as well
  pub succeeds : Succeeds source.header header source.next_block (l.tree.next + 1) l.eof
  pub nbt : header.nbt ≡ l.nodes.root
  pub bbt : header.bbt ≡ l.tree.root
  pub maps : Maps header copy (places_of lays.blocks lays.nodes)
  pub dense : IsPage 0x86 (record { bid = record { bits = l.tree.next }; ib = 0x4200 }) (replicate 496 0) (take 512 (drop 0x4200 copy))

-- How the making of a copy stops: it would be too large, which is known before anything is written; by the disk; for want of memory; or as something isn't as it was found, which never comes over a world that tells.
abbrev pub StopsCompact : Source → CompactStop → World → World → Type 0
StopsCompact source (Large eof) old new = Untouched old new × (new.tells → IsTooLarge old.here source eof)
StopsCompact source Fault old new = Unit {0}
StopsCompact source Memory old new = Unit {0}
StopsCompact source (Changed ib stored computed) old new = new.tells → ⊥
