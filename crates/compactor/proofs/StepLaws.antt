-- What each step finds of the source, and why it stops.
use Rattle.std.proofs.Common.{Bool, true, false, ◌≡◌, ℕ, ◌+◌, ◌*◌, ◌≤◌, eqb, if◌then◌else◌, ltb, List, [], ◌∷◌, length, take, drop, Option, Some, None, refl, sym, subst, arith}
use Rattle.std.proofs.lemmas.Bool.{ltb-false}
use Rattle.pst_base.specs.declared.ids.Bref.{Bref}
use Rattle.pst_outside.specs.World.{Image, World}
use Rattle.block_frame.specs.Block.{reading}
use Rattle.block_frame.specs.Size.{disk_size_of}
use Rattle.btree_pages.specs.declared.entry.BlockEntry.{BlockEntry}
use Rattle.btree_pages.specs.declared.entry.NodeEntry.{NodeEntry}
use Rattle.data_tree.proofs.PieceLaws.{joined}
use Rattle.copy_trees.specs.Levels.{AreNumbered, IsPlanned}
use Rattle.file_blocks.specs.declared.check.BlockRefusal.TheVariants.{Length, Outside}
use Rattle.file_blocks.specs.Blocks.{AllStand, Stands, data_at, entry_key, faulty, file_of, found_in, has_room, misplaced}
use Rattle.file_blocks.specs.Stops.{Holds}
use Rattle.file_blocks.proofs.FileLaws.{same_length}
use Rattle.file_layout.specs.declared.stops.OpenStop.{OpenStop}
use Rattle.file_layout.specs.declared.stops.OpenStop.TheVariants as opens
use Rattle.file_layout.specs.Nodes.{AreNodes, Node, blocks_in, nodes_in}
use Rattle.file_scan.specs.Parts.{AllShort, NeverStops}
use Rattle.file_scan.proofs.ScanLaws.{holds-found}
use Rattle.lays_kept.proofs.Kept.{unless_parts}
use Rattle.lays_kept.proofs.Opened.{opens_parts}
use Rattle.copy_pieces.specs.declared.stops.CompactStop.{CompactStop}
use Rattle.copy_pieces.specs.declared.stops.CompactStop.TheVariants.{Changed, Fault, Large, Memory}
use Rattle.copy_pieces.specs.Moved.{reached}
use Rattle.copy_pieces.specs.Source.{HasTrees}
use Rattle.copy_pieces.specs.Stops.{StopsCopy, StopsLook, tree_stop}
use Rattle.compactor.specs.Source.{IsSource}
use Rattle.compactor.specs.declared.source.Source.{Source}
use Rattle.compactor.proofs.PlacedLaws.{pages-count}

-- ---- the source

-- the file reaches to its end
pub source-whole : (image : Image) (source : Source) → IsSource image source → source.header.eof ≤ length image.main
source-whole image source is =
    let long = (opens_parts image.main image.side source.header is.opened).0 in
    let reach = is.lays.long_enough in
    let same = same_length image.main image.side long in
    omega (arith, reach, same)

pub source-trees : (image : Image) (source : Source) → IsSource image source → HasTrees source.header image
source-trees image source is = record {
  whole = source-whole image source is;
  blocks = is.lays.blocks;
  block_pages = is.lays.block_pages;
  nodes = is.lays.nodes;
  node_pages = is.lays.node_pages;
}

pub source-holds : (world : World) (source : Source) (is : IsSource world.here source) → world.tells → Holds world source.header.eof (blocks_in is.lays.blocks) (found_in (file_of world.here) (blocks_in is.lays.blocks))
source-holds world source is told =
    holds-found world source.header.eof source.header.bbt is.lays.blocks (record { tells = told; whole = source-whole world.here source is }) is.lays.block_pages is.lays.stand

-- ---- stops

-- blocks and nodes of a world that tells them
pub record AreTold (world : World) (eof : ℕ) (blocks : List BlockEntry) (nodes : List NodeEntry) : Type 0 where
  pub find : ℕ → Option (List ℕ)
  pub holds : Holds world eof blocks find
  pub found : List Node
  pub are : AreNodes find eof nodes found

pub source-told : (world : World) (source : Source) (is : IsSource world.here source) → world.tells → (blocks : List BlockEntry) (nodes : List NodeEntry) → blocks ≡ blocks_in is.lays.blocks → nodes ≡ nodes_in is.lays.nodes → AreTold world source.header.eof blocks nodes
source-told world source is told blocks nodes one two = record {
  find = found_in (file_of world.here) (blocks_in is.lays.blocks);
  holds = subst (λ (es : List BlockEntry). Holds world source.header.eof es (found_in (file_of world.here) (blocks_in is.lays.blocks))) (sym one) (source-holds world source is told);
  found = (is.m).nodes;
  are = subst (λ (es : List NodeEntry). AreNodes (found_in (file_of world.here) (blocks_in is.lays.blocks)) source.header.eof es (is.m).nodes) (sym two) is.lays.are;
}

-- references that can't be counted, and nodes that can't be looked at
pub refs-stop : (stop : OpenStop) (old new : World) (eof : ℕ) (blocks : List BlockEntry) (nodes : List NodeEntry) → NeverStops stop old eof blocks nodes → (new.tells → AreTold old eof blocks nodes) → StopsCopy (tree_stop stop) new
refs-stop opens.Fault old new eof blocks nodes never are = tt
refs-stop opens.Memory old new eof blocks nodes never are = tt
refs-stop (opens.Changed ib stored computed) old new eof blocks nodes never are = λ told. let x = are told in never x.find x.found x.holds x.are
refs-stop (opens.Refused refusal) old new eof blocks nodes never are = λ told. let x = are told in never x.find x.found x.holds x.are

pub need-stop : (stop : CompactStop) (old new : World) (eof : ℕ) (blocks : List BlockEntry) (nodes : List NodeEntry) → StopsLook stop old eof blocks nodes → (new.tells → AreTold old eof blocks nodes) → StopsCopy stop new
need-stop Fault old new eof blocks nodes stops are = tt
need-stop Memory old new eof blocks nodes stops are = tt
need-stop (Changed ib stored computed) old new eof blocks nodes stops are = λ told. let x = are told in stops x.find x.found x.holds x.are
need-stop (Large end) old new eof blocks nodes stops are = absurd stops

-- ---- blocks that are reached

pub reached-short : (uses : ℕ → ℕ) (es : List BlockEntry) → AllShort es → AllShort (reached uses es)
reached-short uses [] all = tt
reached-short uses (e ∷ es) all = by (eqb (uses (entry_key e)) 0) (reached-short uses es all.1)
  where
    by : (t : Bool) → AllShort (reached uses es) → AllShort (if t then reached uses es else e ∷ reached uses es)
    by true rest = rest
    by false rest = (all.0, rest)

pub reached-stand : (file : List ℕ) (eof : ℕ) (uses : ℕ → ℕ) (es : List BlockEntry) → AllStand file eof es → AllStand file eof (reached uses es)
reached-stand file eof uses [] all = tt
reached-stand file eof uses (e ∷ es) all = by (eqb (uses (entry_key e)) 0) (reached-stand file eof uses es all.1)
  where
    by : (t : Bool) → AllStand file eof (reached uses es) → AllStand file eof (if t then reached uses es else e ∷ reached uses es)
    by true rest = rest
    by false rest = (all.0, rest)

-- a block that stands isn't longer than one may be
stands-short : (file : List ℕ) (eof : ℕ) (e : BlockEntry) → Stands file eof e → e.cb ≤ 8176
unfolding data_at misplaced
stands-short file eof e is =
    let parts = unless_parts (misplaced eof e) (faulty (reading e.cb e.at (take (disk_size_of e.cb) (drop e.at.ib file)))) is.0 is.1 in
    by (ltb 8176 e.cb) refl parts.0
  where
    by : (t : Bool) → ltb 8176 e.cb ≡ t → (if t then Some Length else (if has_room eof (disk_size_of e.cb) e.at.ib then None else Some Outside)) ≡ None → e.cb ≤ 8176
    by true is none = absurd (cc)
    by false is none = ltb-false 8176 e.cb is

pub stand-short : (file : List ℕ) (eof : ℕ) (es : List BlockEntry) → AllStand file eof es → AllShort es
stand-short file eof [] all = tt
stand-short file eof (e ∷ es) all = (stands-short file eof e all.0, stand-short file eof es all.1)

-- ---- numbers

pub numbered-count : (from next : ℕ) (ats : List Bref) → AreNumbered from ats next → next ≡ from + length ats
numbered-count from next [] are = omega (arith, are)
numbered-count from next (at ∷ ats) are = let rest = numbered-count (from + 1) next ats are.1 in omega (arith, rest)

-- where the pages of a tree end, and how many numbers they take
pub record Fits (from first end next : ℕ) : Type 0 where
  pub low : from ≤ end
  pub few : 512 * next ≤ 512 * first + end

pub planned-fits : (most n from first : ℕ) (levels : List (List Bref)) (root : Bref) (end next : ℕ) → IsPlanned most n from first levels root end next → Fits from first end next
planned-fits most n from first levels root end next is =
    let long = pages-count from end (joined levels) is.order in
    let count = numbered-count first next (joined levels) is.numbers in
    record { low = omega (arith, long); few = omega (arith, long, count) }
