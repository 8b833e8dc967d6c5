-- How what is built is put together, and why the steps of a plan stop.
use Rattle.std.proofs.Common.{Bool, ◌≡◌, ◌∙◌, ℕ, ◌+◌, ◌*◌, ◌/◌, ◌^◌, ◌<◌, ◌≤◌, List, [], ◌∷◌, ◌++◌, length, Option, refl, sym, ap, subst, arith, length-append}
use Rattle.std.specs.List.{All}
use Rattle.pst_base.specs.declared.ids.Bref.{Bref}
use Rattle.pst_base.specs.declared.ids.Nid.{Nid}
use Rattle.pst_base.specs.declared.places.Place.{Place}
use Rattle.pst_outside.specs.World.{World}
use Rattle.pst_header.specs.declared.header.Header.{Header}
use Rattle.alloc_map.specs.Ends.{region_end}
use Rattle.alloc_map.specs.Slots.{IsLaid, regions_of}
use Rattle.alloc_map.specs.Taken.{IsBlockPlace, IsPagePlace, Taken, Takes}
use Rattle.btree_pages.specs.declared.entry.BlockEntry.{BlockEntry}
use Rattle.btree_pages.specs.declared.entry.NodeEntry.{NodeEntry}
use Rattle.btree_pages.specs.Entries.{block_of, node_of}
use Rattle.btree_pages.specs.EntryLaws.{key-block_of, key-node_of}
use Rattle.plan_drawing.specs.content_plan.Plan.{puts_in}
use Rattle.file_blocks.specs.Blocks.{entry_key, file_of}
use Rattle.file_layout.specs.Nodes.{Lays, NodeMap, block_tree, blocks_in, node_tree, nodes_in}
use Rattle.file_pages.proofs.Bridge.{shaped-root}
use Rattle.lays_kept.specs.declared.Piece.{Piece}
use Rattle.node_layout.specs.Joined.{node_id}
use Rattle.node_layout.specs.Sealed.{AreSealed}
use Rattle.node_port.specs.declared.node.NodeRec.{NodeRec}
use Rattle.node_store.specs.declared.node.PageCaches.{PageCaches}
use Rattle.tree_edit.specs.declared.plan.Child.{Child}
use Rattle.tree_edit.specs.declared.plan.PlanPage.{PlanPage}
use Rattle.tree_edit.specs.Edits.{AreEdits, extra, puts}
use Rattle.tree_edit.specs.Plans.{IsPlan}
use Rattle.tree_edit.specs.Shapes.{Shape}
use Rattle.tree_edit.proofs.PlanLaws.{tally-join}
use Rattle.plan_drawing.specs.declared.draw.Numbers.{Numbers}
use Rattle.plan_drawing.specs.declared.draw.Sketch.{Sketch}
use Rattle.plan_drawing.specs.declared.trees.Trees.{Trees}
use Rattle.plan_drawing.specs.Gathered.{IsGathered}
use Rattle.plan_drawing.specs.Recounts.{puts_of, recounts}
use Rattle.plan_drawing.specs.Trees.{ArePlanned}
use Rattle.plan_drawing.proofs.NewLaws.{next-known, puts-edits, sealed-count}
use Rattle.plan_drawing.proofs.FileLaws.{laid-high, same-length}
use Rattle.plan_drawing.proofs.RecountLaws.{edits-append, extra-append, puts-extra, recounts-edits, recounts-extra, sum-ones}
use Rattle.plan_placing.specs.Draws.{CanDraw, IsBuilt, IsSketched}

-- places in at most all regions
pub laid-8192 : (used : List Bool) (regions : ℕ) (ps : List Place) → length used ≡ 3968 * regions → regions ≤ 8192 → All (IsLaid (regions_of used)) ps → All (IsLaid 8192) ps
laid-8192 used regions ps size few all = λ k d lt.
    let is = all k d lt in
    let within = is.within in
    record { above = is.above; start = is.start; whole = is.whole; within = omega (arith, within, size, few) }

-- places that were taken are so still
pub taken-back : (before now after : List Bool) (ps qs : List Place) → after ≡ now → qs ≡ ps → Taken before now ps → Taken before after qs
taken-back before now after ps qs back same taken = subst (λ (used : List Bool). Taken before used qs) (sym back) (subst (Taken before now) (sym same) taken)

-- edits to which those of new entries were added, as the calls say it
pub all-put : (before edits added : List (ℕ × Option BlockEntry)) (put entries : List BlockEntry) → edits ≡ added → added ≡ before ++ puts_of put → put ≡ entries → edits ≡ before ++ puts_of entries
all-put before edits added put entries one two three = one ∙ two ∙ ap (λ (es : List BlockEntry). before ++ puts_of es) three

-- built parts of what was sketched are gathered
pub gather : {header : Header} {file : List ℕ} {m : NodeMap} (is : Lays header file m) (used mid now : List Bool) (counts : ℕ → ℕ) (block : ℕ) (cs : List (Nid × Option NodeRec)) (sketch : Sketch) (edits : List (ℕ × Option BlockEntry)) (pieces : List Piece) (blocks pages : List Place) (trees : Trees)
    → IsSketched is counts block cs sketch edits → IsBuilt header file sketch edits blocks trees pieces → Taken used mid blocks → Takes IsBlockPlace used blocks mid → Taken mid now pages → Takes IsPagePlace mid pages now
    → IsGathered is used counts block cs sketch pieces blocks pages trees
gather {header} {file} {m} is used mid now counts block cs sketch edits pieces blocks pages trees sketched built first least second next_least = record {
  contents = sketched.contents;
  left = sketched.left;
  entries = built.entries;
  sealed = built.sealed;
  of_entries = built.of_entries;
  planned = subst (λ (ds : List (ℕ × Option BlockEntry)). ArePlanned header file (ds ++ puts_of built.entries) sketch.nodes.items trees) sketched.recounted built.planned;
  placed = record { mid = mid; now = now; first = first; then_pages = second; least_blocks = least; least_pages = next_least };
}

-- ---- what a sketch allows

module _ {world : World} {header : Header} {caches : PageCaches} {numbers : Numbers} {sketch : Sketch} {edits : List (ℕ × Option BlockEntry)} {free : ℕ} (can : CanDraw world header caches numbers sketch edits free) where
  -- the edits of the block tree with those of new blocks
  pub can-edits : (entries : List BlockEntry) (pieces : List Piece) → AreSealed sketch.blocks.items entries pieces → AreEdits entry_key 0 (2 ^ 64) (edits ++ puts_of entries)
  can-edits entries pieces sealed =
      let old : List BlockEntry = blocks_in can.tells.lays.blocks in
      let k = next-known header old numbers.block can.known.next_block can.low in
      let low = can.low in
      let bound = can.bound in
      subst (λ (ds : List (ℕ × Option BlockEntry)). AreEdits entry_key 0 (2 ^ 64) (ds ++ puts_of entries)) (sym can.sketched.recounted)
      (edits-append entry_key 0 numbers.block (2 ^ 64) (recounts old numbers.block sketch.refs.items) (puts_of entries) (omega arith) (omega (arith, low))
      (recounts-edits old numbers.block 0 (2 ^ 64) sketch.refs.items can.sketched.contents.changed.ascend)
      (puts-edits numbers.block (2 ^ 64) sketch.blocks.items entries pieces k.0 (omega (arith, low, bound)) can.sketched.contents.rise sealed))

  pub can-reach : (17408 < header.eof) × (header.eof ≤ region_end 8192)
  can-reach = (laid-high can.tells.lays, can.tells.lays.small_enough)

  -- no more pages than there is room for
  pub can-pages : (left many : ℕ) (trees : Trees) (entries : List BlockEntry) (pieces : List Piece) → AreSealed sketch.blocks.items entries pieces → ArePlanned header (file_of world.here) (edits ++ puts_of entries) sketch.nodes.items trees
      → free ≤ left + length sketch.blocks.items → many ≡ length trees.blocks.pages.items + length trees.nodes.pages.items → many ≤ 16 * left
  can-pages left many trees entries pieces sealed planned room count =
      let file : List ℕ = file_of world.here in
      let is : Lays header file can.m = can.tells.lays in
      let old : List BlockEntry = blocks_in is.blocks in
      let nodes : List NodeEntry = nodes_in is.nodes in
      let sb = shaped-root block_of entry_key (block_tree file header.eof) key-block_of header.bbt is.blocks is.block_pages in
      let sn = shaped-root node_of node_id (node_tree file header.eof) key-node_of header.nbt is.nodes is.node_pages in
      let a = planned.of_blocks.spare old is.blocks.pages sb in
      let b = planned.of_nodes.spare nodes is.nodes.pages sn in
      let c = freed-few (planned.of_blocks.plan old is.blocks.pages sb) in
      let d = freed-few (planned.of_nodes.plan nodes is.nodes.pages sn) in
      let ub : puts entry_key old (edits ++ puts_of entries) ≤ length sketch.blocks.items = puts-blocks old entries pieces sealed in
      let un = puts-nodes nodes sketch.nodes.items in
      let few = can.few in
      let enough = can.enough in
      let pages = can.known.pages in
      numbers-fit numbers.pages can.size (length sketch.blocks.items) (puts_in sketch.nodes.items) (puts entry_key old (edits ++ puts_of entries)) (puts node_id nodes sketch.nodes.items) (length trees.blocks.freed.items) (length trees.nodes.freed.items) (length is.blocks.pages) (length is.nodes.pages) (length trees.blocks.pages.items) (length trees.nodes.pages.items) free left many
      few enough room ub un c d pages a b count
    where
      -- a plan frees no more pages than there are
      freed-few : {E : Type 0} {find : Bref → Option (Shape E)} {key : E → ℕ} {ps : List (PlanPage E)} {freed : List Bref} {top : Child} {es : List E} {all : List Bref} → IsPlan find key ps freed top es all → length freed ≤ length all
      freed-few {E} {find} {key} {ps} {freed} {top} {es} {all} plan =
          let same = same-length (plan.kept ++ freed) all (λ k. tally-join k plan.kept freed ∙ plan.counted k) in
          let sum = length-append plan.kept freed in
          omega (arith, same, sum)

      puts-blocks : (old entries : List BlockEntry) (pieces : List Piece) → AreSealed sketch.blocks.items entries pieces → puts entry_key (blocks_in can.tells.lays.blocks) (edits ++ puts_of entries) ≤ length sketch.blocks.items
      puts-blocks old entries pieces sealed =
          let os : List BlockEntry = blocks_in can.tells.lays.blocks in
          let one : BlockEntry → ℕ = λ e. 1 in
          let here = ap (λ (ds : List (ℕ × Option BlockEntry)). extra entry_key one os (ds ++ puts_of entries)) can.sketched.recounted in
          let a = extra-append entry_key one os (recounts os numbers.block sketch.refs.items) (puts_of entries) in
          let b = recounts-extra one (λ e n. refl) os numbers.block sketch.refs.items in
          let c = puts-extra one os entries in
          let d = sum-ones entries in
          let e = sealed-count sketch.blocks.items entries pieces sealed in
          omega (arith, here, a, b, c, d, e)

      puts-nodes : (es : List NodeEntry) (ds : List (ℕ × Option NodeEntry)) → puts node_id es ds ≤ puts_in ds
      puts-nodes es [] = omega arith
      puts-nodes es (d ∷ ds) = let h = puts-nodes es ds in omega (arith, h)

      numbers-fit : (p s nb pn ub un fb fn pb pt mb mn free left many : ℕ) → 2 * (nb + pn) ≤ 3 * s → p / 16 + 3 * s + 16 ≤ free → free ≤ left + nb → ub ≤ nb → un ≤ pn → fb ≤ pb → fn ≤ pt → p ≡ pb + pt → mb ≤ fb + 9 * ub → mn ≤ fn + 9 * un → many ≡ mb + mn → many ≤ 16 * left
      numbers-fit p s nb pn ub un fb fn pb pt mb mn free left many few enough room on_blocks on_nodes freed_b freed_n pages spare_b spare_n count =
          omega (arith, few, enough, room, on_blocks, on_nodes, freed_b, freed_n, pages, spare_b, spare_n, count)

-- more free cells are enough too
pub can-more : {world : World} {header : Header} {caches : PageCaches} {numbers : Numbers} {sketch : Sketch} {edits : List (ℕ × Option BlockEntry)} (free more : ℕ) → free ≤ more → CanDraw world header caches numbers sketch edits free → CanDraw world header caches numbers sketch edits more
can-more free more le can = record {
  m = can.m;
  tells = can.tells;
  used = can.used;
  counts = can.counts;
  known = can.known;
  low = can.low;
  cs = can.cs;
  sketched = can.sketched;
  size = can.size;
  few = can.few;
  enough = let a = can.enough in omega (arith, a, le);
  bound = can.bound;
}
