-- What a planner knows of a file that was scanned.
use Rattle.std.proofs.Common.{Bool, ◌≡◌, ◌∙◌, ℕ, ◌+◌, List, [], ◌∷◌, length, Option, None, refl, sym, ap, subst, length-append}
use Rattle.pst_outside.specs.World.{Image}
use Rattle.pst_header.specs.declared.header.Header.{Header}
use Rattle.alloc_map.specs.Standing.{IsCovered, occupied}
use Rattle.btree_pages.specs.declared.entry.NodeEntry.{NodeEntry}
use Rattle.data_tree.specs.Keys.{count_of}
use Rattle.file_blocks.specs.Blocks.{file_of, found_in}
use Rattle.file_layout.specs.Nodes.{block_tree, blocks_in, node_tree, nodes_in, places_of}
use Rattle.file_layout.specs.Trees.{Found}
use Rattle.file_pages.specs.InFile.{bodies}
use Rattle.file_scan.proofs.ScanLaws.{whole-once}
use Rattle.file_scan.specs.Found.{IsFound}
use Rattle.file_scan.specs.declared.scan.FoundFile.{FoundFile}
use Rattle.node_layout.specs.Lookups.{sum_of}
use Rattle.node_reach.specs.Reach.{node_keys, uses_of}
use Rattle.node_layout.specs.Counts.{uses}
use Rattle.ref_counts.specs.Tables.{refs_in}
use Rattle.plan_placing.specs.Known.{IsKnownBy}
use Rattle.file_planner.specs.declared.planner.FilePlanner.{FilePlanner}
use Rattle.file_planner.specs.Knowing.{Knows}
use Rattle.file_planner.proofs.ComesLaws.{holding-on, none-wrong}
use Rattle.file_planner.proofs.HoldingLaws.{none-holding}

-- how often nodes reach a block, counted as a sum
uses-sum : (find : ℕ → Option (List ℕ)) (key : ℕ) (es : List NodeEntry) → uses_of find key es ≡ sum_of (uses find key) es
uses-sum find key [] = refl
uses-sum find key (e ∷ es) = ap (λ (n : ℕ). count_of key (node_keys find e) + n) (uses-sum find key es)

-- what a scan found is taken over, with empty caches
pub knows-found : (p : FilePlanner) (found : FoundFile) (image : Image) → p.caches.blocks ≡ [] → p.caches.nodes ≡ [] → p.slots ≡ found.slots → p.held.pins.items ≡ [] → p.held.all ≡ None → p.refs ≡ found.refs → p.pages ≡ found.pages → p.next_block ≡ found.next_block → p.next_page ≡ found.next_page
    → IsFound image found → Knows p found.header (file_of image)
knows-found p found image no_blocks no_nodes slots pins union refs pages block page s =
    let header : Header = found.header in
    let file : List ℕ = file_of image in
    let b : Found = s.lays.blocks in
    let n : Found = s.lays.nodes in
    let by : IsKnownBy header file b n p.slots (refs_in p.refs) p.pages p.next_block p.next_page = record {
      size = ap (λ (x : List Bool). length x) slots ∙ s.size;
      used = subst (IsCovered (occupied (places_of b n) 8192)) (sym slots) s.used;
      refs = λ key. ap (λ r. refs_in r key) refs ∙ s.refs key ∙ uses-sum (found_in file (blocks_in b)) key (nodes_in n);
      pages = pages ∙ s.pages ∙ length-append b.pages n.pages;
      next_block = block ∙ s.next_block;
      next_page = page ∙ s.next_page;
    } in
    record {
      cached = record { blocks = none-wrong (bodies file header.eof 0x80) p.caches.blocks no_blocks; nodes = none-wrong (bodies file header.eof 0x81) p.caches.nodes no_nodes };
      known = λ m is.
          let one : is.blocks ≡ b = whole-once (block_tree file header.eof) header.bbt is.blocks b is.block_pages s.lays.block_pages in
          let two : is.nodes ≡ n = whole-once (node_tree file header.eof) header.nbt is.nodes n is.node_pages s.lays.node_pages in
          subst (λ (f : Found). IsKnownBy header file f is.nodes p.slots (refs_in p.refs) p.pages p.next_block p.next_page) (sym one)
          (subst (λ (f : Found). IsKnownBy header file b f p.slots (refs_in p.refs) p.pages p.next_block p.next_page) (sym two) by);
      holding = holding-on p.slots p.slots [] p.held.pins.items None p.held.all refl pins union (none-holding p.slots);
    }
