-- What is known of a file for which a plan is made.
use Rattle.std.specs.Prelude.{◌≡◌, ◌+◌, ◌*◌, ◌++◌, ℕ, Bool, List, length}
use Rattle.pst_header.specs.declared.header.Header.{Header}
use Rattle.alloc_map.specs.Standing.{occupied, IsCovered}
use Rattle.file_blocks.specs.Blocks.{found_in}
use Rattle.file_layout.specs.Nodes.{NodeMap, Lays, blocks_in, nodes_in, places_of}
use Rattle.file_layout.specs.Numbers.{next_block, next_page}
use Rattle.file_layout.specs.Trees.{Found}
use Rattle.node_layout.specs.Counts.{AreRefs}

-- The used slots, the numbers of references, the number of pages and the next numbers are those of a file with these trees.
pub record IsKnownBy (header : Header) (file : List ℕ) (blocks nodes : Found) (slots : List Bool) (counts : ℕ → ℕ) (many block page : ℕ) : Type 0 where
  pub size : length slots ≡ 3968 * 8192
  pub used : IsCovered (occupied (places_of blocks nodes) 8192) slots
  pub refs : AreRefs (found_in file (blocks_in blocks)) (nodes_in nodes) counts
  pub pages : many ≡ length blocks.pages + length nodes.pages
  pub next_block : block ≡ next_block header (blocks_in blocks)
  pub next_page : page ≡ next_page header (blocks.pages ++ nodes.pages)

-- the same of a file that lays nodes
abbrev pub IsKnown : {header : Header} {file : List ℕ} {m : NodeMap} → Lays header file m → List Bool → (ℕ → ℕ) → ℕ → ℕ → ℕ → Type 0
IsKnown {header} {file} {m} is slots counts pages block page = IsKnownBy header file is.blocks is.nodes slots counts pages block page
