-- The numbers that the next block and the next page of a file get.
use Rattle.std.specs.Prelude.{ℕ, ◌+◌, ◌-◌, ◌%◌, ◌^◌, nat_le, max, min, Bool, List, [], ◌∷◌, ◌++◌, ◌||◌}
use Rattle.pst_base.specs.declared.ids.Bref.{Bref}
use Rattle.pst_header.specs.declared.header.Header.{Header}
use Rattle.btree_pages.specs.declared.entry.BlockEntry.{BlockEntry}
use Rattle.file_layout.specs.Nodes.{blocks_in}
use Rattle.file_layout.specs.Trees.{Found}

-- the greatest of n and the numbers that follow the ids of blocks, which rise by 4
abbrev pub past_blocks : ℕ → List BlockEntry → ℕ
past_blocks n [] = n
past_blocks n (e ∷ es) = max (e.at.bid.bits + 4) (past_blocks n es)

-- the greatest of n and the numbers that follow the ids of pages, which rise by 1
abbrev pub past_pages : ℕ → List Bref → ℕ
past_pages n [] = n
past_pages n (at ∷ pages) = max (at.bid.bits + 1) (past_pages n pages)

-- a number as 64 bits count it: it stays at the greatest
abbrev pub counted_to : ℕ → ℕ
counted_to n = min n 0xffff_ffff_ffff_ffff

-- the next block number: past the header's and every block's, at least 4, with bits 0 and 1 clear
abbrev pub next_block : Header → List BlockEntry → ℕ
next_block header blocks = counted_to (past_blocks (max header.next_block 4) blocks) - counted_to (past_blocks (max header.next_block 4) blocks) % 4

-- the next page number: past the header's and every page's
abbrev pub next_page : Header → List Bref → ℕ
next_page header pages = counted_to (past_pages header.next_page pages)

-- a number of the file with these trees is used up: it may no more be given
abbrev pub is_spent : Header → Found → Found → Bool
is_spent header blocks nodes = nat_le (2 ^ 61) (next_block header (blocks_in blocks)) || nat_le (2 ^ 61) (next_page header (blocks.pages ++ nodes.pages))
