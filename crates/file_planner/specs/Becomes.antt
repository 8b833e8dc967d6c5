-- What a plan makes of a file, beside its nodes.
use Rattle.std.specs.Prelude.{◌≡◌, ◌≤◌, ◌+◌, ◌*◌, ◌%◌, ◌^◌, ◌++◌, ℕ, Bool, List, length, take, Ok}
use Rattle.pst_base.specs.declared.places.Place.{Place}
use Rattle.pst_header.specs.declared.header.Header.{Header}
use Rattle.pst_header.specs.Format.{reading}
use Rattle.alloc_map.specs.Ends.{IsEndFor, region_end}
use Rattle.alloc_map.specs.Standing.{occupied, IsCovered}
use Rattle.alloc_map.specs.Taken.{IsBlockPlace, IsPagePlace, Takes}
use Rattle.file_layout.specs.Nodes.{NodeMap, Lays, blocks_in, places_of}
use Rattle.file_layout.specs.Numbers.{next_block, next_page}
use Rattle.lays_kept.specs.Stands.{last_map}
use Rattle.node_layout.specs.Pieces.{EachStands}
use Rattle.plan_pieces.specs.Growth.{fixed_pages}
use Rattle.pst_commit.specs.Held.{IsWithHeld}
use Rattle.file_planner.specs.Follows.{Follows}
use Rattle.file_planner.specs.New.{AreNewBlocks, AreRenewed, entries_from, new_pages}

-- The file lays nodes again, and of its blocks those stay and go that `Follows` says. New blocks and pages stand at the least free places beside all that stood and all that these pins hold, the blocks first: the blocks of the file from its next number on are just these, with numbers that rise by 4, and its pages are some of those that were there and just these, with numbers that rise by 1. The header gives the next numbers on by as much, behind which the file has no other, and its own count by 1; it vouches for no maps, names the map page of the last region, ends the file at the least end of a region that has room for all, with the fixed pages of each new region, and keeps all bytes that no field has.
pub record IsMade (opened : List (ℕ × List Bool)) (old new : List ℕ) : Type 0 where
  pub before : Header
  pub was : reading (take 564 old) ≡ Ok before
  pub m : NodeMap
  pub lays : Lays before old m
  pub after : Header
  pub is : reading (take 564 new) ≡ Ok after
  -- the places of new blocks, and of new pages
  pub blocks : List Place
  pub pages : List Place
  -- the used slots of all regions that a file may have
  pub used : List Bool
  pub size : length used ≡ 3968 * 8192
  pub covered : IsCovered (occupied (places_of lays.blocks lays.nodes) 8192) used
  pub all : List Bool
  pub with_held : IsWithHeld used opened all
  pub mid : List Bool
  pub place_blocks : Takes IsBlockPlace all blocks mid
  pub now : List Bool
  pub place_pages : Takes IsPagePlace mid pages now
  pub end : IsEndFor before.eof (pages ++ blocks) after.eof
  -- each region that begins at or past the old end has its fixed pages
  pub grown : (r : ℕ) → before.eof ≤ region_end r → region_end (r + 1) ≤ after.eof → EachStands new (fixed_pages r)
  pub unmapped : after.maps ≡ 0
  pub map_page : after.amap_last ≡ last_map after.eof
  pub unique : after.unique ≡ (before.unique + 1) % 2 ^ 32
  -- the bytes that no field has
  pub kept : after.kept ≡ before.kept
  pub n : NodeMap
  pub now_lays : Lays after new n
  pub follows : Follows lays now_lays
  -- the file's own next numbers are those of its header
  pub own_block : after.next_block ≡ next_block after (blocks_in now_lays.blocks)
  pub own_page : after.next_page ≡ next_page after (now_lays.blocks.pages ++ now_lays.nodes.pages)
  -- which blocks and pages are new
  pub new_blocks : AreNewBlocks (next_block before (blocks_in lays.blocks)) blocks (entries_from (next_block before (blocks_in lays.blocks)) (blocks_in now_lays.blocks))
  pub renewed : AreRenewed (lays.blocks.pages ++ lays.nodes.pages) (new_pages (next_page before (lays.blocks.pages ++ lays.nodes.pages)) pages) (now_lays.blocks.pages ++ now_lays.nodes.pages)
  pub next_block : after.next_block ≡ next_block before (blocks_in lays.blocks) + 4 * length blocks
  pub next_page : after.next_page ≡ next_page before (lays.blocks.pages ++ lays.nodes.pages) + length pages
