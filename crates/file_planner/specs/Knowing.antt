-- What a planner knows of a file.
use Rattle.std.specs.Prelude.{◌^◌, nat_le, ℕ, Bool, List, ◌||◌}
use Rattle.pst_header.specs.declared.header.Header.{Header}
use Rattle.alloc_map.specs.Cells.{free_cells_of}
use Rattle.alloc_map.specs.Taken.{Taken}
use Rattle.file_layout.specs.Nodes.{NodeMap, Lays}
use Rattle.file_pages.specs.InFile.{bodies}
use Rattle.page_cache.specs.Cache.{Holds}
use Rattle.node_store.specs.declared.node.PageCaches.{PageCaches}
use Rattle.ref_counts.specs.Tables.{refs_in}
use Rattle.ref_counts.specs.Changes.{HasRoomFor, change_of, number_by}
use Rattle.plan_drawing.specs.declared.effects.PlanEffects.{PlanEffects}
use Rattle.plan_placing.specs.Known.{IsKnown}
use Rattle.plan_placing.specs.Places.{placing_over}
use Rattle.file_planner.specs.declared.planner.FilePlanner.{FilePlanner}
use Rattle.file_planner.specs.Holding.{IsHolding}

-- ---- a file

-- the caches have no other pages than those of a file
pub record AreCached (header : Header) (file : List ℕ) (caches : PageCaches) : Type 0 where
  pub blocks : Holds (bodies file header.eof 0x80) caches.blocks
  pub nodes : Holds (bodies file header.eof 0x81) caches.nodes

-- what a planner has is right for a file with a header
pub record Knows (p : FilePlanner) (header : Header) (file : List ℕ) : Type 0 where
  pub cached : AreCached header file p.caches
  pub known : (m : NodeMap) (is : Lays header file m) → IsKnown is p.slots (refs_in p.refs) p.pages p.next_block p.next_page
  pub holding : IsHolding p.slots p.held.pins.items p.held.all

-- a next number may no more be given
abbrev pub spent : ℕ → ℕ → Bool
spent block page = nat_le (2 ^ 61) block || nat_le (2 ^ 61) page

-- the slots over which a plan places: those of the file, and those that pins hold
abbrev pub placing : FilePlanner → List Bool
placing p = placing_over p.slots p.held.all

-- the cells that are free there, the pages of both trees, and whether a next number is used up
abbrev pub cells_of : FilePlanner → ℕ × ℕ × Bool
cells_of p = (free_cells_of (placing p), p.pages, spent p.next_block p.next_page)

-- ---- after a commit

-- the number of a key after changes
abbrev pub number_now : ℕ → FilePlanner → PlanEffects → ℕ
number_now key p e = number_by (change_of key e.refs.items) (refs_in p.refs key)

-- With the places of a plan taken, and those given back that it frees, the slots and the new numbers are right for a file with a header.
pub record KnowsAfter (p : FilePlanner) (e : PlanEffects) (header : Header) (file : List ℕ) : Type 0 where
  pub mid : List Bool
  pub after : List Bool
  pub takes : Taken p.slots mid e.taken.items
  pub frees : Taken after mid e.freed.items
  pub room : HasRoomFor p.refs e.refs.items
  pub holding : IsHolding p.slots p.held.pins.items p.held.all
  -- the same places, taken where the plan took them
  pub united : List Bool
  pub takes_united : Taken (placing p) united e.taken.items
  pub known : (m : NodeMap) (is : Lays header file m) → IsKnown is after (λ key. number_now key p e) e.pages e.next_block e.next_page
