use Rattle.std.specs.Prelude.{◌≡◌, ◌≤◌, ◌+◌, length, map, take}
use Rattle.alloc_map.specs.Cells.{free_cells_of}
use Rattle.alloc_map.specs.Slots.{slots_in}
use Rattle.alloc_map.specs.Taken.{IsBlockPlace, Taken, Takes}
use Rattle.alloc_map.proofs.slots.Slots.place_blocks.Given as goal

abbrev pub invariant-loop-size : goal.invariant-loop-size
invariant-loop-size l = record {
  placed : Takes IsBlockPlace l.initial.self l.places.items l.self;
  count : length l.places.items ≡ l.size-index;
  sized : map slots_in l.places.items ≡ take l.size-index l.sizes;
  taken : Taken l.initial.self l.self l.places.items;
  room : free_cells_of l.initial.self ≤ free_cells_of l.self + l.size-index;
}
