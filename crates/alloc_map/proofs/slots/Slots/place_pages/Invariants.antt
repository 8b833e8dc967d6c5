use Rattle.std.specs.Prelude.{◌≡◌, ◌≤◌, ◌+◌, length, All}
use Rattle.pst_base.specs.declared.places.Place.{Place}
use Rattle.alloc_map.specs.Taken.{IsPagePlace, Taken, Takes}
use Rattle.alloc_map.specs.Cells.{page_rooms}
use Rattle.alloc_map.proofs.slots.Slots.place_pages.Given as goal

abbrev pub invariant-loop : goal.invariant-loop
invariant-loop l = record {
  placed : Takes IsPagePlace l.initial.self l.places.items l.self;
  count : length l.places.items ≡ l.counter;
  sized : All (λ (p : Place). p.len ≡ 512) l.places.items;
  taken : Taken l.initial.self l.self l.places.items;
  room : page_rooms l.initial.self ≤ page_rooms l.self + l.counter;
}
