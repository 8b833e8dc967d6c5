use Rattle.std.specs.List.{All}
use Rattle.alloc_map.specs.Slots.{IsLaid}
use Rattle.rates.proofs.slots.nearly_full.Given as goal

-- the places so far are laid in the regions
abbrev pub invariant-loop-region : goal.invariant-loop-region
invariant-loop-region l = All (IsLaid l.regions) l.places.items
