use Rattle.alloc_map.proofs.SlotLaws.{IsSound-used}
use Rattle.alloc_map.proofs.slots.Slots.mark.Goals as goal

pub invariant_of-self : goal.invariant_of-self
invariant_of-self c = IsSound-used c.self.invariant c.fill.ensures
