use Rattle.alloc_map.proofs.SlotLaws.{IsSound-freed}
use Rattle.alloc_map.proofs.slots.Slots.give_back.Goals as goal

pub invariant_of-self : goal.invariant_of-self
invariant_of-self c = IsSound-freed c.self.invariant c.fill.ensures c.raise.ensures c.raise-2.ensures
