use Rattle.alloc_map.proofs.SlotLaws.{IsSound-united}
use Rattle.alloc_map.proofs.slots.Slots.unite.Goals as goal

pub invariant_of-self : goal.invariant_of-self
invariant_of-self c = IsSound-united c.self.invariant c.unite.ensures
