use Rattle.alloc_map.proofs.TakenLaws.{taken-used, taken-back}
use Rattle.alloc_map.proofs.slots.Slots.free_used.Goals as goal

pub returns-then-is_all-clause-rest : goal.returns-then-is_all-clause-rest
returns-then-is_all-clause-rest c = λ after ps taken. taken-back after c.args.self.now c.give_back.new.self c.args.place.now ps taken (record { size = c.give_back.ensures.size; inside = c.give_back.ensures.inside; below = c.give_back.ensures.below; above = c.give_back.ensures.above })

pub returns-else-is_all-clause-rest : goal.returns-else-is_all-clause-rest
returns-else-is_all-clause-rest c = λ after ps taken.
    let all = c.is_all.ensures.1 (taken-used after c.args.self.now c.args.place.now ps taken) in
    let no-one = c.if-is_all.false in
    absurd (cc)
