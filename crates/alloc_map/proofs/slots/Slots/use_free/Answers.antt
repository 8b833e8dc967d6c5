use Rattle.alloc_map.proofs.TakenLaws.{taken-free, taken-rest}
use Rattle.alloc_map.proofs.slots.Slots.use_free.Goals as goal

pub returns-then-is_all-clause-rest : goal.returns-then-is_all-clause-rest
returns-then-is_all-clause-rest c = λ after ps taken. taken-rest c.args.self.now c.mark.new.self after c.args.place.now ps taken (record { size = c.mark.ensures.size; inside = c.mark.ensures.inside; below = c.mark.ensures.below; above = c.mark.ensures.above })

pub returns-else-is_all-clause-rest : goal.returns-else-is_all-clause-rest
returns-else-is_all-clause-rest c = λ after ps taken.
    let all = c.is_all.ensures.1 (taken-free c.args.self.now after c.args.place.now ps taken) in
    let no-one = c.if-is_all.false in
    absurd (cc)
