use Rattle.staged_nodes.proofs.slots.next_put.Goals as goal

pub returns-in-Some : goal.returns-in-Some
returns-in-Some c =
    let next = c.in-Some.ensures in
    ((c.bits_of.ensures c.in-Some.bits).1 next.0, next.1, (λ q a lt. next.2 q ((c.bits_of.ensures q).0 a) lt))

pub returns-in-None : goal.returns-in-None
returns-in-None c = λ q a. c.in-None.ensures q ((c.bits_of.ensures q).0 a)
