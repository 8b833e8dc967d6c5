use Rattle.pst_outside.proofs.Histories.{said_kept, said_follows, one_event}
use Rattle.pst_outside.proofs.memory.MemWorldOutside.say.Goals as goal

pub invariant_of-self-in-Ok : goal.invariant_of-self-in-Ok
invariant_of-self-in-Ok c = record { kept = said_kept c.args.self.now.first c.args.self.now.events.items _ c.args.piece.now c.in-Ok.ensures.event c.args.self.now.parts c.args.self.now.said.items _ c.args.self.now.kept c.in-Ok.ensures.said }

pub returns-in-Ok-clause-crash : goal.returns-in-Ok-clause-crash
returns-in-Ok-clause-crash c = said_follows c.args.self.now.first c.args.self.now.events.items _ c.args.piece.now c.in-Ok.ensures.event

pub returns-in-Ok-clause-time : goal.returns-in-Ok-clause-time
returns-in-Ok-clause-time c = one_event _ _ _ _ c.in-Ok.ensures.event
