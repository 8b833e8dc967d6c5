use Rattle.pst_outside.proofs.Histories.{synced_kept, synced_durable, synced_no_more, one_event}
use Rattle.pst_outside.proofs.memory.MemWorldOutside.sync.Goals as goal

pub invariant_of-self-in-Ok : goal.invariant_of-self-in-Ok
invariant_of-self-in-Ok c = record { kept = synced_kept c.args.self.now.first c.args.self.now.events.items _ c.args.part c.in-Ok.ensures.ok _ c.args.self.now.kept }

pub returns-in-Ok-clause-durable : goal.returns-in-Ok-clause-durable
returns-in-Ok-clause-durable c = synced_durable c.args.self.now.first c.args.self.now.events.items _ c.args.part c.in-Ok.ensures.ok

pub returns-in-Ok-clause-crash : goal.returns-in-Ok-clause-crash
returns-in-Ok-clause-crash c = synced_no_more c.args.self.now.first c.args.self.now.events.items _ c.args.part c.in-Ok.ensures.ok

pub returns-in-Ok-clause-time : goal.returns-in-Ok-clause-time
returns-in-Ok-clause-time c = one_event _ _ _ _ c.in-Ok.ensures.ok
