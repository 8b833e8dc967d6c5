use Rattle.std.proofs.Common.{rules, ◌∙◌, ap, sym}
use Rattle.pst_outside.specs.Replay.{held, replay}
use Rattle.pst_outside.specs.Memory.{start}
use Rattle.pst_outside.proofs.Histories.{wrote_kept, wrote_follows, wrote_tears, wrote_content, lost_kept, lost_follows, lost_time, one_event}
use Rattle.pst_outside.proofs.memory.MemWorldOutside.write_at.Goals as goal

pub invariant_of-self : goal.invariant_of-self
invariant_of-self c = record { kept = lost_kept c.args.self.now.first c.args.self.now.events.items _ c.args.part c.args.at _ c.lose.ensures _ c.args.self.now.kept }

pub returns-then-fails_now-clause-crash : goal.returns-then-fails_now-clause-crash
returns-then-fails_now-clause-crash c = lost_follows c.args.self.now.first c.args.self.now.events.items _ c.args.part c.args.at _ c.lose.ensures

pub returns-then-fails_now-clause-time : goal.returns-then-fails_now-clause-time
returns-then-fails_now-clause-time c = lost_time c.args.self.now.first c.args.self.now.events.items _ c.args.part c.args.at _ c.lose.ensures

pub invariant_of-self-in-Ok : goal.invariant_of-self-in-Ok
invariant_of-self-in-Ok c = record { kept = wrote_kept c.args.self.now.first c.args.self.now.events.items _ c.args.part c.args.at c.args.bytes.now c.in-Ok.ensures.event c.args.self.now.parts c.write.new.parts c.args.self.now.said.items c.args.self.now.kept (c.in-Ok.ensures.parts c.args.self.now.said.items) }

pub invariant_of-self-in-Err : goal.invariant_of-self-in-Err
invariant_of-self-in-Err c = record { kept = c.in-Err.ensures.parts_err c.args.self.now.said.items ∙ c.args.self.now.kept ∙ ap (λ l. held (replay (start c.args.self.now.first) l)) (sym c.in-Err.ensures.event_err) }

pub returns-in-Ok-clause-content : goal.returns-in-Ok-clause-content
returns-in-Ok-clause-content c = record {
  written = search rules;
  told = λ told. tt;
  here = λ told. wrote_tears c.args.self.now.first c.args.self.now.events.items _ c.args.part c.args.at c.args.bytes.now c.in-Ok.ensures.event;
  input = search rules;
}

pub returns-in-Ok-clause-after : goal.returns-in-Ok-clause-after
returns-in-Ok-clause-after c = λ told. wrote_content c.args.self.now.first c.args.self.now.events.items _ c.args.part c.args.at c.args.bytes.now c.in-Ok.ensures.event

pub returns-in-Ok-clause-crash : goal.returns-in-Ok-clause-crash
returns-in-Ok-clause-crash c = wrote_follows c.args.self.now.first c.args.self.now.events.items _ c.args.part c.args.at c.args.bytes.now c.in-Ok.ensures.event

pub returns-in-Ok-clause-time : goal.returns-in-Ok-clause-time
returns-in-Ok-clause-time c = one_event _ _ _ _ c.in-Ok.ensures.event
