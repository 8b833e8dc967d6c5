use Rattle.std.proofs.Common.{sym, subst}
use Rattle.mail_session.specs.declared.exit.Status.TheVariants.{Memory}
use Rattle.mail_session.specs.Scratch.{ScratchEnds}
use Rattle.mail_session.proofs.ScratchLaws.{ends_by_memory, scratch_ends}
use Rattle.mail_session.proofs.scratch.serve_memory.Goals as goal

pub returns-in_default-clause-ends : goal.returns-in_default-clause-ends
returns-in_default-clause-ends g c = ends_by_memory (g.W.Outside.view c.args.world.now)

pub returns-in-Ok-serve-clause-ends : goal.returns-in-Ok-serve-clause-ends
returns-in-Ok-serve-clause-ends g c =
    let ends = scratch_ends g.W.Outside.view _ _ c.args.world.now c.serve.new.world c.in-Ok-serve.end c.in-Ok.ensures c.in-Ok-serve.ensures.ends in
    subst (ScratchEnds (g.W.Outside.view c.args.world.now) (g.W.Outside.view c.serve.new.world)) (sym c.status_of.ensures) ends

pub returns-clause-ends : goal.returns-clause-ends
returns-clause-ends g c =
    subst (λ w. ScratchEnds (g.W.Outside.view c.args.world.now) (g.W.Outside.view w) Memory) (sym c.in-Err.ensures.no_memory.1) (ends_by_memory (g.W.Outside.view c.args.world.now))
