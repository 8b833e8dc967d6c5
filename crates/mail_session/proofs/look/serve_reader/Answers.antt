use Rattle.std.proofs.Common.{subst, sym}
use Rattle.mail_session.specs.declared.exit.Status.TheVariants.{Memory}
use Rattle.mail_session.specs.Look.{KeepsReading, LookRuns}
use Rattle.mail_session.proofs.LookLaws.{keeps_nothing, keeps_reading, look_runs, runs_nothing}
use Rattle.mail_session.proofs.LookingLaws.{reader_has, reader_on}
use Rattle.mail_session.proofs.look.serve_reader.Goals as goal

pub returns-in-Ok-clause-keeps : goal.returns-in-Ok-clause-keeps
returns-in-Ok-clause-keeps g c =
    let view = g.W.Outside.view in
    subst (λ s. KeepsReading (view c.args.world.now) (view c.serve.new.world) s) (sym c.status_of_look.ensures)
    (keeps_reading view (reader_has view g.K.NodeReader.holds g.K.NodeReader.last) c.args.reader c.serve.new.answerer c.args.world.now c.serve.new.world c.in-Ok.end c.in-Ok.ensures.ends)

pub returns-in-Ok-clause-runs : goal.returns-in-Ok-clause-runs
returns-in-Ok-clause-runs g c = λ X h told.
    let view = g.W.Outside.view in
    let holds = g.K.NodeReader.holds in
    let last = g.K.NodeReader.last in
    subst (λ s. LookRuns X (view c.args.world.now) (view c.serve.new.world) s) (sym c.status_of_look.ensures)
    (look_runs view (reader_has view holds last) (reader_on view holds last g.K.NodeReader.has_disk g.met.K.NodeReader.holds_on) c.args.reader c.serve.new.answerer c.args.world.now c.serve.new.world X told h c.in-Ok.end c.in-Ok.ensures.ends)

pub returns-clause-keeps : goal.returns-clause-keeps
returns-clause-keeps g c =
    subst (λ w. KeepsReading (g.W.Outside.view c.args.world.now) (g.W.Outside.view w) Memory) (sym c.in-Err.ensures.no_memory.1) (keeps_nothing (g.W.Outside.view c.args.world.now))

pub returns-clause-runs : goal.returns-clause-runs
returns-clause-runs g c = λ X h told.
    subst (λ w. LookRuns X (g.W.Outside.view c.args.world.now) (g.W.Outside.view w) Memory) (sym c.in-Err.ensures.no_memory.1) (runs_nothing X (g.W.Outside.view c.args.world.now))
