use Rattle.std.proofs.Common.{sym, subst, inl, inr, ◌∙◌}
use Rattle.file_session.specs.FileRun.{FileRunEnds}
use Rattle.file_session.proofs.Opened.{ends_opened, ends_unopened, refused_is, same_end, starts_opened}
use Rattle.file_session.proofs.run.run_file.Goals as goal

pub returns-in-Ok-clause-ends : goal.returns-in-Ok-clause-ends
returns-in-Ok-clause-ends g c = λ end is tells.
    let first = g.W.Outside.view c.args.world.now in
    let mid = g.W.Outside.view c.open_file.new.w in
    let now = g.W.Outside.view c.run_session.new.world in
    let told : now.tells → mid.tells = c.run_session.ensures.told in
    let o = c.in-Ok.opened.keeper in
    let start = starts_opened (g.S.NodeStore.knows o.store) o.found o.header c.in-Ok.opened.tree first mid (c.in-Ok.ensures.opened (told tells)) (c.in-Ok.ensures.reads (told tells)) c.in-Ok.ensures.settled c.in-Ok.ensures.shut c.in-Ok.ensures.any_moment in
    subst (λ e. FileRunEnds g.S.NodeStore.becomes g.S.NodeStore.costs first now e) (same_end c.run_session.result end is)
    (inr (ends_opened (g.S.NodeStore.knows o.store) g.S.NodeStore.becomes g.S.NodeStore.costs o.found o.header c.in-Ok.opened.tree first mid now c.run_session.result
    start tells told c.in-Ok.ensures.input (c.in-Ok.ensures.store (told tells)) c.in-Ok.ensures.written (c.in-Ok.ensures.idle (told tells))
    (λ tidy X has disk. c.run_session.ensures.ends tidy X has c.in-Ok.ensures.no_pins disk)))

pub returns-in-Err-clause-refused : goal.returns-in-Err-clause-refused
returns-in-Err-clause-refused g c = λ refusal is.
    refused_is (g.W.Outside.view c.args.world.now) (g.W.Outside.view c.open_file.new.w) c.in-Err.stop refusal (sym c.unopened.ensures ∙ is) c.in-Err.ensures.clean c.in-Err.ensures.refused

pub returns-in-Err-clause-ends : goal.returns-in-Err-clause-ends
returns-in-Err-clause-ends g c = λ end is tells.
    inl (ends_unopened (g.W.Outside.view c.args.world.now) (g.W.Outside.view c.open_file.new.w) c.in-Err.stop end (sym c.unopened.ensures ∙ is) tells
    (c.in-Err.ensures.refused tells) c.in-Err.ensures.input c.in-Err.ensures.store c.in-Err.ensures.clean (c.in-Err.ensures.kept tells) c.in-Err.ensures.any_moment c.in-Err.ensures.written)
