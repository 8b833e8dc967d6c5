use Rattle.std.proofs.Common.{◌∙◌, IfErr, ap, sym, subst, true}
use Rattle.store_filling.specs.mail_draft.Answers.{IsCaused}
use Rattle.gate_file.specs.Gate.{IsShut}
use Rattle.pst_commit.specs.Keeping.{HasRoom, IsCommitted, IsSaved}
use Rattle.store_filling.specs.store_session.Disks.{effects_of}
use Rattle.store_filling.specs.Filling.{StoreFillEnds, FillsStore}
use Rattle.file_session.specs.FileRun.{ReadsAs}
use Rattle.file_session.proofs.Opened.{ends_unopened, refused_is, starts_opened}
use Rattle.file_filling.specs.FileFills.{FillOpened}
use Rattle.file_filling.proofs.Filled.{ends_caused, ends_filled, same_end, same_run}
use Rattle.file_filling.proofs.fill.fill_file.Goals as goal

pub returns-in-Err-clause-refused : goal.returns-in-Err-clause-refused
returns-in-Err-clause-refused g c = λ refusal is.
    refused_is (g.W.Outside.view c.args.world.now) (g.W.Outside.view c.open_file.new.w) c.in-Err.stop refusal (sym c.unopened.ensures ∙ same_run _ _ is) c.in-Err.ensures.clean c.in-Err.ensures.refused

pub returns-in-Err-clause-unopened : goal.returns-in-Err-clause-unopened
returns-in-Err-clause-unopened g c = λ end is tells.
    ends_unopened (g.W.Outside.view c.args.world.now) (g.W.Outside.view c.open_file.new.w) c.in-Err.stop end (sym c.unopened.ensures ∙ same_run _ _ is) tells
    (c.in-Err.ensures.refused tells) c.in-Err.ensures.input c.in-Err.ensures.store c.in-Err.ensures.clean (c.in-Err.ensures.kept tells) c.in-Err.ensures.any_moment c.in-Err.ensures.written

pub returns-in-Ok-clause-ends : goal.returns-in-Ok-clause-ends
returns-in-Ok-clause-ends g c = λ end is tells.
    let first = g.W.Outside.view c.args.world.now in
    let mid = g.W.Outside.view c.open_file.new.w in
    let now = g.W.Outside.view c.fill_store.new.w in
    let told : now.tells → mid.tells = c.fill_store.ensures.quiet.told in
    let o = c.in-Ok.opened.keeper in
    let start = starts_opened (g.S.NodeStore.knows o.store) o.found o.header c.in-Ok.opened.tree first mid (c.in-Ok.ensures.opened (told tells)) (c.in-Ok.ensures.reads (told tells)) c.in-Ok.ensures.settled c.in-Ok.ensures.shut c.in-Ok.ensures.any_moment in
    subst (λ e. FillOpened g.S.NodeStore.becomes g.S.NodeStore.costs first now c.args.seed c.args.count e) (same_end c.fill_store.result end is)
    (ends_filled (g.S.NodeStore.knows o.store) g.S.NodeStore.becomes g.S.NodeStore.costs o.found o.header c.in-Ok.opened.tree first mid now c.args.seed c.args.count c.fill_store.result
    start tells told (c.in-Ok.ensures.store (told tells)) c.in-Ok.ensures.written (c.in-Ok.ensures.idle (told tells))
    (λ tidy X has disk. subst (λ p. FillsStore (effects_of p HasRoom (λ pins. IsCommitted g.S.NodeStore.becomes g.S.NodeStore.costs pins.opened) IsSaved) (ReadsAs tidy o.found) (λ image. IsShut image.side) mid now X c.args.seed c.args.count c.fill_store.result) c.in-Ok.ensures.no_pins
    (c.fill_store.ensures.ends tidy X has disk)))

pub returns-in-Ok-clause-cause : goal.returns-in-Ok-clause-cause
returns-in-Ok-clause-cause g c = λ end is.
    subst (λ e. IfErr e (IsCaused true (g.W.Outside.view c.args.world.now).disk_faults (g.W.Outside.view c.fill_store.new.w).disk_faults)) (same_end c.fill_store.result end is)
    (ends_caused (g.W.Outside.view c.fill_store.new.w).disk_faults c.fill_store.result c.in-Ok.ensures.counts c.fill_store.ensures.cause)
