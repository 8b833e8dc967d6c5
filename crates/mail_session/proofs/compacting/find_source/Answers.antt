use Rattle.std.proofs.Common.{Err, ap, sym, subst}
use Rattle.mail_session.specs.Compact.{StopsCopying}
use Rattle.pst_outside.specs.World.{Image}
use Rattle.compactor.specs.Source.{IsSource}
use Rattle.mail_session.proofs.CompactLaws.{checked_source, finding_stops}
use Rattle.mail_session.proofs.compacting.find_source.Goals as goal

pub returns-in-Err-clause-stops : goal.returns-in-Err-clause-stops
returns-in-Err-clause-stops g c =
    let old = g.W.Outside.view c.args.w.now in
    let new = g.W.Outside.view c.check_file.new.w in
    subst (λ s. StopsCopying s old new) (sym c.of_file.ensures) (finding_stops c.in-Err.stop c.in-Err.ensures.same (λ e. c.in-Err.ensures.fault (ap Err e)) c.in-Err.ensures.refused)

pub returns-in-Ok-clause-source : goal.returns-in-Ok-clause-source
returns-in-Ok-clause-source g c = λ told.
    let file = c.in-Ok.file in
    subst (λ (i : Image). IsSource i (record { header = file.header; next_block = file.next_block; next_page = file.next_page })) (sym (c.in-Ok.ensures.same.stays.here told)) (checked_source (c.in-Ok.ensures.checked told) c.in-Ok.ensures.left)
