use Rattle.std.proofs.Common.{Err, ap, sym, subst}
use Rattle.mail_session.specs.Compact.{StopsCopying}
use Rattle.mail_session.proofs.CompactLaws.{making_stops}
use Rattle.mail_session.proofs.compacting.copy_source.Goals as goal

pub returns-in-Err-clause-stops : goal.returns-in-Err-clause-stops
returns-in-Err-clause-stops g c =
    let old = g.W.Outside.view c.args.w.now in
    let new = g.W.Outside.view c.compact.new.w in
    subst (λ s. StopsCopying s old new) (sym c.of_compact.ensures) (making_stops old new c.args.source.now c.in-Err.stop (λ e. c.in-Err.ensures.fault (ap Err e)) c.in-Err.ensures.stops)
