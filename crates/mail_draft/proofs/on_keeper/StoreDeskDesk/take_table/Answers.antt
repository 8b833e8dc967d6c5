use Rattle.std.proofs.Common.{refl}
use Rattle.std.proofs.lemmas.Result.{err_from_is_err_and}
use Rattle.mail_draft.proofs.Looking.{looks_then, shown_still}
use Rattle.mail_draft.proofs.on_keeper.StoreDeskDesk.take_table.Goals as goal

pub returns-in_err-rest-clause-drafts : goal.returns-in_err-rest-clause-drafts
returns-in_err-rest-clause-drafts g c =
    let looks = c.in_err-rest.ensures.looks in
    let p = err_from_is_err_and c.from_residual.result c.from_residual.ensures.1 in
    record {
      shows = λ T s. record { shown = shown_still T looks s.shown; places = s.places; flags = s.flags; there = s.there };
      disk = refl;
      faults = looks.world.counts.disk_faults;
      since = λ first s. (s.0, s.1, s.2, s.3, s.4, s.5, looks_then s.6 looks);
      cause = rw (p.1, p.2) c.in_err-rest.ensures.cause;
    }

pub returns-clause-drafts : goal.returns-clause-drafts
returns-clause-drafts g c =
    let looks = c.in_ok-rest.ensures.looks in
    record {
      shows = λ T s. record { shown = shown_still T looks s.shown; places = s.places; flags = s.flags; there = s.there };
      disk = refl;
      faults = looks.world.counts.disk_faults;
      since = λ first s. (s.0, s.1, s.2, s.3, s.4, s.5, looks_then s.6 looks);
      cause = tt;
    }
