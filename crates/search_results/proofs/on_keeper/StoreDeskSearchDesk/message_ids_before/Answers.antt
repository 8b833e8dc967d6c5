use Rattle.std.proofs.Common.{refl}
use Rattle.mail_draft.proofs.Looking.{looks_then, shown_still}
use Rattle.search_results.proofs.on_keeper.StoreDeskSearchDesk.message_ids_before.Goals as goal

pub returns-clause-reads : goal.returns-clause-reads
returns-clause-reads g c =
    let looks = c.message_ids_at.ensures.looks in
    record {
      shows = λ T s. record { shown = shown_still T looks s.shown; places = s.places; flags = s.flags; there = s.there };
      changed = refl;
      disk = refl;
      faults = looks.world.counts.disk_faults;
      since = λ first s. (s.0, s.1, s.2, s.3, s.4, s.5, looks_then s.6 looks);
      cause = c.message_ids_at.ensures.cause;
    }
