use Rattle.std.proofs.Common.{Option, refl, subst, sym}
use Rattle.mail_objects.specs.Forms.{Tbl}
use Rattle.mail_objects.specs.declared.object.Object.{Object}
use Rattle.mail_tree.specs.Changing.{as_table, known}
use Rattle.mail_draft.specs.Answers.{Says}
use Rattle.mail_draft.proofs.SeenLaws.{now_of}
use Rattle.mail_draft.proofs.Looking.{looks_then, shown_still}
use Rattle.mail_draft.proofs.on_keeper.StoreDeskDesk.table_before.Goals as goal

pub returns-clause-reads : goal.returns-clause-reads
returns-clause-reads g c =
    let looks = c.kept_table.ensures.looks in
    record {
      shows = λ T s. record { shown = shown_still T looks s.shown; places = s.places; flags = s.flags; there = s.there };
      changed = refl;
      disk = refl;
      faults = looks.world.counts.disk_faults;
      since = λ first s. (s.0, s.1, s.2, s.3, s.4, s.5, looks_then s.6 looks);
      cause = c.kept_table.ensures.cause;
    }

pub returns-clause-answer : goal.returns-clause-answer
returns-clause-answer g c = record {
  says = λ T s. subst (λ (o : Option Object). Says {B = Tbl} (λ x. x) (known (as_table o)) c.kept_table.result) (sym (now_of T c.args.nid.bits)) (c.kept_table.ensures.answer T s.shown);
}
