use Rattle.std.proofs.Common.{Option, refl, subst, sym}
use Rattle.mail_objects.specs.Forms.{Ctx}
use Rattle.mail_objects.specs.declared.object.Object.{Object}
use Rattle.mail_tree.specs.Changing.{as_context, known}
use Rattle.mail_draft.specs.Answers.{Says}
use Rattle.mail_draft.proofs.SeenLaws.{now_of}
use Rattle.mail_draft.proofs.Looking.{looks_then, shown_still}
use Rattle.mail_draft.proofs.on_keeper.StoreDeskDesk.context_before.Goals as goal

pub returns-clause-reads : goal.returns-clause-reads
returns-clause-reads g c =
    let looks = c.context_once.ensures.looks in
    record {
      shows = λ T s. record { shown = shown_still T looks s.shown; places = s.places; flags = s.flags; there = c.context_once.ensures.there T s.shown s.there };
      changed = refl;
      disk = refl;
      faults = looks.world.counts.disk_faults;
      since = λ first s. (s.0, s.1, s.2, s.3, s.4, s.5, looks_then s.6 looks);
      cause = c.context_once.ensures.cause;
    }

pub returns-clause-answer : goal.returns-clause-answer
returns-clause-answer g c = record {
  says = λ T s. subst (λ (o : Option Object). Says {B = Ctx} (λ x. x) (known (as_context o)) c.context_once.result) (sym (now_of T c.args.nid.bits)) (c.context_once.ensures.answer T s.shown s.there);
}
