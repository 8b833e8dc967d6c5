use Rattle.std.proofs.Common.{sym, subst, ap, ◌∙◌}
use Rattle.mail_tree.specs.Changing.{as_message, now_at}
use Rattle.mail_tree.specs.Folders.{nid}
use Rattle.mail_tree.specs.Ids.{new_id}
use Rattle.mail_tree.specs.Messages.{new_message, plain_message}
use Rattle.mail_tree.specs.Step.{outcome}
use Rattle.mail_tree.specs.Values.{finished, message_props}
use Rattle.mail_tree.proofs.AfterTree.{after_now}
use Rattle.mail_laws.specs.MessageLaws.{TellsOfItself}
use Rattle.mail_laws.proofs.Effects.{MadeNew, makes}
use Rattle.mail_laws.proofs.Finishing.{tells_finished}
use Rattle.mail_laws.proofs.Keeping.{if_weaker}
use Rattle.mail_laws.proofs.LawSteps.{before}
use Rattle.mail_laws.proofs.Telling.{MadeRight, made_right}
use Rattle.mail_laws.proofs.message.tell_rightly.Goals as goal

pub returns : goal.returns
unfolding outcome
returns c = record {
  makes = λ T folder class time values w. if_weaker (MadeNew T folder.bits class time values) _ (new_message T folder.bits class time values) (makes T folder.bits class time values (before T w)) (λ o r.
      let m = new_id 4 r.0 in (
        nid m,
        r.1,
        r.5.reply_is,
        ap (λ g. as_message (g m)) (sym (after_now T o)) ∙ ap (λ q. as_message (now_at T o.changed q)) (sym r.2) ∙ r.5.changes_it.here,
        subst TellsOfItself (sym r.6.2) (tells_finished (plain_message m folder.bits (message_props m class time r.6.0.props values))),
      ));
  changed = λ T c m w e. if_weaker (MadeRight T m) _ (outcome T c) (made_right T (before T w) c m e) (λ o k. (finished k.0, ap (λ g. as_message (g m)) (sym (after_now T o)) ∙ k.1, tells_finished k.0));
}
