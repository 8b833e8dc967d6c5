use Rattle.std.proofs.Common.{sym, subst, ap, ◌∙◌}
use Rattle.mail_tree.specs.Changing.{as_message, now_at}
use Rattle.mail_tree.specs.Folders.{nid}
use Rattle.mail_tree.specs.Ids.{new_id}
use Rattle.mail_tree.specs.Messages.{new_message}
use Rattle.mail_tree.specs.Step.{outcome}
use Rattle.mail_tree.proofs.AfterTree.{after_now, now_nothing}
use Rattle.mail_laws.specs.MessageLaws.{IsNewMessage}
use Rattle.mail_laws.proofs.Effects.{MadeNew, makes}
use Rattle.mail_laws.proofs.Keeping.{if_weaker}
use Rattle.mail_laws.proofs.LawSteps.{before}
use Rattle.mail_laws.proofs.Newness.{new_values}
use Rattle.mail_laws.proofs.message.makes_bare_message.Goals as goal

pub returns : goal.returns
unfolding outcome
returns c T folder class time values w = if_weaker (MadeNew T folder.bits class time values) _ (new_message T folder.bits class time values) (makes T folder.bits class time values (before T w)) (λ o r.
    let m = new_id 4 r.0 in (
      nid m,
      r.1,
      r.6.0,
      r.5.reply_is,
      ap (λ g. as_message (g m)) (sym (after_now T o)) ∙ ap (λ q. as_message (now_at T o.changed q)) (sym r.2) ∙ r.5.changes_it.here,
      ap (λ g. g 0x21) (sym (now_nothing T)) ∙ r.6.1,
      subst (IsNewMessage m folder.bits class time r.6.0.props values) (sym r.6.2) (new_values m folder.bits class time r.6.0.props values r.6.3),
    ))
