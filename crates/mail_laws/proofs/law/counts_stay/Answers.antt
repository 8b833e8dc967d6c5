use Rattle.std.proofs.Common.{subst, sym}
use Rattle.mail_laws.specs.Laws.{AreCountedBut, Counts}
use Rattle.mail_tree.specs.Step.{after, outcome}
use Rattle.mail_tree.specs.Changing.{now_at}
use Rattle.mail_tree.proofs.AfterTree.{after_now, now_nothing}
use Rattle.mail_laws.proofs.CountCommands.{counted_after}
use Rattle.mail_laws.proofs.Keeping.{if_weaker}
use Rattle.mail_laws.proofs.LawSteps.{before}
use Rattle.mail_laws.proofs.law.counts_stay.Goals as goal

pub returns : goal.returns
returns c T command w s =
    if_weaker (λ o. AreCountedBut (λ x. ⊥) o.places (now_at T o.changed)) (λ o. Counts (after T o)) (outcome T command)
    (counted_after T (before T w) (λ x. ⊥) (subst (AreCountedBut (λ x. ⊥) T.places) (sym (now_nothing T)) s) command)
    (λ o k. subst (AreCountedBut (λ x. ⊥) o.places) (after_now T o) k)
