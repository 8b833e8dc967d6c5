use Rattle.std.proofs.Common.{subst, sym}
use Rattle.mail_tree.specs.Changing.{nothing, now_at}
use Rattle.mail_laws.specs.Laws.{AreShown, Mirrors}
use Rattle.mail_tree.specs.Step.{after, outcome}
use Rattle.mail_tree.proofs.AfterTree.{after_now, now_nothing}
use Rattle.mail_laws.proofs.Keeping.{if_weaker}
use Rattle.mail_laws.proofs.LawSteps.{before}
use Rattle.mail_laws.proofs.MirrorCommands.{mirrored_after}
use Rattle.mail_laws.proofs.MirrorPuts.{AreShownBut, all_shown, shown_but}
use Rattle.mail_laws.proofs.law.mirrors_stay.Goals as goal

pub returns : goal.returns
returns c T command w s =
    if_weaker (λ o. AreShownBut (λ x. ⊥) o.places (now_at T o.changed)) (λ o. Mirrors (after T o)) (outcome T command)
    (mirrored_after T (before T w) (shown_but T.places (now_at T nothing) (subst (AreShown T.places) (sym (now_nothing T)) s)) command)
    (λ o k. subst (AreShown o.places) (after_now T o) (all_shown o.places (now_at T o.changed) k))
