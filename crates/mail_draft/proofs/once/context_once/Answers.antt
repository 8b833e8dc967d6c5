use Rattle.mail_tree.specs.Tree.{object_at}
use Rattle.mail_draft.proofs.SeenLaws.{there_put}
use Rattle.mail_draft.proofs.once.context_once.Goals as goal

pub returns-clause-there : goal.returns-clause-there
returns-clause-there g c = λ T s there.
    there_put (object_at T) c.args.nid.bits c.in_ok-context.context _ _ (rw c.in_ok-copy-2.ensures at c.in_ok-keep.ensures.ok) (c.in_ok-context.ensures.answer T s) there
