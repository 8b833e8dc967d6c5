use Rattle.std.proofs.Common.{◌∙◌, sym}
use Rattle.mail_draft.proofs.UnreadLaws.{unread_known}
use Rattle.mail_draft.proofs.unread.kept_unread.Goals as goal

pub returns-in-Some-clause-answer : goal.returns-in-Some-clause-answer
returns-in-Some-clause-answer g c = λ T s are. unread_known T c.args.nid.bits c.in-Some.unread c.args.flags.now are (sym c.get.ensures ∙ c.in-Some.is)
