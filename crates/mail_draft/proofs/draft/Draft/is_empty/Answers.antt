use Rattle.mail_draft.proofs.DraftLaws.{some_changes}
use Rattle.mail_draft.proofs.draft.Draft.is_empty.Goals as goal

pub returns-clause-some : goal.returns-clause-some
returns-clause-some c = some_changes c.is_empty.result c.args.self.now.objects.entries c.is_empty.ensures.1
