use Rattle.std.proofs.Common.{rules}
use Rattle.mail_draft.proofs.ValueLaws.{truth-fits}
use Rattle.mail_draft.proofs.values.put_truth.Goals as goal

pub new-requires : goal.new-requires
new-requires c = truth-fits _ (search rules)
