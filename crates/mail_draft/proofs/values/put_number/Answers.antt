use Rattle.std.proofs.Common.{rules}
use Rattle.mail_draft.proofs.ValueLaws.{number-fits}
use Rattle.mail_draft.proofs.values.put_number.Goals as goal

pub new-requires : goal.new-requires
new-requires c = number-fits _ (search rules)
