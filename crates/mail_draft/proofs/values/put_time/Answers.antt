use Rattle.std.proofs.Common.{rules}
use Rattle.mail_draft.proofs.ValueLaws.{time-fits}
use Rattle.mail_draft.proofs.values.put_time.Goals as goal

pub new-requires : goal.new-requires
new-requires c = time-fits _ (search rules)
