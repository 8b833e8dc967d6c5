use Rattle.embedded_obj.proofs.HoldLaws.{laid-held}
use Rattle.embedded_obj.proofs.law.holds_what_was_laid.Goals as goal

pub returns : goal.returns
returns c = laid-held
