use Rattle.embedded_obj.proofs.HoldLaws.{put-held}
use Rattle.embedded_obj.proofs.law.holds_what_was_put.Goals as goal

pub returns : goal.returns
returns c = put-held
