use Rattle.search_lists.proofs.PlainLaws.{plain_commands_stay}
use Rattle.search_lists.proofs.law.plain_commands_stay.Goals as goal

pub returns : goal.returns
returns c = plain_commands_stay
