use Rattle.search_look.proofs.Has.{knows_messages}
use Rattle.search_look.proofs.shown.knows_messages.Goals as goal

pub returns : goal.returns
returns c = knows_messages
