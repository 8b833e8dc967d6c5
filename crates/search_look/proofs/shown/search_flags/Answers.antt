use Rattle.search_look.proofs.Without.{search_flags}
use Rattle.search_look.proofs.shown.search_flags.Goals as goal

pub returns : goal.returns
returns c = search_flags
