use Rattle.file_layout.proofs.RiseLaws.{whole-rises}
use Rattle.file_layout.proofs.trees.keys_rise.Goals as goal

pub returns : goal.returns
returns c = whole-rises
