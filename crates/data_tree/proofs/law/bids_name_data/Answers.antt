use Rattle.data_tree.proofs.NamedLaws.{bids-name}
use Rattle.data_tree.proofs.law.bids_name_data.Goals as goal

pub returns : goal.returns
returns c = bids-name
