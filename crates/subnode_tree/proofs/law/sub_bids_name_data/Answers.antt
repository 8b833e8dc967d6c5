use Rattle.subnode_tree.proofs.NamedLaws.{sub-bids-name}
use Rattle.subnode_tree.proofs.law.sub_bids_name_data.Goals as goal

pub returns : goal.returns
returns c = sub-bids-name
