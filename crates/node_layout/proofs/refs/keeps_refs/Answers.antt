use Rattle.node_layout.proofs.AfterLaws.{refs-kept}
use Rattle.node_layout.proofs.refs.keeps_refs.Goals as goal

pub returns : goal.returns
returns c = λ find after eof es ds refs edits are lead still. refs-kept find after eof es ds refs edits are lead still
