use Rattle.node_layout.proofs.AfterLaws.{freed-right}
use Rattle.node_layout.proofs.refs.frees_unused.Goals as goal

pub returns : goal.returns
returns c = λ find after old bd es new refs next edits frees before here key e there none. freed-right find after old bd es new refs next edits frees before here key e there none
