use Rattle.node_port.specs.Nodes.{node_at}
use Rattle.mail_draft.proofs.RowLookLaws.{look-said}
use Rattle.mail_draft.proofs.row_look.row_by_blocks.Goals as goal

pub returns-in-Ok-clause-answer : goal.returns-in-Ok-clause-answer
returns-in-Ok-clause-answer g c = λ T s.
    let q = c.args.table.bits in
    look-said T q c.args.row.bits (node_at s.nodes q) (node_at T.others q) c.loop.heap c.in-Ok.has (s.at q) (c.loop.invariant.known s.nodes s.held) c.in-Ok.ensures
