use Rattle.content_glance.proofs.RowLaws.{tells-known}
use Rattle.content_glance.proofs.looking.look_for_row.Goals as goal

pub returns-in-Ok : goal.returns-in-Ok
returns-in-Ok c = tells-known c.args.heap.now c.args.id c.in_ok-index.index c.in-Ok.entry c.is_some.result c.in_ok-index.ensures c.in-Ok.ensures.found c.is_some.ensures
