use Rattle.subnode_tree.proofs.TableLaws.{few-listed}
use Rattle.subnode_tree.proofs.tables.tables.Goals as goal

pub top-requires-clause-few : goal.top-requires-clause-few
top-requires-clause-few c = rw (c.as_slice.ensures.value, c.in_ok-blocks.ensures.listed) (few-listed c.args.next c.args.rows.now c.requires.few)
