use Rattle.heap_on_node.specs.Heap.{item}
use Rattle.bth_tree.specs.Tree.{bth}
use Rattle.bth_tree.proofs.ReadLaws.{ascends}
use Rattle.bth_tree.proofs.WholeLaws.{bth-within}
use Rattle.bth_tree.proofs.read.bth_read.Goals as goal

pub returns-clause-ascend : goal.returns-clause-ascend
returns-clause-ascend c =
    ascends c.read_all.result (bth (item c.args.h.now) c.args.hid c.args.key_len c.args.ent_len) c.read_all.ensures.exact (bth-within (item c.args.h.now) c.args.hid c.args.key_len c.args.ent_len)
