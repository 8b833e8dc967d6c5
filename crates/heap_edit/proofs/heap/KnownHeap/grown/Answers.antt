use Rattle.std.proofs.Common.{◌+◌, ◌*◌, arith}
use Rattle.heap_edit.specs.Known.{blocks_now}
use Rattle.heap_edit.proofs.HeapLaws.{adds-to}
use Rattle.heap_edit.proofs.ItemLaws.{count-fits}
use Rattle.heap_edit.proofs.KnownLaws.{length-now}
use Rattle.heap_edit.proofs.heap.KnownHeap.grown.Goals as goal

pub overflow_add-result : goal.overflow_add-result
overflow_add-result c =
    let few = count-fits c.args.position c.in-Ok.block.now c.args.x.now c.in-Ok-grown.ensures.fit in
    omega (arith, few, c.count.ensures, c.requires.few)

pub returns-in-Ok-grown-clause-adds : goal.returns-in-Ok-grown-clause-adds
returns-in-Ok-grown-clause-adds c = λ old known start.
    adds-to (blocks_now c.args.self.now old) c.args.position c.head_of.result.client c.head_of.result.root (c.args.position * 65536 + (c.from-index.result + 1) * 32) c.in-Ok.block.now c.args.x.now c.in-Ok-grown.block
    (c.in-Ok.ensures.found old known) (omega (arith, c.requires.within, length-now c.args.self.now old)) c.in-Ok-grown.ensures c.head_of.ensures
    (omega (arith, c.from-index.ensures, c.count.ensures))
