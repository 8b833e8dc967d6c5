use Rattle.heap_edit.specs.Known.{blocks_now}
use Rattle.heap_edit.proofs.HeapLaws.{sets-root, start-some}
use Rattle.heap_edit.proofs.heap.KnownHeap.rooted.Goals as goal

pub returns-in-Ok-laid_with-clause-sets : goal.returns-in-Ok-laid_with-clause-sets
returns-in-Ok-laid_with-clause-sets c = λ old known start.
    sets-root (blocks_now c.args.self.now old) c.u8_at.result c.args.root c.in-Ok.block.now c.in-Ok-laid_with.laid (start-some (blocks_now c.args.self.now old) start)
    (c.in-Ok.ensures.found old known) c.u8_at.ensures c.in-Ok-laid_with.ensures
