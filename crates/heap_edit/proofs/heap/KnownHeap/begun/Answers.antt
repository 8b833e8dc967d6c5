use Rattle.std.proofs.Common.{ap, refl, arith}
use Rattle.heap_edit.specs.Known.{Known, blocks_now}
use Rattle.heap_edit.proofs.HeapLaws.{adds-new, start-some}
use Rattle.heap_edit.proofs.KnownLaws.{length-now}
use Rattle.heap_edit.proofs.heap.KnownHeap.begun.Goals as goal

pub returns-in-Ok-clause-adds : goal.returns-in-Ok-clause-adds
returns-in-Ok-clause-adds c = λ old known start.
    let size = length-now c.args.self.now old in
    let len = ap (λ (e : Known). e.len) c.self.view_is in
    let some = start-some (blocks_now c.args.self.now old) start in
    adds-new (blocks_now c.args.self.now old) c.count-position.result _ c.args.x.now c.in-Ok.block (omega (arith, size, len, c.count-position.ensures.len)) (omega (arith, size, len, some, c.count-position.ensures.len)) c.in-Ok.ensures refl
