use Rattle.std.proofs.Common.{◌≡◌, [], get_or, subst, arith}
use Rattle.heap_edit.specs.Known.{AreKnown, Known, blocks_now}
use Rattle.heap_edit.proofs.KnownLaws.{length-now, no-map}
use Rattle.heap_edit.proofs.heap.KnownHeap.block.Goals as goal

pub returns-then-not-has_map-clause-why : goal.returns-then-not-has_map-clause-why
returns-then-not-has_map-clause-why c = λ old known start.
    let found = subst (λ (e : Known). AreKnown e old → c.in-Ok.block.now ≡ get_or (blocks_now e old) c.args.k []) c.self.view_is (c.in-Ok.ensures.found old) in
    no-map (blocks_now c.args.self.now old) c.args.k c.in-Ok.block.now c.has_map.result c.if-not-has_map.true c.has_map.ensures.1 (found known)
    (omega (arith, c.requires, length-now c.args.self.now old)) start
