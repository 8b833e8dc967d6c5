use Rattle.std.proofs.Common.{◌≡◌, ◌+◌, ℕ, cond, not, arith}
use Rattle.alloc_map.specs.Slots.{is_used}
use Rattle.alloc_map.proofs.CellLaws.{clear-more, count_small}
use Rattle.alloc_map.proofs.bits.Bits.clear_before.Goals as goal
use Rattle.alloc_map.proofs.bits.Bits.clear_before.Goals.{then-not-get, else-not-get}

pub overflow_add-clear : goal.overflow_add-clear
overflow_add-clear c = omega (arith, c.loop-at.invariant, count_small (λ (at : ℕ). not (is_used c.args.self.now at)) c.loop-at.at)

pub loop-at-preserved : goal.loop-at-preserved
loop-at-preserved c =
    let new : c.if-not-get.clear ≡ c.loop-at.clear + cond (not c.get.result) 1 0 = elim c.if-not-get.branch [
      | then-not-get w ↦ rw w.if-not-get.true w.clear-is
      | else-not-get w ↦ rw w.if-not-get.false (omega (arith, w.clear-is))
    ] in
    clear-more c.args.self.now c.loop-at.at c.loop-at.clear c.if-not-get.clear c.get.result c.get.ensures c.loop-at.invariant new
