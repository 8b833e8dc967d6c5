use Rattle.std.proofs.Common.{◌≡◌, ◌∙◌, ◌+◌, ◌-◌, ap, ℕ, [], get_or, arith}
use Rattle.heap_edit.specs.Items.{items_of}
use Rattle.heap_edit.proofs.ItemLaws.{take-items, take-next}
use Rattle.heap_edit.proofs.block.draft_of.Goals as goal

pub loop-j-preserved : goal.loop-j-preserved
loop-j-preserved c =
    let less : c.loop-j.j + 1 - 1 ≡ c.loop-j.j = omega arith in
    let is = c.slot.ensures.item ∙ ap (λ (n : ℕ). get_or (items_of c.args.b.now) n []) less in
    rw (c.in_ok-push.ensures.ok, c.loop-j.invariant) (take-next c.args.b.now c.loop-j.j c.slot.result.now (omega arith) is)

pub returns : goal.returns
returns c = c.loop-j.invariant ∙ take-items c.args.b.now c.loop-j.j (omega arith)
