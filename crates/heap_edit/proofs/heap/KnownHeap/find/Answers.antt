use Rattle.std.proofs.Common.{◌≡◌, ◌∙◌, ◌+◌, ◌-◌, ℕ, List, [], Some, get_or, sym, ap, arith}
use Rattle.heap_on_node.specs.Heap.{count_of}
use Rattle.heap_edit.specs.Items.{items_of}
use Rattle.heap_edit.specs.Known.{Known, blocks_now}
use Rattle.heap_edit.proofs.HeapLaws.{item-in, item-over, item-past}
use Rattle.heap_edit.proofs.KnownLaws.{length-now}
use Rattle.heap_edit.proofs.heap.KnownHeap.find.Goals as goal

pub returns-then-k-count-clause-found : goal.returns-then-k-count-clause-found
returns-then-k-count-clause-found c = λ old known start.
    let size = length-now c.args.self.now old in
    let len = ap (λ (e : Known). e.len) c.self.view_is in
    sym (item-past (blocks_now c.args.self.now old) c.args.hid (omega (arith, size, len, c.count.ensures.len, c.if-k-count.true, c.in-Some.ensures.1)))

pub returns-then-at-count-clause-found : goal.returns-then-at-count-clause-found
returns-then-at-count-clause-found c = λ old known start.
    let is = c.in-Ok.ensures.found old known ∙ ap (λ (n : ℕ). get_or (blocks_now c.args.self.now old) n []) c.in-Some.ensures.1 in
    sym (item-over (blocks_now c.args.self.now old) c.args.hid c.in-Some.at c.in-Some.ensures.0 c.in-Some.ensures.2 (omega (arith, ap count_of is, c.count-2.ensures, c.if-at-count.true)))

pub returns-clause-found : goal.returns-clause-found
returns-clause-found c = λ old known start.
    let is = c.in-Ok.ensures.found old known ∙ ap (λ (n : ℕ). get_or (blocks_now c.args.self.now old) n []) c.in-Some.ensures.1 in
    let less : c.in-Some.at + 1 - 1 ≡ c.in-Some.at = omega arith in
    ap Some (c.slot.ensures.item
    ∙ ap (λ (n : ℕ). get_or (items_of c.in-Ok.block.now) n []) less ∙ ap (λ (b : List ℕ). get_or (items_of b) c.in-Some.at []) is)
    ∙ sym (item-in (blocks_now c.args.self.now old) c.args.hid c.in-Some.at c.in-Some.ensures.0 c.in-Some.ensures.2 (omega (arith, ap count_of is, c.count-2.ensures, c.if-at-count.false)))
