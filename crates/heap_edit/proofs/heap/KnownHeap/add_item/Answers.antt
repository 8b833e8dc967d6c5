use Rattle.std.proofs.Common.{◌≡◌, ◌-◌, ◌++◌, ◌∷◌, ℕ, [], false, inl, inr, length, get_or, sym, ap, subst, arith}
use Rattle.std.proofs.lemmas.Bool.{cases_lt}
use Rattle.heap_on_node.specs.Packing.{fit_block}
use Rattle.heap_edit.specs.Edits.{with_at}
use Rattle.heap_edit.specs.Items.{items_of}
use Rattle.heap_edit.specs.Known.{AreKnown, Known, blocks_now}
use Rattle.heap_edit.proofs.EditLaws.{length-with_at-in}
use Rattle.heap_edit.proofs.KnownLaws.{length-now}
use Rattle.heap_edit.proofs.heap.KnownHeap.add_item.Goals as goal

pub returns-clause-tight : goal.returns-clause-tight
returns-clause-tight c = λ old known start.
    let made =
    subst (λ (e : Known). AreKnown e old → AreKnown c.put.new.self old × (blocks_now c.put.new.self old ≡ with_at (blocks_now e old) c.in-Ok.new.position c.in-Ok.new.block)) c.self.view_is
    (c.in_ok-put.ensures.ok old) known in
    let size = length-now c.args.self.now old in (
      made.0,
      λ grew.
          let end : c.in-Ok.new.position ≡ c.args.self.now.len = elim (cases_lt c.in-Ok.new.position c.args.self.now.len) [
            | inl low ↦ absurd (omega (arith, grew, ap length made.1, length-with_at-in (blocks_now c.args.self.now old) c.in-Ok.new.position c.in-Ok.new.block (omega (arith, size, low)), size))
            | inr high ↦ omega (arith, high, c.in-Ok.ensures.within)
          ] in
          subst (λ (n : ℕ). fit_block (n - 1) (items_of (get_or (blocks_now c.args.self.now old) (n - 1) []) ++ c.args.x.now ∷ []) ≡ false) (sym size) (c.in-Ok.ensures.tight end old known),
    )
