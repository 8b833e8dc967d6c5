use Rattle.std.proofs.Common.{◌≡◌, ◌∙◌, ◌+◌, ◌-◌, ◌*◌, ◌++◌, ◌∷◌, [], suc, ℕ, List, sym, ap, append_assoc, arith}
use Rattle.table_writer.specs.Bits.{bits, octet}
use Rattle.table_writer.proofs.row.push_bits.Goals as goal

pub loop-i-preserved : goal.loop-i-preserved
loop-i-preserved c =
    let m = c.args.marks.now in
    let count : c.args.count - c.loop-i.i ≡ suc (c.args.count - (c.loop-i.i + 1)) = omega arith in
    let place : 8 * (c.loop-i.i + 1) ≡ 8 * c.loop-i.i + 8 = omega arith in
    ap (λ (xs : List ℕ). xs ++ bits (c.args.count - (c.loop-i.i + 1)) (8 * (c.loop-i.i + 1)) m) (c.in_ok-push.ensures.items ∙ ap (λ (n : ℕ). c.loop-i.row.items ++ n ∷ []) c.octet.ensures)
    ∙ append_assoc c.loop-i.row.items (octet (8 * c.loop-i.i) m ∷ []) (bits (c.args.count - (c.loop-i.i + 1)) (8 * (c.loop-i.i + 1)) m)
    ∙ ap (λ (n : ℕ). c.loop-i.row.items ++ octet (8 * c.loop-i.i) m ∷ bits (c.args.count - (c.loop-i.i + 1)) n m) place
    ∙ sym (ap (λ (n : ℕ). c.loop-i.row.items ++ bits n (8 * c.loop-i.i) m) count)
    ∙ c.loop-i.invariant
