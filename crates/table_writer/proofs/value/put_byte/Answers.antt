use Rattle.std.proofs.Common.{◌≡◌, ◌∙◌, ℕ, List, get_or, set, sym, ap, arith}
use Rattle.table_writer.proofs.ColumnFillLaws.{get-any}
use Rattle.table_writer.proofs.SinglesLaws.{byte-puts, known-puts}
use Rattle.table_writer.proofs.value.put_byte.Goals as goal

pub returns-then-known-ne0-clause-puts : goal.returns-then-known-ne0-clause-puts
returns-then-known-ne0-clause-puts c =
    let known : c.index-known.result.now ≡ get_or c.args.made.singles.items c.args.byte 0 =
    c.index-known.ensures ∙ get-any c.args.made.singles.items c.from.result c.index-known.result.now 0 (omega (arith, c.requires.made.singles.count, c.from.ensures)) ∙ ap (λ (n : ℕ). get_or c.args.made.singles.items n 0) c.from.ensures in
    known-puts c.args.made c.args.byte c.index-known.result.now c.requires.made known c.if-known-ne0.true

pub returns-clause-puts : goal.returns-clause-puts
returns-clause-puts c =
    let known : c.index-known.result.now ≡ get_or c.args.made.singles.items c.args.byte 0 =
    c.index-known.ensures ∙ get-any c.args.made.singles.items c.from.result c.index-known.result.now 0 (omega (arith, c.requires.made.singles.count, c.from.ensures)) ∙ ap (λ (n : ℕ). get_or c.args.made.singles.items n 0) c.from.ensures in
    byte-puts c.args.made _ c.args.byte c.in_ok-made.hid c.requires.made c.in_ok-made.ensures.made.packed c.in_ok-made.ensures.adds c.in_ok-made.ensures.subs
    (ap (λ (n : ℕ). set c.in_ok-made.made.singles.items n c.in_ok-made.hid) c.from-2.ensures ∙ ap (λ (hids : List ℕ). set hids c.args.byte c.in_ok-made.hid) c.in_ok-made.ensures.singles)
    (omega arith) (sym known ∙ c.if-known-ne0.false)
