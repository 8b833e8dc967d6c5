use Rattle.std.proofs.Common.{◌∙◌, sym, arith}
use Rattle.file_layout.proofs.SeatLaws.{span-next, span-low, span-high}
use Rattle.file_layout.proofs.tree_pages.in_span.Goals.{then-key-low-via-then-key-low, then-key-low-via-else-key-low+then-high-key}
use Rattle.file_layout.proofs.tree_pages.in_span.Goals as goal

pub returns-then-key-low : goal.returns-then-key-low
returns-then-key-low g c =
    let test = c.loop-i-test.true in
    let count = c.count-i-end.ensures in
    elim c.then-key-low.branch [
      | then-key-low-via-then-key-low w ↦ sym (c.loop-i.invariant ∙ span-low g.E.Entry.rule c.args.page.now.entries c.loop-i.i c.args.low c.args.high c.key_at-key.result (omega (arith, test, count)) c.key_at-key.ensures w.if-key-low.true)
      | then-key-low-via-else-key-low+then-high-key w ↦ sym (c.loop-i.invariant ∙ span-high g.E.Entry.rule c.args.page.now.entries c.loop-i.i c.args.low c.args.high c.key_at-key.result (omega (arith, test, count)) c.key_at-key.ensures w.if-key-low.false w.if-high-key.true)
    ]

pub loop-i-preserved : goal.loop-i-preserved
loop-i-preserved g c =
    let test = c.loop-i-test.true in
    let count = c.count-i-end.ensures in
    c.loop-i.invariant ∙ span-next g.E.Entry.rule c.args.page.now.entries c.loop-i.i c.args.low c.args.high c.key_at-key.result (omega (arith, test, count)) c.key_at-key.ensures c.if-key-low.false c.if-high-key.false
