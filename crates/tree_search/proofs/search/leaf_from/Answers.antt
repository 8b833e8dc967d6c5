use Rattle.std.proofs.Common.{sym, ap, ◌∙◌, arith, Some}
use Rattle.tree_search.proofs.SearchLaws.{leaf-next, leaf-here, leaf-end}
use Rattle.tree_search.proofs.search.leaf_from.Goals as goal

pub returns-then-key-low : goal.returns-then-key-low
returns-then-key-low g c =
    let test = c.loop-i-test.true in
    let count = c.count-i-end.ensures in
    let i = c.loop-i.i in
    let bs = c.args.page.now.entries in
    let key = g.E.Entry.key in
    let reached = c.if-key-low.true in
    let value = c.key.ensures.value in
    let same = ap key c.leaf-entry.ensures in
    ap Some c.leaf-entry.ensures ∙ sym (c.loop-i.invariant ∙ leaf-here key g.E.Entry.entry_of c.args.low i bs (omega (arith, test, count)) (omega (arith, reached, value, same)))

pub loop-i-preserved : goal.loop-i-preserved
loop-i-preserved g c =
    let test = c.loop-i-test.true in
    let count = c.count-i-end.ensures in
    let i = c.loop-i.i in
    let bs = c.args.page.now.entries in
    let key = g.E.Entry.key in
    let less = c.if-key-low.false in
    let value = c.key.ensures.value in
    let same = ap key c.leaf-entry.ensures in
    c.loop-i.invariant ∙ leaf-next key g.E.Entry.entry_of c.args.low i bs (omega (arith, test, count)) (omega (arith, less, value, same))

pub returns : goal.returns
returns g c =
    let test = c.loop-i-test.false in
    let count = c.count-i-end.ensures in
    sym (c.loop-i.invariant ∙ leaf-end g.E.Entry.key g.E.Entry.entry_of c.args.low c.loop-i.i c.args.page.now.entries (omega (arith, test, count)))
