use Rattle.std.proofs.Common.{◌∙◌, arith}
use Rattle.tree_edit.proofs.MergeLaws.{rest-step}
use Rattle.tree_edit.proofs.merge.push_leaf.Goals as goal

pub loop-i-preserved : goal.loop-i-preserved
loop-i-preserved g c =
    let test = c.loop-i-test.true in
    let count = c.count-i-end.ensures in
    rest-step g.E.Entry.entry_of c.args.page.now.entries c.loop-i.i c.leaf.result (omega (arith, test, count)) c.leaf.ensures c.loop-i.out.items c.push.new.self.items c.in_ok-push.ensures.items ∙ c.loop-i.invariant
