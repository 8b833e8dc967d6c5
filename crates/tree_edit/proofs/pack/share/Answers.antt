use Rattle.std.proofs.Common.{◌-◌, arith}
use Rattle.tree_edit.proofs.CountLaws.{share-all, share-some, share-most}
use Rattle.tree_edit.proofs.pack.share.Goals as goal

pub returns-then-left-most-clause-few : goal.returns-then-left-most-clause-few
returns-then-left-most-clause-few c = share-all c.args.most c.args.left

pub returns-then-left-most-2-clause-few : goal.returns-then-left-most-2-clause-few
returns-then-left-most-2-clause-few c =
    let over = c.if-left-most.false in
    let high = c.requires.high in
    let least = c.quarter-least.ensures in
    share-some c.args.most c.args.left (c.args.left - c.quarter-least.result) (omega (arith, over)) (omega (arith, least, over, high))

pub returns-clause-few : goal.returns-clause-few
returns-clause-few c = share-most c.args.most c.args.left
