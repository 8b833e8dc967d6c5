use Rattle.std.proofs.Common.{ℕ, ap, Option, arith}
use Rattle.tree_edit.proofs.CutLaws.{edits-front, edits-back}
use Rattle.tree_edit.proofs.descent.count_up_to.Goals as goal

pub returns-else-edits-n-clause-front : goal.returns-else-edits-n-clause-front
returns-else-edits-n-clause-front g c = λ low end are le. edits-front g.E.Entry.key low end c.args.high c.loop-n.n c.args.edits.now c.loop-n.invariant.within c.loop-n.invariant.under are

pub returns-else-edits-n-clause-back : goal.returns-else-edits-n-clause-back
returns-else-edits-n-clause-back g c = λ low end are le.
    edits-back g.E.Entry.key low end c.args.high c.loop-n.n c.args.edits.now c.index-edits-n.result (λ less. let is = ap (λ (x : ℕ × Option _). x.0) c.index-edits-n.is in let test = c.if-edits-n.false in omega arith) are

pub returns-after-loop-n-clause-front : goal.returns-after-loop-n-clause-front
returns-after-loop-n-clause-front g c = λ low end are le. edits-front g.E.Entry.key low end c.args.high c.loop-n.n c.args.edits.now c.loop-n.invariant.within c.loop-n.invariant.under are
