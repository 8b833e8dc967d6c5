use Rattle.std.proofs.Common.{◌≡◌, ◌+◌, length, drop}
use Rattle.pst_base.specs.Subs.{flattened}
use Rattle.data_tree.proofs.Steps.{Along}
use Rattle.subnode_tree.specs.Subnodes.{rows}
use Rattle.subnode_tree.proofs.SubSteps.{sub_row}
use Rattle.subnode_tree.proofs.subs.+subs_from.Given as goal

abbrev pub invariant-loop-entry : goal.invariant-loop-entry
invariant-loop-entry g l =
    let eof = (g.S.BlockSource.view l.fn.s).eof in
    (l.left + length (flattened l.found.items) ≡ l.room)
    × Along (g.S.BlockSource.view l.initial.s) (g.S.BlockSource.view l.s) (flattened l.found.items) (λ find. rows (sub_row find eof l.deeper) l.left (drop l.entry-index l.entry-items))
    (λ find. rows (sub_row find eof l.deeper) l.room l.entry-items)

abbrev pub decreases-subs_from : goal.decreases-subs_from
decreases-subs_from g l = l.deeper
