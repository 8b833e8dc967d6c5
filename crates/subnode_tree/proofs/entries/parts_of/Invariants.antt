use Rattle.std.proofs.Common.{drop}
use Rattle.data_tree.proofs.Steps.{Along}
use Rattle.subnode_tree.specs.Subnodes.{parts_of}
use Rattle.subnode_tree.proofs.entries.parts_of.Given as goal

abbrev pub invariant-loop-listed : goal.invariant-loop-listed
invariant-loop-listed g l =
    Along (g.S.BlockSource.view l.initial.s) (g.S.BlockSource.view l.s) l.found.items (λ find. parts_of find l.level (drop l.listed-index l.all)) (λ find. parts_of find l.level l.all)
