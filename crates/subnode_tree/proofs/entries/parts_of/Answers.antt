use Rattle.std.proofs.Common.{drop, get_or, arith}
use Rattle.std.proofs.lemmas.Result.{err_from_is_err_and}
use Rattle.data_tree.proofs.Steps.{along-stop}
use Rattle.subnode_tree.specs.declared.blocks.Listed.{Listed}
use Rattle.subnode_tree.specs.Subnodes.{part_of, parts_of}
use Rattle.subnode_tree.proofs.PartSteps.{parts-stop}
use Rattle.subnode_tree.proofs.entries.parts_of.Goals as goal

pub returns-in_err-here-clause-reads : goal.returns-in_err-here-clause-reads
returns-in_err-here-clause-reads g c =
    let none : Listed = record { nid = record { bits = 0 }; block = record { bits = 0 } } in
    let all = c.args.all.now in
    let i = c.loop-listed.listed-index in
    let test = c.loop-listed-test.true in
    let p = err_from_is_err_and c.from_residual.result c.from_residual.ensures.1 in
    rw (p.1, p.2) (along-stop (g.S.BlockSource.view c.args.s.now) (g.S.BlockSource.view c.loop-listed.s) (g.S.BlockSource.view c.part_of.new.s) c.loop-listed.found.items
    (λ find. part_of find c.args.level (get_or all i none)) (λ find. parts_of find c.args.level (drop i all)) (λ find. parts_of find c.args.level all)
    c.loop-listed.invariant (λ find h fault e. parts-stop find c.args.level all i none fault (omega (arith, test)) e) c.in_err-here.field-0.0 c.in_err-here.ensures.reads)
