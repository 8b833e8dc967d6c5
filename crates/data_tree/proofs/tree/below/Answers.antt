use Rattle.std.proofs.Common.{◌≡◌, true, sym, ap, ◌∙◌}
use Rattle.data_tree.specs.Tree.{below, leaves, is_listing}
use Rattle.data_tree.proofs.BlockSteps.{below-leaves}
use Rattle.data_tree.proofs.Steps.{reads-alone}
use Rattle.data_tree.proofs.tree.below.Goals as goal

pub returns-clause-reads : goal.returns-clause-reads
returns-clause-reads g c =
    let marked = sym c.if-not-is_internal.ensures in
    let block = c.in_ok-block.block in
    let listing : is_listing 1 block ≡ true = ap (is_listing 1) (sym c.as_slice.ensures.value) ∙ sym c.if-not-is_listing.ensures in
    reads-alone (λ bids. bids.items) (g.S.BlockSource.view c.args.s.now) (g.S.BlockSource.view c.fetch.new.s) (leaves c.args.bid c.as_slice-2.result.now)
    (λ find. below find c.args.parent c.args.bid)
    (λ find h. below-leaves find c.args.parent c.args.bid block marked (c.in_ok-block.ensures.reads find h) listing ∙ ap (leaves c.args.bid) (sym c.as_slice-2.ensures.value))
    c.leaves.result c.leaves.ensures
