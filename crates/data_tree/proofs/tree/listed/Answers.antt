use Rattle.std.proofs.Common.{sym, ◌∙◌}
use Rattle.data_tree.specs.Tree.{listed, leaves}
use Rattle.data_tree.proofs.BlockSteps.{listed-leaves}
use Rattle.data_tree.proofs.Steps.{reads-alone}
use Rattle.data_tree.proofs.tree.listed.Goals as goal

pub returns-then-is_listing-clause-reads : goal.returns-then-is_listing-clause-reads
returns-then-is_listing-clause-reads g c =
    let listing = sym c.is_listing.ensures ∙ c.if-is_listing.true in
    reads-alone (λ bids. bids.items) (g.S.BlockSource.view c.args.s.now) (g.S.BlockSource.view c.args.s.now) (leaves c.args.bid c.args.b.now)
    (λ find. listed find c.args.bid c.args.b.now) (λ find h. listed-leaves find c.args.bid c.args.b.now listing) c.leaves.result c.leaves.ensures
