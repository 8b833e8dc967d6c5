use Rattle.staged_store.proofs.TellLaws.{keeps_under, stores_over}
use Rattle.staged_store.proofs.reading.mean_under.Goals as goal

pub returns-clause-answer : goal.returns-clause-answer
returns-clause-answer g c = λ base tidy F X was h.
    let v = g.W.Outside.view c.args.world.now in
    let over = stores_over g.P.AroundStaged.held g.P.AroundStaged.told g.P.AroundStaged.last g.P.AroundStaged.staged (g.K.NodeReader.holds c.args.keeper v) (g.K.NodeReader.pinned c.args.keeper v) (g.K.NodeReader.last c.args.keeper) (g.K.NodeReader.room c.args.keeper) c.args.staging.now base c.args.known.now c.args.searches.now tidy F X c.requires.held c.requires.told c.requires.counted c.requires.staged was h in
    c.mean-answer.ensures.answer X.tree over.tree.shown over.tree.knows h.order.whole

pub returns-clause-stays : goal.returns-clause-stays
returns-clause-stays g c = λ base tidy F X was h.
    let v = g.W.Outside.view c.args.world.now in
    let over = stores_over g.P.AroundStaged.held g.P.AroundStaged.told g.P.AroundStaged.last g.P.AroundStaged.staged (g.K.NodeReader.holds c.args.keeper v) (g.K.NodeReader.pinned c.args.keeper v) (g.K.NodeReader.last c.args.keeper) (g.K.NodeReader.room c.args.keeper) c.args.staging.now base c.args.known.now c.args.searches.now tidy F X c.requires.held c.requires.told c.requires.counted c.requires.staged was h in
    let w = g.W.Outside.view c.mean-answer.new.w in
    let k = c.mean-answer.new.keeper in
    let looks = c.mean-answer.ensures.looks in
    let M = over.tree.shown.nodes in
    keeps_under g.P.AroundStaged.held g.P.AroundStaged.told g.P.AroundStaged.last g.P.AroundStaged.staged (g.K.NodeReader.holds k.keeper w) (g.K.NodeReader.pinned k.keeper w) (g.K.NodeReader.last k.keeper) (g.K.NodeReader.room k.keeper) (g.K.NodeReader.room c.args.keeper) k.staging.now c.args.staging.now k.done M (looks.stays M over.tree.shown.held) c.requires.are looks.space
