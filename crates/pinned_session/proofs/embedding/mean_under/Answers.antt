use Rattle.std.proofs.Common.{ℕ}
use Rattle.node_port.specs.Nodes.{Nodes}
use Rattle.pinned_views.specs.Telling.{HoldsPinned}
use Rattle.pinned_session.proofs.PinLaws.{has_mapped, over_has, under_has, under_keeps}
use Rattle.pinned_session.proofs.embedding.mean_under.Goals as goal

pub returns-clause-answer : goal.returns-clause-answer
returns-clause-answer g c = λ tidy X h.
    let v = g.W.Outside.view c.args.world.now in
    let over = over_has {told = g.P.Around.told} {pinned = g.K.NodeReader.pinned c.args.store.store.keeper v} tidy X c.requires.told h in
    c.mean-answer.ensures.answer X.tree over.stores.tree.shown over.stores.tree.knows over.order.whole

pub returns-clause-stays : goal.returns-clause-stays
returns-clause-stays g c = λ tidy X h.
    let v = g.W.Outside.view c.args.world.now in
    let w = g.W.Outside.view c.mean-answer.new.w in
    let told = g.P.Around.told in
    let k = c.mean-answer.new.keeper.keeper in
    let looks = c.mean-answer.ensures.looks in
    let holds : Nodes → Type 0 = g.K.NodeReader.holds k w in
    let pinned : ℕ → Nodes → Type 0 = g.K.NodeReader.pinned k w in
    let over = over_has {told = told} {pinned = g.K.NodeReader.pinned c.args.store.store.keeper v} tidy X c.requires.told h in
    let still = has_mapped {holds' = HoldsPinned told holds pinned} tidy X (λ N is. looks.stays N is) looks.counters looks.world over in
    (under_has {told = told} {pinned = pinned} {holds = holds} tidy X still, under_keeps {told = told} {pinned = pinned} {holds = holds} tidy X still)
