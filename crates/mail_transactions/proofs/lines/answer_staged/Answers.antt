use Rattle.mail_transactions.specs.State.{underway}
use Rattle.mail_transactions.proofs.TurnLaws.{is_underway, responds_within}
use Rattle.mail_transactions.proofs.lines.answer_staged.Goals as goal

pub returns-clause-responds : goal.returns-clause-responds
returns-clause-responds g c = λ found tidy i S h.
    let view = g.W.Outside.view in
    let holds = g.K.NodeReader.holds in
    let last = g.K.NodeReader.last in
    let told = g.K.NodeReader.pinned in
    let room = g.K.NodeReader.room in
    let rests = g.K.Keeper.rests in
    let under = is_underway view holds last told room rests c.args.pinned c.args.transaction c.args.world.now found tidy i S h in
    responds_within view holds last told room rests c.args.pinned c.args.transaction c.answer_within-under.result.0 c.args.world.now c.answer_within-under.new.world found tidy i S h
    (c.answer_within-under.ensures.stays h.base tidy (underway S i) h.held under) c.answer_within-under.ensures.same c.args.asked.now c.answer_within-under.result.1 (c.answer_within-under.ensures.responds h.base tidy (underway S i) h.held under)
