use Rattle.std.proofs.Common.{ℕ}
use Rattle.mail_searches.specs.Searching.{Searching}
use Rattle.node_port.specs.Nodes.{Nodes}
use Rattle.pinned_views.specs.Telling.{HoldsPinned, KeepsTold}
use Rattle.store_session.specs.Carrying.{Has, StandsOrdered}
use Rattle.store_session.specs.Disks.{effects_of, medium}
use Rattle.store_session.specs.Run.{CommandAnswers}
use Rattle.pinned_session.proofs.LineLaws.{carries_both}
use Rattle.pinned_session.proofs.PinLaws.{over_has, under_has, under_keeps}
use Rattle.pinned_session.proofs.commands.carry_under.Goals as goal

pub returns-clause-carries : goal.returns-clause-carries
returns-clause-carries g c = λ tidy X h tells.
    let v = g.W.Outside.view c.args.world.now in
    let w = g.W.Outside.view c.carry_out-answer.new.world in
    let told = g.P.Around.told in
    let k = c.args.store.store.keeper in
    let room = g.K.NodeReader.room k in
    let done = c.carry_out-answer.new.store in
    let now = done.store.keeper.keeper in
    let holds : Nodes → Type 0 = g.K.NodeReader.holds now w in
    let pinned : ℕ → Nodes → Type 0 = g.K.NodeReader.pinned now w in
    let last = g.K.NodeReader.last now in
    carries_both (λ (Y : Searching). Has (HoldsPinned told holds pinned) last done.store.known done.searches g.K.Keeper.rests w tidy Y) (λ Y. Has holds last done.store.known done.searches g.K.Keeper.rests w tidy Y) (λ Y. KeepsTold told pinned)
    (StandsOrdered tidy (g.K.Keeper.stands room.found)) (λ asked. CommandAnswers (effects_of room.pins g.K.Keeper.measures g.K.Keeper.applied g.K.Saver.saved) room X (medium v) asked c.args.command.now)
    (λ Y is. under_has tidy Y is) (λ Y is. under_keeps tidy Y is) v w X c.carry_out-answer.result (c.carry_out-answer.ensures.carries tidy X (over_has {told = told} {pinned = g.K.NodeReader.pinned k v} tidy X c.requires.told h) tells)
