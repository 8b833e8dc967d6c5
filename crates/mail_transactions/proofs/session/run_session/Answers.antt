use Rattle.std.proofs.Common.{None, refl, subst, sym}
use Rattle.node_port.specs.Pins.{Pins}
use Rattle.staged_store.specs.pinned_session.store_session.Disks.{Effects, effects_of, medium}
use Rattle.staged_store.specs.pinned_session.store_session.Session.{HasCause}
use Rattle.staged_store.specs.pinned_session.store_session.declared.session.SessionEnd.TheVariants.{Memory}
use Rattle.mail_transactions.specs.Session.{SessionEnds}
use Rattle.mail_transactions.specs.Stands.{IsOrdered, StandsCommitted, room_of}
use Rattle.mail_transactions.specs.State.{begins}
use Rattle.staged_store.specs.pinned_session.Sitting.{begins as begins_sitting}
use Rattle.mail_transactions.proofs.Ending.{ends_by_memory, has_cause, session_ends}
use Rattle.mail_transactions.proofs.Keeps.{has_state, here_in, line_answers, line_stops, session_keeps}
use Rattle.mail_transactions.proofs.StandLaws.{session_first}
use Rattle.mail_transactions.proofs.session.run_session.Goals as goal

pub returns-in-Ok-clause-ends : goal.returns-in-Ok-clause-ends
returns-in-Ok-clause-ends g c = λ tidy X h none tells.
    let view = g.W.Outside.view in
    let holds = g.K.NodeReader.holds in
    let last = g.K.NodeReader.last in
    let pinned = g.K.NodeReader.pinned in
    let room = g.K.NodeReader.room in
    let disk = g.K.NodeReader.has_disk in
    let stands = g.K.Keeper.stands in
    let rests = g.K.Keeper.rests in
    let effects : Pins → Effects = λ p. effects_of p g.K.Keeper.measures g.K.Keeper.applied g.K.Saver.saved in
    let found = (room c.args.store.store.keeper).found in
    subst (λ e. SessionEnds effects (StandsCommitted stands found tidy) (IsOrdered tidy) rests (medium (view c.args.world.now)) (view c.args.world.now) (view c.serve.new.world) (begins X) e) (sym c.end_of.ensures)
    (session_ends view disk (has_state view holds last pinned room disk stands rests effects found tidy) (StandsCommitted stands found tidy) (IsOrdered tidy) rests effects (λ a. room_of room a.session)
    (line_answers view holds last pinned room disk stands rests effects) (line_stops view holds last pinned room disk stands rests effects)
    (session_keeps view holds last pinned room disk stands rests effects g.met.K.NodeReader.holds_on g.met.K.NodeReader.pinned_on g.met.K.Keeper.held_stands (λ k w N is. (g.met.K.Keeper.held_measures k w N is, refl)) g.met.K.Keeper.stands_on g.met.K.Keeper.rests_on found tidy)
    _ c.serve.new.answerer c.args.world.now c.serve.new.world (begins X) (session_first view holds last pinned room rests c.new.result c.args.store c.args.world.now tidy X c.new.ensures.store c.new.ensures.given c.new.ensures.pins c.new.ensures.views c.new.ensures.none h none) tells c.in-Ok.end c.in-Ok.ensures.ends)

pub returns-in-Ok-clause-cause : goal.returns-in-Ok-clause-cause
returns-in-Ok-clause-cause g c =
    let view = g.W.Outside.view in
    let holds = g.K.NodeReader.holds in
    let last = g.K.NodeReader.last in
    let pinned = g.K.NodeReader.pinned in
    let room = g.K.NodeReader.room in
    let disk = g.K.NodeReader.has_disk in
    let stands = g.K.Keeper.stands in
    let rests = g.K.Keeper.rests in
    let effects : Pins → Effects = λ p. effects_of p g.K.Keeper.measures g.K.Keeper.applied g.K.Saver.saved in
    subst (λ e. HasCause disk (view c.args.world.now) (view c.serve.new.world) e) (sym c.end_of.ensures)
    (has_cause view disk (line_answers view holds last pinned room disk stands rests effects) (line_stops view holds last pinned room disk stands rests effects) (λ a b v w bytes stop is. is.cause)
    _ c.serve.new.answerer c.args.world.now c.serve.new.world c.in-Ok.end c.in-Ok.ensures.ends)

pub returns-clause-ends : goal.returns-clause-ends
returns-clause-ends g c = λ tidy X h none tells.
    let view = g.W.Outside.view in
    let holds = g.K.NodeReader.holds in
    let last = g.K.NodeReader.last in
    let pinned = g.K.NodeReader.pinned in
    let room = g.K.NodeReader.room in
    let disk = g.K.NodeReader.has_disk in
    let stands = g.K.Keeper.stands in
    let rests = g.K.Keeper.rests in
    let effects : Pins → Effects = λ p. effects_of p g.K.Keeper.measures g.K.Keeper.applied g.K.Saver.saved in
    let found = (room c.args.store.store.keeper).found in
    subst (λ w. SessionEnds effects (StandsCommitted stands found tidy) (IsOrdered tidy) rests (medium (view c.args.world.now)) (view c.args.world.now) (view w) (begins X) Memory) (sym c.in-Err.ensures.no_memory.1)
    (ends_by_memory effects (StandsCommitted stands found tidy) (IsOrdered tidy) rests (view c.args.world.now) (begins X) h.settled h.at_rest
    (here_in view holds last pinned room disk stands rests effects g.met.K.Keeper.held_stands c.new.result.pinned c.new.result.open c.args.world.now found tidy None (begins_sitting X)
    (session_first view holds last pinned room rests c.new.result c.args.store c.args.world.now tidy X c.new.ensures.store c.new.ensures.given c.new.ensures.pins c.new.ensures.views c.new.ensures.none h none)))
