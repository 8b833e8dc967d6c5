use Rattle.std.proofs.Common.{◌≡◌, ◌∙◌, ap, sym}
use Rattle.mail_searches.specs.Searching.{Searching}
use Rattle.store_session.specs.Carrying.{StandsOrdered}
use Rattle.pinned_session.specs.Viewing.{standing, viewing_of}
use Rattle.store_session.specs.Disks.{effects_of}
use Rattle.pinned_session.proofs.LineLaws.{carried_at, command_sits}
use Rattle.pinned_session.proofs.MakeLaws.{sitting_now}
use Rattle.pinned_session.proofs.lines.carry_command.Goals as goal

pub returns-clause-carries : goal.returns-clause-carries
returns-clause-carries g c = λ found tidy S h tells.
    let v = g.W.Outside.view c.args.world.now in
    let w = g.W.Outside.view c.carry_keeping-store.new.world in
    let room = g.K.NodeReader.room c.args.pinned.store.store.keeper in
    let done = c.carry_keeping-store.ensures in
    let views = c.args.pinned.views in
    let gone = λ (Y : Searching) (e : Y.tree.places ≡ c.carry_keeping-store.result.0.store.known.places). c.close_views.ensures ∙ ap (λ p. standing p (viewing_of views)) (sym e) in
    command_sits _ _ (λ i X. StandsOrdered tidy (g.K.Keeper.stands found) i X) (λ pins. effects_of pins g.K.Keeper.measures g.K.Keeper.applied g.K.Saver.saved) room v w S c.args.command.now
    (λ Y is. sitting_now S Y h is.0 is.1 done.pins done.found (gone Y (is.0).stores.tree.knows.places)) c.carry_keeping-store.result.1
    (carried_at _ (λ f i X. StandsOrdered tidy (g.K.Keeper.stands f) i X) (λ pins. effects_of pins g.K.Keeper.measures g.K.Keeper.applied g.K.Saver.saved) room v w S.now c.args.command.now c.carry_keeping-store.result.1 h.pins h.found (done.carries tidy S.now h.store tells))
