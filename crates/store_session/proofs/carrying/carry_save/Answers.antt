use Rattle.std.proofs.Common.{inr, refl}
use Rattle.store_session.specs.Carrying.{StandsOrdered}
use Rattle.store_session.specs.Disks.{effects_of, medium}
use Rattle.store_session.proofs.Carry.{its_medium, memory_text, same_as, save_leaves, saves, standing, stands_here}
use Rattle.store_session.proofs.carrying.carry_save.Goals as goal

pub returns-in_default-clause-carries : goal.returns-in_default-clause-carries
returns-in_default-clause-carries g c = λ tidy X h tells.
    let k = c.args.store.now.store.keeper in
    let v = g.W.Outside.view c.args.world.now in
    let here = stands_here (g.K.Keeper.stands (g.K.NodeReader.room k).found) tidy X (λ N is. g.met.K.Keeper.held_stands k c.args.world.now N is) h in
    (X, inr (memory_text, (refl, λ t. its_medium v)), h, standing (StandsOrdered tidy (g.K.Keeper.stands (g.K.NodeReader.room k).found)) v X h.settled here)

pub returns-in-Ok-save-clause-carries : goal.returns-in-Ok-save-clause-carries
returns-in-Ok-save-clause-carries g c = λ tidy X h tells.
    let k = c.args.store.now.store.keeper in
    let v = g.W.Outside.view c.args.world.now in
    let w = g.W.Outside.view c.save.new.w in
    let effects = effects_of (g.K.NodeReader.room c.args.store.now.store.keeper).pins g.K.Keeper.measures g.K.Keeper.applied g.K.Saver.saved in
    let room = g.K.NodeReader.room c.args.store.now.store.keeper in
    let settled = c.in-Ok-save.ensures.settled h.settled in
    let at_rest = c.in-Ok-save.ensures.rests h.at_rest in (
      X,
      saves effects w.tells (medium v) (medium w) room X c.without_data.result c.in-Ok.text (λ i. record { lines = c.without_data.ensures.lines i; last = c.without_data.ensures.last i }) c.in-Ok.ensures (λ t. record { image = w.here; bytes = g.K.Saver.save_cost k; made = c.in-Ok-save.ensures.saved X h.stores h.at_rest t; same = same_as refl; few = c.save.ensures.written }),
      record { stores = c.in-Ok-save.ensures.same X h.stores h.at_rest tells; order = h.order; settled = settled; at_rest = at_rest },
      save_leaves tidy (g.K.Keeper.stands room.found) X h.order (c.save.ensures.any_moment X h.stores h.settled h.at_rest),
    )

pub returns-in-Err-clause-carries : goal.returns-in-Err-clause-carries
returns-in-Err-clause-carries g c = λ tidy X h tells.
    let v = g.W.Outside.view c.args.world.now in
    let w = g.W.Outside.view c.save.new.w in
    let effects = effects_of (g.K.NodeReader.room c.args.store.now.store.keeper).pins g.K.Keeper.measures g.K.Keeper.applied g.K.Saver.saved in
    let room = g.K.NodeReader.room c.args.store.now.store.keeper in (
      X,
      c.in-Ok.text,
      saves effects ⊥ (medium v) (medium w) room X c.without_data.result c.in-Ok.text (λ i. record { lines = c.without_data.ensures.lines i; last = c.without_data.ensures.last i }) c.in-Ok.ensures (λ none. absurd none),
      save_leaves tidy (g.K.Keeper.stands room.found) X h.order (c.save.ensures.any_moment X h.stores h.settled h.at_rest),
    )
