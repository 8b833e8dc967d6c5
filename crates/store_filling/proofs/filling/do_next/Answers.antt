use Rattle.std.proofs.Common.{◌≡◌, [], Ok, Err, ◌∙◌, ap, refl, subst, sym}
use Rattle.mail_searches.specs.Searching.{Searching}
use Rattle.command_text.specs.declared.command.Command.{Command}
use Rattle.command_text.specs.declared.reply.Reply.{Reply}
use Rattle.store_session.specs.Carrying.{Has, StandsOrdered}
use Rattle.store_session.specs.Disks.{effects_of}
use Rattle.store_session.proofs.Carry.{its_medium, stands_here}
use Rattle.store_filling.specs.Commands.{made_after}
use Rattle.store_filling.specs.Doing.{CommandEnds}
use Rattle.store_filling.specs.Filling.{FillTurn}
use Rattle.store_filling.specs.declared.commands.Made.{Made}
use Rattle.store_filling.proofs.Turns.{ends_given, ends_stopped, leaves_none}
use Rattle.store_filling.proofs.filling.do_next.Goals as goal

pub returns-in-Err-clause-ends : goal.returns-in-Err-clause-ends
returns-in-Err-clause-ends g c = λ tidy X h tells.
    let k = c.args.store.now.store.keeper in
    let v = g.W.Outside.view c.args.w.now in
    let S = g.K.Keeper.stands (g.K.NodeReader.room k).found in
    record {
      turns = [];
      so = (refl, h, λ t. its_medium v);
      images = leaves_none (StandsOrdered tidy S) v X h.settled (stands_here S tidy X (λ N is. g.met.K.Keeper.held_stands k c.args.w.now N is) h);
    }

pub returns-in-Ok-do_command-clause-ends : goal.returns-in-Ok-do_command-clause-ends
returns-in-Ok-do_command-clause-ends g c = λ tidy X h tells.
    let k = c.args.store.now.store.keeper in
    let v = g.W.Outside.view c.args.w.now in
    let new = g.W.Outside.view c.do_command.new.w in
    let room = g.K.NodeReader.room k in
    let effects = effects_of room.pins g.K.Keeper.measures g.K.Keeper.applied g.K.Saver.saved in
    let S = StandsOrdered tidy (g.K.Keeper.stands room.found) in
    let reply : Reply = c.in-Ok-do_command.reply in
    let last = c.do_command.new.store in
    let has : Searching → Type 0 = Has (g.K.NodeReader.holds last.store.keeper new) (g.K.NodeReader.last last.store.keeper) last.store.known last.searches g.K.Keeper.rests new tidy in
    let place = c.args.place in
    let made = c.args.made in
    ends_given effects S has (λ (r : Reply) (turn : FillTurn). turn.reply ≡ r) (λ (next : Made) (turn : FillTurn). next ≡ made_after place turn.reply made) _ X v new reply c.made_after.result
    (λ turn is. c.made_after.ensures ∙ ap (λ (r : Reply). made_after place r made) (sym is))
    (subst (λ (x : Command). CommandEnds effects S has (λ (r : Reply) (turn : FillTurn). turn.reply ≡ r) x X v new (Ok reply)) c.in-Ok.ensures (c.in-Ok-do_command.ensures.ends tidy X h tells))

pub returns-clause-ends : goal.returns-clause-ends
returns-clause-ends g c = λ tidy X h tells.
    let k = c.args.store.now.store.keeper in
    let v = g.W.Outside.view c.args.w.now in
    let new = g.W.Outside.view c.do_command.new.w in
    let room = g.K.NodeReader.room k in
    let effects = effects_of room.pins g.K.Keeper.measures g.K.Keeper.applied g.K.Saver.saved in
    let S = StandsOrdered tidy (g.K.Keeper.stands room.found) in
    let place = c.args.place in
    let made = c.args.made in
    let last = c.do_command.new.store in
    let has : Searching → Type 0 = Has (g.K.NodeReader.holds last.store.keeper new) (g.K.NodeReader.last last.store.keeper) last.store.known last.searches g.K.Keeper.rests new tidy in
    ends_stopped effects S has (λ (r : Reply) (turn : FillTurn). turn.reply ≡ r) (λ (next : Made) (turn : FillTurn). next ≡ made_after place turn.reply made) _ X v new c.in-Err-do_command.stop
    (subst (λ (x : Command). CommandEnds effects S has (λ (r : Reply) (turn : FillTurn). turn.reply ≡ r) x X v new (Err c.in-Err-do_command.stop)) c.in-Ok.ensures (c.in-Err-do_command.ensures.ends tidy X h tells))
