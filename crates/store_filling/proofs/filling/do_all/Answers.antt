use Rattle.std.proofs.Common.{◌≡◌, ◌∙◌, ◌+◌, ◌<◌, ℕ, Ok, Err, arith, refl, subst, sym}
use Rattle.command_text.specs.declared.reply.Reply.{Reply}
use Rattle.line_server.proofs.Hearing.{falls_along, falls_started}
use Rattle.mail_searches.specs.Searching.{Searching}
use Rattle.node_port.specs.Pins.{Pins}
use Rattle.store_session.specs.Carrying.{Has, StandsOrdered}
use Rattle.store_session.specs.Disks.{effects_of}
use Rattle.store_session.proofs.Carry.{stands_here}
use Rattle.store_filling.specs.Commands.{fill_command, made_after}
use Rattle.store_filling.specs.Doing.{FilledTo}
use Rattle.store_filling.specs.Filling.{FillTurn, tree_at}
use Rattle.store_filling.specs.declared.commands.Made.{Made}
use Rattle.store_filling.proofs.Commits.{caused_later, ends_over, quiet_along}
use Rattle.store_filling.proofs.Turns.{filled_to_next, filled_to_none, stops_next}
use Rattle.store_filling.proofs.filling.do_all.Goals as goal

pub loop-place-init : goal.loop-place-init
loop-place-init g c =
    let k = c.args.store.now.store.keeper in
    let v = g.W.Outside.view c.args.w.now in
    let room = g.K.NodeReader.room k in
    let S = g.K.Keeper.stands room.found in
    record {
      filled = λ tidy X h tells.
          let has : Searching → Type 0 = Has (g.K.NodeReader.holds k v) (g.K.NodeReader.last k) c.args.store.now.store.known c.args.store.now.searches g.K.Keeper.rests v tidy in
          subst (λ (m : Made). FilledTo (effects_of room.pins g.K.Keeper.measures g.K.Keeper.applied g.K.Saver.saved) (StandsOrdered tidy S) has c.args.places c.args.seed 0 m X v v) (sym c.nothing_made-made.ensures)
          (filled_to_none (effects_of room.pins g.K.Keeper.measures g.K.Keeper.applied g.K.Saver.saved) (StandsOrdered tidy S) has c.args.places c.args.seed X v h h.settled (stands_here S tidy X (λ N is. g.met.K.Keeper.held_stands k c.args.w.now N is) h));
      found = refl;
      pins = refl;
      quiet = record { counts = falls_started v; told = λ t. t; input = λ t. refl };
      few = omega arith;
    }

pub loop-place-preserved : goal.loop-place-preserved
loop-place-preserved g c =
    let I = c.loop-place.invariant in
    let one = c.do_next.ensures in
    let first = c.args.store.now.store.keeper in
    let room = g.K.NodeReader.room first in
    let old = g.W.Outside.view c.args.w.now in
    let mid = g.W.Outside.view c.loop-place.w in
    let new = g.W.Outside.view c.do_next.new.w in
    record {
      filled = λ tidy X h tells.
          let f = I.filled tidy X h (λ disk. one.quiet.told (tells disk)) in
          let was = c.loop-place.store in
          let last = c.do_next.new.store in
          let has-mid : Searching → Type 0 = Has (g.K.NodeReader.holds was.store.keeper mid) (g.K.NodeReader.last was.store.keeper) was.store.known was.searches g.K.Keeper.rests mid tidy in
          let has-new : Searching → Type 0 = Has (g.K.NodeReader.holds last.store.keeper new) (g.K.NodeReader.last last.store.keeper) last.store.known last.searches g.K.Keeper.rests new tidy in
          filled_to_next (effects_of room.pins g.K.Keeper.measures g.K.Keeper.applied g.K.Saver.saved) (StandsOrdered tidy (g.K.Keeper.stands room.found)) has-mid has-new c.args.places c.args.seed c.loop-place.place X old mid new one.quiet.told c.loop-place.made c.in-Ok.next f
          (ends_over (λ (p : Pins). effects_of p g.K.Keeper.measures g.K.Keeper.applied g.K.Saver.saved) (λ found. StandsOrdered tidy (g.K.Keeper.stands found)) has-new (λ (m : Made) (turn : FillTurn). m ≡ made_after c.loop-place.place turn.reply c.loop-place.made) (fill_command c.args.places c.args.seed c.loop-place.place c.loop-place.made) (tree_at X f.turns) mid new (Ok c.in-Ok.next) I.pins I.found (c.in-Ok.ensures.ends tidy _ f.has_it tells));
      found = one.found ∙ I.found;
      pins = one.pins ∙ I.pins;
      quiet = quiet_along I.quiet one.quiet;
      few = omega (arith, c.loop-place-test.true);
    }

pub returns-in-Err-clause-ends : goal.returns-in-Err-clause-ends
returns-in-Err-clause-ends g c = λ tidy X h tells.
    let I = c.loop-place.invariant in
    let one = c.do_next.ensures in
    let old = g.W.Outside.view c.args.w.now in
    let mid = g.W.Outside.view c.loop-place.w in
    let new = g.W.Outside.view c.do_next.new.w in
    let f = I.filled tidy X h (λ disk. one.quiet.told (tells disk)) in
    let room = g.K.NodeReader.room c.args.store.now.store.keeper in
    let was = c.loop-place.store in
    let last = c.do_next.new.store in
    let has-mid : Searching → Type 0 = Has (g.K.NodeReader.holds was.store.keeper mid) (g.K.NodeReader.last was.store.keeper) was.store.known was.searches g.K.Keeper.rests mid tidy in
    let has-new : Searching → Type 0 = Has (g.K.NodeReader.holds last.store.keeper new) (g.K.NodeReader.last last.store.keeper) last.store.known last.searches g.K.Keeper.rests new tidy in
    stops_next (effects_of room.pins g.K.Keeper.measures g.K.Keeper.applied g.K.Saver.saved) (StandsOrdered tidy (g.K.Keeper.stands room.found)) has-mid has-new c.args.places c.args.seed c.loop-place.place X old mid new one.quiet.told c.args.count c.in-Err.stop c.loop-place.made f (omega (arith, c.loop-place-test.true))
    (ends_over (λ (p : Pins). effects_of p g.K.Keeper.measures g.K.Keeper.applied g.K.Saver.saved) (λ found. StandsOrdered tidy (g.K.Keeper.stands found)) has-new (λ (m : Made) (turn : FillTurn). m ≡ made_after c.loop-place.place turn.reply c.loop-place.made) (fill_command c.args.places c.args.seed c.loop-place.place c.loop-place.made) (tree_at X f.turns) mid new (Err c.in-Err.stop) I.pins I.found (c.in-Err.ensures.ends tidy _ f.has_it tells))

pub returns-in-Err-clause-found : goal.returns-in-Err-clause-found
returns-in-Err-clause-found g c = c.do_next.ensures.found ∙ c.loop-place.invariant.found

pub returns-in-Err-clause-pins : goal.returns-in-Err-clause-pins
returns-in-Err-clause-pins g c = c.do_next.ensures.pins ∙ c.loop-place.invariant.pins

pub returns-in-Err-clause-quiet : goal.returns-in-Err-clause-quiet
returns-in-Err-clause-quiet g c = quiet_along c.loop-place.invariant.quiet c.do_next.ensures.quiet

pub returns-in-Err-clause-cause : goal.returns-in-Err-clause-cause
returns-in-Err-clause-cause g c = caused_later _ _ _ _ c.in-Err.stop c.loop-place.invariant.quiet.counts.disk_faults c.in-Err.ensures.cause

pub returns-clause-ends : goal.returns-clause-ends
returns-clause-ends g c = λ tidy X h tells.
    let I = c.loop-place.invariant in
    let room = g.K.NodeReader.room c.args.store.now.store.keeper in
    let last = c.loop-place.store in
    let old = g.W.Outside.view c.args.w.now in
    let new = g.W.Outside.view c.loop-place.w in
    let has : Searching → Type 0 = Has (g.K.NodeReader.holds last.store.keeper new) (g.K.NodeReader.last last.store.keeper) last.store.known last.searches g.K.Keeper.rests new tidy in
    let all : c.loop-place.place ≡ c.args.count + 3 = omega (arith, I.few, c.loop-place-test.false) in
    subst (λ (n : ℕ). FilledTo (effects_of room.pins g.K.Keeper.measures g.K.Keeper.applied g.K.Saver.saved) (StandsOrdered tidy (g.K.Keeper.stands room.found)) has c.args.places c.args.seed n c.loop-place.made X old new) all (I.filled tidy X h tells)
