use Rattle.std.proofs.Common.{◌≡◌, ◌≤◌, Bool, true}
use Rattle.line_server.specs.Worlds.{Quiet}
use Rattle.mail_searches.specs.Searching.{Searching}
use Rattle.store_session.specs.Carrying.{Has, StandsOrdered}
use Rattle.store_session.specs.Disks.{effects_of}
use Rattle.store_filling.specs.Doing.{FilledTo}
use Rattle.store_filling.proofs.filling.do_all.Given as goal

-- the commands so far were carried out, over the keeper that was given
abbrev pub invariant-loop-place : goal.invariant-loop-place
invariant-loop-place g l = record {
  filled : (tidy : Bool) (X : Searching)
      → Has (g.K.NodeReader.holds l.fn.store.store.keeper (g.W.Outside.view l.fn.w)) (g.K.NodeReader.last l.fn.store.store.keeper) l.fn.store.store.known l.fn.store.searches g.K.Keeper.rests (g.W.Outside.view l.fn.w) tidy X
      → (g.K.NodeReader.has_disk ≡ true → (g.W.Outside.view l.w).tells)
      → FilledTo (effects_of (g.K.NodeReader.room l.fn.store.store.keeper).pins g.K.Keeper.measures g.K.Keeper.applied g.K.Saver.saved) (StandsOrdered tidy (g.K.Keeper.stands (g.K.NodeReader.room l.fn.store.store.keeper).found))
      (Has (g.K.NodeReader.holds l.store.store.keeper (g.W.Outside.view l.w)) (g.K.NodeReader.last l.store.store.keeper) l.store.store.known l.store.searches g.K.Keeper.rests (g.W.Outside.view l.w) tidy)
      l.fn.places l.fn.seed l.place l.made X (g.W.Outside.view l.fn.w) (g.W.Outside.view l.w);
  found : (g.K.NodeReader.room l.store.store.keeper).found ≡ (g.K.NodeReader.room l.fn.store.store.keeper).found;
  pins : (g.K.NodeReader.room l.store.store.keeper).pins ≡ (g.K.NodeReader.room l.fn.store.store.keeper).pins;
  quiet : Quiet (g.W.Outside.view l.fn.w) (g.W.Outside.view l.w);
  few : l.place ≤ l.commands;
}
