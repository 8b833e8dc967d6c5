use Rattle.std.proofs.Common.{◌≡◌}
use Rattle.staged_store.proofs.reading.mean_keeping.Given as goal

-- the keeper is to hold and tell what it does, and the changes are to stay
abbrev pub ghosts-mean_under : goal.ghosts-mean_under
ghosts-mean_under g a = record {
  held = g.K.NodeReader.holds a.keeper (g.W.Outside.view a.world.now);
  told = g.K.NodeReader.pinned a.keeper (g.W.Outside.view a.world.now);
  last = g.K.NodeReader.last a.keeper;
  staged = λ s. s ≡ a.staging.now;
}
