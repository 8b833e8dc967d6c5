use Rattle.std.proofs.Common.{◌≡◌}
use Rattle.staged_store.proofs.reading.plan_keeping.Given as goal

-- the keeper is to hold and tell what it does, and the changes are to stay
abbrev pub ghosts-plan_under : goal.ghosts-plan_under
ghosts-plan_under g a = record {
  held = g.K.NodeReader.holds a.store.store.keeper (g.W.Outside.view a.world.now);
  told = g.K.NodeReader.pinned a.store.store.keeper (g.W.Outside.view a.world.now);
  last = g.K.NodeReader.last a.store.store.keeper;
  staged = λ s. s ≡ a.staging.now;
}
