use Rattle.std.proofs.Common.{[]}
use Rattle.pinned_session.proofs.embedding.mean_keeping.Given as goal

-- the pins are to tell what they tell
abbrev pub ghosts-mean_under : goal.ghosts-mean_under
ghosts-mean_under g a = record { held = λ N. Unit {0}; told = g.K.NodeReader.pinned a.store.store.keeper (g.W.Outside.view a.world.now); last = [] }
