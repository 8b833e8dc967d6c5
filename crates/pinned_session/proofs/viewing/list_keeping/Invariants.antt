use Rattle.std.proofs.Common.{[]}
use Rattle.pinned_session.proofs.viewing.list_keeping.Given as goal

-- the pins are to tell what they tell
abbrev pub ghosts-list_under : goal.ghosts-list_under
ghosts-list_under g a = record { held = λ N. Unit {0}; told = g.K.NodeReader.pinned a.store.store.keeper (g.W.Outside.view a.world.now); last = [] }
