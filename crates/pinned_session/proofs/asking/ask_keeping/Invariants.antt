use Rattle.pinned_session.proofs.asking.ask_keeping.Given as goal

-- the keeper is to hold what it holds, and its pins to tell what they tell
abbrev pub ghosts-ask_under : goal.ghosts-ask_under
ghosts-ask_under g a = record { held = g.K.NodeReader.holds a.keeper (g.W.Outside.view a.world.now); told = g.K.NodeReader.pinned a.keeper (g.W.Outside.view a.world.now); last = g.K.NodeReader.last a.keeper }
