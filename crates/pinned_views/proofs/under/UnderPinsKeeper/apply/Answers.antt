use Rattle.pinned_views.proofs.under.UnderPinsKeeper.apply.Goals as goal

pub returns-clause-any_moment : goal.returns-clause-any_moment
returns-clause-any_moment g c = λ last cs fits N is settled rests. c.apply.ensures.any_moment last cs fits N is.held settled rests
