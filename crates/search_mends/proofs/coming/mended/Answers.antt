use Rattle.store_session.proofs.mail_draft_laws.DeskCalls.{no_ok}
use Rattle.store_session.proofs.mail_draft_laws.Passes.{stop_says, then_says}
use Rattle.store_session.proofs.mail_folders_laws.Steps.{stopped}
use Rattle.search_mending.specs.Mending.{mended_search}
use Rattle.search_mends.proofs.coming.mended.Goals as goal

pub returns-in_err-list-clause-answer : goal.returns-in_err-list-clause-answer
unfolding mended_search
returns-in_err-list-clause-answer g c = record {
  says = λ X s known. stopped _ _ _ _ c.from_residual.ensures.1 (stop_says _ _ _ _ _ (rw (← known.0.searches) at (c.in_err-list.ensures.answer.says X.tree s known.1)));
  fits = no_ok _ _ c.from_residual.result c.from_residual.ensures.1;
}

pub returns-in_err-context-clause-answer : goal.returns-in_err-context-clause-answer
unfolding mended_search
returns-in_err-context-clause-answer g c = record {
  says = λ X s known.
      stopped _ _ _ _ c.from_residual-in_err-context.ensures.1
      (then_says _ _ _ _ _ _ (rw (← known.0.searches) at (c.in_ok-list.ensures.answer.says X.tree s known.1)) (stop_says _ _ _ _ _ (c.in_err-context.ensures.answer.says X.tree (c.in_ok-list.ensures.reads.shows X.tree s))));
  fits = no_ok _ _ c.from_residual-in_err-context.result c.from_residual-in_err-context.ensures.1;
}

pub returns-clause-answer : goal.returns-clause-answer
unfolding mended_search
returns-clause-answer g c = record {
  says = λ X s known.
      let still = c.in_ok-list.ensures.reads.shows X.tree s in
      then_says _ _ _ _ _ _ (rw (← known.0.searches) at (c.in_ok-list.ensures.answer.says X.tree s known.1))
      (then_says _ _ _ _ _ _ (c.in_ok-context.ensures.answer.says X.tree still) (c.mending_with.ensures.answer.says X (c.in_ok-context.ensures.reads.shows X.tree still) tt));
  fits = c.mending_with.ensures.answer.fits;
}
