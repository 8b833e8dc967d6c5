use Rattle.std.proofs.Common.{ap}
use Rattle.mail_draft.specs.Desks as tree
use Rattle.mail_draft.proofs.DeskCalls.{reads_then}
use Rattle.mail_draft.proofs.Passes.{stop_says, then_says}
use Rattle.mail_searches.specs.Criteria.{making_search}
use Rattle.search_folders.specs.Comings.{coming_of}
use Rattle.search_folders.proofs.Made.{index_given, made_says}
use Rattle.search_folders.proofs.Among.{among_exits}
use Rattle.search_folders.proofs.making.make_search.Goals as goal

pub returns-in_err-unless_refused-clause-answer : goal.returns-in_err-unless_refused-clause-answer
returns-in_err-unless_refused-clause-answer g c = among_exits _ _ (λ X s m. made_says _ X _ _ _ (λ e. stop_says _ _ _ _ _ (c.in_err-unless_refused.ensures.answer.says X.tree s))) c.from_residual.ensures.1

pub returns-in_err-tree-clause-answer : goal.returns-in_err-tree-clause-answer
returns-in_err-tree-clause-answer g c = among_exits _ _ (λ X s m.
    let L = reads_then c.in_ok-unless_refused.ensures.reads c.in_ok-index.ensures.reads in
    made_says _ X _ _ _ (λ e.
    let index = index_given X.tree _ e (c.in_ok-index.ensures.answer.says X.tree (c.in_ok-unless_refused.ensures.reads.shows X.tree s)) in
    then_says _ _ _ _ _ _ (c.in_ok-unless_refused.ensures.answer.says X.tree s) (stop_says _ _ _ _ _ (rw index at (c.in_err-tree.ensures.answer.says X.tree (L.shows X.tree s)))))) c.from_residual-in_err-tree.ensures.1

pub returns-clause-answer : goal.returns-clause-answer
returns-clause-answer g c = record {
  says = λ X s m.
      let L = reads_then c.in_ok-unless_refused.ensures.reads c.in_ok-index.ensures.reads in
      made_says _ X _ _ _ (λ e.
      let index = index_given X.tree _ e (c.in_ok-index.ensures.answer.says X.tree (c.in_ok-unless_refused.ensures.reads.shows X.tree s)) in
      let own = rw (c.new_id.ensures, index, ← m.own) at c.in_ok-own.ensures in
      then_says _ _ _ _ _ _ (c.in_ok-unless_refused.ensures.answer.says X.tree s)
      (then_says _ _ _ _ _ _ (rw index at (c.in_ok-tree.ensures.answer.says X.tree (L.shows X.tree s)))
      (ap (λ o. record { outcome = tree.coming_of X.tree (g.D.Desk.view c.making_search.new.desk).changed c.in_ok-tree.tree; own = o; searches = X.searches }) own)));
  fits = c.in_ok-tree.ensures.answer.fits;
}
