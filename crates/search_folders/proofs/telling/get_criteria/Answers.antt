use Rattle.mail_searches.specs.Criteria.{told_criteria}
use Rattle.search_folders.proofs.Among.{comes_stays, comes_stays_exit}
use Rattle.search_folders.proofs.Set.{told_says}
use Rattle.search_folders.proofs.telling.get_criteria.Goals as goal

pub returns-in_err-tree-clause-answer : goal.returns-in_err-tree-clause-answer
returns-in_err-tree-clause-answer g c = comes_stays_exit (λ X. told_criteria X c.args.search.bits) (λ X k D view r said. told_says view X c.args.search.bits _ r k.own said) c.in_err-tree.ensures.answer c.from_residual.ensures.1

pub returns-clause-answer : goal.returns-clause-answer
returns-clause-answer g c = comes_stays (λ X. told_criteria X c.args.search.bits) (λ X k D view r said. told_says view X c.args.search.bits _ r k.own said) c.in_ok-tree.ensures.answer c.staying.ensures
