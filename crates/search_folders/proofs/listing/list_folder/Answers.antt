use Rattle.mail_searches.specs.Step.{listing_in}
use Rattle.search_folders.proofs.Among.{comes_stays, comes_stays_exit}
use Rattle.search_folders.proofs.Lines.{listing_says}
use Rattle.search_folders.proofs.listing.list_folder.Goals as goal

pub returns-in_err-tree-clause-answer : goal.returns-in_err-tree-clause-answer
returns-in_err-tree-clause-answer g c = comes_stays_exit (λ X. listing_in X c.args.folder.bits) (λ X k D view r said. listing_says view X c.args.folder.bits _ r k.own said) c.in_err-tree.ensures.answer c.from_residual.ensures.1

pub returns-clause-answer : goal.returns-clause-answer
returns-clause-answer g c = comes_stays (λ X. listing_in X c.args.folder.bits) (λ X k D view r said. listing_says view X c.args.folder.bits _ r k.own said) c.in_ok-tree.ensures.answer c.staying.ensures
