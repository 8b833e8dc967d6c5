use Rattle.mail_draft.proofs.DeskCalls.{changes_come, changes_come_exit}
use Rattle.search_results.proofs.ConcludeLaws.{settles_within}
use Rattle.search_results.proofs.concluding.with_searches.Goals as goal

pub returns-in_err-settled_searches-clause-answer : goal.returns-in_err-settled_searches-clause-answer
returns-in_err-settled_searches-clause-answer g c = settles_within _ _ c.args.coming (changes_come_exit _ c.in_err-settled_searches.ensures.answer c.from_residual.ensures.1)

pub returns-clause-answer : goal.returns-clause-answer
returns-clause-answer g c = settles_within _ _ c.args.coming (changes_come _ c.in_ok-settled_searches.ensures.answer c.in_ok-settled_searches.ensures.drafts c.if_within.ensures.answer)
