use Rattle.std.proofs.Common.{◌∙◌, sym}
use Rattle.search_results.proofs.ConcludeLaws.{asks_then, concludes_exit, concludes_idle, concludes_then, none_there}
use Rattle.search_results.proofs.concluding.conclude.Goals as goal

pub returns-then-count-eq0-clause-answer : goal.returns-then-count-eq0-clause-answer
returns-then-count-eq0-clause-answer g c = concludes_idle (none_there _ (sym c.count.ensures ∙ c.if-count-eq0.true)) c.if_within.ensures.answer

pub returns-in_err-touches-clause-answer : goal.returns-in_err-touches-clause-answer
returns-in_err-touches-clause-answer g c = concludes_exit c.in_err-touches.ensures.answer c.from_residual.ensures.1

pub returns-clause-answer : goal.returns-clause-answer
returns-clause-answer g c = concludes_then c.in_ok-touches.ensures.answer c.in_ok-touches.ensures.reads c.as_slice.ensures c.as_slice-2.ensures.value c.with_searches.ensures.answer

pub returns-clause-asks : goal.returns-clause-asks
returns-clause-asks g c = asks_then c.in_ok-touches.ensures.answer c.in_ok-touches.ensures.reads c.as_slice.ensures c.as_slice-2.ensures.value c.with_searches.ensures.most
