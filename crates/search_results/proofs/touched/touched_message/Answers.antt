use Rattle.search_results.proofs.TouchLaws.{message_stops, touches_message}
use Rattle.search_results.proofs.touched.touched_message.Goals as goal

pub returns-in_err-old-clause-answer : goal.returns-in_err-old-clause-answer
returns-in_err-old-clause-answer g c = λ coming. message_stops c.args.nid _ c.in_err-old.ensures.answer c.from_residual.ensures.1

pub returns-clause-answer : goal.returns-clause-answer
returns-clause-answer g c = λ coming. touches_message c.args.nid _ c.in_ok-old.ensures.answer c.in_ok-old.ensures.reads c.in_ok-touch.ensures c.in_ok-vec.ensures.items
