use Rattle.command_text.specs.Asking.{asks}
use Rattle.store_filling.proofs.CountLaws.{lists_lines, lists_none}
use Rattle.store_filling.proofs.counting.lines_of.Goals as goal

pub returns-in-Ok-clause-answer : goal.returns-in-Ok-clause-answer
unfolding asks
returns-in-Ok-clause-answer g c = λ tidy X s order. lists_lines tidy X c.args.folder order c.in-Ok.coming (c.in-Ok.ensures.answer X s.tree.shown s.tree.knows s.searches)

pub returns-clause-answer : goal.returns-clause-answer
unfolding asks
returns-clause-answer g c = λ tidy X s order. lists_none tidy X c.args.folder order c.in-Err.stop (c.in-Err.ensures.answer X s.tree.shown s.tree.knows s.searches)
