use Rattle.mail_searches.specs.Moving.{moved_search}
use Rattle.search_store.proofs.FollowLaws.{stays_well}
use Rattle.search_store.proofs.commands.move_own.Goals as goal

pub returns-clause-answer : goal.returns-clause-answer
returns-clause-answer g c = stays_well c.args._searches.now (λ T. moved_search T c.args.search.bits c.args.parent.bits) c.in_ok-tree.tree _ c.staying.ensures c.in_ok-tree.ensures.answer
