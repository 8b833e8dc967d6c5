use Rattle.mail_searches.specs.Moving.{renamed_search}
use Rattle.search_store.proofs.FollowLaws.{stays_well}
use Rattle.search_store.proofs.commands.rename_own.Goals as goal

pub returns-clause-answer : goal.returns-clause-answer
returns-clause-answer g c = stays_well c.args._searches.now (λ T. renamed_search T c.args.search.bits c.args.name.now) c.in_ok-tree.tree _ c.staying.ensures c.in_ok-tree.ensures.answer
