use Rattle.search_store.proofs.FollowLaws.{follows_well}
use Rattle.search_store.proofs.commands.follow.Goals as goal

pub returns-clause-answer : goal.returns-clause-answer
returns-clause-answer g c =
    let first = c.in_ok-coming.ensures in let second = c.in_ok-tree in
    follows_well c.args.searches.now c.args.command.now c.in_ok-coming.coming first.answer first.drafts second.tree _ c.staying.ensures second.ensures.answer
