use Rattle.sorted_views.proofs.GroupLaws.{first_group}
use Rattle.sorted_views.proofs.groups.split_group.Goals as goal

pub returns-in-len1-up-clause-split : goal.returns-in-len1-up-clause-split
returns-in-len1-up-clause-split c = first_group c.args.rows.now c.first-item.result c.same_front-alike.result c.in-len1-up.len_at_least c.first-item.is c.same_front-alike.ensures.value
