use Rattle.std.proofs.Common.{◌∙◌}
use Rattle.search_obj.proofs.ScopeLaws.{among_nids, ascend_nids}
use Rattle.search_obj.proofs.scoping.scope_of.Goals as goal

pub returns-clause-ascend : goal.returns-clause-ascend
returns-clause-ascend c = rw (c.in_ok-folders.ensures, c.as_slice.ensures.value) (ascend_nids 0 c.in_ok-members.members.items ∙ c.in_ok-members.ensures.ascend)

pub returns-clause-exact : goal.returns-clause-exact
returns-clause-exact c = rw (c.in_ok-folders.ensures, c.as_slice.ensures.value) (λ f. among_nids c.in_ok-members.members.items f ∙ c.in_ok-members.ensures.exact f)
