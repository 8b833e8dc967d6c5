use Rattle.search_obj.proofs.ScopeLaws.{scope_given, scope_plain, scope_shallow}
use Rattle.search_obj.proofs.law.scopes_have_the_given_folders.Goals as goal

pub returns-clause-plain : goal.returns-clause-plain
returns-clause-plain c = scope_plain

pub returns-clause-given : goal.returns-clause-given
returns-clause-given c = scope_given

pub returns-clause-shallow : goal.returns-clause-shallow
returns-clause-shallow c = scope_shallow
