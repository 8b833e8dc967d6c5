use Rattle.std.proofs.Common.{refl}
use Rattle.mail_searches.proofs.Said.{none_of_foreign, some_of_said}
use Rattle.search_folders.proofs.telling.criteria_in.Goals as goal

pub returns-in-Ok-Some-clause-answer : goal.returns-in-Ok-Some-clause-answer
returns-in-Ok-Some-clause-answer c =
    let said = rw c.in-Ok-Some.field-0-is at c.in-Ok-Some.ensures.read in
    rw (some_of_said c.args.props.now _ said) refl

pub returns-in-Ok-None-clause-answer : goal.returns-in-Ok-None-clause-answer
returns-in-Ok-None-clause-answer c =
    let foreign = rw c.in-Ok-None.field-0-is at c.in-Ok-None.ensures.read in
    rw (none_of_foreign c.args.props.now foreign) tt
