use Rattle.std.proofs.Common.{◌∙◌, ap, sym}
use Rattle.mail_tree.specs.Places.{children}
use Rattle.mail_folders.proofs.Calls.{named_among}
use Rattle.mail_folders.proofs.names.unless_child_named.Goals as goal

pub returns-clause-answer : goal.returns-clause-answer
returns-clause-answer g c =
    let parent = c.args.parent.bits in
    named_among (λ T. children parent T.places) c.in_ok-folded.ensures (λ T s. c.as_slice.ensures.value ∙ c.in_ok-ids.ensures ∙ ap (children parent) (sym (c.places.ensures T s))) c.unless_named.ensures.answer
