use Rattle.std.proofs.Common.{◌∙◌}
use Rattle.mail_tree.specs.Folders.{siblings}
use Rattle.mail_folders.proofs.Calls.{named_among}
use Rattle.mail_folders.proofs.renaming.unless_beside.Goals as goal

pub returns-clause-answer : goal.returns-clause-answer
returns-clause-answer g c =
    named_among (λ T. siblings T c.args.parent.bits c.args.folder.bits) c.in_ok-folded.ensures (λ T s. c.as_slice.ensures.value ∙ c.in_ok-ids.ensures T (c.places.ensures T s)) c.unless_named.ensures.answer
