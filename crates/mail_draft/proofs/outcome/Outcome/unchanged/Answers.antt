use Rattle.std.proofs.Common.{ap}
use Rattle.mail_tree.specs.Changing.{Changed}
use Rattle.mail_draft.specs.Drafts.{changed_of}
use Rattle.mail_draft.proofs.FitLaws.{nothing-fits}
use Rattle.mail_draft.proofs.outcome.Outcome.unchanged.Goals as goal

pub invariant_of-result : goal.invariant_of-result
invariant_of-result c = record { fits = nothing-fits (changed_of c.new.result) (ap (λ (D : Changed). D.objects) c.new.ensures) }
