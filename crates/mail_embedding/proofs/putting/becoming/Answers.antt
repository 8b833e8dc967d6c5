use Rattle.std.proofs.Common.{ap}
use Rattle.mapi_values.specs.Messages.{Mes}
use Rattle.mail_tree.specs.Values.{finished}
use Rattle.mail_embedding.proofs.putting.becoming.Goals as goal

pub returns-clause-place : goal.returns-clause-place
unfolding finished
returns-clause-place c = (ap (λ (m : Mes). m.nid) c.in_ok-new.ensures, ap (λ (m : Mes). m.folder) c.in_ok-new.ensures)
