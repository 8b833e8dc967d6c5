use Rattle.std.proofs.Common.{subst}
use Rattle.heap_edit.specs.Edits.{Edits, PutsOne}
use Rattle.heap_edit.proofs.EditLaws.{puts-one}
use Rattle.heap_edit.proofs.placed.Placed.put.Goals as goal

pub returns-clause-ok : goal.returns-clause-ok
returns-clause-ok c =
    subst (λ (es : Edits). PutsOne c.args.position c.args.block es c.insert.new.self.entries) c.self.view_is
    (puts-one c.args.position c.args.block c.self.inside.blocks.entries c.insert.new.self.entries c.in_ok-insert.ensures.updates.0)
