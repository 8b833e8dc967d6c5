use Rattle.std.proofs.Common.{◌∙◌, ap}
use Rattle.heap_edit.specs.Edits.{Edits, put_at}
use Rattle.heap_edit.proofs.EditLaws.{lookup-put_at}
use Rattle.heap_edit.proofs.placed.Placed.get.Goals as goal

pub returns : goal.returns
returns c = c.get.ensures.value ∙ lookup-put_at c.self.inside.blocks.entries c.args.position ∙ ap (λ (es : Edits). put_at es c.args.position) c.self.view_is
