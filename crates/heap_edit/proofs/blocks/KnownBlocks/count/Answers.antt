use Rattle.std.proofs.Common.{◌∙◌, sym, ap}
use Rattle.heap_edit.specs.Known.{Known}
use Rattle.heap_edit.proofs.KnownLaws.{length-now}
use Rattle.heap_edit.proofs.blocks.KnownBlocks.count.Goals as goal

pub returns-clause-all : goal.returns-clause-all
returns-clause-all c = λ old. length-now c.args.self.now old ∙ sym (ap (λ (e : Known). e.len) c.self.view_is)
