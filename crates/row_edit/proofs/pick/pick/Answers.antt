use Rattle.std.proofs.Common.{◌∙◌}
use Rattle.row_edit.proofs.PickLaws.{find-pick}
use Rattle.row_edit.proofs.pick.pick.Goals as goal

pub returns : goal.returns
returns c = c.with_tag.ensures ∙ find-pick c.args.values.now 0 c.args.column.now c.requires
