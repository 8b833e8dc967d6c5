use Rattle.std.proofs.Common.{◌∙◌, false, sym}
use Rattle.mail_objects.specs.Subnodes.{is_table}
use Rattle.mail_objects.proofs.FindLaws.{subnode-gone, subnode-kept}
use Rattle.mail_objects.proofs.message.read.part_sub.Goals as goal

pub returns-then-is_table : goal.returns-then-is_table
returns-then-is_table c = sym (subnode-gone is_table false c.args.finder.now c.args.id (sym c.is_table.ensures ∙ c.if-is_table.true))

pub returns : goal.returns
returns c = c.find.ensures.node ∙ sym (subnode-kept is_table false c.args.finder.now c.args.id (sym c.is_table.ensures ∙ c.if-is_table.false))
