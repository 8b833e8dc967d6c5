use Rattle.std.proofs.Common.{rules}
use Rattle.pst_outside.proofs.Histories.{overwritten_tears, overwritten_content}
use Rattle.pst_outside.proofs.sure.SureWorldOutside.write_at.Goals as goal

pub returns-in-Ok-clause-content : goal.returns-in-Ok-clause-content
returns-in-Ok-clause-content c = record {
  written = search rules;
  told = λ told. told;
  here = λ told. overwritten_tears c.args.part c.args.at c.args.bytes.now c.args.self.now.parts c.overwrite.new.self c.args.self.now.said.items (c.in-Ok.ensures.ok c.args.self.now.said.items);
  input = search rules;
}

pub returns-in-Ok-clause-after : goal.returns-in-Ok-clause-after
returns-in-Ok-clause-after c = λ told. overwritten_content c.args.part c.args.at c.args.bytes.now c.args.self.now.parts c.overwrite.new.self c.args.self.now.said.items (c.in-Ok.ensures.ok c.args.self.now.said.items)
