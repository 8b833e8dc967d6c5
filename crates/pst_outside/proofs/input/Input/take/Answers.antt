use Rattle.std.proofs.Common.{rules, drop, sym, ◌∙◌}
use Rattle.pst_outside.proofs.Histories.{rest_of_input}
use Rattle.pst_outside.proofs.input.Input.take.Goals as goal

pub returns-clause-taken : goal.returns-clause-taken
returns-clause-taken c = sym c.self.view_is ∙ rest_of_input c.self.inside.bytes c.copy_from_slice.new.self (drop c.min-n.result c.args.buf.now) c.self.inside.taken c.min-n.result (search rules) (search rules)
