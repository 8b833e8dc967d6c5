use Rattle.std.proofs.Common.{◌≡◌, ◌+◌, arith, rules}
use Rattle.restr_eval.specs.Eval.{subject}
use Rattle.restr_eval.specs.Reached.{reached}
use Rattle.restr_eval.proofs.WorkLaws.{reached_work}
use Rattle.restr_eval.proofs.holding.eval.Goals as goal

pub returns-clause-most : goal.returns-clause-most
returns-clause-most g c =
    let s : c.holds.new.steps ≡ c.args.steps.now + reached c.args.r.now (subject c.args.m.now) = search rules in
    omega (arith, s, reached_work c.args.r.now c.args.m.now)
