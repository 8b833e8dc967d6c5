use Rattle.pst_outside.proofs.Moments.{stays_settled}
use Rattle.gate_file.proofs.Recovery.{untouched_keeps, keeps_on}
use Rattle.gate_file.proofs.recover.recover_gate.Goals as goal

pub returns-in_err-read_gate-clause-any_moment : goal.returns-in_err-read_gate-clause-any_moment
returns-in_err-read_gate-clause-any_moment g c = (untouched_keeps c.read_gate.ensures.same).any_moment

pub returns-in-0-clause-any_moment : goal.returns-in-0-clause-any_moment
returns-in-0-clause-any_moment g c = (untouched_keeps c.read_gate.ensures.same).any_moment

pub returns-in-1-clause-any_moment : goal.returns-in-1-clause-any_moment
returns-in-1-clause-any_moment g c = (keeps_on (untouched_keeps c.read_gate.ensures.same) (λ s. stays_settled s c.read_gate.ensures.same) c.finish.ensures.keeps).any_moment

pub returns-in_default-clause-any_moment : goal.returns-in_default-clause-any_moment
returns-in_default-clause-any_moment g c = (keeps_on (untouched_keeps c.read_gate.ensures.same) (λ s. stays_settled s c.read_gate.ensures.same) c.close_anew.ensures.keeps).any_moment
