use Rattle.std.proofs.Common.{Some}
use Rattle.search_results.proofs.FlagLaws.{flag_found}
use Rattle.search_results.proofs.counting.read_flag.Goals as goal

pub returns-in-Some-clause-answer : goal.returns-in-Some-clause-answer
returns-in-Some-clause-answer g c = record {
  says = λ T s. rw c.flag_of.ensures (flag_found T c.args.nid.bits (Some c.in-Some.mail) (rw c.in-Some.is at (c.in_ok-mail.ensures.answer.says T s)));
}
