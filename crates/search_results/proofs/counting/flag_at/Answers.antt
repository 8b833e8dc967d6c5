use Rattle.std.proofs.Common.{sym}
use Rattle.search_results.proofs.FlagLaws.{flag_as_kept, flag_put}
use Rattle.search_results.proofs.counting.flag_at.Goals as goal

pub returns-in-Some-clause-answer : goal.returns-in-Some-clause-answer
returns-in-Some-clause-answer g c = record { says = λ T s. rw (flag_put T _ c.args.nid.bits _ (sym c.in-Some.ensures)) c.flag_of.ensures }

pub returns-in-None-clause-answer : goal.returns-in-None-clause-answer
returns-in-None-clause-answer g c = record { says = λ T s. rw (flag_as_kept T _ c.args.nid.bits (sym c.in-None.ensures)) (c.kept_flag.ensures.answer.says T s) }
