use Rattle.std.proofs.Common.{sym}
use Rattle.search_results.proofs.FlagLaws.{kept_known}
use Rattle.search_results.proofs.counting.kept_flag.Goals as goal

pub returns-in-Some-clause-answer : goal.returns-in-Some-clause-answer
returns-in-Some-clause-answer g c = record { says = λ T s. kept_known T c.args.nid.bits c.in-Some.unread _ (c.flags.ensures T s) (sym c.in-Some.ensures) }
