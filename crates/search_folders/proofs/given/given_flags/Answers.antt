use Rattle.std.proofs.Common.{sym}
use Rattle.search_obj.proofs.FlagLaws.{flags_of-Some}
use Rattle.search_folders.proofs.given.given_flags.Goals as goal

pub returns-in-Some-clause-allowed : goal.returns-in-Some-clause-allowed
returns-in-Some-clause-allowed c = (flags_of-Some c.args.number c.in-Some.flags (sym c.in-Some.ensures)).1
