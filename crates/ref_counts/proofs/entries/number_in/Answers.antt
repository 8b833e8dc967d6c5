use Rattle.std.proofs.Common.{sym, ap}
use Rattle.ref_counts.specs.Tables.{number_of}
use Rattle.ref_counts.proofs.SeatLaws.{number-there, none-here}
use Rattle.ref_counts.proofs.entries.number_in.Goals as goal

pub returns-in-Ok : goal.returns-in-Ok
returns-in-Ok c = number-there c.args.entries.now c.args.key c.in-Ok.at (0, 0) c.in-Ok.ensures.there

pub returns-in-Err : goal.returns-in-Err
returns-in-Err c = sym (ap number_of (none-here c.args.entries.now c.args.key c.in-Err.field-0 c.in-Err.ensures.missing))
