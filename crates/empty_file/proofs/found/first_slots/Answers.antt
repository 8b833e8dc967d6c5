use Rattle.empty_file.proofs.Apart.{no-overlap}
use Rattle.empty_file.proofs.found.first_slots.Goals as goal

pub unreachable-requires : goal.unreachable-requires
unreachable-requires c = no-overlap 8192 c.in-Err-Refused.field-0 c.in-Err-Refused.field-0-0 c.in-Err-Refused.field-0-is c.in-Err-Refused.ensures.overlap
