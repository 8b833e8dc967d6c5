use Rattle.std.proofs.Common.{drop}
use Rattle.mail_objects.proofs.AddLaws.{AddsRest}
use Rattle.mail_objects.proofs.message.write.push_parts.Given as goal

abbrev pub invariant-loop-part : goal.invariant-loop-part
invariant-loop-part l = AddsRest l.fn.subs.items l.parts (drop l.part-index l.parts) l.subs.items
