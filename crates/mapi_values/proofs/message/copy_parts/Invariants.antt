use Rattle.std.proofs.Common.{◌≡◌, take}
use Rattle.mapi_values.proofs.message.copy_parts.Given as goal

-- the attachments that were passed are copied
abbrev pub invariant-loop-part : goal.invariant-loop-part
invariant-loop-part l = l.copied.items ≡ take l.part-index l.parts
