use Rattle.std.proofs.Common.{◌≡◌, ℕ, take}
use Rattle.std.specs.Ordering.{nat_cmp}
use Rattle.std.specs.BTreeSet.{contains}
use Rattle.mapi_values.specs.Messages.{is_own}
use Rattle.mail_objects.proofs.message.kept.own_ids.Given as goal

-- the ids of the tables and of the attachments so far
abbrev pub invariant-loop-part : goal.invariant-loop-part
invariant-loop-part l = (nid : ℕ) → contains nat_cmp l.ids nid ≡ is_own (take l.part-index l.parts) nid
