use Rattle.std.proofs.Common.{◌≡◌, ◌++◌, map}
use Rattle.mail_draft.specs.Unread.{entry_note}
use Rattle.mail_draft.proofs.flags.flag_changes.Given as goal

-- the changes so far, with those of the rest, are all
abbrev pub invariant-loop-nid : goal.invariant-loop-nid
invariant-loop-nid l = l.changes.items ++ map entry_note l.nid-iterator ≡ map entry_note l.draft.objects.entries
