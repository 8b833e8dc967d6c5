use Rattle.std.proofs.Common.{◌≡◌, ◌+◌, ◌^◌, ◌≤◌, min}
use Rattle.mail_draft.specs.Space.{entries_space}
use Rattle.mail_draft.proofs.space.space_needed.Given as goal

-- with what is left, the total is that of all
abbrev pub invariant-loop-nid : goal.invariant-loop-nid
invariant-loop-nid l = record {
  few : l.total ≤ 2 ^ 60;
  sum : min (l.total + entries_space l.nid-iterator) (2 ^ 60) ≡ min (entries_space l.draft.objects.entries) (2 ^ 60);
}
