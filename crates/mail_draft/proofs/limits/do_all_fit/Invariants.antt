use Rattle.std.proofs.Common.{◌≡◌}
use Rattle.std.specs.List.{list_all}
use Rattle.mail_tree.specs.Changing.{entry_fits}
use Rattle.mail_draft.proofs.limits.do_all_fit.Given as goal

-- whether all fit turns on those that are left
abbrev pub invariant-loop-nid : goal.invariant-loop-nid
invariant-loop-nid l = list_all entry_fits l.draft.objects.entries ≡ list_all entry_fits l.nid-iterator
