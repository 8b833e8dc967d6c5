use Rattle.std.proofs.Common.{◌≡◌, ◌++◌, true, List, ℕ, Option}
use Rattle.std.specs.List.{AllZip, list_all}
use Rattle.mail_objects.specs.declared.object.Object.{Object}
use Rattle.mail_tree.specs.Changing.{entry_fits}
use Rattle.mail_draft.specs.Written.{Writes}
use Rattle.mail_draft.proofs.ending.finish.Given as goal

-- the nodes so far are those of the first entries, and the others fit
abbrev pub invariant-loop-nid : goal.invariant-loop-nid
invariant-loop-nid l = record {
  written : (es : List (ℕ × Option Object)) × (l.draft.objects.entries ≡ es ++ l.nid-iterator) × AllZip Writes es l.nodes.items;
  fits : list_all entry_fits l.nid-iterator ≡ true;
}
