use Rattle.std.proofs.Common.{◌≡◌, map, take}
use Rattle.mail_tree.specs.Folders.{nid as nid_with}
use Rattle.tree_look.proofs.nodes.row_ids.Given as goal

abbrev pub invariant-loop-row : goal.invariant-loop-row
invariant-loop-row l = l.ids.items ≡ map (λ r. nid_with r.0) (take l.row-index l.row-items)
