use Rattle.std.proofs.Common.{◌≡◌, ◌++◌, drop, map}
use Rattle.std.specs.List.{filter}
use Rattle.mail_tree.specs.Settling.{is_message_row}
use Rattle.mail_draft.proofs.listed.message_ids.Given as goal

-- the ids so far, with those of the rest, are all
abbrev pub invariant-loop-row : goal.invariant-loop-row
invariant-loop-row l = l.ids.items ++ map (λ r. r.0) (filter is_message_row (drop l.row-index l.row-items)) ≡ map (λ r. r.0) (filter is_message_row l.row-items)
