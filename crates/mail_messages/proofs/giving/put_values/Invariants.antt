use Rattle.std.proofs.Common.{◌≡◌, drop}
use Rattle.mail_tree.specs.Values.{put_all}
use Rattle.mail_messages.proofs.giving.put_values.Given as goal

-- with those that are left, all are put
abbrev pub invariant-loop-value : goal.invariant-loop-value
invariant-loop-value l = put_all (drop l.value-index l.values) l.props ≡ put_all l.values l.initial.props
