use Rattle.std.proofs.Common.{◌≡◌, ◌++◌, false}
use Rattle.std.specs.Vec.Iter.{into_iter_items}
use Rattle.pst_base.specs.Subs.{flattened}
use Rattle.mapi_values.specs.Messages.{is_own}
use Rattle.node_values.specs.Subnodes.{without}
use Rattle.mail_objects.proofs.message.kept.without_own.Given as goal

-- those that are kept so far, and those that are left to look at
abbrev pub invariant-loop-sub : goal.invariant-loop-sub
invariant-loop-sub l = record {
  can_next : (goal.iterator-loop-sub).can_next l.sub-iterator;
  is_finite : (goal.iterator-loop-sub).is_finite l.sub-iterator;
  so_far : flattened l.kept.items ++ without (is_own l.parts) false (flattened (into_iter_items l.sub-iterator)) ≡ without (is_own l.parts) false l.fn.rest;
}
