use Rattle.std.proofs.Common.{◌≡◌, ◌++◌}
use Rattle.std.specs.Map.{values_of}
use Rattle.mail_objects.proofs.message.order.in_order.Given as goal

-- the subnodes so far, and those to come
abbrev pub invariant-loop-sub : goal.invariant-loop-sub
invariant-loop-sub l = record {
  can_next : (goal.iterator-loop-sub).can_next l.sub-iterator;
  is_finite : (goal.iterator-loop-sub).is_finite l.sub-iterator;
  so_far : l.sorted.items ++ values_of l.sub-iterator ≡ values_of l.initial.sub-iterator;
}
