use Rattle.std.proofs.Common.{◌≡◌, ◌++◌}
use Rattle.heap_edit.proofs.placed.entries.Given as goal

-- the blocks so far, and those to come
abbrev pub invariant-loop-put : goal.invariant-loop-put
invariant-loop-put l = record {
  can_next : (goal.iterator-loop-put).can_next l.put-iterator;
  is_finite : (goal.iterator-loop-put).is_finite l.put-iterator;
  so_far : l.all.items ++ l.put-iterator ≡ l.initial.put-iterator;
}
