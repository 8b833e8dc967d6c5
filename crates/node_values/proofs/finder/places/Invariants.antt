use Rattle.std.proofs.Common.{◌≡◌, ℕ, ◌≤◌, length, drop}
use Rattle.std.specs.Ordering.{nat_cmp}
use Rattle.std.specs.BTreeMap.{get}
use Rattle.node_values.specs.Subnodes.{place_from}
use Rattle.node_values.proofs.finder.places.Given as goal

-- the subnodes from i on stand in the map
abbrev pub invariant-loop-i : goal.invariant-loop-i
invariant-loop-i l = record {
  within : l.i ≤ length l.subs;
  places : (nid : ℕ) → get nat_cmp l.places nid ≡ place_from nid l.i (drop l.i l.subs);
}

abbrev pub decreases-loop-i : goal.decreases-loop-i
decreases-loop-i l = l.i
