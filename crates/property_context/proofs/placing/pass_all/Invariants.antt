use Rattle.std.proofs.Common.{ℕ, List, ◌≤◌, length}
use Rattle.pst_base.specs.Flat.{Flat}
use Rattle.node_values.specs.Named.{KeepsData}
use Rattle.property_context.specs.Placing.{Placing, placed_data, span}
use Rattle.property_context.proofs.placing.pass_all.Given as goal

abbrev pub invariant-subs : goal.invariant-subs
invariant-subs l = record {
  room : span l.p ≤ span l.fn.p;
  kept : KeepsData (placed_data l.fn.p) (placed_data l.p);
  placing : (long : List (ℕ × List ℕ)) (rest : List Flat) → Placing l.fn.p long rest → Placing l.p long rest;
}

abbrev pub decreases-subs : goal.decreases-subs
decreases-subs l = length l.p.left.items
