use Rattle.std.proofs.Common.{◌≡◌, ◌+◌, ◌*◌, ◌<◌, ◌≤◌, ◌^◌, ◌++◌, length, map}
use Rattle.data_tree.specs.Plan.{bytes_in, contents, cut, numbered, xblock}
use Rattle.data_tree.proofs.plan.lists.Given as goal

abbrev pub invariant-loop-rest : goal.invariant-loop-rest
invariant-loop-rest l = record {
  made : l.out.items ++ numbered 2 l.bits (map xblock (cut 1021 l.rest)) ≡ numbered 2 l.next (map xblock (cut 1021 l.blocks));
  room : l.bits + 4 * length l.rest ≤ l.next + 4 * length l.blocks;
  together : bytes_in (contents l.rest) < 2 ^ 32;
}

abbrev pub decreases-loop-rest : goal.decreases-loop-rest
decreases-loop-rest l = length l.rest
