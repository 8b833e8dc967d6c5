use Rattle.std.proofs.Common.{◌≡◌, ◌++◌, map}
use Rattle.staged_nodes.specs.Staged.{change_of}
use Rattle.staged_nodes.specs.Staging.{kept_slots}
use Rattle.staged_nodes.proofs.staging.Staging.changes.Given as goal

-- what is listed so far, and what the rest of the slots has
abbrev pub invariant-loop-nid : goal.invariant-loop-nid
invariant-loop-nid l = map change_of (kept_slots l.self.slots.entries) ≡ l.nodes.items ++ map change_of (kept_slots l.nid-iterator)
