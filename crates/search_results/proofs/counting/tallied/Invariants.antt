use Rattle.std.proofs.Common.{◌≤◌, Ok}
use Rattle.mail_tree.specs.Tree.{Tree}
use Rattle.mail_draft.specs.Sight.{Reads}
use Rattle.search_results.specs.Counting.{pair_of}
use Rattle.search_results.proofs.CountLaws.{Counts}
use Rattle.search_results.proofs.counting.tallied.Given as goal

-- so many were counted so far
abbrev pub invariant-loop-id : goal.invariant-loop-id
invariant-loop-id g l = record {
  few : l.count.messages ≤ l.id-index;
  fewer : l.count.unread ≤ l.count.messages;
  reads : Reads {R = Unit {0}} (g.D.Desk.view l.fn.desk) (g.D.Desk.view l.desk) (Ok tt);
  counts : (T : Tree) → (g.D.Desk.view l.fn.desk).shows T → Counts T (g.D.Desk.view l.fn.desk).changed l.ids l.id-index (pair_of l.count);
}
