use Rattle.std.proofs.Common.{◌≤◌, Ok}
use Rattle.mail_tree.specs.Tree.{Tree}
use Rattle.mail_draft.proofs.UnreadLaws.{Counts}
use Rattle.mail_draft.specs.Sight.{Reads}
use Rattle.mail_draft.proofs.on_desk.unread.unread_among.Given as goal

abbrev pub invariant-loop-id : goal.invariant-loop-id
invariant-loop-id g l = record {
  few : l.unread ≤ l.id-index;
  reads : Reads {R = Unit {0}} (g.D.Desk.view l.fn.desk) (g.D.Desk.view l.desk) (Ok tt);
  counts : (T : Tree) → (g.D.Desk.view l.fn.desk).shows T → Counts T (g.D.Desk.view l.fn.desk).changed l.ids l.id-index l.unread;
}
