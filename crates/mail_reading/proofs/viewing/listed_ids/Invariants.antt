use Rattle.std.proofs.Common.{ℕ, Result, Ok, [], drop}
use Rattle.std.specs.Global.{Vec}
use Rattle.mail_tree.specs.Tree.{Tree}
use Rattle.search_folders.specs.mail_draft.Answers.{Says}
use Rattle.search_folders.specs.mail_draft.Sight.{Reads}
use Rattle.search_folders.specs.mail_draft.declared.stop.Stop.{Stop}
use Rattle.mail_reading.proofs.ListedLaws.{named_from}
use Rattle.mail_reading.proofs.viewing.listed_ids.Given as goal

-- what is said of the ids so far, with those of the rest, is said of all
abbrev pub invariant-loop-row : goal.invariant-loop-row
invariant-loop-row g l = record {
  reads : Reads {R = Unit {0}} (g.D.Desk.view l.fn.desk) (g.D.Desk.view l.desk) (Ok tt);
  rest : (T : Tree) → (g.D.Desk.view l.fn.desk).shows T → (result : Result (Vec ℕ) Stop)
      → Says (λ ids. ids.items) (named_from T l.ids.items (drop l.row-index l.rows)) result → Says (λ ids. ids.items) (named_from T [] l.rows) result;
}
