use Rattle.std.proofs.Common.{Result, Ok, drop}
use Rattle.mail_tree.specs.Tree.{Tree}
use Rattle.mail_draft.specs.Answers.{Says}
use Rattle.mail_draft.specs.Sight.{Reads}
use Rattle.mail_draft.specs.declared.stop.Stop.{Stop}
use Rattle.mail_searches.specs.Building.{found_among}
use Rattle.search_folders.proofs.Built.{Rows, same_but_rows}
use Rattle.search_folders.proofs.building.find_among.Given as goal

-- what is said of the rows so far, with those of the rest, is said of all
abbrev pub invariant-loop-message : goal.invariant-loop-message
invariant-loop-message g l = record {
  reads : Reads {R = Unit {0}} (g.D.Desk.view l.fn.desk) (g.D.Desk.view l.desk) (Ok tt);
  same : same_but_rows l.table l.fn.table;
  rest : (T : Tree) → (g.D.Desk.view l.fn.desk).shows T → (rows : Rows) (result : Result (Unit {0}) Stop)
      → Says (λ u. rows) (found_among T l.search l.table.columns (drop l.message-index l.messages) l.table.rows) result → Says (λ u. rows) (found_among T l.search l.fn.table.columns l.messages l.fn.table.rows) result;
}
