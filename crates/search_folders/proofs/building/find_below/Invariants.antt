use Rattle.std.proofs.Common.{Result, Ok, drop}
use Rattle.mail_tree.specs.Tree.{Tree}
use Rattle.mail_draft.specs.Answers.{Says}
use Rattle.mail_draft.specs.Sight.{Reads}
use Rattle.mail_draft.specs.declared.stop.Stop.{Stop}
use Rattle.mail_searches.specs.Building.{found_below}
use Rattle.search_folders.proofs.Built.{Rows, same_but_rows}
use Rattle.search_folders.proofs.building.find_below.Given as goal

-- what is said of the rows so far, with those of the rest, is said of all
abbrev pub invariant-loop-place : goal.invariant-loop-place
invariant-loop-place g l = record {
  reads : Reads {R = Unit {0}} (g.D.Desk.view l.fn.desk) (g.D.Desk.view l.desk) (Ok tt);
  same : same_but_rows l.table l.fn.table;
  rest : (T : Tree) → (g.D.Desk.view l.fn.desk).shows T → (rows : Rows) (result : Result (Unit {0}) Stop)
      → Says (λ u. rows) (found_below T l.search l.table.columns (drop l.place-index l.place-items) l.table.rows) result → Says (λ u. rows) (found_below T l.search l.fn.table.columns T.places l.fn.table.rows) result;
}
