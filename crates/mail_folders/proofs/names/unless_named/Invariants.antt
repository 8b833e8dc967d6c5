use Rattle.std.proofs.Common.{Result, Ok, drop}
use Rattle.mail_tree.specs.Tree.{Tree}
use Rattle.mail_tree.specs.Folders.{unless_named}
use Rattle.mail_draft.specs.Answers.{Says}
use Rattle.mail_draft.specs.Sight.{Reads}
use Rattle.mail_draft.specs.declared.stop.Stop.{Stop}
use Rattle.mail_folders.proofs.names.unless_named.Given as goal

-- what is said of the rest is said of all
abbrev pub invariant-loop-folder : goal.invariant-loop-folder
invariant-loop-folder g l = record {
  reads : Reads {R = Unit {0}} (g.D.Desk.view l.fn.desk) (g.D.Desk.view l.desk) (Ok tt);
  rest : (T : Tree) → (g.D.Desk.view l.fn.desk).shows T → (result : Result (Unit {0}) Stop)
      → Says (λ u. u) (unless_named T l.name (drop l.folder-index l.folders)) result → Says (λ u. u) (unless_named T l.name l.folders) result;
}
