use Rattle.std.proofs.Common.{Result, Ok, [], drop}
use Rattle.std.specs.Global.{Vec}
use Rattle.command_text.specs.declared.reply.DataLine.{DataLine}
use Rattle.mail_tree.specs.Tree.{Tree}
use Rattle.mail_draft.specs.Answers.{Says}
use Rattle.mail_draft.specs.Sight.{Reads}
use Rattle.mail_draft.specs.declared.stop.Stop.{Stop}
use Rattle.search_folders.specs.Pieces.{named_lines}
use Rattle.search_folders.proofs.listing.named_lines.Given as goal

-- what is said of the lines so far, with those of the rest, is said of all
abbrev pub invariant-loop-row : goal.invariant-loop-row
invariant-loop-row g l = record {
  reads : Reads {R = Unit {0}} (g.D.Desk.view l.fn.desk) (g.D.Desk.view l.desk) (Ok tt);
  rest : (T : Tree) → (g.D.Desk.view l.fn.desk).shows T → (result : Result (Vec DataLine) Stop)
      → Says (λ lines. lines.items) (named_lines T l.lines.items (drop l.row-index l.rows)) result → Says (λ lines. lines.items) (named_lines T [] l.rows) result;
}
