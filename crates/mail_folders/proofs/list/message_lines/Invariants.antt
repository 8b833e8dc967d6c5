use Rattle.std.proofs.Common.{Result, Ok, ◌++◌, drop}
use Rattle.std.specs.Global.{Vec}
use Rattle.command_text.specs.declared.reply.DataLine.{DataLine}
use Rattle.mail_tree.specs.Tree.{Tree}
use Rattle.mail_tree.specs.Changing.{◌>>=◌}
use Rattle.mail_folders.specs.Pieces.{each, line_of_message}
use Rattle.mail_draft.specs.Answers.{Says}
use Rattle.mail_draft.specs.Sight.{Reads}
use Rattle.mail_draft.specs.declared.stop.Stop.{Stop}
use Rattle.mail_folders.proofs.list.message_lines.Given as goal

-- what is said of the lines so far, with those of the rest, is said of all
abbrev pub invariant-loop-message : goal.invariant-loop-message
invariant-loop-message g l = record {
  reads : Reads {R = Unit {0}} (g.D.Desk.view l.fn.desk) (g.D.Desk.view l.desk) (Ok tt);
  rest : (T : Tree) → (g.D.Desk.view l.fn.desk).shows T → (result : Result (Vec DataLine) Stop)
      → Says (λ lines. lines.items) (each (line_of_message T) (drop l.message-index l.messages) >>= λ more. Ok (l.lines.items ++ more)) result → Says (λ lines. lines.items) (each (line_of_message T) l.messages) result;
}
