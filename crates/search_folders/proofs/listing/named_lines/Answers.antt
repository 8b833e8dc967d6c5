use Rattle.std.specs.Global.{Vec}
use Rattle.command_text.specs.declared.reply.DataLine.{DataLine}
use Rattle.mail_draft.proofs.DeskCalls.{reads_then}
use Rattle.mail_draft.proofs.DeskLoops.{reads_ok}
use Rattle.mail_folders.proofs.Steps.{stopped}
use Rattle.search_folders.proofs.Lines.{lines_on, lines_stop}
use Rattle.search_folders.proofs.listing.named_lines.Goals as goal

pub returns-in_err-lines-clause-answer : goal.returns-in_err-lines-clause-answer
returns-in_err-lines-clause-answer g c =
    let I = c.loop-row.invariant in let stop = c.in_err-lines.field-0.0 in
    record {
      says = λ T s. I.rest T s _ (stopped _ _ stop _ c.from_residual.ensures.1
          (lines_stop (λ (lines : Vec DataLine). lines.items) T _ c.args.rows.now c.loop-row.row-index c.row-item.result stop c.loop-row-test.true c.row-item.is (c.in_err-lines.ensures.answer.says T (I.reads.shows T s))));
    }

pub loop-row-preserved : goal.loop-row-preserved
loop-row-preserved g c =
    let I = c.loop-row.invariant in
    record {
      reads = reads_ok tt (reads_then I.reads c.in_ok-lines.ensures.reads);
      rest = λ T s result says. I.rest T s result
          (lines_on (λ (lines : Vec DataLine). lines.items) T _ c.args.rows.now c.loop-row.row-index c.row-item.result c.in_ok-lines.lines result c.loop-row-test.true c.row-item.is (c.in_ok-lines.ensures.answer.says T (I.reads.shows T s)) says);
    }
