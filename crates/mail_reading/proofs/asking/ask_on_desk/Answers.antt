use Rattle.std.proofs.lemmas.Result.{err_from_is_err_and}
use Rattle.search_folders.proofs.mail_draft_laws.DeskLoops.{reads_exit, reads_ok}
use Rattle.mail_reading.proofs.Answered.{asked_stops, asked_well}
use Rattle.mail_reading.proofs.asking.ask_on_desk.Goals as goal

pub returns-in_err-tree-in_default : goal.returns-in_err-tree-in_default
returns-in_err-tree-in_default g c =
    let p = err_from_is_err_and c.from_residual.result c.from_residual.ensures.1 in let read = c.in_err-tree-in_default in
    record {
      reads = reads_exit _ read.ensures.reads c.from_residual.ensures.1;
      answer = rw (p.1, p.2) (asked_stops c.args.searches.now c.args.command.now (c.in_default.not-ListFolder, c.in_default.not-GetCriteria) _ read.ensures.answer);
    }

pub returns-in_ok-tree-in_default : goal.returns-in_ok-tree-in_default
returns-in_ok-tree-in_default g c =
    let read = c.in_ok-tree-in_default in
    record {
      reads = reads_ok _ read.ensures.reads;
      answer = asked_well c.args.searches.now c.args.command.now (c.in_default.not-ListFolder, c.in_default.not-GetCriteria) read.tree _ c.staying.ensures read.ensures.answer;
    }
