use Rattle.std.proofs.Common.{◌∙◌}
use Rattle.std.specs.Global.{Vec}
use Rattle.command_text.specs.declared.reply.DataLine.{DataLine}
use Rattle.mail_tree.specs.Folders.{listed}
use Rattle.mail_draft.specs.Desks.{coming_of}
use Rattle.mail_draft.proofs.DeskCalls.{comes_unchanged, reads_then}
use Rattle.mail_draft.proofs.Passes.{then_says}
use Rattle.mail_searches.specs.Criteria.{search_listing}
use Rattle.search_folders.proofs.Lines.{search_lists, search_stops}
use Rattle.search_folders.proofs.Among.{comes_exits}
use Rattle.search_folders.proofs.listing.search_listing.Goals as goal

pub returns-in_err-lines-clause-answer : goal.returns-in_err-lines-clause-answer
unfolding search_listing
returns-in_err-lines-clause-answer g c = comes_exits _ _ (λ T s.
    let table = rw c.results_table.ensures at (c.in_ok-node.ensures.answer.says T s) in
    let lines = rw (c.rows.ensures.value, c.table.ensures.table) at (c.in_err-lines.ensures.answer.says T (c.in_ok-node.ensures.reads.shows T s)) in
    then_says _ _ _ _ _ _ table (search_stops (λ (lines : Vec DataLine). lines.items) (coming_of T (g.D.Desk.view c.named_lines.new.desk).changed) T _ _ lines)) c.from_residual-in_err-lines.ensures.1

pub returns-clause-answer : goal.returns-clause-answer
unfolding search_listing
returns-clause-answer g c =
    let reads = reads_then c.in_ok-node.ensures.reads c.in_ok-lines.ensures.reads in let coming = c.replied.ensures in
    let last = comes_unchanged {desk = g.D.Desk.view c.named_lines.new.desk} c.replied.result (listed c.in_ok-lines.lines.items) (reads.changed ∙ c.requires.fresh) coming.places coming.last (coming.reply ∙ c.listed.ensures) in
    record {
      says = λ T s.
          let table = rw c.results_table.ensures at (c.in_ok-node.ensures.answer.says T s) in
          let lines = rw (c.rows.ensures.value, c.table.ensures.table) at (c.in_ok-lines.ensures.answer.says T (c.in_ok-node.ensures.reads.shows T s)) in
          then_says _ _ _ _ _ _ table (search_lists (λ (lines : Vec DataLine). lines.items) (coming_of T (g.D.Desk.view c.named_lines.new.desk).changed) T _ _ _ lines (last.says T (reads.shows T s)));
      fits = last.fits;
    }
