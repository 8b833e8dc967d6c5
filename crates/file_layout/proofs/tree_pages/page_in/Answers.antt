use Rattle.std.proofs.Common.{◌∙◌, sym, ap, Err}
use Rattle.file_layout.proofs.SeatLaws.{page_in-owed, page_in-err, page_in-ok, page_in-key, ok_or_err}
use Rattle.file_layout.proofs.tree_pages.page_in.Goals as goal

pub returns-in-Err : goal.returns-in-Err
returns-in-Err g c =
    ap Err c.sooner.ensures ∙ sym (page_in-err g.E.Entry.rule g.E.Entry.size c.args.seat c.args.body.now c.in-Err.fault (sym c.read.ensures ∙ c.in-Err.is))

pub returns-in-Some : goal.returns-in-Some
returns-in-Some g c =
    sym (page_in-owed g.E.Entry.rule g.E.Entry.size c.args.seat c.args.body.now c.in-Some.fault (ok_or_err c.in-Ok.page (sym c.read.ensures ∙ c.in-Ok.is)) (sym c.owed.ensures ∙ c.in-Some.is))

pub returns-then-not-in_span : goal.returns-then-not-in_span
returns-then-not-in_span g c =
    sym (page_in-key g.E.Entry.rule g.E.Entry.size c.args.seat c.args.body.now c.in-Ok.page (sym c.read.ensures ∙ c.in-Ok.is) (sym c.owed.ensures ∙ c.in_default.is) (sym c.in_span.ensures ∙ c.if-not-in_span.true))

pub returns : goal.returns
returns g c =
    sym (page_in-ok g.E.Entry.rule g.E.Entry.size c.args.seat c.args.body.now c.in-Ok.page (sym c.read.ensures ∙ c.in-Ok.is) (sym c.owed.ensures ∙ c.in_default.is) (sym c.in_span.ensures ∙ c.if-not-in_span.false))
