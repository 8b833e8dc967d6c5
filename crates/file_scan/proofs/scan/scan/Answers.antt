use Rattle.std.proofs.Common.{◌≡◌, ◌∙◌, ◌≤◌, Ok, ap, arith, length, sym, subst}
use Rattle.std.proofs.lemmas.Result.{err_from_is_err_and, IfOk-weaker, IfErr-weaker}
use Rattle.pst_outside.specs.World.{Image}
use Rattle.file_blocks.proofs.FileLaws.{no_shorter}
use Rattle.file_layout.specs.Opening.{opening}
use Rattle.file_layout.proofs.Underway.{untouched_then}
use Rattle.file_scan.proofs.OpeningLaws.{opening-stops}
use Rattle.file_scan.proofs.ScanLaws.{eof-stops, trees-stops}
use Rattle.file_scan.proofs.scan.scan.Goals as goal

pub returns-in_err-opened-clause-refused : goal.returns-in_err-opened-clause-refused
returns-in_err-opened-clause-refused g c =
    let p = err_from_is_err_and c.from_residual.result c.from_residual.ensures.1 in
    rw (p.1, p.2) (λ told. opening-stops (g.W.Outside.view c.open_header.new.w).here c.in_err-opened.field-0.0 (c.in_err-opened.ensures.opens told))

pub returns-in_err-check_eof-clause-refused : goal.returns-in_err-check_eof-clause-refused
returns-in_err-check_eof-clause-refused g c =
    let p = err_from_is_err_and c.from_residual-in_err-check_eof.result c.from_residual-in_err-check_eof.ensures.1 in
    let header = c.in_ok-opened.opened.header in
    rw (p.1, p.2) (λ told.
    let same = c.in_err-check_eof.ensures.same.stays in
    let opened = (c.in_ok-opened.ensures.opens (same.told told)).0 in
    eof-stops (g.W.Outside.view c.check_eof.new.w).here header c.in_err-check_eof.field-0.0
    (subst (λ (i : Image). opening i.main i.side ≡ Ok header) (sym (same.here told)) opened) (c.in_err-check_eof.ensures.refused told))

pub returns-clause-opened : goal.returns-clause-opened
returns-clause-opened g c =
    let header = c.in_ok-opened.opened.header in
    IfOk-weaker c.scan_trees.result _ _
    (λ scanned is told.
    let same = (untouched_then c.in_ok-check_eof.ensures.same c.scan_trees.ensures.same).stays in
    let opened = (c.in_ok-opened.ensures.opens (same.told told)).0 in
    let opens : opening (g.W.Outside.view c.scan_trees.new.w).here.main (g.W.Outside.view c.scan_trees.new.w).here.side ≡ Ok header = subst (λ (i : Image). opening i.main i.side ≡ Ok header) (sym (same.here told)) opened in
    opens ∙ ap Ok (sym is))
    c.scan_trees.ensures.header

pub returns-clause-refused : goal.returns-clause-refused
returns-clause-refused g c =
    let header = c.in_ok-opened.opened.header in
    IfErr-weaker c.scan_trees.result _ _
    (λ stop stops told.
    let same = (untouched_then c.in_ok-check_eof.ensures.same c.scan_trees.ensures.same).stays in
    let opened = (c.in_ok-opened.ensures.opens (same.told told)).0 in
    let opens : opening (g.W.Outside.view c.scan_trees.new.w).here.main (g.W.Outside.view c.scan_trees.new.w).here.side ≡ Ok header = subst (λ (i : Image). opening i.main i.side ≡ Ok header) (sym (same.here told)) opened in
    let now = (g.W.Outside.view c.scan_trees.new.w).here in
    let later = c.scan_trees.ensures.same.stays in
    let main : header.eof ≤ length now.main = subst (λ (i : Image). header.eof ≤ length i.main) (sym (later.here told)) (c.in_ok-check_eof.ensures.whole (later.told told)) in
    let longer = no_shorter now.main now.side in
    trees-stops now header stop opens (omega (arith, main, longer)) c.in_ok-check_eof.ensures.small (stops told))
    c.scan_trees.ensures.refused

pub returns-clause-same : goal.returns-clause-same
returns-clause-same g c = untouched_then (untouched_then c.in_ok-opened.ensures.same c.in_ok-check_eof.ensures.same) c.scan_trees.ensures.same
