use Rattle.std.proofs.Common.{◌≤◌, length, sym, subst}
use Rattle.std.proofs.lemmas.Result.{err_from_is_err_and}
use Rattle.pst_outside.specs.World.{Image}
use Rattle.file_layout.proofs.Underway.{untouched_then}
use Rattle.file_scan.proofs.ScanLaws.{eof-trees}
use Rattle.file_scan.proofs.scan.scan_blocks.Goals as goal

pub returns-in_err-check_eof-clause-refused : goal.returns-in_err-check_eof-clause-refused
returns-in_err-check_eof-clause-refused g c =
    let p = err_from_is_err_and c.from_residual.result c.from_residual.ensures.1 in
    let header = c.args.header.now in
    rw (p.1, p.2) (λ told.
    let same = c.in_err-check_eof.ensures.same.stays in
    eof-trees (g.W.Outside.view c.check_eof.new.w).here header c.in_err-check_eof.field-0.0
    (subst (λ (i : Image). 564 ≤ length i.main) (sym (same.here told)) (c.requires (same.told told))) (c.in_err-check_eof.ensures.refused told))

pub returns-clause-lays : goal.returns-clause-lays
returns-clause-lays g c = λ told. let laid = c.in_ok-scanned.ensures.lays told in record { nodes = laid.nodes; lays = laid.lays; blocks_are = laid.blocks_are }

pub returns-clause-same : goal.returns-clause-same
returns-clause-same g c = untouched_then c.in_ok-check_eof.ensures.same c.scan_trees.ensures.same
