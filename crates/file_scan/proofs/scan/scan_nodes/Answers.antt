use Rattle.file_scan.proofs.ScanLaws.{scans-of, scans-once}
use Rattle.file_scan.proofs.scan.scan_nodes.Goals as goal

pub returns-clause-lays : goal.returns-clause-lays
returns-clause-lays g c = λ told.
    scans-of (g.W.Outside.view c.scan.new.w).here c.in_ok-scanned.scanned.header _ _ _ c.in_ok-scanned.scanned.lines.items _ (c.in_ok-scanned.ensures.opened told) (c.in_ok-scanned.ensures.lays told)

pub returns-clause-only : goal.returns-clause-only
returns-clause-only g c = λ told other nodes opens lays.
    scans-once (g.W.Outside.view c.scan.new.w).here c.in_ok-scanned.scanned.header other _ _ _ c.in_ok-scanned.scanned.lines.items _ nodes (c.in_ok-scanned.ensures.opened told) (c.in_ok-scanned.ensures.lays told) opens lays
