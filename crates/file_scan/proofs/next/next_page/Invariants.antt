use Rattle.std.proofs.Common.{◌≡◌, ◌≤◌, drop}
use Rattle.file_layout.specs.Numbers.{past_pages, counted_to}
use Rattle.file_scan.proofs.next.next_page.Given as goal

abbrev pub invariant-loop-page : goal.invariant-loop-page
invariant-loop-page l = (counted_to (past_pages l.next (drop l.page-index l.pages)) ≡ counted_to (past_pages l.header.next_page l.pages)) × (l.next ≤ 0xffff_ffff_ffff_ffff)
