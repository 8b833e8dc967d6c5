use Rattle.std.proofs.Common.{◌≡◌, ◌∙◌, ◌+◌, max, drop, get_or, ap, arith}
use Rattle.pst_base.specs.declared.ids.Bref.{Bref}
use Rattle.file_layout.specs.Numbers.{past_pages, counted_to}
use Rattle.file_scan.proofs.NextLaws.{pages-next, pages-end}
use Rattle.file_scan.proofs.next.next_page.Goals as goal

abbrev no_page : Bref
no_page = record { bid = record { bits = 0 }; ib = 0 }

pub loop-page-preserved : goal.loop-page-preserved
loop-page-preserved c =
    let pages = c.args.pages.now in
    let i = c.loop-page.page-index in
    let test = c.loop-page-test.true in
    let past : c.saturating_add.result ≡ counted_to ((get_or pages i no_page).bid.bits + 1) = c.saturating_add.ensures in
    let next : c.max-next.result ≡ max c.loop-page.next c.saturating_add.result = c.max-next.ensures in (
      ap (λ n. counted_to (past_pages n (drop (i + 1) pages))) next
          ∙ pages-next pages i no_page c.loop-page.next c.saturating_add.result _ (omega (arith, test)) c.loop-page.invariant.0 past,
      grind (arith, next, past, c.loop-page.invariant.1),
    )

pub returns : goal.returns
returns c =
    let test = c.loop-page-test.false in
    pages-end c.args.pages.now c.loop-page.page-index c.loop-page.next _ (omega (arith, test)) c.loop-page.invariant.1 c.loop-page.invariant.0
