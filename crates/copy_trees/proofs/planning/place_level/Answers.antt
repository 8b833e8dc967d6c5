use Rattle.std.proofs.Common.{◌+◌, ◌∷◌, [], List, length, length-append, map, refl, sym, subst, ap, arith}
use Rattle.pst_base.specs.declared.ids.Bref.{Bref}
use Rattle.copy_layout.specs.Order.{InOrder}
use Rattle.file_layout.specs.Trees.{page_place}
use Rattle.copy_trees.specs.Levels.{AreNumbered}
use Rattle.copy_trees.proofs.LevelLaws.{numbered-more, pages-more}
use Rattle.copy_trees.proofs.planning.place_level.Goals as goal

pub loop-preserved : goal.loop-preserved
loop-preserved c =
    let inv = c.loop.invariant in
    let ats = c.loop.pages.items in
    let at : Bref = record { bid = record { bits = c.loop.number }; ib = c.next_page-ib.result } in
    let items = c.in_ok-push.ensures.items in
    let next = c.next_page-ib.ensures.next in
    let behind = next.holds.behind in
    let low = inv.behind in
    let spread = inv.spread in
    let fit = c.if-end-gt-LIMIT.false in
    let size = length-append ats (at ∷ []) in
    let count = inv.count in
    let long = ap length items in
    record {
      count = omega (arith, long, size, count);
      order = subst (λ (l : List Bref). InOrder 512 c.args.from (map page_place l) (c.next_page-ib.result + 512)) (sym items) (pages-more c.args.from c.loop.end (c.next_page-ib.result + 512) ats at inv.order next refl);
      numbered = subst (λ (l : List Bref). AreNumbered c.args.first l (c.loop.number + 1)) (sym items) (numbered-more c.args.first c.loop.number ats at inv.numbered refl);
      behind = omega (arith, low, behind);
      spread = omega (arith, spread, behind);
      few = omega (arith, spread, fit);
    }
