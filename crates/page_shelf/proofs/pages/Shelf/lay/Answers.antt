use Rattle.std.proofs.Common.{rules, ◌≡◌, length, sym, subst, arith}
use Rattle.pst_base.specs.Ids.{key_of}
use Rattle.btree_pages.specs.declared.entry.BlockEntry.{BlockEntry}
use Rattle.tree_edit.specs.declared.plan.PlanPage.{PlanPage}
use Rattle.tree_edit.specs.Plans.{IsWritable}
use Rattle.page_shelf.proofs.ShelfLaws.{writable-at}
use Rattle.page_shelf.proofs.pages.Shelf.lay.Goals as goal

pub content-requires : goal.content-requires
content-requires c =
    let number : c.len-i-end.result ≡ length c.args.plan.now.pages.items = search rules in
    let test = c.loop-i-test.true in
    subst (λ (p : PlanPage BlockEntry). IsWritable (λ (e : BlockEntry). key_of e.at.bid.bits) key_of 24 p) (sym c.index.ensures)
    (writable-at c.args.plan.now.pages.items c.loop-i.i c.index.result.now c.requires (omega (arith, number, test)))
