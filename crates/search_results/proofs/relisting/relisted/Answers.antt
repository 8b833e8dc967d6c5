use Rattle.std.proofs.Common.{◌≡◌, ◌∙◌, sym, ap, length}
use Rattle.std.specs.Slice.Iter.{iter_rest}
use Rattle.std.specs.Iterator.Adapters.{zip_first, zip_second}
use Rattle.std.proofs.lemmas.Slice.Zip.{zip_end}
use Rattle.search_results.specs.Following.{relisted_by}
use Rattle.search_results.proofs.RelistLaws.{list_is, relisted_over}
use Rattle.search_results.proofs.relisting.relisted.Goals as goal

-- src/relisting.rt:69:1
pub returns : goal.returns
returns c =
    let I = c.loop-touch.invariant in
    let first = ap (λ z. iter_rest (zip_first z)) c.into_iter-touch-iterator.ensures.into_iter_gives ∙ ap iter_rest c.zip-touch-items.ensures.first ∙ c.iter.ensures.rest in
    let beside : iter_rest (zip_second c.zip-touch-items.result) ≡ c.args.deltas.now = c.zip-touch-items.ensures.second.0 in
    let second = ap (λ z. iter_rest (zip_second z)) c.into_iter-touch-iterator.ensures.into_iter_gives ∙ beside in
    let n = zip_end c.args.touches.now c.args.deltas.now c.loop-touch.yielded c.into_iter-touch-iterator.result c.loop-touch.touch-iterator c.next.new.self c.next.result first second c.loop-touch.yielded_by c.in-None.is c.next.ensures.steps in
    let table = c.into_table-table.ensures.table in
    list_is c.new.result c.args.node c.loop-touch.table (relisted_by c.args.node.table.columns c.args.touches.now c.args.deltas.now c.args.node.table.rows) (c.new.ensures.parent ∙ c.parent-parent.ensures) c.new.ensures.table
    (I.columns ∙ ap (λ t. t.columns) table) (I.ends ∙ ap (λ t. t.ends) table)
    (sym (relisted_over c.loop-touch.table.columns c.args.touches.now c.args.deltas.now (length c.loop-touch.yielded) c.loop-touch.table.rows n) ∙ I.rows
    ∙ ap (λ t. relisted_by t.columns c.args.touches.now c.args.deltas.now t.rows) table)
    (I.kept ∙ ap (λ t. t.kept) table)
