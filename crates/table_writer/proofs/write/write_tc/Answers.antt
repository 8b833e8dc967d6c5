use Rattle.std.proofs.Common.{◌≡◌, ◌∙◌, ℕ, List, length, get_or, sym, ap, arith}
use Rattle.pst_base.specs.Subs.{flattened}
use Rattle.write_limits.specs.Limits.{direct, long_cells, rows_bytes}
use Rattle.table_writer.specs.Making.{weight}
use Rattle.node_values.specs.Subnodes.{ids_ascend}
use Rattle.table_writer.specs.Woven.{all_woven}
use Rattle.table_writer.specs.Writing.{FillsRows, PutsRows}
use Rattle.table_writer.proofs.SpaceLaws.{table-small}
use Rattle.table_writer.proofs.TableLaws.{direct-count, few-blocks, ids-keys, limits, rows-count, table-written}
use Rattle.table_writer.proofs.write.write_tc.Goals as goal

pub begin-requires : goal.begin-requires
begin-requires c =
    sym (ids-keys 0 c.as_slice.result.now) ∙ ap (ids_ascend 0) (c.as_slice.ensures ∙ c.kept.ensures) ∙ c.requires.ascend

pub rows_bytes-requires-clause-layout : goal.rows_bytes-requires-clause-layout
rows_bytes-requires-clause-layout c =
    rw (c.columns.ensures.value, c.ends-ends.ensures) c.columns.ensures.table.layout

pub rows_bytes-requires-clause-suit : goal.rows_bytes-requires-clause-suit
rows_bytes-requires-clause-suit c =
    rw (c.columns.ensures.value, c.rows.ensures.value) c.columns.ensures.table.suit

pub rows_bytes-requires-clause-light : goal.rows_bytes-requires-clause-light
rows_bytes-requires-clause-light c =
    omega (arith, ap weight c.in_ok-begun.ensures.none, ap rows_bytes c.rows.ensures.value, (limits c.args.t.now c.requires.fit).bytes)

pub rows_bytes-requires-clause-few : goal.rows_bytes-requires-clause-few
rows_bytes-requires-clause-few c =
    let kept : flattened c.as_slice.result.now ≡ c.args.t.now.kept = c.as_slice.ensures ∙ c.kept.ensures in
    omega (arith, ap length c.in_ok-begun.ensures.subs, direct-count c.as_slice.result.now, ap direct kept, ap long_cells c.rows.ensures.value, (limits c.args.t.now c.requires.fit).subnodes)

pub put_matrix-requires-clause-made : goal.put_matrix-requires-clause-made
put_matrix-requires-clause-made c =
    let fills : FillsRows c.in_ok-begun.begun c.in_ok-filled.filled (get_or c.args.t.now.ends 2 0) (get_or c.args.t.now.ends 3 0) c.args.t.now.columns c.args.t.now.rows c.in_ok-filled.bytes.items =
    rw (c.columns.ensures.value, c.ends-ends.ensures, c.rows.ensures.value) at c.in_ok-filled.ensures in
    let limit = limits c.args.t.now c.requires.fit in
    let begun : weight c.in_ok-begun.begun.maker ≡ 0 = ap weight c.in_ok-begun.ensures.none in
    fills.made

pub put_matrix-requires-clause-sizes : goal.put_matrix-requires-clause-sizes
put_matrix-requires-clause-sizes c =
    let fills : FillsRows c.in_ok-begun.begun c.in_ok-filled.filled (get_or c.args.t.now.ends 2 0) (get_or c.args.t.now.ends 3 0) c.args.t.now.columns c.args.t.now.rows c.in_ok-filled.bytes.items =
    rw (c.columns.ensures.value, c.ends-ends.ensures, c.rows.ensures.value) at c.in_ok-filled.ensures in
    let limit = limits c.args.t.now c.requires.fit in
    let begun : weight c.in_ok-begun.begun.maker ≡ 0 = ap weight c.in_ok-begun.ensures.none in
    rw (c.as_slice-2.ensures.value, c.from.ensures, c.ends-ends.ensures) fills.sizes

pub put_matrix-requires-clause-low : goal.put_matrix-requires-clause-low
put_matrix-requires-clause-low c =
    omega (arith, c.from.ensures, ap (λ (es : List ℕ). get_or es 3 0) c.ends-ends.ensures, (limits c.args.t.now c.requires.fit).low)

pub put_matrix-requires-clause-high : goal.put_matrix-requires-clause-high
put_matrix-requires-clause-high c =
    omega (arith, c.from.ensures, ap (λ (es : List ℕ). get_or es 3 0) c.ends-ends.ensures, (limits c.args.t.now c.requires.fit).high)

pub put_matrix-requires-clause-count : goal.put_matrix-requires-clause-count
put_matrix-requires-clause-count c =
    let fills : FillsRows c.in_ok-begun.begun c.in_ok-filled.filled (get_or c.args.t.now.ends 2 0) (get_or c.args.t.now.ends 3 0) c.args.t.now.columns c.args.t.now.rows c.in_ok-filled.bytes.items =
    rw (c.columns.ensures.value, c.ends-ends.ensures, c.rows.ensures.value) at c.in_ok-filled.ensures in
    let limit = limits c.args.t.now c.requires.fit in
    let begun : weight c.in_ok-begun.begun.maker ≡ 0 = ap weight c.in_ok-begun.ensures.none in
    omega (arith, ap length c.as_slice-2.ensures.value, rows-count c.in_ok-begun.begun c.in_ok-filled.filled (get_or c.args.t.now.ends 2 0) (get_or c.args.t.now.ends 3 0) c.args.t.now.columns c.args.t.now.rows c.in_ok-filled.bytes.items fills, limit.rows)

pub put_matrix-requires-clause-blocks : goal.put_matrix-requires-clause-blocks
put_matrix-requires-clause-blocks c =
    let fills : FillsRows c.in_ok-begun.begun c.in_ok-filled.filled (get_or c.args.t.now.ends 2 0) (get_or c.args.t.now.ends 3 0) c.args.t.now.columns c.args.t.now.rows c.in_ok-filled.bytes.items =
    rw (c.columns.ensures.value, c.ends-ends.ensures, c.rows.ensures.value) at c.in_ok-filled.ensures in
    let limit = limits c.args.t.now c.requires.fit in
    let begun : weight c.in_ok-begun.begun.maker ≡ 0 = ap weight c.in_ok-begun.ensures.none in
    omega (arith, few-blocks c.in_ok-filled.filled.maker fills.made.packed (omega (arith, fills.weighs, begun, limit.bytes)))

pub put_matrix-requires-clause-few : goal.put_matrix-requires-clause-few
put_matrix-requires-clause-few c =
    let fills : FillsRows c.in_ok-begun.begun c.in_ok-filled.filled (get_or c.args.t.now.ends 2 0) (get_or c.args.t.now.ends 3 0) c.args.t.now.columns c.args.t.now.rows c.in_ok-filled.bytes.items =
    rw (c.columns.ensures.value, c.ends-ends.ensures, c.rows.ensures.value) at c.in_ok-filled.ensures in
    let limit = limits c.args.t.now c.requires.fit in
    let begun : weight c.in_ok-begun.begun.maker ≡ 0 = ap weight c.in_ok-begun.ensures.none in
    let kept : flattened c.as_slice.result.now ≡ c.args.t.now.kept = c.as_slice.ensures ∙ c.kept.ensures in
    omega (arith, fills.count, ap length c.in_ok-begun.ensures.subs, direct-count c.as_slice.result.now, ap direct kept, limit.subnodes)

pub put_head-requires-clause-blocks : goal.put_head-requires-clause-blocks
put_head-requires-clause-blocks c =
    let fills : FillsRows c.in_ok-begun.begun c.in_ok-filled.filled (get_or c.args.t.now.ends 2 0) (get_or c.args.t.now.ends 3 0) c.args.t.now.columns c.args.t.now.rows c.in_ok-filled.bytes.items =
    rw (c.columns.ensures.value, c.ends-ends.ensures, c.rows.ensures.value) at c.in_ok-filled.ensures in
    let limit = limits c.args.t.now c.requires.fit in
    let begun : weight c.in_ok-begun.begun.maker ≡ 0 = ap weight c.in_ok-begun.ensures.none in
    let puts : PutsRows c.in_ok-filled.filled c.in_ok-made.made (get_or c.args.t.now.ends 3 0) c.in_ok-filled.bytes.items c.in_ok-made.matrix =
    rw (c.as_slice-2.ensures.value, c.from.ensures, c.ends-ends.ensures) at c.in_ok-made.ensures.puts in
    few-blocks c.in_ok-made.made.maker puts.made.packed (omega (arith, puts.weighs, fills.weighs, begun, limit.bytes))

pub returns-clause-exact : goal.returns-clause-exact
returns-clause-exact c =
    let fills : FillsRows c.in_ok-begun.begun c.in_ok-filled.filled (get_or c.args.t.now.ends 2 0) (get_or c.args.t.now.ends 3 0) c.args.t.now.columns c.args.t.now.rows c.in_ok-filled.bytes.items =
    rw (c.columns.ensures.value, c.ends-ends.ensures, c.rows.ensures.value) at c.in_ok-filled.ensures in
    let limit = limits c.args.t.now c.requires.fit in
    let begun : weight c.in_ok-begun.begun.maker ≡ 0 = ap weight c.in_ok-begun.ensures.none in
    let puts : PutsRows c.in_ok-filled.filled c.in_ok-made.made (get_or c.args.t.now.ends 3 0) c.in_ok-filled.bytes.items c.in_ok-made.matrix =
    rw (c.as_slice-2.ensures.value, c.from.ensures, c.ends-ends.ensures) at c.in_ok-made.ensures.puts in
    let kept : flattened c.as_slice.result.now ≡ c.args.t.now.kept = c.as_slice.ensures ∙ c.kept.ensures in
    table-written c.in_ok-begun.begun c.in_ok-filled.filled c.in_ok-made.made c.args.t.now c.as_slice.result.now c.in_ok-filled.bytes.items c.in_ok-made.matrix c.in_ok-maker.root c.in_ok-maker.maker c.in_ok-finish.field-0 c.in_ok-finish-2.field-0
    c.in_ok-begun.ensures.subs kept fills puts c.in_ok-maker.ensures.puts c.in_ok-finish.ensures.heap c.in_ok-finish.ensures.items c.in_ok-finish-2.ensures limit.rows

pub returns-clause-ascend : goal.returns-clause-ascend
returns-clause-ascend c =
    let fills : FillsRows c.in_ok-begun.begun c.in_ok-filled.filled (get_or c.args.t.now.ends 2 0) (get_or c.args.t.now.ends 3 0) c.args.t.now.columns c.args.t.now.rows c.in_ok-filled.bytes.items =
    rw (c.columns.ensures.value, c.ends-ends.ensures, c.rows.ensures.value) at c.in_ok-filled.ensures in
    let limit = limits c.args.t.now c.requires.fit in
    let begun : weight c.in_ok-begun.begun.maker ≡ 0 = ap weight c.in_ok-begun.ensures.none in
    let puts : PutsRows c.in_ok-filled.filled c.in_ok-made.made (get_or c.args.t.now.ends 3 0) c.in_ok-filled.bytes.items c.in_ok-made.matrix =
    rw (c.as_slice-2.ensures.value, c.from.ensures, c.ends-ends.ensures) at c.in_ok-made.ensures.puts in
    ap (ids_ascend 0) c.in_ok-finish-2.ensures ∙ ids-keys 0 (all_woven c.in_ok-made.made.subs) ∙ puts.made.woven.ascend

pub returns-clause-small : goal.returns-clause-small
returns-clause-small c =
    let fills : FillsRows c.in_ok-begun.begun c.in_ok-filled.filled (get_or c.args.t.now.ends 2 0) (get_or c.args.t.now.ends 3 0) c.args.t.now.columns c.args.t.now.rows c.in_ok-filled.bytes.items =
    rw (c.columns.ensures.value, c.ends-ends.ensures, c.rows.ensures.value) at c.in_ok-filled.ensures in
    let puts : PutsRows c.in_ok-filled.filled c.in_ok-made.made (get_or c.args.t.now.ends 3 0) c.in_ok-filled.bytes.items c.in_ok-made.matrix =
    rw (c.as_slice-2.ensures.value, c.from.ensures, c.ends-ends.ensures) at c.in_ok-made.ensures.puts in
    let kept : flattened c.as_slice.result.now ≡ c.args.t.now.kept = c.as_slice.ensures ∙ c.kept.ensures in
    table-small c.in_ok-begun.begun c.in_ok-filled.filled c.in_ok-made.made c.args.t.now c.as_slice.result.now c.in_ok-filled.bytes.items c.in_ok-made.matrix c.in_ok-maker.root c.in_ok-maker.maker c.in_ok-finish.field-0 c.in_ok-finish-2.field-0
    c.in_ok-begun.ensures.load c.in_ok-begun.ensures.subs kept fills puts c.in_ok-maker.ensures.puts c.in_ok-maker.ensures.packed c.in_ok-finish.ensures.blocks c.in_ok-finish-2.ensures (limits c.args.t.now c.requires.fit)
