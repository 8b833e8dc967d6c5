use Rattle.std.proofs.Common.{◌≡◌, ◌∙◌, ◌<◌, ◌+◌, ◌++◌, ◌∷◌, [], ℕ, List, length, get_or, take, subst, sym, ap, arith, true}
use Rattle.std.proofs.lemmas.List.{take_more}
use Rattle.mapi_values.specs.Tables.{cells_suit, row_suits}
use Rattle.mapi_values.specs.Values.{Val}
use Rattle.write_limits.specs.Limits.{cells_bytes, long_values}
use Rattle.table_writer.specs.Filling.{Fills}
use Rattle.table_context.proofs.LayoutLaws.{all-at}
use Rattle.table_writer.proofs.RowFillLaws.{suit-ascends}
use Rattle.table_writer.proofs.FoundRowLaws.{bytes-left, long-left, rows-start, rows-step}
use Rattle.table_writer.proofs.write.rows_bytes.Goals as goal

pub row_bytes-requires-clause-suit : goal.row_bytes-requires-clause-suit
row_bytes-requires-clause-suit c =
    ap (cells_suit c.args.columns.now) c.values.ensures.value ∙ ap (λ (r : ℕ × List Val). cells_suit c.args.columns.now r.1) c.row-item.is
    ∙ all-at (row_suits c.args.columns.now) c.args.rows.now c.loop-row.row-index c.row-item.result c.requires.suit (omega (arith, c.loop-row-test.true))

pub row_bytes-requires-clause-light : goal.row_bytes-requires-clause-light
row_bytes-requires-clause-light c =
    omega (
      arith,
      c.loop-row.invariant.weighs,
      bytes-left c.args.rows.now c.loop-row.row-index c.row-item.result (omega (arith, c.loop-row-test.true)),
      ap cells_bytes c.values.ensures.value,
      ap (λ (r : ℕ × List Val). cells_bytes r.1) c.row-item.is,
      c.requires.light,
    )

pub row_bytes-requires-clause-few : goal.row_bytes-requires-clause-few
row_bytes-requires-clause-few c =
    omega (
      arith,
      c.loop-row.invariant.count,
      long-left c.args.rows.now c.loop-row.row-index c.row-item.result (omega (arith, c.loop-row-test.true)),
      ap long_values c.values.ensures.value,
      ap (λ (r : ℕ × List Val). long_values r.1) c.row-item.is,
      c.requires.few,
    )

pub loop-row-preserved : goal.loop-row-preserved
loop-row-preserved c =
    let lt : c.loop-row.row-index < length c.args.rows.now = omega (arith, c.loop-row-test.true) in
    let more : take (c.loop-row.row-index + 1) c.args.rows.now ≡ take c.loop-row.row-index c.args.rows.now ++ c.row-item.result ∷ [] =
    take_more c.args.rows.now c.loop-row.row-index c.row-item.result lt ∙ ap (λ (r : ℕ × List Val). take c.loop-row.row-index c.args.rows.now ++ r ∷ []) (sym c.row-item.is) in
    let suit : cells_suit c.args.columns.now c.row-item.result.1 ≡ true = ap (λ (r : ℕ × List Val). cells_suit c.args.columns.now r.1) c.row-item.is
    ∙ all-at (row_suits c.args.columns.now) c.args.rows.now c.loop-row.row-index c.row-item.result c.requires.suit lt in
    rw (more, c.in_ok-push.ensures.items)
    (rows-step c.args.made c.loop-row.made c.in_ok-next.next (get_or c.args.ends.now 2 0) (get_or c.args.ends.now 3 0) c.args.columns.now (take c.loop-row.row-index c.args.rows.now) c.loop-row.out.items c.row-item.result c.in_ok-next.bytes
    c.loop-row.invariant c.in_ok-next.ensures.made
    (subst (λ (vs : List Val). Fills c.loop-row.made c.in_ok-next.next (get_or c.args.ends.now 2 0) c.args.columns.now c.row-item.result.0 vs c.in_ok-next.bytes) c.values.ensures.value c.in_ok-next.ensures.fills)
    (suit-ascends c.args.columns.now c.row-item.result.1 suit) c.in_ok-next.ensures.size)

pub loop-row-init : goal.loop-row-init
loop-row-init c = rw c.in_ok-out.ensures.items (rows-start c.args.made (get_or c.args.ends.now 2 0) (get_or c.args.ends.now 3 0) c.args.columns.now c.requires.made)
