use Rattle.std.proofs.Common.{◌≡◌, ◌∙◌, ◌+◌, ◌-◌, ◌*◌, ◌++◌, ◌∷◌, [], suc, List, sym, ap, append_assoc, arith}
use Rattle.mapi_values.specs.declared.column.Column.{Column}
use Rattle.table_context.specs.Header.{column_at, columns_at}
use Rattle.table_context.proofs.header.columns_from.Goals as goal

pub loop-i-preserved : goal.loop-i-preserved
loop-i-preserved c =
    let x = c.args.x.now in
    let count : c.args.count - c.loop-i.i ≡ suc (c.args.count - (c.loop-i.i + 1)) = omega arith in
    let place : 22 + 8 * (c.loop-i.i + 1) ≡ 22 + 8 * c.loop-i.i + 8 = omega arith in
    ap (λ (cs : List Column). cs ++ columns_at (c.args.count - (c.loop-i.i + 1)) (22 + 8 * (c.loop-i.i + 1)) x) (c.in_ok-push.ensures.items ∙ ap (λ (d : Column). c.loop-i.columns.items ++ d ∷ []) c.column_at.ensures)
    ∙ append_assoc c.loop-i.columns.items (column_at (22 + 8 * c.loop-i.i) x ∷ []) (columns_at (c.args.count - (c.loop-i.i + 1)) (22 + 8 * (c.loop-i.i + 1)) x)
    ∙ ap (λ n. c.loop-i.columns.items ++ column_at (22 + 8 * c.loop-i.i) x ∷ columns_at (c.args.count - (c.loop-i.i + 1)) n x) place
    ∙ sym (ap (λ n. c.loop-i.columns.items ++ columns_at n (22 + 8 * c.loop-i.i) x) count)
    ∙ c.loop-i.invariant
