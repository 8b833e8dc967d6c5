use Rattle.std.proofs.Common.{◌∙◌, Some, sym, ap, arith}
use Rattle.index_edit.specs.Rows.{as_number}
use Rattle.index_edit.proofs.RowLaws.{entry-end, entry-here, entry-next}
use Rattle.index_edit.proofs.bytes.entry_in.Goals as goal

pub returns-then-u32_at-key : goal.returns-then-u32_at-key
returns-then-u32_at-key c =
    ap Some c.u32_at-then-u32_at-key.ensures
    ∙ sym (ap as_number c.loop-rest.invariant ∙ entry-here c.args.key c.loop-rest.rest.now (omega arith) (sym c.u32_at.ensures ∙ c.if-u32_at-key.true))

pub loop-rest-preserved : goal.loop-rest-preserved
loop-rest-preserved c =
    rw c.behind_row-rest.ensures (c.loop-rest.invariant ∙ entry-next c.args.key c.loop-rest.rest.now (omega arith) (λ e. c.if-u32_at-key.false (c.u32_at.ensures ∙ e)))

pub returns : goal.returns
returns c = sym (ap as_number c.loop-rest.invariant ∙ entry-end c.args.key c.loop-rest.rest.now (omega arith))
