use Rattle.std.proofs.Common.{◌∙◌, sym, arith}
use Rattle.index_edit.proofs.RowLaws.{scanned-above, scanned-end, scanned-here, scanned-next}
use Rattle.index_edit.proofs.bytes.span_of.Goals as goal

pub returns-then-here-key-clause-span : goal.returns-then-here-key-clause-span
returns-then-here-key-clause-span c =
    scanned-here c.args.key c.args.x.now c.loop-rest.rest.now c.loop-rest.from c.loop-rest.invariant (omega arith) (sym c.u32_at-here.ensures ∙ c.if-here-key.true)

pub returns-then-here-key-2-clause-span : goal.returns-then-here-key-2-clause-span
returns-then-here-key-2-clause-span c =
    scanned-above c.args.key c.args.x.now c.loop-rest.rest.now c.loop-rest.from c.loop-rest.invariant (omega arith) (omega (arith, c.u32_at-here.ensures, c.if-here-key-2.true))

pub loop-rest-preserved : goal.loop-rest-preserved
loop-rest-preserved c =
    rw c.behind_row-rest.ensures
    (scanned-next c.args.key c.args.x.now c.loop-rest.rest.now c.loop-rest.from c.loop-rest.invariant (omega arith) (omega (arith, c.u32_at-here.ensures, c.if-here-key.false, c.if-here-key-2.false)))

pub returns-clause-span : goal.returns-clause-span
returns-clause-span c = scanned-end c.args.key c.args.x.now c.loop-rest.rest.now c.loop-rest.from c.loop-rest.invariant (omega arith)
