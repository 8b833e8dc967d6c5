use Rattle.std.proofs.Common.{◌∙◌, sym}
use Rattle.table_context.proofs.LayoutLaws.{form-end, form-in, form-out}
use Rattle.table_context.proofs.header.columns.Goals as goal

pub returns-then-not-ends_there : goal.returns-then-not-ends_there
returns-then-not-ends_there c = form-end c.args.x.now c.u8_at-count.result c.u8_at-count.ensures (sym c.ends_there.ensures ∙ c.if-not-ends_there.true)

pub returns-then-not-fit : goal.returns-then-not-fit
returns-then-not-fit c =
    form-out c.args.x.now c.u8_at-count.result c.as_slice.result.now c.ends.result c.u8_at-count.ensures (c.as_slice.ensures.value ∙ rw c.from.ensures at c.in_ok-columns.ensures) c.ends.ensures (sym c.fit.ensures ∙ c.if-not-fit.true)

pub returns : goal.returns
returns c =
    let e = rw c.as_slice.ensures.value at c.fit.ensures in
    form-in c.args.x.now c.u8_at-count.result c.in_ok-columns.columns.items c.ends.result c.u8_at-count.ensures (rw c.from.ensures at c.in_ok-columns.ensures) c.ends.ensures
    (sym c.ends_there.ensures ∙ c.if-not-ends_there.false) (sym e ∙ c.if-not-fit.false)
