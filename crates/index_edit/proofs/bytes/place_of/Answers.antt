use Rattle.std.proofs.Common.{ℕ, sym, subst, arith}
use Rattle.index_edit.specs.Rows.{IsPlaceOf, rows}
use Rattle.index_edit.proofs.RowLaws.{reached-above, reached-end, reached-next, rows-short}
use Rattle.index_edit.proofs.bytes.place_of.Goals as goal

pub returns-then-x-lt-ROW-clause-place : goal.returns-then-x-lt-ROW-clause-place
returns-then-x-lt-ROW-clause-place c = rows-short c.args.x.now (omega arith)

pub returns-then-u32_at-key-clause-place : goal.returns-then-u32_at-key-clause-place
returns-then-u32_at-key-clause-place c =
    subst (λ (i : ℕ). IsPlaceOf c.args.key (rows c.args.x.now) i c.first_place.result.child) (sym c.first_place.ensures.index)
    (reached-above c.args.key c.args.x.now c.loop-rest.rest.now c.loop-rest.index c.first_place.result.child c.loop-rest.invariant (omega arith) (omega (arith, c.u32_at.ensures, c.if-u32_at-key.true)) c.first_place.ensures.child)

pub loop-rest-preserved : goal.loop-rest-preserved
loop-rest-preserved c =
    rw c.behind_row-rest.ensures (reached-next c.args.key c.args.x.now c.loop-rest.rest.now c.loop-rest.index c.loop-rest.invariant (omega arith) (omega (arith, c.u32_at.ensures, c.if-u32_at-key.false)))

pub returns-clause-place : goal.returns-clause-place
returns-clause-place c =
    subst (λ (i : ℕ). IsPlaceOf c.args.key (rows c.args.x.now) i c.first_place-2.result.child) (sym c.first_place-2.ensures.index)
    (reached-end c.args.key c.args.x.now c.loop-rest.rest.now c.loop-rest.index c.first_place-2.result.child c.loop-rest.invariant (omega arith) c.first_place-2.ensures.child)
