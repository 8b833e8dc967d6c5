use Rattle.std.proofs.Common.{arith}
use Rattle.row_edit.proofs.IdLaws.{names-held, names-item, names-none, not-holds}
use Rattle.row_edit.proofs.ids.id_of.Goals as goal
use Rattle.row_edit.proofs.ids.id_of.Goals.{then-held-ne0+then-held-eq0+in-Ok-false, else-held-ne0, else-held-ne0-via-then-held-ne0+else-held-eq0, else-held-ne0-via-else-held-ne0}

pub returns-then-bytes-eq0-clause-names : goal.returns-then-bytes-eq0-clause-names
returns-then-bytes-eq0-clause-names g c = λ was get told. names-none (g.H.HeapItems.tells c.args.heap.now was) get c.args.held c.args.bytes.now told c.if-bytes-eq0.true

pub returns-in-Ok-true-clause-names : goal.returns-in-Ok-true-clause-names
returns-in-Ok-true-clause-names g c = λ was get told.
    names-held (g.H.HeapItems.tells c.args.heap.now was) get c.args.held c.args.bytes.now told c.if-held-ne0.true c.if-held-eq0.true ((c.in-Ok-true.ensures.holds was get told).0 c.in-Ok-true.field-0-test)

pub returns-in-Ok-clause-names : goal.returns-in-Ok-clause-names
returns-in-Ok-clause-names g c = λ was get told.
    names-item (g.H.HeapItems.tells c.add.new.self was) get c.args.held c.args.bytes.now c.in-Ok.hid (c.in-Ok.ensures.adds was get told)
    (elim c.if-held-ne0.branch [
      | then-held-ne0+then-held-eq0+in-Ok-false w ↦ λ some kind here. not-holds w.in-Ok-false.field-0 ((w.in-Ok-false.ensures.holds was get told).1 here) w.in-Ok-false.field-0-test
      | else-held-ne0 w ↦ elim w.else-held-ne0.branch [
        | else-held-ne0-via-then-held-ne0+else-held-eq0 v ↦ λ some kind here. absurd (omega (arith, kind, v.if-held-eq0.false))
        | else-held-ne0-via-else-held-ne0 v ↦ λ some kind here. absurd (some v.if-held-ne0.false)
      ]
    ])
