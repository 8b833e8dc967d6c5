use Rattle.std.proofs.Common.{sym, subst}
use Rattle.index_edit.specs.Adding.{DropsInto}
use Rattle.index_edit.proofs.EditSteps.{index-same}
use Rattle.index_edit.proofs.leave.drop_record.Goals as goal

pub returns-in-Ok-Some-clause-dropped : goal.returns-in-Ok-Some-clause-dropped
returns-in-Ok-Some-clause-dropped g c = λ was get told recs h.
    let tells = g.H.HeapItems.tells c.drop_top.new.heap was in
    (subst (DropsInto tells get c.args.key recs) c.in-Ok-Some.field-0-is (c.in-Ok-Some.ensures.drops was get told recs (c.in-Ok.ensures.found was get told recs h))).1

pub returns-in-Ok-Some-clause-same : goal.returns-in-Ok-Some-clause-same
returns-in-Ok-Some-clause-same g c = λ was get told recs h none.
    let tells = g.H.HeapItems.tells c.drop_top.new.heap was in
    absurd ((subst (DropsInto tells get c.args.key recs) c.in-Ok-Some.field-0-is (c.in-Ok-Some.ensures.drops was get told recs (c.in-Ok.ensures.found was get told recs h))).0 none)

pub returns-in-Ok-None-clause-dropped : goal.returns-in-Ok-None-clause-dropped
returns-in-Ok-None-clause-dropped g c = λ was get told recs h.
    let tells = g.H.HeapItems.tells c.drop_top.new.heap was in
    let same = subst (DropsInto tells get c.args.key recs) c.in-Ok-None.field-0-is (c.in-Ok-None.ensures.drops was get told recs (c.in-Ok.ensures.found was get told recs h)) in
    index-same tells get c.args.header c.args.key recs (subst (λ heap. g.H.HeapItems.tells heap was get) (sym (c.in-Ok-None.ensures.same c.in-Ok-None.field-0-is)) told) h same

pub returns-in-Err-drop_top-clause-why : goal.returns-in-Err-drop_top-clause-why
returns-in-Err-drop_top-clause-why g c = λ was get told recs h. c.in-Err-drop_top.ensures.why was get told recs (c.in-Ok.ensures.found was get told recs h)
