use Rattle.std.proofs.Common.{◌∙◌, ap, subst}
use Rattle.mapi_values.specs.Keyed.{drop_key}
use Rattle.index_edit.specs.Edits.{LeavesOut}
use Rattle.index_edit.specs.Rows.{key_of}
use Rattle.index_edit.proofs.EditSteps.{drop-ordered}
use Rattle.bth_tree.specs.Records.{whole}
use Rattle.index_edit.proofs.leave.drop_root.Goals as goal

pub returns-in-Ok-clause-drops : goal.returns-in-Ok-clause-drops
returns-in-Ok-clause-drops g c = λ was get told recs h.
    let out = subst (LeavesOut c.args.key recs) c.in-Ok-Some.field-0-is (c.in-Ok-Some.ensures.out was get told recs h) in
    (out.1, c.in-Ok.ensures.adds was get told (drop_key key_of c.args.key recs) (drop-ordered get c.args.leaf c.args.key recs c.as_slice.result.now h (ap (whole 4 4) c.as_slice.ensures.value ∙ out.0)))
