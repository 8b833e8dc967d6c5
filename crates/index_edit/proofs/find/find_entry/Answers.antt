use Rattle.std.proofs.Common.{◌∙◌, ap, sym}
use Rattle.bth_tree.specs.Records.{entry_of}
use Rattle.index_edit.specs.Rows.{as_number}
use Rattle.index_edit.proofs.LeafLaws.{ordered-parts}
use Rattle.index_edit.proofs.RowLaws.{rows-whole}
use Rattle.index_edit.proofs.TreeSteps.{leaf-item, leaf-ordered, top-some}
use Rattle.index_edit.proofs.find.find_entry.Goals as goal

pub returns-in-Ok-item-clause-found : goal.returns-in-Ok-item-clause-found
returns-in-Ok-item-clause-found g c = λ was get told recs h.
    let f = c.in-Ok-leaf_for.ensures.found was get told recs (top-some get c.in-Ok.top.level c.in-Ok.top.root recs (c.in-Ok.ensures.found was get told recs h) c.if-top-eq0.false) in
    let o = leaf-ordered get c.in-Ok-leaf_for.leaf c.in-Ok-item.x.now f.0 (c.in-Ok-item.ensures.found was get told) f.1 in
    c.entry_in.ensures ∙ ap (λ rs. as_number (entry_of c.args.key rs)) (rows-whole c.in-Ok-item.x.now f.0 (ordered-parts c.in-Ok-item.x.now f.0 o).0) ∙ ap as_number (sym f.2)

pub returns-in-Err-item-clause-why : goal.returns-in-Err-item-clause-why
returns-in-Err-item-clause-why g c = λ was get told recs h.
    let f = c.in-Ok-leaf_for.ensures.found was get told recs (top-some get c.in-Ok.top.level c.in-Ok.top.root recs (c.in-Ok.ensures.found was get told recs h) c.if-top-eq0.false) in
    let i = leaf-item get c.in-Ok-leaf_for.leaf f.0 f.1 in
    c.in-Err-item.ensures.why was get told i.0 i.1
