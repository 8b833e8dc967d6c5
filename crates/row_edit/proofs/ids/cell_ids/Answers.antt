use Rattle.std.proofs.Common.{◌∙◌, ◌+◌, ℕ, List, length, get_or, sym, ap, subst}
use Rattle.std.proofs.lemmas.List.{length_push}
use Rattle.table_writer.specs.Filling.{no_column}
use Rattle.row_edit.specs.Edits.{Adds, NamesValue, NamesValues}
use Rattle.row_edit.proofs.IdLaws.{keeping-more, names-step, on-err}
use Rattle.row_edit.proofs.ids.cell_ids.Goals as goal

pub loop-column-preserved : goal.loop-column-preserved
loop-column-preserved g c = (
  λ was get told.
      let tells = g.H.HeapItems.tells in
      let i = c.loop-column.invariant.0 was get told in
      let a = c.in-Ok.ensures.names was i.keeping.get i.keeping.told in
      let at = c.loop-column.invariant.1 in
      let b = subst (λ (k : ℕ). Adds (tells c.cell_id.new.heap was) i.keeping.get (λ now. NamesValue i.keeping.get now c.args.third c.args.row.now c.args.values.now (get_or c.args.columns.now k no_column) c.in-Ok.hnid)) (sym at) a in
      let s = names-step (tells c.loop-column.heap was) get c.args.third c.args.row.now c.args.values.now c.args.columns.now c.loop-column.ids.items c.in-Ok.hnid i.keeping (tells c.cell_id.new.heap was) i.is b in
      subst (λ (xs : List ℕ). Adds (tells c.cell_id.new.heap was) get (λ now. NamesValues get now c.args.third c.args.row.now c.args.values.now c.args.columns.now xs)) (sym c.in_ok-push_id.ensures) s,
  ap length c.in_ok-push_id.ensures ∙ length_push c.loop-column.ids.items c.in-Ok.hnid ∙ ap (λ (n : ℕ). n + 1) c.loop-column.invariant.1,
)

pub returns-in_err-push_id-clause-err : goal.returns-in_err-push_id-clause-err
returns-in_err-push_id-clause-err g c = on-err c.from_residual.result (λ was get told.
    let tells = g.H.HeapItems.tells in
    let i = c.loop-column.invariant.0 was get told in
    keeping-more (tells c.loop-column.heap was) (tells c.cell_id.new.heap was) get i.keeping (c.in-Ok.ensures.names was i.keeping.get i.keeping.told).keeping)
