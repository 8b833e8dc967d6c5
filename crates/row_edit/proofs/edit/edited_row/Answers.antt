use Rattle.std.proofs.Common.{◌-◌, ◌∙◌, ◌<◌, ℕ, List, length, get_or, inl, inr, sym, subst, ap}
use Rattle.std.specs.List.{list_all, list_any}
use Rattle.table_writer.specs.Filling.{no_column}
use Rattle.row_edit.specs.Cells.{IsCell, in_subnode, is_short}
use Rattle.row_edit.specs.Edits.{Adds, NamesValues}
use Rattle.row_edit.proofs.PickLaws.{names-none, names-some}
use Rattle.row_edit.proofs.FillLaws.{edits, layout-lie, layout-suited}
use Rattle.row_edit.proofs.edit.edited_row.Goals as goal
use Rattle.row_edit.proofs.edit.edited_row.Goals.{then-not-are_short-via-then-not-are_short, then-not-are_short-via-else-not-are_short+then-has_subnode}

pub has_subnode-requires : goal.has_subnode-requires
has_subnode-requires g c = rw (c.from-third.ensures, c.requires.size) (layout-lie c.args.columns.now c.args.ends.now c.requires.layout)

pub cell_ids-requires-clause-lie : goal.cell_ids-requires-clause-lie
cell_ids-requires-clause-lie g c = rw (c.from-third.ensures, c.requires.size) (layout-lie c.args.columns.now c.args.ends.now c.requires.layout)

pub returns-then-not-are_short-clause-why : goal.returns-then-not-are_short-clause-why
returns-then-not-are_short-clause-why g c = elim c.then-not-are_short.branch [
  | then-not-are_short-via-then-not-are_short w ↦ inl (ap (list_all is_short) (sym c.values.ensures.value) ∙ sym c.are_short.ensures ∙ w.if-not-are_short.true)
  | then-not-are_short-via-else-not-are_short+then-has_subnode w ↦ inr (λ e. names-some (get_or c.args.ends.now 2 0) c.args.row.now c.args.columns.now
      (ap (λ (k : ℕ). list_any (in_subnode k c.args.row.now) c.args.columns.now) (sym c.from-third.ensures) ∙ sym w.has_subnode.ensures ∙ w.if-has_subnode.true) e)
]

pub returns-in-Ok-laid-clause-edits : goal.returns-in-Ok-laid-clause-edits
returns-in-Ok-laid-clause-edits g c = λ was get told.
    let tells = g.H.HeapItems.tells in
    let third = get_or c.args.ends.now 2 0 in
    let a : Adds (tells c.cell_ids.new.heap was) get (λ now. NamesValues get now (get_or c.args.ends.now 2 0) c.args.row.now c.args.values.now c.args.columns.now c.in-Ok.ids.items) =
    subst (λ (k : ℕ). Adds (tells c.cell_ids.new.heap was) get (λ now. NamesValues get now k c.args.row.now c.args.values.now c.args.columns.now c.in-Ok.ids.items)) c.from-third.ensures (c.in-Ok.ensures.names was get told) in
    let cells : (k : ℕ) → k < length c.args.columns.now → IsCell (get_or c.args.ends.now 2 0) c.args.id (get_or c.in-Ok.ids.items k 0) c.args.values.now c.in-Ok-laid.new (get_or c.args.columns.now k no_column) =
    subst (λ (xs : List ℕ). (k : ℕ) → k < length c.args.columns.now → IsCell (get_or c.args.ends.now 2 0) c.args.id (get_or xs k 0) c.args.values.now c.in-Ok-laid.new (get_or c.args.columns.now k no_column)) c.as_slice.ensures.value c.in-Ok-laid.ensures.cells in
    edits (tells c.cell_ids.new.heap was) get (get_or c.args.ends.now 2 0) (get_or c.args.ends.now 3 0 - get_or c.args.ends.now 2 0) c.args.columns.now c.args.id c.args.row.now c.args.values.now c.in-Ok.ids.items c.in-Ok-laid.new
    (layout-suited c.args.columns.now c.args.ends.now c.args.values.now c.requires.layout c.requires.suit) a c.in-Ok.ensures.count cells

pub returns-in-Ok-laid-clause-before : goal.returns-in-Ok-laid-clause-before
returns-in-Ok-laid-clause-before g c =
    names-none (get_or c.args.ends.now 2 0) c.args.row.now c.args.columns.now
    (ap (λ (k : ℕ). list_any (in_subnode k c.args.row.now) c.args.columns.now) (sym c.from-third.ensures) ∙ sym c.has_subnode.ensures ∙ c.if-has_subnode.false)
