use Rattle.std.proofs.Common.{◌≡◌, ℕ, List, Option, length}
use Rattle.row_edit.specs.Edits.{Adds, NamesValues}
use Rattle.row_edit.proofs.ids.cell_ids.Given as goal

abbrev pub invariant-loop-column : goal.invariant-loop-column
invariant-loop-column g l =
    ((was : List (List ℕ)) (get : ℕ → Option (List ℕ)) → g.H.HeapItems.tells l.fn.heap was get → Adds (g.H.HeapItems.tells l.heap was) get (λ now. NamesValues get now l.third l.row l.values l.columns l.ids.items))
    × (length l.ids.items ≡ l.column-index)
