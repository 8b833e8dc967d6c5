use Rattle.std.proofs.Common.{◌≡◌, ℕ, List, Option, Some, length, sym, arith}
use Rattle.std.proofs.lemmas.Bool.{leb-true}
use Rattle.std.proofs.lemmas.Result.{IfOk-weaker}
use Rattle.row_edit.specs.Cells.{is_short, pick}
use Rattle.row_edit.specs.Edits.{Adds, NamesBytes, NamesValue}
use Rattle.row_edit.proofs.IdLaws.{names-value}
use Rattle.row_edit.proofs.PickLaws.{pick-all}
use Rattle.row_edit.proofs.ids.cell_id.Goals as goal

pub id_of-requires : goal.id_of-requires
id_of-requires g c =
    let v = c.in-Some.value.now in
    let h : pick c.args.values.now c.args.column.now ≡ Some v = sym c.in-Some.ensures in
    omega (arith, leb-true (length v.bytes) 3580 (pick-all is_short c.args.values.now c.args.column.now v c.requires.short h), c.bytes.ensures.len)

pub returns-in-Some-clause-names : goal.returns-in-Some-clause-names
returns-in-Some-clause-names g c =
    let tells = g.H.HeapItems.tells in
    let v = c.in-Some.value.now in
    let h : pick c.args.values.now c.args.column.now ≡ Some v = sym c.in-Some.ensures in
    IfOk-weaker c.id_of.result (λ hnid. (was : List (List ℕ)) (get : ℕ → Option (List ℕ)) → tells c.args.heap.now was get → Adds (tells c.id_of.new.heap was) get (λ now. NamesBytes get now c.held.result c.bytes.result.now hnid))
    (λ hnid. (was : List (List ℕ)) (get : ℕ → Option (List ℕ)) → tells c.args.heap.now was get → Adds (tells c.id_of.new.heap was) get (λ now. NamesValue get now c.args.third c.args.row.now c.args.values.now c.args.column.now hnid))
    (λ hnid is was get told. names-value (tells c.id_of.new.heap was) get c.args.third c.args.row.now c.args.values.now c.args.column.now v c.held.result hnid c.bytes.result.now c.held.ensures h c.bytes.ensures.value (is was get told))
    c.id_of.ensures.names
