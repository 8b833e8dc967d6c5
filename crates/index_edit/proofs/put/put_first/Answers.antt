use Rattle.std.proofs.Common.{◌∷◌, [], ℕ, List, Option}
use Rattle.std.proofs.lemmas.Result.{IfOk-weaker, err_from_is_err_and}
use Rattle.byteorder.specs.Endian.{little_bytes}
use Rattle.index_edit.specs.Adding.{HasIndex}
use Rattle.index_edit.proofs.PutSteps.{Heads, alone, single-ordered}
use Rattle.index_edit.proofs.put.put_first.Goals as goal

pub returns-in_err-only-clause-why : goal.returns-in_err-only-clause-why
returns-in_err-only-clause-why g c =
    let p = err_from_is_err_and c.from_residual.result c.from_residual.ensures.1 in
    rw (p.1, p.2) c.in_err-only.ensures.why

pub returns-clause-adds : goal.returns-clause-adds
returns-clause-adds g c =
    let tells = g.H.HeapItems.tells in
    let e = little_bytes 4 c.args.entry in
    IfOk-weaker c.add_header.result (λ at. (was : List (List ℕ)) → Heads (tells c.add_leaf.new.heap was) (tells c.add_header.new.heap was) 0 c.in_ok-only.only.child at)
    (λ at. (was : List (List ℕ)) (get : ℕ → Option (List ℕ)) → tells c.args.heap.now was get → HasIndex (tells c.add_header.new.heap was) get at ((c.args.key, e) ∷ []))
    (λ at heads was get told. alone (tells c.add_leaf.new.heap was) (tells c.add_header.new.heap was) get c.in_ok-only.only at ((c.args.key, e) ∷ [])
    (c.in_ok-only.ensures.adds was get told ((c.args.key, e) ∷ []) (single-ordered c.args.key c.ranges.key.fits e c.row.result c.row.ensures.row)) (heads was)) c.add_header.ensures.adds
