use Rattle.std.proofs.Common.{◌≡◌, ◌^◌, ℕ, List, Option, Some}
use Rattle.std.proofs.lemmas.Result.{IfOk-weaker}
use Rattle.bth_tree.specs.Records.{ordered}
use Rattle.index_edit.specs.Adding.{HasIndex}
use Rattle.index_edit.proofs.PutSteps.{Heads, alone}
use Rattle.index_edit.proofs.leave.add_alone.Goals as goal

pub returns-clause-adds : goal.returns-clause-adds
returns-clause-adds g c =
    let tells = g.H.HeapItems.tells in
    IfOk-weaker c.add_header.result (λ at. (was : List (List ℕ)) → Heads (tells c.add_leaf.new.heap was) (tells c.add_header.new.heap was) 0 c.in_ok-only.only.child at)
    (λ at. (was : List (List ℕ)) (get : ℕ → Option (List ℕ)) → tells c.args.heap.now was get → (rs : List (ℕ × List ℕ)) → ordered 4 4 0 (2 ^ 32) c.args.y.now ≡ Some rs → HasIndex (tells c.add_header.new.heap was) get at rs)
    (λ at heads was get told rs o. alone (tells c.add_leaf.new.heap was) (tells c.add_header.new.heap was) get c.in_ok-only.only at rs (c.in_ok-only.ensures.adds was get told rs o) (heads was)) c.add_header.ensures.adds
