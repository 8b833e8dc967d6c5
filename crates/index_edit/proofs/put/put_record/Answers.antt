use Rattle.std.proofs.Common.{◌≡◌, ℕ, List, Option, Some}
use Rattle.std.proofs.lemmas.Result.{IfErr-weaker}
use Rattle.bth_tree.specs.Tree.{bth}
use Rattle.index_edit.specs.Adding.{NotFault}
use Rattle.index_edit.proofs.put.put_record.Goals as goal

pub returns-in-Ok-clause-why : goal.returns-in-Ok-clause-why
returns-in-Ok-clause-why g c =
    IfErr-weaker c.put_top.result _ (λ stop. (was : List (List ℕ)) (get : ℕ → Option (List ℕ)) → g.H.HeapItems.tells c.args.heap.now was get → (recs : List (ℕ × List ℕ)) → bth get c.args.header 4 4 ≡ Some recs → NotFault stop)
    (λ stop why was get told recs h. why was get told recs (c.in-Ok.ensures.found was get told recs h)) c.put_top.ensures.why
