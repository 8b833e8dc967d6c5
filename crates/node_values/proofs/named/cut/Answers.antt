use Rattle.std.proofs.Common.{◌≡◌, ◌∙◌, ◌++◌, ◌∷◌, [], List, ℕ, drop, sym, ap, arith}
use Rattle.std.proofs.lemmas.List.{append-nil, nil_from_length}
use Rattle.node_values.specs.Named.{pieces}
use Rattle.node_values.proofs.PieceLaws.{pieces-none, pieces-step}
use Rattle.node_values.proofs.named.cut.Goals as goal

pub loop-rest-preserved : goal.loop-rest-preserved
loop-rest-preserved c =
    rw (c.in_ok-push.ensures.ok, c.split_at.ensures.back)
    (ap (λ (x : List ℕ). (c.loop-rest.pieces ++ x ∷ []) ++ pieces (drop c.min.result c.loop-rest.rest.now)) (c.in_ok-from_slice.ensures ∙ c.split_at.ensures.front)
    ∙ pieces-step c.loop-rest.pieces c.loop-rest.rest.now c.min.result (omega arith) (omega (arith, c.min.ensures))
    ∙ c.loop-rest.invariant)

pub returns : goal.returns
returns c =
    let e : c.loop-rest.rest.now ≡ [] = nil_from_length c.loop-rest.rest.now (omega arith) in
    sym (append-nil c.loop-rest.pieces) ∙ ap (λ (bs : List (List ℕ)). c.loop-rest.pieces ++ bs) (sym (ap pieces e ∙ pieces-none)) ∙ c.loop-rest.invariant
