use Rattle.std.proofs.Common.{◌∙◌, ◌++◌, ℕ, List, sym, ap}
use Rattle.std.proofs.lemmas.List.{append-nil}
use Rattle.heap_edit.proofs.placed.entries.Goals as goal

pub returns : goal.returns
returns c =
    sym (append-nil c.loop-put.all.items) ∙ ap (λ (xs : List (ℕ × List ℕ)). c.loop-put.all.items ++ xs) (sym c.in-None.ensures.steps.0) ∙ c.loop-put.invariant.so_far
    ∙ c.into_iter-put-iterator.ensures.into_iter_gives.0
