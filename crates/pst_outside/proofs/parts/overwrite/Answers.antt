use Rattle.std.proofs.Common.{rules, ℕ, List, ◌++◌, ◌+◌, ◌∙◌, length, take, drop, ap}
use Rattle.pst_outside.proofs.Bytes.{resized_write}
use Rattle.pst_outside.proofs.parts.overwrite.Goals as goal

pub returns-clause-ok : goal.returns-clause-ok
returns-clause-ok c =
    let old : List ℕ = c.args.file.now.items in
    let piece : List ℕ = c.args.piece.now in
    resized_write old _ _ _ piece c.args.at c.max-grown.result _ _ (search rules) (search rules) c.in_ok-resize.ensures.items (search rules) (c.place.ensures ∙ ap (λ l. take c.args.at l ++ piece ++ drop (c.args.at + length piece) l) c.deref_mut.ensures.value)
