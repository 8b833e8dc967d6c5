use Rattle.std.proofs.Common.{◌∙◌, ◌++◌, ◌∷◌, [], ℕ, List, take, sym, ap, arith}
use Rattle.std.specs.List.{concat}
use Rattle.std.proofs.lemmas.List.{take_more}
use Rattle.table_writer.proofs.MatrixLaws.{concat-push}
use Rattle.table_writer.proofs.write.packed.Goals as goal

pub loop-row-preserved : goal.loop-row-preserved
loop-row-preserved c =
    c.in_ok-extend_from_slice.ensures.items ∙ ap (λ (x : List ℕ). c.loop-row.bytes.items ++ x) c.as_slice.ensures.value ∙ ap (λ (x : List ℕ). x ++ c.row-item.result) c.loop-row.invariant
    ∙ sym (concat-push (take c.loop-row.row-index c.args.rows.now) c.row-item.result)
    ∙ ap concat (ap (λ (r : List ℕ). take c.loop-row.row-index c.args.rows.now ++ r ∷ []) c.row-item.is ∙ sym (take_more c.args.rows.now c.loop-row.row-index c.row-item.result (omega (arith, c.loop-row-test.true))))
