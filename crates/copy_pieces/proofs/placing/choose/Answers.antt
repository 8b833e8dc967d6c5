use Rattle.std.proofs.Common.{◌∙◌, ◌++◌, ◌∷◌, [], eqb, List, take, get_or, ap, sym, arith}
use Rattle.std.proofs.lemmas.Bool.{eq-eqb, ne_eqb}
use Rattle.std.proofs.lemmas.List.{append-nil}
use Rattle.btree_pages.specs.declared.entry.BlockEntry.{BlockEntry}
use Rattle.ref_counts.specs.Tables.{refs_in}
use Rattle.copy_pieces.specs.Moved.{reached}
use Rattle.copy_pieces.proofs.PlaceLaws.{no_block, reached-more, reached-none, reached-one}
use Rattle.copy_pieces.proofs.placing.choose.Goals.{then-get-ne0+in_ok-push, else-get-ne0}
use Rattle.copy_pieces.proofs.placing.choose.Goals as goal

pub loop-entry-preserved : goal.loop-entry-preserved
loop-entry-preserved c =
    let test = c.loop-entry-test.true in
    let uses = refs_in c.args.refs.now in
    let entries = c.args.entries.now in
    let i = c.loop-entry.entry-index in
    let e = get_or entries i no_block in
    let more = reached-more uses entries i no_block (omega (arith, test)) in
    let number = c.get.ensures ∙ ap uses c.key.ensures.value in
    elim c.if-get-ne0.branch [
      | then-get-ne0+in_ok-push w ↦
          let some = ap (λ n. eqb n 0) (sym number) ∙ ne_eqb c.get.result 0 w.if-get-ne0.true in
          rw (w.chosen-is) (w.in_ok-push.ensures.items ∙ ap (λ (l : List BlockEntry). l ++ e ∷ []) c.loop-entry.invariant ∙ sym (more ∙ ap (λ (l : List BlockEntry). reached uses (take i entries) ++ l) (reached-one uses e some)))
      | else-get-ne0 w ↦
          let none = ap (λ n. eqb n 0) (sym number) ∙ eq-eqb c.get.result 0 w.if-get-ne0.false in
          rw (w.chosen-is) (c.loop-entry.invariant ∙ sym (more ∙ ap (λ (l : List BlockEntry). reached uses (take i entries) ++ l) (reached-none uses e none) ∙ append-nil (reached uses (take i entries))))
    ]
