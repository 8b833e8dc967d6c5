use Rattle.std.proofs.Common.{◌≡◌, ℕ, ◌+◌, ◌∙◌, List, Ok, arith, max, subst, sym}
use Rattle.mail_tree.specs.declared.places.FolderPlace.{FolderPlace}
use Rattle.mail_draft.specs.Answers.{Says}
use Rattle.mail_draft.proofs.DeskCalls.{as_at}
use Rattle.mail_folders.proofs.Steps.{stopped}
use Rattle.search_folders.specs.Pieces.{greatest_among, search_index}
use Rattle.search_folders.proofs.IndexLaws.{follows_all, follows_stop}
use Rattle.search_folders.proofs.indexes.next_search_index.Goals as goal

pub returns-in_err-listed-clause-answer : goal.returns-in_err-listed-clause-answer
returns-in_err-listed-clause-answer g c = record {
  says = λ T s.
      let shown = c.in_ok-after_nodes.ensures.reads.shows T s in
      let places = c.as_slice.ensures ∙ c.in_ok-places.ensures ∙ sym (c.places.ensures T shown) in
      stopped _ _ _ _ c.from_residual-in_err-listed.ensures.1 (follows_stop T _ (as_at _ (λ (ps : List FolderPlace). greatest_among T ps) _ places (c.in_err-listed.ensures.answer.says T shown)));
}

pub returns-clause-answer : goal.returns-clause-answer
returns-clause-answer g c =
    let n = c.in_ok-after_nodes.after_nodes in let m = c.in_ok-listed.listed in
    let next : c.max.result ≡ max n (m + 1) = omega (arith, c.max.ensures, c.from.ensures) in
    record {
      says = λ T s.
          let shown = c.in_ok-after_nodes.ensures.reads.shows T s in
          let places = c.as_slice.ensures ∙ c.in_ok-places.ensures ∙ sym (c.places.ensures T shown) in
          subst (λ k. Says {B = ℕ} (λ n. n) (search_index T) (Ok k)) (sym next)
          (follows_all T n m (c.in_ok-after_nodes.ensures.answer.says T s) (as_at _ (λ (ps : List FolderPlace). greatest_among T ps) _ places (c.in_ok-listed.ensures.answer.says T shown)));
    }
