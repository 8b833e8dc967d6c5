use Rattle.mail_draft.specs.Desks as tree
use Rattle.mail_draft.proofs.Passes.{stop_says}
use Rattle.search_folders.specs.Comings.{coming_of}
use Rattle.search_folders.specs.Pieces.{setting}
use Rattle.search_folders.proofs.Set.{replies_on}
use Rattle.search_folders.proofs.Among.{among_exits}
use Rattle.search_folders.proofs.criteria.setting.Goals as goal

pub returns-in_err-tree-clause-answer : goal.returns-in_err-tree-clause-answer
unfolding setting
returns-in_err-tree-clause-answer g c =
    let D = (g.D.Desk.view c.built_unless.new.desk).changed in let E = (g.D.Desk.view c.replying.new.desk).changed in
    among_exits _ _ (λ X s k. stop_says (tree.coming_of X.tree E) (coming_of X E) _ _ _
    (replies_on (λ (u : Unit {0}). D) (tree.coming_of X.tree E) X _ _ _ _ _ _ tt _ k.searches c.in_ok-after.ensures c.overfills-reason.ensures (c.in_ok-built_unless.ensures.answer.says X.tree s)
    (c.in_err-tree.ensures.answer.says X.tree (c.in_ok-built_unless.ensures.drafts.shows X.tree s)))) c.from_residual-in_err-tree.ensures.1
