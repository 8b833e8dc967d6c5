use Rattle.std.proofs.Common.{refl, subst}
use Rattle.std.proofs.lemmas.Result.{err_from_is_err_and}
use Rattle.mail_draft.proofs.Looking.{shown_still}
use Rattle.mail_draft.specs.Drafts.{changed_of}
use Rattle.mail_searches.specs.Step.{outcome}
use Rattle.mail_store.proofs.StoreLaws.{of_answer}
use Rattle.mail_store.specs.Planning.{IsHindered, StaysUnwritten}
use Rattle.mail_store.specs.Space.{HasRoom}
use Rattle.search_folders.specs.Comings.{comes_to}
use Rattle.search_store.proofs.PlanLaws.{hinders_coming, plans_coming}
use Rattle.search_store.proofs.QuietLaws.{stays_unwritten}
use Rattle.search_store.proofs.store.plan.Goals as goal

pub returns-clause-answer : goal.returns-clause-answer
returns-clause-answer g c = λ X s.
    let still = shown_still X.tree c.in_ok-outcome.ensures.looks s.tree.shown in
    let v = c.in_ok-outcome.field-0 in
    let answer = outcome X c.args.command.now in
    plans_coming (comes_to X) (g.K.NodeReader.room c.args.store.now.store.keeper) _ answer v _ (c.in_ok-outcome.ensures.answer X s)
    (λ is.
    let made = c.in_ok-tree.ensures.answer X.tree (record { shown = still; knows = s.tree.knows }) (of_answer (λ o. StaysUnwritten X.tree o.outcome) answer (comes_to X v) (stays_unwritten X c.args.command.now) is) in
    ((made.0, refl, refl), subst (λ room. HasRoom room (changed_of v.outcome.draft)) c.in_ok-outcome.ensures.looks.space made.1))

pub returns-in_err-tree-clause-answer : goal.returns-in_err-tree-clause-answer
returns-in_err-tree-clause-answer g c =
    let p = err_from_is_err_and c.from_residual-in_err-tree.result c.from_residual-in_err-tree.ensures.1 in
    rw (p.1, p.2) (λ X s.
    let still = shown_still X.tree c.in_ok-outcome.ensures.looks s.tree.shown in
    let v = c.in_ok-outcome.field-0 in
    let answer = outcome X c.args.command.now in
    hinders_coming (comes_to X) (g.K.NodeReader.room c.args.store.now.store.keeper) _ answer v c.in_err-tree.field-0.0 (c.in_ok-outcome.ensures.answer X s)
    (λ is.
    let hindered = c.in_err-tree.ensures.answer X.tree (record { shown = still; knows = s.tree.knows }) (of_answer (λ o. StaysUnwritten X.tree o.outcome) answer (comes_to X v) (stays_unwritten X c.args.command.now) is) in
    subst (λ room. IsHindered room (changed_of v.outcome.draft) c.in_err-tree.field-0.0) c.in_ok-outcome.ensures.looks.space hindered))

pub returns-clause-most : goal.returns-clause-most
returns-clause-most g c = λ X o ts s follows is touches. (c.in_ok-outcome.ensures.asks follows).most X s o ts is touches

pub returns-in_err-tree-clause-most : goal.returns-in_err-tree-clause-most
returns-in_err-tree-clause-most g c = λ X o ts s follows is touches. (c.in_ok-outcome.ensures.asks follows).most X s o ts is touches
