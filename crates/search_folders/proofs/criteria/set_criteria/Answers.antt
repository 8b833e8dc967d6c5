use Rattle.search_folders.proofs.Among.{among_as, among_exit, among_said, among_stops, among_then}
use Rattle.search_folders.proofs.Set.{given_says, other_among}
use Rattle.search_folders.specs.Givens.{given_of}
use Rattle.search_folders.proofs.criteria.set_criteria.Goals as goal

pub returns-in_err-given-clause-answer : goal.returns-in_err-given-clause-answer
returns-in_err-given-clause-answer g c =
    among_as (λ X k view said. given_says view X _ _ _ _ _ said)
    (among_said (λ (u : Unit {0}). u) _ _ _ (λ X s k. other_among _ X _ _ _ k.own (c.in_ok-unless_among.ensures.answer X.tree (c.places.ensures X.tree s)))
    (among_stops given_of _ _ _ (λ X s k. c.in_err-given.ensures.answer X.tree (c.places-2.ensures X.tree s)) c.from_residual-in_err-given.ensures.1))

pub returns-in_err-context-clause-answer : goal.returns-in_err-context-clause-answer
returns-in_err-context-clause-answer g c =
    among_as (λ X k view said. given_says view X _ _ _ _ _ said)
    (among_said (λ (u : Unit {0}). u) _ _ _ (λ X s k. other_among _ X _ _ _ k.own (c.in_ok-unless_among.ensures.answer X.tree (c.places.ensures X.tree s)))
    (among_said given_of _ _ _ (λ X s k. c.in_ok-given.ensures.answer X.tree (c.places-2.ensures X.tree s))
    (among_exit _ c.in_err-context.ensures.answer c.from_residual-in_err-context.ensures.1)))

pub returns-clause-answer : goal.returns-clause-answer
returns-clause-answer g c =
    among_as (λ X k view said. given_says view X _ _ _ _ _ said)
    (among_said (λ (u : Unit {0}). u) _ _ _ (λ X s k. other_among _ X _ _ _ k.own (c.in_ok-unless_among.ensures.answer X.tree (c.places.ensures X.tree s)))
    (among_said given_of _ _ _ (λ X s k. c.in_ok-given.ensures.answer X.tree (c.places-2.ensures X.tree s))
    (among_then _ c.in_ok-context.ensures.answer c.in_ok-context.ensures.reads c.with_criteria.ensures.answer)))
