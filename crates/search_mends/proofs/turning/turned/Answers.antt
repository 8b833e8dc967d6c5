use Rattle.search_mends.proofs.TurnLaws.{turned_now}
use Rattle.search_mends.proofs.turning.turned.Goals as goal

pub returns-clause-answer : goal.returns-clause-answer
returns-clause-answer g c =
    turned_now _ _ c.args.criteria _ c.is_first.result _ c.is_first.ensures c.if-not-is_first.false c.migrated.ensures c.requires.fresh c.in_ok-saying.ensures.says c.in_ok-saying.ensures.answer
