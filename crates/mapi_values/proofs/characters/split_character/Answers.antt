use Rattle.std.proofs.Common.{sym, ◌∙◌, arith, rules}
use Rattle.mapi_values.proofs.CharacterLaws.{characters-after_pair, characters-after_lone}
use Rattle.mapi_values.proofs.characters.split_character.Goals as goal

pub returns-in-Some-clause-split : goal.returns-in-Some-clause-split
returns-in-Some-clause-split c =
    characters-after_pair c.args.units.now c.in-Some.c (sym c.leading_pair.ensures.value ∙ c.in-Some.is)

pub returns-in-None-clause-split : goal.returns-in-None-clause-split
returns-in-None-clause-split c =
    characters-after_lone c.args.units.now c.lone.result (omega arith) (sym c.leading_pair.ensures.value ∙ c.in-None.is) (search rules)
