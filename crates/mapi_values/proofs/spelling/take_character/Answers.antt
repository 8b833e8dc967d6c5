use Rattle.std.proofs.Common.{rules}
use Rattle.mapi_values.proofs.SpellingLaws.{takes_first}
use Rattle.mapi_values.proofs.spelling.take_character.Goals as goal

pub returns : goal.returns
returns c = takes_first c.next.result _ _ c.requires (search rules)
