use Rattle.std.proofs.Common.{◌∙◌, ◌∷◌, ap, sym}
use Rattle.mapi_values.specs.Characters.{characters}
use Rattle.restr_eval.specs.Orders.{units_in}
use Rattle.restr_eval.proofs.TextLaws.{empty, lone_first, not_empty, pair_first}
use Rattle.restr_eval.proofs.text.first_character.Goals as goal

pub returns-then-is_empty-clause-split : goal.returns-then-is_empty-clause-split
returns-then-is_empty-clause-split c =
    ap characters (c.in-Some.ensures.0 ∙ ap (λ xs. c.in-Some.first ∷ xs) c.in-Some-first_unit.ensures.0)
    ∙ pair_first _ _ (units_in c.in-Some-first_unit.further.now) _ c.in-Some-split_character-2.alone.now c.in-Some-split_character-2.ensures.split (empty _ _ c.is_empty.ensures c.if-is_empty.true)

pub returns-else-is_empty-clause-split : goal.returns-else-is_empty-clause-split
returns-else-is_empty-clause-split c =
    ap characters (c.in-Some.ensures.0 ∙ ap (λ xs. c.in-Some.first ∷ xs) c.in-Some-first_unit.ensures.0)
    ∙ (lone_first _ _ (units_in c.in-Some-first_unit.further.now) _ c.in-Some-split_character-2.alone.now c.in-Some-split_character-2.ensures.split (not_empty _ _ c.is_empty.ensures c.if-is_empty.false)
    ∙ ap (λ xs. c.in-Some-split_character-2.character ∷ characters xs) (sym c.in-Some-first_unit.ensures.0))
