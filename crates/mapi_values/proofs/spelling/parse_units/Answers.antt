use Rattle.std.proofs.Common.{◌∙◌, rules, sym, ap, Some}
use Rattle.mapi_values.proofs.SpellingLaws.{underway_past_plain, underway_past_escape, underway_at_fault, underway_at_end}
use Rattle.mapi_values.proofs.spelling.parse_units.Goals as goal

pub returns-in_default-take_escape : goal.returns-in_default-take_escape
returns-in_default-take_escape c =
    underway_at_fault _ _ _ _ _ c.loop-character.invariant c.in-Some.ensures (search rules) (search rules)

pub loop-character-preserved-in-Continue-1 : goal.loop-character-preserved-in-Continue-1
loop-character-preserved-in-Continue-1 c =
    underway_past_escape _ _ _ _ _ _ _ _ c.loop-character.invariant c.in-Some.ensures (search rules) c.in-Some-take_escape.ensures (search rules)

pub loop-character-preserved : goal.loop-character-preserved
loop-character-preserved c =
    underway_past_plain _ _ _ _ _ _ c.loop-character.invariant c.in-Some.ensures c.if-character-eq92.false (search rules)

pub returns : goal.returns
returns c = underway_at_end _ _ _ c.loop-character.invariant c.in_default.ensures ∙ ap Some (sym c.from_vec.ensures)
