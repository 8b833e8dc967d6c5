use Rattle.std.proofs.Common.{◌≡◌, ◌∙◌, ◌++◌, None, ap, rules}
use Rattle.restr_eval.specs.Content.{compared, option_list}
use Rattle.restr_eval.specs.Orders.{units_in}
use Rattle.restr_eval.proofs.TextLaws.{compared_first, compared_none}
use Rattle.restr_eval.proofs.text.next_unit.Goals as goal

pub returns-in-Some-compared_units : goal.returns-in-Some-compared_units
returns-in-Some-compared_units c =
    let no_pending : c.args.pending ≡ None = search rules in
    ap (λ o. option_list o ++ compared c.args.flags (units_in c.args.text.now)) no_pending
    ∙ (c.loop-character.invariant ∙ (compared_first c.args.flags _ _ c.in-Some-first_character.character c.in-Some-first_character.ensures.split
    ∙ ap (λ us. us ++ compared c.args.flags (units_in c.in-Some-first_character.behind.now)) c.in-Some-compared_units.ensures))

pub loop-character-preserved : goal.loop-character-preserved
loop-character-preserved c =
    c.loop-character.invariant ∙ (compared_first c.args.flags _ _ c.in-Some-first_character.character c.in-Some-first_character.ensures.split
    ∙ ap (λ us. us ++ compared c.args.flags (units_in c.in-Some-first_character.behind.now)) c.in_default-compared_units.ensures)

pub returns : goal.returns
returns c =
    let no_pending : c.args.pending ≡ None = search rules in
    ap (λ o. option_list o ++ compared c.args.flags (units_in c.args.text.now)) no_pending
    ∙ (c.loop-character.invariant ∙ (ap (compared c.args.flags) c.in_default-first_character.ensures.split ∙ compared_none c.args.flags))
