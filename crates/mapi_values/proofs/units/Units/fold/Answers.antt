use Rattle.std.proofs.Common.{◌≡◌, ◌++◌, [], sym, ◌∙◌, ap, rules, append-nil}
use Rattle.mapi_values.specs.Characters.{folded}
use Rattle.mapi_values.proofs.CharacterLaws.{folded-more, folded-nil}
use Rattle.mapi_values.proofs.units.Units.fold.Goals as goal

pub loop-character-preserved : goal.loop-character-preserved
loop-character-preserved c =
    folded-more c.args.strip _ _ _ _ c.in-Some.character c.in-Some.ensures.split (search rules) ∙ c.loop-character.invariant

pub returns : goal.returns
returns c =
    let none : c.loop-character.rest.now ≡ [] = search rules in
    let all : folded c.args.strip c.as_slice-rest.result.now ≡ folded c.args.strip c.args.self.now = search rules in
    c.from_vec.ensures ∙ (sym (append-nil _) ∙ (ap (λ xs. c.loop-character.units.items ++ xs) (sym (folded-nil c.args.strip))
    ∙ (ap (λ xs. c.loop-character.units.items ++ folded c.args.strip xs) (sym none) ∙ (c.loop-character.invariant ∙ all))))
