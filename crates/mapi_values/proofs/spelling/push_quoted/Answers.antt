use Rattle.std.proofs.Common.{◌≡◌, ◌++◌, [], sym, ◌∙◌, ap, rules, append-nil}
use Rattle.std.specs.Prelude.{string_bytes}
use Rattle.mapi_values.specs.Spelling.{spelled}
use Rattle.mapi_values.proofs.PrintLaws.{spelled-more, spelled-nil, quoted-parts}
use Rattle.mapi_values.proofs.spelling.push_quoted.Goals as goal

pub loop-character-preserved : goal.loop-character-preserved
loop-character-preserved c =
    spelled-more _ _ _ _ c.in-Some.character c.in-Some.ensures.split (search rules) ∙ c.loop-character.invariant

pub returns : goal.returns
returns c =
    let none : c.loop-character.rest.now ≡ [] = search rules in
    let all : spelled c.as_slice-rest.result.now ≡ spelled c.args.units.now = search rules in
    quoted-parts _ _ _ _ _ (search rules)
    (sym (append-nil _) ∙ (ap (λ xs. string_bytes c.loop-character.text ++ xs) (sym spelled-nil)
    ∙ (ap (λ xs. string_bytes c.loop-character.text ++ spelled xs) (sym none) ∙ (c.loop-character.invariant ∙ ap (λ xs. string_bytes c.push.new.self ++ xs) all))))
    (search rules)
