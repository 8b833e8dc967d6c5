use Rattle.std.proofs.Common.{◌≡◌, ◌++◌, [], sym, ◌∙◌, ap, rules, append-nil}
use Rattle.mail_tree.specs.Start.{utf8_of}
use Rattle.new_store.proofs.KeyLaws.{utf8-more, utf8-nil}
use Rattle.new_store.proofs.keys.utf8_of.Goals as goal

pub loop-character-preserved : goal.loop-character-preserved
loop-character-preserved c =
    utf8-more _ _ _ _ c.in-Some.character c.in-Some.ensures.split (search rules) ∙ c.loop-character.invariant

pub returns : goal.returns
returns c =
    let none : c.loop-character.rest.now ≡ [] = search rules in
    let all : utf8_of c.as_slice-rest.result.now ≡ utf8_of c.args.units.now = search rules in
    sym (append-nil _) ∙ (ap (λ xs. c.loop-character.bytes.items ++ xs) (sym utf8-nil)
    ∙ (ap (λ xs. c.loop-character.bytes.items ++ utf8_of xs) (sym none) ∙ (c.loop-character.invariant ∙ all)))
