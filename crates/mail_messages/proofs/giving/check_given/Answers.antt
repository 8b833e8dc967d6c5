use Rattle.std.proofs.Common.{◌≡◌, ◌∙◌, false, refl, sym, rules}
use Rattle.std.specs.List.{list_any}
use Rattle.std.proofs.lemmas.Iterator.{YieldsList-from_slice}
use Rattle.std.proofs.lemmas.Iterator.Search.{any_from_yields_List}
use Rattle.mail_tree.specs.Values.{is_withheld}
use Rattle.mail_messages.proofs.giving.check_given.Goals as goal

pub returns-clause-answer : goal.returns-clause-answer
returns-clause-answer c =
    let any = any_from_yields_List is_withheld _ _ c.any.result c.any.ensures.ran (YieldsList-from_slice c.args.values.now cc) (λ x b q k. search rules) in
    let none : list_any is_withheld c.args.values.now ≡ false = sym any ∙ c.if-any.false in
    rw none refl
