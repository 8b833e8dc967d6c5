use Rattle.std.proofs.Common.{◌≡◌, ◌∷◌, ◌++◌, [], ℕ, None, ap, ◌∙◌}
use Rattle.content_plan.specs.Told.{keys_at}
use Rattle.content_plan.proofs.PlanLaws.{Edits, gone-plans, removed-plans}
use Rattle.content_plan.proofs.node.removed.Goals as goal

abbrev one_edit : ℕ → Edits
one_edit n = (n, None) ∷ []

pub returns-in_default-clause-plans : goal.returns-in_default-clause-plans
returns-in_default-clause-plans c = λ find eof limit es rise there are.
    rw (c.new-edits.ensures.items, c.new.ensures.items, c.new-in_default.ensures.items)
    (gone-plans find eof limit es c.args.nid c.args.keys.items (there ∙ c.in_default.is) (are ∙ ap (keys_at find) c.in_default.is))

pub returns-clause-plans : goal.returns-clause-plans
returns-clause-plans c = λ find eof limit es rise there are.
    let edits : c.push.new.self.items ≡ (c.args.nid.bits, None) ∷ [] =
    c.in_ok-push.ensures.items ∙ ap (λ (l : Edits). l ++ (c.from.result, None) ∷ []) c.new-edits.ensures.items ∙ ap one_edit c.from.ensures in
    rw (edits, c.new-2.ensures.items, c.new-3.ensures.items) (removed-plans find eof limit es c.args.nid c.args.entry c.args.keys.items rise there are)
