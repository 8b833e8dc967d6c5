use Rattle.std.proofs.Common.{◌≡◌, ◌∙◌, true, sym, subst}
use Rattle.std.specs.List.{list_all}
use Rattle.new_store.specs.Entries.{AreNodesOf, can_write}
use Rattle.new_store.proofs.FitLaws.{all-can}
use Rattle.new_store.proofs.ShowingLaws.{start-ascend, start-many, start-shows}
use Rattle.new_store.proofs.making.new_store.Goals as goal

pub write_all-requires : goal.write_all-requires
write_all-requires c =
    subst (λ es. list_all can_write es ≡ true) (sym (c.as_slice.ensures.value ∙ c.in_ok-entries.ensures)) (all-can c.args.name.now)

pub returns-clause-ascend : goal.returns-clause-ascend
returns-clause-ascend c =
    start-ascend c.args.name.now _ (subst (λ es. AreNodesOf es c.in_ok-write_all.field-0.items) (c.as_slice.ensures.value ∙ c.in_ok-entries.ensures) c.in_ok-write_all.ensures)

pub returns-clause-many : goal.returns-clause-many
returns-clause-many c =
    start-many c.args.name.now _ (subst (λ es. AreNodesOf es c.in_ok-write_all.field-0.items) (c.as_slice.ensures.value ∙ c.in_ok-entries.ensures) c.in_ok-write_all.ensures)

pub returns-clause-shows : goal.returns-clause-shows
returns-clause-shows c =
    start-shows c.args.name.now _ (subst (λ es. AreNodesOf es c.in_ok-write_all.field-0.items) (c.as_slice.ensures.value ∙ c.in_ok-entries.ensures) c.in_ok-write_all.ensures)
