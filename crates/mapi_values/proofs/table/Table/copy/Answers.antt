use Rattle.std.proofs.Common.{◌∙◌, arith}
use Rattle.std.proofs.lemmas.List.{take_all}
use Rattle.mapi_values.proofs.TableLaws.{same-table}
use Rattle.mapi_values.proofs.table.Table.copy.Goals as goal

pub invariant_of-result : goal.invariant_of-result
invariant_of-result c =
    same-table _ _ _ _ _ _ _ (c.in_ok-columns.ensures.items ∙ c.as_slice.ensures.value) (c.loop-row.invariant ∙ (take_all _ _ (omega arith) ∙ c.deref-row-items.ensures.value)) c.self.invariant
