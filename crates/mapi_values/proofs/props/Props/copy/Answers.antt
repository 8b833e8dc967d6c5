use Rattle.std.proofs.Common.{◌∙◌, arith}
use Rattle.std.proofs.lemmas.List.{take_all}
use Rattle.mapi_values.proofs.PropertyLaws.{same-props}
use Rattle.mapi_values.proofs.props.Props.copy.Goals as goal

pub invariant_of-result : goal.invariant_of-result
invariant_of-result c =
    same-props _ _ (c.loop-value.invariant ∙ (take_all _ _ (omega arith) ∙ c.deref-value-items.ensures.value)) c.self.invariant
