use Rattle.mapi_values.proofs.PropertyLaws.{same-props, remove-props}
use Rattle.mapi_values.proofs.props.Props.remove.Goals as goal

pub invariant_of-self : goal.invariant_of-self
invariant_of-self c = same-props _ _ c.drop_keyed.ensures.others (remove-props c.from.result _ c.self.invariant)
