use Rattle.std.proofs.Common.{rules}
use Rattle.mapi_values.proofs.PropertyLaws.{tried-props}
use Rattle.mapi_values.proofs.props.Props.put.Goals as goal

pub invariant_of-self : goal.invariant_of-self
invariant_of-self c = tried-props c.put_keyed.result c.args.value _ _ c.put_keyed.ensures.ok c.put_keyed.ensures.err (search rules) c.self.invariant
