use Rattle.mapi_values.proofs.RangeLaws.{all_units-from_each}
use Rattle.mapi_values.proofs.units.Units.from_vec.Goals as goal

pub invariant_of-result : goal.invariant_of-result
invariant_of-result c = all_units-from_each c.args.units.items c.items_fit
