-- What stands below a subnode is less than what stands in the whole list.
use Rattle.std.specs.Prelude.{◌≤◌, List, [], ◌∷◌, length, map}
use Rattle.std.proofs.Common.{arith, length-append}
use Rattle.std.proofs.lemmas.List.{length-map}
use denote.Param.Weighed.{most}
use Rattle.pst_base.specs.declared.subs.Sub.{Sub}
use Rattle.pst_base.specs.declared.subs.Subs.TheDeep.{deep-Sub}
use Rattle.pst_base.specs.Subs.{flattened, one_deeper}

pub most-flattened : (subs : List Sub) → most deep-Sub subs ≤ length (flattened subs)
most-flattened [] = omega arith
most-flattened (s ∷ subs) = omega (arith, most-flattened subs, length-append (map one_deeper s.subs) (flattened subs), length-map s.subs one_deeper)
