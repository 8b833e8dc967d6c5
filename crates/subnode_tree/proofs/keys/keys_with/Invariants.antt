use Rattle.std.proofs.Common.{◌≡◌, ◌∷◌, ◌++◌, drop, map}
use Rattle.pst_base.specs.Ids.{key_of}
use Rattle.subnode_tree.specs.declared.blocks.Listed.{Listed}
use Rattle.subnode_tree.proofs.keys.keys_with.Given as goal

abbrev pub invariant-loop-listed : goal.invariant-loop-listed
invariant-loop-listed l =
    l.keys.items ++ map (λ (listed : Listed). key_of (listed.block).bits) (drop l.listed-index l.all) ≡ key_of l.fn.bid.bits ∷ map (λ (listed : Listed). key_of (listed.block).bits) l.all
