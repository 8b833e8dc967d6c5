-- Subnodes as a flat list.
use Rattle.std.specs.Prelude.{◌+◌, List, [], ◌∷◌, ◌++◌, map}
use Rattle.pst_base.specs.Flat.{Flat}
use Rattle.pst_base.specs.declared.subs.Sub.{Sub}

abbrev pub one_deeper : Flat → Flat
one_deeper f = record { level = f.level + 1; nid = f.nid; blocks = f.blocks }

-- each subnode in its turn, and behind it those below it
abbrev pub flattened : List Sub → List Flat
flattened [] = []
flattened (s ∷ subs) = (record { level = 0; nid = s.nid.bits; blocks = s.blocks } ∷ map one_deeper s.subs) ++ flattened subs
