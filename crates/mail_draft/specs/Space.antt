-- The room for which a command asks: the blocks of all that it puts, and some for what it removes.
use Rattle.std.specs.Prelude.{ℕ, ◌+◌, ◌*◌, ◌/◌, ◌^◌, min, List, [], ◌∷◌, Option, None, Some}
use Rattle.std.specs.FinMap as map
use Rattle.mail_objects.specs.Objects.{object_space}
use Rattle.mail_objects.specs.declared.object.Object.{Object}
use Rattle.mail_tree.specs.Changing.{Changed}

-- the blocks of an object that is put; 3 for one that is removed
unfoldable pub space_of : Option Object → ℕ
space_of None = 3
space_of (Some object) = object_space object

-- those of all of them
abbrev pub entries_space : List (ℕ × Option Object) → ℕ
entries_space [] = 0
entries_space (e ∷ es) = space_of e.1 + entries_space es

-- how many blocks the changes ask for, counted up to 2^60
abbrev pub space_needed : Changed → ℕ
space_needed D = min (entries_space (map.entries D.objects)) (2 ^ 60)

-- The cells that the changes need in a file whose trees have so many pages. Those of the first name of a store ask for 4 blocks,
-- and need 28 cells while there are fewer than 16 pages.
abbrev pub space_bound : ℕ → Changed → ℕ
space_bound pages D = pages / 16 + 3 * space_needed D + 16
