-- The slots over which a plan places.
use Rattle.std.specs.Prelude.{Bool, List, Option, None, Some}

-- the slots over which a plan places: the file's own, or where there is a union with those of pins, that
abbrev pub placing_over : List Bool → Option (List Bool) → List Bool
placing_over own None = own
placing_over own (Some all) = all
