-- Objects stand at their own ids.
use Rattle.std.specs.Prelude.{ℕ, Bool, true, List, Option, None, Some}
use Rattle.std.specs.List.{list_all}
use Rattle.mail_objects.specs.Objects.{stands_at}
use Rattle.mail_objects.specs.declared.object.Object.{Object}

-- the object may stand at the id, or is to go
abbrev pub is_placed : ℕ × Option Object → Bool
is_placed (q, None) = true
is_placed (q, Some object) = stands_at q object

-- so it is of all
abbrev pub are_placed : List (ℕ × Option Object) → Bool
are_placed entries = list_all is_placed entries
