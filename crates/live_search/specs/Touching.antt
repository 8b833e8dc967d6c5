-- What a change of a message does to the list of a search.
use Rattle.std.specs.Prelude.{ℕ, Bool, true, false, length, Option, None, Some}
use Rattle.mapi_values.specs.Messages.{Mes}
use Rattle.restr_codec.specs.Restr.{Restr}
use Rattle.restr_eval.specs.Eval.{eval, rows_of, subject}
use Rattle.restr_eval.specs.Reached.{reached, work}
use Rattle.live_search.specs.declared.touching.Delta.{Delta}
use Rattle.live_search.specs.declared.touching.Delta.TheVariants.{Same, Enter, Leave, Stay}

-- the restriction holds of the message, if there is one
abbrev pub is_met : Restr → Option Mes → Bool
is_met r None = false
is_met r (Some m) = eval r (subject m)

-- how many restrictions are reached to see that: none where there is no message
abbrev pub reached_for : Restr → Option Mes → ℕ
reached_for r None = 0
reached_for r (Some m) = reached r (subject m)

-- how many that are at most
abbrev pub work_for : Restr → Option Mes → ℕ
work_for r None = 0
work_for r (Some m) = work r (length (rows_of m.recipients)) (length m.parts)

-- what becomes of a message in a list, by whether it was listed and whether it is to be listed
abbrev pub delta : Bool → Bool → Delta
delta false false = Same
delta false true = Enter
delta true false = Leave
delta true true = Stay
