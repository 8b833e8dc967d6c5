use Rattle.std.proofs.Common.{◌≡◌, length, ◌++◌}
use Rattle.std.specs.Prelude.{string_bytes}
use Rattle.mapi_values.specs.Spelling.{spelled}
use Rattle.mapi_values.proofs.spelling.push_quoted.Given as goal

-- what is printed so far, with the rest printed, is the text at the start and all units printed
abbrev pub invariant-loop-character : goal.invariant-loop-character
invariant-loop-character l = string_bytes l.text ++ spelled l.rest ≡ string_bytes l.initial.text ++ spelled l.initial.rest

abbrev pub decreases-loop-character : goal.decreases-loop-character
decreases-loop-character l = length l.rest
