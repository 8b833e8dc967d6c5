use Rattle.std.proofs.Common.{◌≡◌, ◌++◌, drop}
use Rattle.std.specs.Prelude.{string_bytes}
use Rattle.std.specs.List.{flat_map}
use Rattle.value_text.specs.Hex.{byte_digits}
use Rattle.value_text.proofs.hex.push_digits.Given as goal

-- the digits so far, with those of the rest, are all
abbrev pub invariant-loop-byte : goal.invariant-loop-byte
invariant-loop-byte l = string_bytes l.text ++ flat_map byte_digits (drop l.byte-index l.bytes) ≡ string_bytes l.fn.text ++ flat_map byte_digits l.bytes
