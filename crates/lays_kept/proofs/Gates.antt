-- A shut gate.
use Rattle.std.proofs.Common.{◌≡◌, ◌≤◌, ℕ, List, length, arith}
use Rattle.gate_file.specs.Effective.{effective}
use Rattle.gate_file.specs.Gate.{IsShut, IsClosed}
use Rattle.gate_file.proofs.Effects.{effective_shut, shut_by_byte}

pub closed : {side : List ℕ} → IsShut side → IsClosed side
closed is = record { size = is.size; shut = λ one. omega (arith, is.gate, one) }

-- behind it the store's file is Main
pub shut_file : (main side : List ℕ) → IsShut side → effective main side ≡ main
shut_file main side is = effective_shut main side (shut_by_byte side (closed is).shut)

pub short_side : (side : List ℕ) → IsShut side → length side ≤ 580
short_side side is = omega (arith, is.size)
