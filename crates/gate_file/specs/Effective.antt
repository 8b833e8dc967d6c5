-- What the two files stand for: the bytes of Main, under the header in Side where the gate is open.
--
-- Side has 580 bytes: the gate's byte, 15 zeros, and a header of 564 bytes.
use Rattle.std.specs.Prelude.{ℕ, Bool, List, ◌++◌, length, take, drop, slice_index, if◌then◌else◌, ◌==◌, ◌&&◌}

-- the gate is open: Side is whole, and its first byte is 1
abbrev pub is_open : List ℕ → Bool
is_open side = length side == 580 && slice_index side 0 == 1

-- the bytes that count as the store's file
abbrev pub effective : List ℕ → List ℕ → List ℕ
effective main side = if is_open side then drop 16 side ++ drop 564 main else main

-- the header that counts
abbrev pub header_bytes : List ℕ → List ℕ → List ℕ
header_bytes main side = if is_open side then drop 16 side else take 564 main
