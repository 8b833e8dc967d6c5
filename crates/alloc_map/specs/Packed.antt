-- Bits packed into bytes.
use Rattle.std.specs.Prelude.{◌==◌, ℕ, ◌-◌, ◌*◌, ◌/◌, ◌%◌, Bool, List, length, map, slice_index_or}
use Rattle.std.specs.List.{range_with_len}
use Rattle.std.specs.Int.{bit_at}

-- the bit at an index: that of a byte's most significant bit comes first
unfoldable pub packed_bit : List ℕ → ℕ → Bool
packed_bit bytes i = bit_at (slice_index_or bytes (i / 8) 0) (7 - i % 8) == 1

-- all bits of the bytes
unfoldable pub bits_of : List ℕ → List Bool
bits_of bytes = map (packed_bit bytes) (range_with_len 0 (8 * length bytes))
