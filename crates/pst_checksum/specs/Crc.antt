-- The checksum of pages, blocks and the header: a cyclic redundancy check whose register starts at 0, with no complement at its end.
use Rattle.std.specs.Prelude.{ℕ, zero, suc, ◌==◌, ◌/◌, ◌%◌, if◌then◌else◌, bit_xor, List, [], ◌∷◌}

-- the register c one bit on: halved, and the polynomial added where a 1 fell out
unfoldable pub after_bit : ℕ → ℕ
after_bit c = if c % 2 == 1 then bit_xor (c / 2) 0xEDB88320 else c / 2

-- the register c some bits on
unfoldable pub after_bits : ℕ → ℕ → ℕ
after_bits zero c = c
after_bits (suc n) c = after_bits n (after_bit c)

-- the register c after some bytes: each is added to it, and it goes on by 8 bits
unfoldable pub crc_from : ℕ → List ℕ → ℕ
crc_from c [] = c
crc_from c (b ∷ bs) = crc_from (after_bits 8 (bit_xor c b)) bs

-- the checksum of the bytes
unfoldable pub crc_of : List ℕ → ℕ
crc_of bs = crc_from 0 bs
