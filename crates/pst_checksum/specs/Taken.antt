-- Words of 8 bytes that are taken out of the bytes: as the checksum's polynomial divides x^300 + x^155 + x^117 + x^89 + 1, a word leaves the checksum as it is when it is taken out and added 145, 183, 211 and 300 bits further on.
use Rattle.std.specs.Prelude.{ℕ, ◌*◌, ◌/◌, ◌%◌, ◌-◌, ◌^◌, bit_xor, List, [], ◌∷◌, drop}
use Rattle.pst_checksum.specs.Crc.{after_bits, crc_from}
use Rattle.pst_base.specs.Fields.{number_at}

-- what stands in the place of a word when it and the word before it are moved k bits on
unfoldable pub shifted : ℕ → ℕ → ℕ → ℕ
shifted k word before = bit_xor (word * 2 ^ k % 2 ^ 64) (before / 2 ^ (64 - k))

-- what words that were taken out 2, 3, 4 and 5 words before a word add to it: the bits 145, 183, 211 and 300 before its own
unfoldable pub carried : ℕ → ℕ → ℕ → ℕ → ℕ
carried second third fourth fifth =
    bit_xor (bit_xor (bit_xor (shifted 17 second third) (shifted 55 second third)) (shifted 19 third fourth)) (shifted 44 fourth fifth)

-- the register c after the bytes, to whose first words others are added
unfoldable pub crc_added : ℕ → List ℕ → List ℕ → ℕ
crc_added c [] bs = crc_from c bs
crc_added c (w ∷ ws) bs = crc_added (after_bits 64 (bit_xor (bit_xor c w) (number_at 8 0 bs))) ws (drop 8 bs)

-- the checksum when the bytes are the rest and the five words before them were taken out, the oldest first
unfoldable pub crc_taken : ℕ → ℕ → ℕ → ℕ → ℕ → List ℕ → ℕ
crc_taken a b c d e bs =
    crc_added 0 (carried d c b a ∷ carried e d c b ∷ carried 0 e d c ∷ carried 0 0 e d ∷ carried 0 0 0 e ∷ []) bs
