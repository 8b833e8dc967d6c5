-- A checksum has 32 bits.
use Rattle.std.proofs.Common.{Bool, true, false, eqb, ℕ, zero, suc, ◌/◌, ◌%◌, ◌^◌, ◌<◌, List, [], ◌∷◌, get_or, bit_xor, arith, if◌then◌else◌}
use Rattle.std.proofs.lemmas.Nat.{xor_of_32}
use Rattle.pst_checksum.specs.Crc.{after_bit, after_bits, crc_from, crc_of}

bit_small : (fell : Bool) (half : ℕ) → half < 2 ^ 31 → (if fell then bit_xor half 0xEDB88320 else half) < 2 ^ 32
bit_small true half h = xor_of_32 half 0xEDB88320 (omega (arith, h)) (omega arith)
bit_small false half h = omega (arith, h)

bits_small : (n c : ℕ) → c < 2 ^ 32 → after_bits n c < 2 ^ 32
unfolding after_bits after_bit
bits_small zero c h = h
bits_small (suc n) c h = bits_small n (after_bit c) (bit_small (eqb (c % 2) 1) (c / 2) (omega (arith, h)))

from_small : (c : ℕ) (bs : List ℕ) → c < 2 ^ 32 → ((i : ℕ) → get_or bs i 0 < 256) → crc_from c bs < 2 ^ 32
unfolding crc_from
from_small c [] h small = h
from_small c (b ∷ bs) h small =
    let first : b < 256 = small 0 in
    from_small (after_bits 8 (bit_xor c b)) bs (bits_small 8 (bit_xor c b) (xor_of_32 c b h (omega (arith, first)))) (λ i. small (suc i))

pub crc-small : (bs : List ℕ) → ((i : ℕ) → get_or bs i 0 < 256) → crc_of bs < 2 ^ 32
unfolding crc_of
crc-small bs small = from_small 0 bs (omega arith) small
