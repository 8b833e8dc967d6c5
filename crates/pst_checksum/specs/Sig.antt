-- The signature of a page or a block ([MS-PST] 5.5).
use Rattle.std.specs.Prelude.{ℕ, ◌/◌, ◌%◌, ◌^◌, bit_xor}

-- the low 16 bits of x, with the next 16 added
abbrev pub folded : ℕ → ℕ
folded x = bit_xor (x % 2 ^ 16) (x / 2 ^ 16 % 2 ^ 16)

-- the signature at a place, of an id
unfoldable pub sig_of : ℕ → ℕ → ℕ
sig_of ib bid = folded (bit_xor ib bid)
