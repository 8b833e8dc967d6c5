-- What the bytes of a block are decoded as, and encoded as.
use Rattle.std.specs.Prelude.{ℕ, ◌+◌, ◌-◌, ◌/◌, ◌%◌, bit_xor, List, [], ◌∷◌, map, slice_index}
use Rattle.block_encoding.specs.declared.decoding.Method.{Method}
use Rattle.block_encoding.specs.declared.decoding.Method.TheVariants.{Permuted, Cyclic}
use Rattle.block_encoding.specs.declared.tables.TheConstants.{BACK, FORWARD, SWAP}

-- the byte that a table has for a byte
unfoldable pub forward : ℕ → ℕ
forward b = slice_index FORWARD b

unfoldable pub swapped : ℕ → ℕ
swapped b = slice_index SWAP b

unfoldable pub back : ℕ → ℕ
back b = slice_index BACK b

-- ---- by a word

-- the sum and the difference of two bytes, without what passes 8 bits
abbrev pub plus : ℕ → ℕ → ℕ
plus a b = (a + b) % 256

abbrev pub minus : ℕ → ℕ → ℕ
minus a b = (a + (256 - b)) % 256

-- a byte between a low and a high byte of a word
abbrev pub turned_by : ℕ → ℕ → ℕ → ℕ
turned_by low high b = minus (back (minus (swapped (plus (forward (plus b low)) high)) high)) low

-- a byte turned by a word of 16 bits
unfoldable pub turned : ℕ → ℕ → ℕ
turned word b = turned_by (word % 256) (word / 256) b

-- bytes, the first turned by this word, and each other one by the word that follows
unfoldable pub turned_from : ℕ → List ℕ → List ℕ
turned_from word [] = []
turned_from word (b ∷ bytes) = turned word b ∷ turned_from ((word + 1) % 65536) bytes

-- the word of the first byte: both halves of the low 32 bits of a block's id
abbrev pub first_word : ℕ → ℕ
first_word bid = bit_xor (bid / 65536 % 65536) (bid % 65536)

-- ---- a block

-- what the data of the block of an id is decoded as
abbrev pub decoded : Method → ℕ → List ℕ → List ℕ
decoded Permuted bid bytes = map back bytes
decoded Cyclic bid bytes = turned_from (first_word bid) bytes

-- what it is encoded as
abbrev pub encoded : Method → ℕ → List ℕ → List ℕ
encoded Permuted bid bytes = map forward bytes
encoded Cyclic bid bytes = turned_from (first_word bid) bytes
