-- Bytes as hex digits.
use Rattle.std.specs.Prelude.{ℕ, ◌+◌, ◌*◌, ◌/◌, ◌%◌, ◌==◌, ◌&&◌, List, [], ◌∷◌, ◌++◌, Option, None, Some, if◌then◌else◌}
use Rattle.std.specs.List.{flat_map}
use Rattle.std.specs.Char.{digit_char, digit_value, is_digit}

-- these bytes, and then what the rest gives, if it gives any
abbrev pub before : List ℕ → Option (List ℕ) → Option (List ℕ)
before xs None = None
before xs (Some ys) = Some (xs ++ ys)

-- the byte that two hex digits write
unfoldable pub pair_value : ℕ → ℕ → Option ℕ
pair_value a b = if is_digit a 16 && is_digit b 16 then Some (16 * digit_value a + digit_value b) else None

-- the byte in front of the others, where there are both
abbrev pub in_front : Option ℕ → Option (List ℕ) → Option (List ℕ)
in_front (Some x) (Some xs) = Some (x ∷ xs)
in_front (Some x) None = None
in_front None xs = None

-- the bytes that pairs of hex digits write
abbrev pub hex_pairs : List ℕ → Option (List ℕ)
hex_pairs [] = Some []
hex_pairs (a ∷ []) = None
hex_pairs (a ∷ b ∷ ds) = in_front (pair_value a b) (hex_pairs ds)

-- the bytes of a word in hex: a lone minus for none, else one or more pairs of digits
unfoldable pub hex_bytes : List ℕ → Option (List ℕ)
hex_bytes [] = None
hex_bytes (a ∷ []) = if a == 45 then Some [] else None
hex_bytes (a ∷ b ∷ ds) = hex_pairs (a ∷ b ∷ ds)

-- the two hex digits of a byte, in lower case
abbrev pub byte_digits : ℕ → List ℕ
byte_digits b = digit_char (b / 16) ∷ digit_char (b % 16) ∷ []

-- the word that writes these bytes in hex
unfoldable pub hex_text : List ℕ → List ℕ
hex_text [] = 45 ∷ []
hex_text (b ∷ bs) = flat_map byte_digits (b ∷ bs)
