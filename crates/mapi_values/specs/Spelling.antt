-- UTF-16 units as text: how they are written, and what is read.
use Rattle.std.specs.Prelude.{ℕ, ◌+◌, ◌*◌, Bool, not, ◌&&◌, ◌==◌, List, [], ◌∷◌, ◌++◌, nat_lt, Option, None, Some, option_and_then, if◌then◌else◌, ◌||◌}
use Rattle.std.specs.List.{flat_map}
use Rattle.std.specs.Char.{encode_utf8, digit_value, is_digit}
use Rattle.std.specs.Char.Escape.{encode_utf16, hex_digit_at}
use Rattle.mapi_values.specs.declared.characters.Character.{Character}
use Rattle.mapi_values.specs.declared.characters.Character.TheVariants.{Scalar, Unpaired}
use Rattle.mapi_values.specs.Characters.{characters}

-- these units, and then what the rest gives, if it gives any
abbrev pub before : List ℕ → Option (List ℕ) → Option (List ℕ)
before us None = None
before us (Some vs) = Some (us ++ vs)

-- the letter u and four hex digits, as they follow a backslash
unfoldable pub is_escape : ℕ → ℕ → ℕ → ℕ → ℕ → Bool
is_escape u a b c d = (u == 117) && (is_digit a 16 && (is_digit b 16 && (is_digit c 16 && is_digit d 16)))

-- the number that four hex digits write
abbrev pub unit_of : ℕ → ℕ → ℕ → ℕ → ℕ
unit_of a b c d = 4096 * digit_value a + 256 * digit_value b + 16 * digit_value c + digit_value d

-- the units of a text, by its characters: a backslash, u and four hex digits are one unit, and any other backslash is refused
unfoldable pub units_of : List ℕ → Option (List ℕ)
units_of [] = Some []
units_of (x ∷ u ∷ a ∷ b ∷ c ∷ d ∷ rest) =
    if x == 92 then (if is_escape u a b c d then before (unit_of a b c d ∷ []) (units_of rest) else None)
    else before (encode_utf16 x) (units_of (u ∷ a ∷ b ∷ c ∷ d ∷ rest))
units_of (x ∷ rest) = if x == 92 then None else before (encode_utf16 x) (units_of rest)

-- a character that is printed as it is: all but controls below 20h, 7Fh, the double quote and the backslash
unfoldable pub is_plain : ℕ → Bool
is_plain c = not (nat_lt c 32 || (c == 127 || (c == 34 || c == 92)))

-- a backslash, u and the four hex digits of a unit, in lower case
unfoldable pub escape : ℕ → List ℕ
escape u = 92 ∷ 117 ∷ hex_digit_at 4096 u ∷ hex_digit_at 256 u ∷ hex_digit_at 16 u ∷ hex_digit_at 1 u ∷ []

-- the bytes of a character in printed text; an unpaired surrogate is always escaped
unfoldable pub spelled_character : Character → List ℕ
spelled_character (Scalar c) = if is_plain c then encode_utf8 c else escape c
spelled_character (Unpaired u) = escape u

-- the bytes of printed text, without its quotes
unfoldable pub spelled : List ℕ → List ℕ
spelled us = flat_map spelled_character (characters us)

-- the bytes of printed text
unfoldable pub quoted : List ℕ → List ℕ
quoted us = 34 ∷ (spelled us ++ 34 ∷ [])

-- the value of the hex digit at the front, and what follows it
unfoldable pub leading_digit : List ℕ → Option (ℕ × List ℕ)
leading_digit [] = None
leading_digit (x ∷ rest) = if is_digit x 16 then Some (digit_value x, rest) else None

-- the number that four hex digits at the front write, and what follows them
unfoldable pub leading_unit : List ℕ → Option (ℕ × List ℕ)
leading_unit xs = option_and_then (λ a. option_and_then (λ b. option_and_then (λ c. option_and_then (λ d.
    Some (4096 * a.0 + 256 * b.0 + 16 * c.0 + d.0, d.1)) (leading_digit c.1)) (leading_digit b.1)) (leading_digit a.1)) (leading_digit xs)

-- the same after the letter u
unfoldable pub leading_escape : List ℕ → Option (ℕ × List ℕ)
leading_escape [] = None
leading_escape (x ∷ rest) = if x == 117 then leading_unit rest else None
