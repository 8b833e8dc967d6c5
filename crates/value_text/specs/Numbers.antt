-- Numbers in decimal, and their bits.
use Rattle.std.specs.Prelude.{ℕ, ◌+◌, ◌-◌, ◌^◌, ◌==◌, ◌&&◌, Bool, true, false, List, ◌∷◌, length, drop, nat_le, nat_lt, Option, None, Some, option_map, option_and_then, if◌then◌else◌}
use Rattle.std.specs.List.{list_all}
use Rattle.std.specs.Char.{is_ascii_digit}
use Rattle.std.specs.Fmt.{decimal}
use Rattle.std.specs.Str.Parse.{digits_value, starts_with_minus}
use Rattle.byteorder.specs.Endian.{little_bytes, little_number}

-- the number that one or more digits write, where it is below 2^64
unfoldable pub magnitude : List ℕ → Option ℕ
magnitude ds = if nat_lt 0 (length ds) && (list_all is_ascii_digit ds && nat_lt (digits_value 10 ds) (2 ^ 64)) then Some (digits_value 10 ds) else None

-- whether a minus stands before the digits, and the number that they write
unfoldable pub signed_magnitude : List ℕ → Option (Bool × ℕ)
signed_magnitude text =
    if starts_with_minus text then option_map (λ n. (true, n)) (magnitude (drop 1 text))
    else option_map (λ n. (false, n)) (magnitude text)

-- the two's complement of n below zero, or of n, as a number below twice half: n is at most half below zero, and less than half above it
unfoldable pub signed_bits : ℕ → Bool × ℕ → Option ℕ
signed_bits half s =
    if s.0 then (if s.1 == 0 then Some 0 else if nat_le s.1 half then Some (half + (half - s.1)) else None)
    else if nat_lt s.1 half then Some s.1 else None

-- the number itself, which isn't below zero
unfoldable pub unsigned_bits : Bool × ℕ → Option ℕ
unsigned_bits s = if s.0 && nat_lt 0 s.1 then None else Some s.1

-- the bits of a number of one of the kinds of numbers
unfoldable pub number_bits : ℕ → Bool × ℕ → Option ℕ
number_bits kind s =
    if kind == 0x0002 then signed_bits (2 ^ 15) s
    else if kind == 0x0003 then signed_bits (2 ^ 31) s
    else if kind == 0x0014 then signed_bits (2 ^ 63) s
    else unsigned_bits s

-- how many bytes a number of one of these kinds has
unfoldable pub number_width : ℕ → ℕ
number_width kind = if kind == 0x0002 then 2 else if kind == 0x0003 then 4 else 8

-- the bytes of a number of one of these kinds that a text writes
unfoldable pub number_bytes : ℕ → List ℕ → Option (List ℕ)
number_bytes kind text = option_map (λ n. little_bytes (number_width kind) n) (option_and_then (number_bits kind) (signed_magnitude text))

-- a number in decimal, of bits that are two's complement by this half
unfoldable pub signed_text : ℕ → ℕ → List ℕ
signed_text half n = if nat_lt n half then decimal n else 45 ∷ decimal (half - (n - half))

-- the text of a number of one of these kinds
unfoldable pub number_text : ℕ → List ℕ → List ℕ
number_text kind bytes =
    if kind == 0x0002 then signed_text (2 ^ 15) (little_number 2 bytes)
    else if kind == 0x0003 then signed_text (2 ^ 31) (little_number 4 bytes)
    else if kind == 0x0014 then signed_text (2 ^ 63) (little_number 8 bytes)
    else decimal (little_number 8 bytes)
