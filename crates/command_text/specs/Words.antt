-- The words of a line, and what stands in them.
use Rattle.std.specs.Prelude.{ℕ, ◌/◌, ◌%◌, ◌&&◌, ◌==◌, nat_le, List, [], ◌∷◌, bytes_eq, codes, length, chars, Option, None, Some, option_and_then, option_map, if◌then◌else◌}
use Rattle.std.specs.List.{position_or_len, before_first, after_first, list_all, slice_split}
use Rattle.std.specs.Char.{is_digit}
use Rattle.std.specs.Str.Parse.{digits_value}
use Rattle.mapi_values.specs.Spelling.{units_of}
use Rattle.mapi_values.specs.declared.value.Tag.{Tag}
use Rattle.value_text.specs.Forms.{guid_bytes}
use Rattle.value_text.specs.Hex.{hex_bytes}
use Rattle.value_text.specs.Numbers.{magnitude}

-- what stands before and after the first space, if there is one
unfoldable pub cut : List ℕ → Option (List ℕ × List ℕ)
cut line = if position_or_len (λ b. b == 32) line == length line then None
    else Some (before_first (λ b. b == 32) line, after_first (λ b. b == 32) line)

-- the number that hex digits write
unfoldable pub hex_value : List ℕ → Option ℕ
hex_value ds = if list_all (λ d. is_digit d 16) ds then Some (digits_value 16 ds) else None

-- the number that 1 to 8 hex digits write
unfoldable pub hex_number : List ℕ → Option ℕ
hex_number ds = if nat_le 1 (length ds) && nat_le (length ds) 8 then hex_value ds else None

-- the id that a word writes: 0x and 1 to 8 hex digits
unfoldable pub id_of : List ℕ → Option ℕ
id_of (a ∷ b ∷ ds) = if (a == 48) && (b == 120) then hex_number ds else None
id_of word = None

-- a tag as one number, its id above its kind
unfoldable pub tag_from : ℕ → Tag
tag_from n = record { id = n / 65536; kind = n % 65536 }

-- the tag that 8 hex digits write
unfoldable pub tag_digits : List ℕ → Option Tag
tag_digits ds = if length ds == 8 then option_map tag_from (hex_value ds) else None

-- the tag that a word writes: 0x and 8 hex digits, those of the id and then those of the kind
unfoldable pub tag_of : List ℕ → Option Tag
tag_of (a ∷ b ∷ ds) = if (a == 48) && (b == 120) then tag_digits ds else None
tag_of word = None

-- the number that decimal digits write, if it is at most the last one
unfoldable pub number_to : ℕ → List ℕ → Option ℕ
number_to last word = option_and_then (λ n. if nat_le n last then Some n else None) (magnitude word)

-- the type of a recipient: a number up to 3
unfoldable pub recipient_type : List ℕ → Option ℕ
recipient_type word = number_to 3 word

-- the row of a table: a number below 2^32
unfoldable pub row_of : List ℕ → Option ℕ
row_of word = number_to 4294967295 word

-- the 16 bytes of a GUID, which 32 hex digits write
unfoldable pub guid_of : List ℕ → Option (List ℕ)
guid_of word = option_and_then guid_bytes (hex_bytes word)

-- the units of a name: a text with good escapes, of 1 to 255 units
unfoldable pub name_of : List ℕ → Option (List ℕ)
name_of text = option_and_then (λ us. if nat_le 1 (length us) && nat_le (length us) 255 then Some us else None) (units_of (chars text))

-- what a word says, or nothing for a lone minus; none where the word doesn't say it
unfoldable pub unless_minus : {A : Type 0} → (List ℕ → Option A) → List ℕ → Option (Option A)
unless_minus said word = if bytes_eq word (codes "-") then Some None else option_map Some (said word)

-- the ids that all these words write
abbrev pub all_ids : List (List ℕ) → Option (List ℕ)
all_ids [] = Some []
all_ids (word ∷ words) = option_and_then (λ id. option_map (λ ids. id ∷ ids) (all_ids words)) (id_of word)

-- the ids that a word writes with commas between them, one or more
unfoldable pub ids_of : List ℕ → Option (List ℕ)
ids_of word = all_ids (slice_split (λ b. b == 44) word)

-- the folders that a word gives, or nothing where those that stand are kept
unfoldable pub scope_of : List ℕ → Option (Option (List ℕ))
scope_of word = unless_minus ids_of word

-- the bytes of a restriction that a word gives, or nothing where that which stands is kept
unfoldable pub restriction_of : List ℕ → Option (Option (List ℕ))
restriction_of word = unless_minus hex_bytes word
