-- What a text says as a value of a kind, and how a value is printed.
use Rattle.std.specs.Prelude.{ℕ, ◌%◌, ◌==◌, ◌&&◌, Bool, List, chars, length, Option, None, Some, option_map, option_and_then, if◌then◌else◌, ◌||◌}
use Rattle.mapi_values.specs.Spelling.{quoted, units_of}
use Rattle.mapi_values.specs.Values.{Val, fits}
use Rattle.value_text.specs.Hex.{hex_bytes, hex_text}
use Rattle.value_text.specs.Numbers.{number_bytes, number_text}
use Rattle.value_text.specs.Truths.{truth_bytes, truth_text}
use Rattle.value_text.specs.UnitBytes.{units_bytes, units_in}

-- the kinds of numbers: signed ones of 2, 4 and 8 bytes, and a time
unfoldable pub is_number : ℕ → Bool
is_number kind = (kind == 0x0002) || ((kind == 0x0003) || ((kind == 0x0014) || (kind == 0x0040)))

-- the bytes of 16, if there are so many
unfoldable pub guid_bytes : List ℕ → Option (List ℕ)
guid_bytes bytes = if length bytes == 16 then Some bytes else None

-- the bytes that a text says as a value of this kind; a value of another kind can't be set
unfoldable pub bytes_said : ℕ → List ℕ → Option (List ℕ)
bytes_said kind text =
    if is_number kind then number_bytes kind text
    else if kind == 0x000B then truth_bytes text
    else if kind == 0x001F then option_map units_bytes (units_of (chars text))
    else if kind == 0x0102 then hex_bytes text
    else if kind == 0x0048 then option_and_then guid_bytes (hex_bytes text)
    else None

-- the value with these bytes, where its kind may have so many
unfoldable pub fitting : ℕ → ℕ → List ℕ → Option Val
fitting id kind bytes = if fits kind (length bytes) then Some (record { id = id; kind = kind; bytes = bytes }) else None

-- the value that a text says
unfoldable pub value_said : ℕ → ℕ → List ℕ → Option Val
value_said id kind text = option_and_then (fitting id kind) (bytes_said kind text)

-- a number's kind and length
unfoldable pub is_whole_number : ℕ → ℕ → Bool
is_whole_number kind len = ((kind == 0x0002) && (len == 2)) || (((kind == 0x0003) && (len == 4))
    || (((kind == 0x0014) && (len == 8)) || ((kind == 0x0040) && (len == 8))))

-- how a value is printed: in the form in which it can be set, with text in quotes; another kind, or a length that isn't one of the kind, in hex
unfoldable pub printed : ℕ → List ℕ → List ℕ
printed kind bytes =
    if is_whole_number kind (length bytes) then number_text kind bytes
    else if (kind == 0x000B) && (length bytes == 1) then truth_text bytes
    else if (kind == 0x001F) && (length bytes % 2 == 0) then quoted (units_in bytes)
    else hex_text bytes

-- the text of a value
abbrev pub value_text : Val → List ℕ
value_text v = printed v.kind v.bytes
