-- The kinds of values, by the names of the standard.
use Rattle.std.specs.Prelude.{ℕ}

-- a kind that is left open
abbrev pub ptyp_unspecified : ℕ
ptyp_unspecified = 0x0000

-- no value
abbrev pub ptyp_null : ℕ
ptyp_null = 0x0001

-- a number of 16 bits
abbrev pub ptyp_integer_16 : ℕ
ptyp_integer_16 = 0x0002

-- a number of 32 bits
abbrev pub ptyp_integer_32 : ℕ
ptyp_integer_32 = 0x0003

-- a floating number of 32 bits
abbrev pub ptyp_floating_32 : ℕ
ptyp_floating_32 = 0x0004

-- a floating number of 64 bits
abbrev pub ptyp_floating_64 : ℕ
ptyp_floating_64 = 0x0005

-- a number of ten-thousandths, of 64 bits
abbrev pub ptyp_currency : ℕ
ptyp_currency = 0x0006

-- a time as a floating number of days, of 64 bits
abbrev pub ptyp_floating_time : ℕ
ptyp_floating_time = 0x0007

-- a status code of 32 bits
abbrev pub ptyp_error_code : ℕ
ptyp_error_code = 0x000A

-- a truth value, of one byte
abbrev pub ptyp_boolean : ℕ
ptyp_boolean = 0x000B

-- an object, or the reference to a subnode that holds one
abbrev pub ptyp_object : ℕ
ptyp_object = 0x000D

-- a number of 64 bits
abbrev pub ptyp_integer_64 : ℕ
ptyp_integer_64 = 0x0014

-- text as UTF-16
abbrev pub ptyp_string : ℕ
ptyp_string = 0x001F

-- a number of 100 nanoseconds since 1601, of 64 bits
abbrev pub ptyp_time : ℕ
ptyp_time = 0x0040

-- a GUID, of 16 bytes
abbrev pub ptyp_guid : ℕ
ptyp_guid = 0x0048

-- bytes of any number
abbrev pub ptyp_binary : ℕ
ptyp_binary = 0x0102
