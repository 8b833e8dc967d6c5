-- The value of one property.
use Rattle.std.specs.Prelude.{ℕ, ◌==◌, Bool, List, length, nat_lt, Option, None, Some, if◌then◌else◌, ◌||◌}
use Rattle.mapi_values.specs.Kinds.{ptyp_boolean, ptyp_error_code, ptyp_floating_32, ptyp_integer_16, ptyp_integer_32, ptyp_null, ptyp_unspecified}

-- a property's id and kind, and the bytes of its value
pub record Val : Type 0 where
  pub id : ℕ
  pub kind : ℕ
  pub bytes : List ℕ

-- the width of the values of a kind that stand in the field of a property context themselves
unfoldable pub in_field : ℕ → Option ℕ
in_field kind =
    if (kind == ptyp_unspecified) || ((kind == ptyp_null) || ((kind == ptyp_integer_32) || ((kind == ptyp_floating_32) || (kind == ptyp_error_code)))) then Some 4
    else if kind == ptyp_integer_16 then Some 2
    else if kind == ptyp_boolean then Some 1
    else None

-- a value of so many bytes has the width, or is shorter than 2^32 bytes where there is none
abbrev pub allows : Option ℕ → ℕ → Bool
allows (Some width) len = width == len
allows None len = nat_lt len 0x1_0000_0000

-- a value of this kind may have so many bytes
unfoldable pub fits : ℕ → ℕ → Bool
fits kind len = allows (in_field kind) len

-- the value has a length that its kind may have
abbrev pub value_fits : Val → Bool
value_fits v = fits v.kind (length v.bytes)
