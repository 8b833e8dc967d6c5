-- Which kinds of values stand in restrictions, and how long these values are.
use Rattle.std.specs.Prelude.{ℕ, ◌==◌, Bool, true, length, is_some, Option, None, Some, if◌then◌else◌, ◌||◌}
use Rattle.mapi_values.specs.Kinds.{ptyp_binary, ptyp_boolean, ptyp_guid, ptyp_integer_16, ptyp_integer_32, ptyp_integer_64, ptyp_string, ptyp_time}
use Rattle.mapi_values.specs.Values.{Val}
use Rattle.restr_codec.specs.declared.restriction.Form.{Form}
use Rattle.restr_codec.specs.declared.restriction.Form.TheVariants as forms

-- the bytes that each value of a kind has, where they are always as many
unfoldable pub value_width : ℕ → Option ℕ
value_width kind = if kind == ptyp_integer_16 then Some 2 else if kind == ptyp_integer_32 then Some 4 else if kind == ptyp_boolean then Some 1
    else if (kind == ptyp_integer_64) || (kind == ptyp_time) then Some 8 else if kind == ptyp_guid then Some 16 else None

-- text or bytes
abbrev pub is_content_kind : ℕ → Bool
is_content_kind kind = (kind == ptyp_string) || (kind == ptyp_binary)

-- the kind of a value that may stand in a restriction
abbrev pub is_value_kind : ℕ → Bool
is_value_kind kind = is_content_kind kind || is_some (value_width kind)

-- so many bytes are as many as the kind has, if it always has as many
abbrev pub has_width : Option ℕ → ℕ → Bool
has_width None len = true
has_width (Some width) len = len == width

-- the value has the length of its kind
abbrev pub is_sound : Val → Bool
is_sound v = has_width (value_width v.kind) (length v.bytes)

-- a value that is looked for or compared with has the length of its kind
abbrev pub is_sound_form : Form → Bool
is_sound_form (forms.And rs) = true
is_sound_form (forms.Or rs) = true
is_sound_form (forms.Not r) = true
is_sound_form (forms.Content level flags v) = is_sound v
is_sound_form (forms.Property relation v) = is_sound v
is_sound_form (forms.CompareProps relation a b) = true
is_sound_form (forms.BitMask test t mask) = true
is_sound_form (forms.Size relation t n) = true
is_sound_form (forms.Exist t) = true
is_sound_form (forms.SubObject table r) = true
is_sound_form (forms.Comment vs r) = true
