-- The key of a cell, by which rows are sorted and grouped.
use Rattle.std.specs.Prelude.{◌≡◌, ℕ, ◌==◌, Bool, false, List, [], Option, None, Some, if◌then◌else◌, ◌||◌}
use Rattle.std.specs.Option.{is_some, unwrap_or}
use Rattle.pst_base.specs.Fields.{number_at}
use Rattle.mapi_values.specs.Characters.{folded}
use Rattle.mapi_values.specs.Kinds.{ptyp_binary, ptyp_boolean, ptyp_guid, ptyp_integer_16, ptyp_integer_32, ptyp_integer_64, ptyp_string, ptyp_time}
use Rattle.mapi_values.specs.Values.{Val}
use Rattle.restr_eval.specs.Orders.{is_true, shifted}
use Rattle.value_text.specs.UnitBytes.{units_in}
use Rattle.sorted_views.specs.declared.key.Key.{Key}

-- a value of this kind has a number, and which: signed ones are shifted, so that they keep their order
unfoldable pub number_of : ℕ → List ℕ → Option ℕ
number_of kind bytes = if kind == ptyp_integer_16 then Some (shifted 2 (number_at 2 0 bytes)) else if kind == ptyp_integer_32 then Some (shifted 4 (number_at 4 0 bytes))
    else if kind == ptyp_integer_64 then Some (shifted 8 (number_at 8 0 bytes)) else if kind == ptyp_time then Some (number_at 8 0 bytes)
    else if kind == ptyp_boolean then Some (if is_true bytes then 1 else 0) else None

-- any other has units: those of a text with the case of each character folded, or each byte
unfoldable pub units_of : ℕ → List ℕ → List ℕ
units_of kind bytes = if is_some (number_of kind bytes) then [] else if kind == ptyp_string then folded false (units_in bytes) else bytes

-- a column of this kind has keys
unfoldable pub has_keys : ℕ → Bool
has_keys kind = (kind == ptyp_integer_16) || ((kind == ptyp_integer_32) || ((kind == ptyp_boolean) || ((kind == ptyp_integer_64) || ((kind == ptyp_time) || ((kind == ptyp_guid) || ((kind == ptyp_string) || (kind == ptyp_binary)))))))

-- the key of a value
pub record IsKeyOf (v : Val) (key : Key) : Type 0 where
  pub number : key.number ≡ unwrap_or (number_of v.kind v.bytes) 0
  pub units : key.units.items ≡ units_of v.kind v.bytes

-- the key of a cell, absent where there is none
abbrev pub IsKey : Option Val → Option Key → Type 0
IsKey None None = Unit {0}
IsKey (Some v) (Some key) = IsKeyOf v key
IsKey None (Some key) = ⊥
IsKey (Some v) None = ⊥
