-- How values of one kind stand to one another.
use Rattle.std.specs.Borrow.{Bor}
use Rattle.std.specs.Prelude.{ℕ, ◌≡◌, ◌<◌, ◌+◌, ◌*◌, ◌-◌, ◌%◌, ◌^◌, ◌==◌, Bool, true, false, not, List, [], ◌∷◌, length, slice_index, Option, None, Some, if◌then◌else◌}
use Rattle.std.specs.Ordering.{nat_cmp}
use Rattle.std.specs.declared.cmp.Ordering.{Ordering}
use Rattle.std.specs.declared.cmp.Ordering.TheVariants.{Less, Equal, Greater}
use Rattle.std.specs.Cmp.Lexicographic.{slice_cmp}
use Rattle.pst_base.specs.Fields.{number_at}
use Rattle.mapi_values.specs.Columns.{in_cell}
use Rattle.mapi_values.specs.Kinds.{ptyp_boolean, ptyp_guid, ptyp_integer_16, ptyp_integer_32, ptyp_integer_64, ptyp_string, ptyp_time}
use Rattle.restr_codec.specs.declared.restriction.Relation.{Relation}
use Rattle.restr_codec.specs.declared.restriction.Relation.TheVariants as relations

-- the bytes that each value of a kind has, where they are always as many
unfoldable pub fixed_width : ℕ → Option ℕ
fixed_width kind = if kind == ptyp_guid then Some 16 else in_cell kind

-- the first is below the second
abbrev pub is_below : Ordering → Bool
is_below Less = true
is_below Equal = false
is_below Greater = false

-- the first is above the second
abbrev pub is_above : Ordering → Bool
is_above Less = false
is_above Equal = false
is_above Greater = true

-- they are equal
abbrev pub is_same : Ordering → Bool
is_same Less = false
is_same Equal = true
is_same Greater = false

-- what is ordered so stands in the relation
abbrev pub stands : Relation → Ordering → Bool
stands relations.Less o = is_below o
stands relations.AtMost o = not (is_above o)
stands relations.Greater o = is_above o
stands relations.AtLeast o = not (is_below o)
stands relations.Equal o = is_same o
stands relations.NotEqual o = not (is_same o)

-- the UTF-16 units that bytes hold; a last odd byte is left out
abbrev pub units_in : List ℕ → List ℕ
units_in [] = []
units_in (a ∷ []) = []
units_in (a ∷ b ∷ bs) = (a + 256 * b) ∷ units_in bs

-- a signed number of so many bytes, by its bits, as a number in the same order
abbrev pub shifted : ℕ → ℕ → ℕ
shifted width n = (n + 128 * 256 ^ (width - 1)) % 256 ^ width

-- a truth value is true where its byte isn't 0
abbrev pub is_true : List ℕ → Bool
is_true bytes = not (slice_index bytes 0 == 0)

-- the numbers by which values of a kind are ordered, the first that differs deciding
unfoldable pub ranks : ℕ → List ℕ → List ℕ
ranks kind bytes = if kind == ptyp_integer_16 then shifted 2 (number_at 2 0 bytes) ∷ [] else if kind == ptyp_integer_32 then shifted 4 (number_at 4 0 bytes) ∷ []
    else if kind == ptyp_integer_64 then shifted 8 (number_at 8 0 bytes) ∷ [] else if kind == ptyp_time then number_at 8 0 bytes ∷ []
    else if kind == ptyp_boolean then (if is_true bytes then 1 else 0) ∷ [] else if kind == ptyp_string then units_in bytes else bytes

-- how one value of a kind is ordered to another
abbrev pub order : ℕ → List ℕ → List ℕ → Ordering
order kind a b = slice_cmp nat_cmp (ranks kind a) (ranks kind b)

-- the first unit that bytes hold, and the bytes behind it
abbrev pub FirstUnit : List ℕ → Option (ℕ × Bor (List ℕ)) → Type 0
FirstUnit bytes None = units_in bytes ≡ []
FirstUnit bytes (Some (u, more)) = (units_in bytes ≡ u ∷ units_in more.now) × (length more.now < length bytes)
