-- UTF-16 units as characters, and the folding of their case.
use Rattle.std.specs.Prelude.{ℕ, ◌&&◌, Bool, List, [], ◌∷◌, nat_le, nat_lt, Option, None, Some, if◌then◌else◌}
use Rattle.std.specs.List.{flat_map}
use Rattle.std.specs.Char.Escape.{encode_utf16}
use Rattle.std.specs.Char.Utf16.{is_high_surrogate, is_low_surrogate, surrogate_pair_char}
use Rattle.unicode.specs.CaseFolding.{simple_fold}
use Rattle.unicode.specs.GeneralCategory.{general_category, general_category_eq}
use Rattle.ucd_category.specs.declared.GeneralCategory.TheVariants.{NonspacingMark}
use Rattle.mapi_values.specs.declared.characters.Character.{Character}
use Rattle.mapi_values.specs.declared.characters.Character.TheVariants.{Scalar, Unpaired}

-- the character that two units spell together
unfoldable pub pair_of : ℕ → ℕ → Option ℕ
pair_of u v = if is_high_surrogate u && is_low_surrogate v then Some (surrogate_pair_char u v) else None

-- the character that the first two units spell together
unfoldable pub leading_pair : List ℕ → Option ℕ
leading_pair (u ∷ v ∷ us) = pair_of u v
leading_pair us = None

-- the character of a unit that is in no pair
unfoldable pub lone : ℕ → Character
lone u = if nat_le 0xD800 u && nat_lt u 0xE000 then Unpaired u else Scalar u

-- the characters that units spell
unfoldable pub characters : List ℕ → List Character
characters [] = []
characters (u ∷ []) = lone u ∷ []
characters (u ∷ v ∷ us) = if is_high_surrogate u && is_low_surrogate v then Scalar (surrogate_pair_char u v) ∷ characters us
    else lone u ∷ characters (v ∷ us)

-- a character of category Mn
unfoldable pub is_nonspacing : ℕ → Bool
is_nonspacing c = general_category_eq (general_category c) NonspacingMark

-- the units of a character's simple folding; an unpaired surrogate stays, and a mark that is to go gives none
unfoldable pub folded_character : Bool → Character → List ℕ
folded_character strip (Unpaired u) = u ∷ []
folded_character strip (Scalar c) = if strip && is_nonspacing c then [] else encode_utf16 (simple_fold c)

-- the units with the case of each character folded; strip drops the nonspacing marks among the characters
unfoldable pub folded : Bool → List ℕ → List ℕ
folded strip us = flat_map (folded_character strip) (characters us)
