-- Where one value stands in another.
use Rattle.std.specs.Prelude.{◌≡◌, ℕ, ◌==◌, ◌&&◌, Bool, true, false, List, [], ◌∷◌, ◌++◌, Option, None, Some, if◌then◌else◌, ◌||◌}
use Rattle.std.specs.Borrow.{Bor}
use Rattle.std.specs.List.{flat_map}
use Rattle.std.specs.Char.Escape.{encode_utf16}
use Rattle.unicode.specs.CaseFolding.{simple_fold}
use Rattle.mapi_values.specs.Characters.{characters, is_nonspacing}
use Rattle.mapi_values.specs.Kinds.{ptyp_string}
use Rattle.mapi_values.specs.declared.characters.Character.{Character}
use Rattle.mapi_values.specs.declared.characters.Character.TheVariants.{Scalar, Unpaired}
use Rattle.restr_codec.specs.declared.restriction.FuzzyFlags.{FuzzyFlags}
use Rattle.restr_codec.specs.declared.restriction.FuzzyLevel.{FuzzyLevel}
use Rattle.restr_codec.specs.declared.restriction.FuzzyLevel.TheVariants.{FullString, Substring, Prefix}
use Rattle.restr_eval.specs.Orders.{units_in}

-- the character as it is compared
unfoldable pub folded : FuzzyFlags → ℕ → ℕ
folded flags c = if flags.ignore_case || flags.loose then simple_fold c else c

-- the units of a character as they are compared: none for a nonspacing mark that is ignored; an unpaired surrogate stays
unfoldable pub compared_units : FuzzyFlags → Character → List ℕ
compared_units flags (Unpaired u) = u ∷ []
compared_units flags (Scalar c) = if flags.ignore_nonspace && is_nonspacing c then [] else encode_utf16 (folded flags c)

-- the units of text as they are compared, by the characters that stand in it
unfoldable pub compared : FuzzyFlags → List ℕ → List ℕ
compared flags us = flat_map (compared_units flags) (characters us)

-- xs begins with ps
abbrev pub begins : List ℕ → List ℕ → Bool
begins xs [] = true
begins [] (p ∷ ps) = false
begins (x ∷ xs) (p ∷ ps) = (x == p) && begins xs ps

-- ps stands somewhere in xs
abbrev pub contains : List ℕ → List ℕ → Bool
contains [] ps = begins [] ps
contains (x ∷ xs) ps = begins (x ∷ xs) ps || contains xs ps

-- ps stands in xs as the level says; two lists that begin with one another are equal
abbrev pub matches : FuzzyLevel → List ℕ → List ℕ → Bool
matches FullString xs ps = begins xs ps && begins ps xs
matches Substring xs ps = contains xs ps
matches Prefix xs ps = begins xs ps

-- the numbers that are compared of a value of this kind
unfoldable pub looked_at : FuzzyFlags → ℕ → List ℕ → List ℕ
looked_at flags kind bytes = if kind == ptyp_string then compared flags (units_in bytes) else bytes

-- the unit, if there is one
abbrev pub option_list : Option ℕ → List ℕ
option_list None = []
option_list (Some u) = u ∷ []

-- a unit that was left over, and the units of bytes as they are compared
abbrev pub rest_of : FuzzyFlags → Option ℕ → List ℕ → List ℕ
rest_of flags pending bytes = option_list pending ++ compared flags (units_in bytes)

-- one or two units, if there are any
abbrev pub ComparedUnits : List ℕ → Option (ℕ × Option ℕ) → Type 0
ComparedUnits us None = us ≡ []
ComparedUnits us (Some (u, pending)) = us ≡ u ∷ option_list pending

-- the first of units that are compared, and what is left
abbrev pub NextUnit : FuzzyFlags → List ℕ → Option (ℕ × Option ℕ × Bor (List ℕ)) → Type 0
NextUnit flags us None = us ≡ []
NextUnit flags us (Some p) = us ≡ p.0 ∷ rest_of flags p.1 p.2.now
