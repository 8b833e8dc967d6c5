-- What was read of the words of the command line.
use Rattle.std.specs.Prelude.{◌≡◌, ℕ, Bool, false, List, [], ◌∷◌, codes, nat_eq, Option, None, Some}
use Rattle.std.specs.Cmp.Lexicographic.{pointwise}
use Rattle.mail_session.specs.Words.{fill_numbers, form_of, third_name}
use Rattle.mail_session.specs.declared.words.Asked.{Asked}
use Rattle.mail_session.specs.declared.words.Asked.TheVariants as asked
use Rattle.mail_session.specs.declared.words.Form.TheVariants.{Fill, New}

-- these words, if they are a name, ask for a new file of that name
abbrev pub NamesNew : Option (List ℕ) → Asked → Type 0
NamesNew name (asked.Plain form) = ⊥
NamesNew name (asked.New units) = name ≡ Some units
NamesNew name (asked.Fill seed count) = ⊥
NamesNew name asked.Nothing = name ≡ None

-- these words, if they are a seed and a count, ask for a large input of them
abbrev pub FillsWith : Option (ℕ × ℕ) → Asked → Type 0
FillsWith numbers (asked.Plain form) = ⊥
FillsWith numbers (asked.New units) = ⊥
FillsWith numbers (asked.Fill seed count) = numbers ≡ Some (seed, count)
FillsWith numbers asked.Nothing = numbers ≡ None

-- the words have that form, and `new` that name, and `fill` those numbers
abbrev pub AsksFor : List (List ℕ) → Asked → Type 0
AsksFor words (asked.Plain form) = (form_of words ≡ Some form) × (form ≡ New → ⊥) × (form ≡ Fill → ⊥)
AsksFor words (asked.New units) = (form_of words ≡ Some New) × (third_name words ≡ Some units)
AsksFor words (asked.Fill seed count) = (form_of words ≡ Some Fill) × (fill_numbers words ≡ Some (seed, count))
AsksFor words asked.Nothing = form_of words ≡ None

-- `new`, a file and a third word
abbrev pub is_naming : List (List ℕ) → Bool
is_naming (word ∷ file ∷ name ∷ []) = pointwise nat_eq word (codes "new")
is_naming words = false
