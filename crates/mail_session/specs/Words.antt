-- The words of the command line, as lists of bytes.
use Rattle.std.specs.Prelude.{ℕ, ◌-◌, ◌^◌, ◌&&◌, nat_le, List, [], ◌∷◌, map, codes, nat_eq, Option, Some, None, if◌then◌else◌}
use Rattle.std.specs.Cmp.Lexicographic.{pointwise}
use Rattle.std.specs.String.{string_bytes}
use Rattle.std.specs.declared.string.String.{String}
use Rattle.std.specs.Global.{Global}
use Rattle.mail_session.specs.declared.words.Form.{Form}
use Rattle.command_text.specs.Words.{name_of}
use Rattle.value_text.specs.Numbers.{magnitude}
use Rattle.mail_session.specs.declared.words.Form.TheVariants.{Compact, Decode, Fill, Info, Look, Mend, New, Nodes, Run, Scratch}

-- the bytes of each word
abbrev pub spelled : List (String Global) → List (List ℕ)
spelled words = map string_bytes words

-- `new` with a name, if it is one
abbrev pub new_form : Option (List ℕ) → Option Form
new_form None = None
new_form (Some name) = Some New

-- a number, if it is one of these
abbrev pub within : ℕ → ℕ → Option ℕ → Option ℕ
within low high None = None
within low high (Some n) = if nat_le low n && nat_le n high then Some n else None

-- two numbers, if both are there
abbrev pub both : Option ℕ → Option ℕ → Option (ℕ × ℕ)
both None count = None
both (Some seed) None = None
both (Some seed) (Some count) = Some (seed, count)

-- a seed below 2^32 and a count from 1 to 2000, each in decimal
abbrev pub numbers_of : List ℕ → List ℕ → Option (ℕ × ℕ)
numbers_of seed count = both (within 0 (2 ^ 32 - 1) (magnitude seed)) (within 1 2000 (magnitude count))

-- those that the third and the fourth word spell, if they do
abbrev pub fill_numbers : List (List ℕ) → Option (ℕ × ℕ)
fill_numbers (word ∷ file ∷ seed ∷ count ∷ []) = numbers_of seed count
fill_numbers words = None

-- `fill` with a seed and a count, if they are those
abbrev pub fill_form : Option (ℕ × ℕ) → Option Form
fill_form None = None
fill_form (Some numbers) = Some Fill

-- `scratch` alone; `info`, `nodes`, `run`, `look` or `mend` and a file; `new`, a file and a name; or `decode` or `compact`, a file and that of the copy; or `fill`, a file, a seed and a count
abbrev pub form_of : List (List ℕ) → Option Form
form_of (word ∷ []) = if pointwise nat_eq word (codes "scratch") then Some Scratch else None
form_of (word ∷ file ∷ []) = if pointwise nat_eq word (codes "info") then Some Info else if pointwise nat_eq word (codes "nodes") then Some Nodes else if pointwise nat_eq word (codes "run") then Some Run else if pointwise nat_eq word (codes "look") then Some Look else if pointwise nat_eq word (codes "mend") then Some Mend else None
form_of (word ∷ file ∷ other ∷ []) = if pointwise nat_eq word (codes "new") then new_form (name_of other) else if pointwise nat_eq word (codes "decode") then Some Decode else if pointwise nat_eq word (codes "compact") then Some Compact else None
form_of (word ∷ file ∷ seed ∷ count ∷ []) = if pointwise nat_eq word (codes "fill") then fill_form (numbers_of seed count) else None
form_of words = None

-- the units of the name that the third word spells, if it does
abbrev pub third_name : List (List ℕ) → Option (List ℕ)
third_name (word ∷ file ∷ name ∷ []) = name_of name
third_name words = None
