-- What a look-up has seen.
use Rattle.std.specs.Prelude.{ℕ, ◌≡◌, ◌<◌, List, [], ◌∷◌, length, Option, Some, None, Result, Ok, Err, option_copied}
use denote.Bor.{Bor}
use Rattle.bth_tree.specs.declared.find.Sum.{Sum}
use Rattle.bth_tree.specs.Records.{entry_of}
use Rattle.bth_tree.specs.Tree.{end_of}

-- the key of the last record
abbrev pub last_key : List (ℕ × List ℕ) → ℕ
last_key [] = 0
last_key (r ∷ []) = r.0
last_key (r ∷ (s ∷ rs)) = last_key (s ∷ rs)

-- the first key, the last key and the entry of a key, of some records
pub record SumsPart (key : ℕ) (rs : List (ℕ × List ℕ)) (sum : Sum) : Type 0 where
  pub some : 0 < length rs
  pub first : sum.first ≡ end_of rs
  pub last : sum.last ≡ last_key rs
  pub entry : option_copied sum.entry ≡ entry_of key rs

-- the same where there may be no records
abbrev pub SumsMaybe : ℕ → List (ℕ × List ℕ) → Option Sum → Type 0
SumsMaybe key rs None = rs ≡ []
SumsMaybe key rs (Some sum) = SumsPart key rs sum

-- what was seen is that of the records of the reading; a refusal comes only where there are none
abbrev pub Looks : {F : Type 0} → ℕ → Result (Option Sum) F → Option (List (ℕ × List ℕ)) → Type 0
Looks key (Ok sum) read = (rs : List (ℕ × List ℕ)) × (read ≡ Some rs) × SumsMaybe key rs sum
Looks key (Err e) read = read ≡ None

-- the same where there are some records
abbrev pub LooksPart : {F : Type 0} → ℕ → Result Sum F → Option (List (ℕ × List ℕ)) → Type 0
LooksPart key (Ok sum) read = (rs : List (ℕ × List ℕ)) × (read ≡ Some rs) × SumsPart key rs sum
LooksPart key (Err e) read = read ≡ None

-- the first of two, if there is one, or else the second
abbrev pub either : Option (List ℕ) → Option (List ℕ) → Option (List ℕ)
either None other = other
either (Some x) other = Some x

-- the entry that was found is that of the key in the records of the reading, if it has one; a refusal comes only where there is no reading
abbrev pub FindsEntry : {F : Type 0} → ℕ → Result (Option (Bor (List ℕ))) F → Option (List (ℕ × List ℕ)) → Type 0
FindsEntry key (Ok found) read = (rs : List (ℕ × List ℕ)) × (read ≡ Some rs) × (option_copied found ≡ entry_of key rs)
FindsEntry key (Err e) read = read ≡ None
