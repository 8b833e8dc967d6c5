-- What follows of every command where there are searches.
use Rattle.std.specs.Prelude.{◌≡◌, ℕ, Bool, true, List, Option}
use Rattle.command_text.specs.declared.command.Command.{Command}
use Rattle.mail_tree.specs.Changing.{◌>>=◌}
use Rattle.mail_tree.specs.Whole.{Fine}
use Rattle.mail_searches.specs.Criteria.{given_criteria, made_search, staying}
use Rattle.mail_searches.specs.Moving.{moved_search, removed_search, renamed_search}
use Rattle.mail_searches.specs.Searching.{Searching, StartsSearching, is_own}
use Rattle.mail_searches.specs.Step.{after, outcome}
use Rattle.search_lists.specs.Order.{InOrder, IsSound}

-- a new search leaves all in order
abbrev pub MakesInOrder : Type 0
MakesInOrder = (tidy : Bool) (X : Searching) (parent : ℕ) (name : List ℕ) → InOrder tidy X → Fine (made_search X parent name) (λ o. InOrder tidy (after X o))

-- so do criteria that a search gets
abbrev pub SetsInOrder : Type 0
SetsInOrder = (tidy : Bool) (X : Searching) (s flags : ℕ) (scope bytes : Option (List ℕ)) → InOrder tidy X → Fine (given_criteria X s flags scope bytes) (λ o. InOrder tidy (after X o))

-- an own search folder that gets another name leaves all in order
abbrev pub RenamesInOrder : Type 0
RenamesInOrder = (tidy : Bool) (X : Searching) (s : ℕ) (name : List ℕ) → InOrder tidy X → is_own X.own s ≡ true → Fine (renamed_search X.tree s name >>= staying X) (λ o. InOrder tidy (after X o))

-- so does one that moves
abbrev pub MovesInOrder : Type 0
MovesInOrder = (tidy : Bool) (X : Searching) (s parent : ℕ) → InOrder tidy X → is_own X.own s ≡ true → Fine (moved_search X.tree s parent >>= staying X) (λ o. InOrder tidy (after X o))

-- so does one that is removed
abbrev pub RemovesInOrder : Type 0
RemovesInOrder = (tidy : Bool) (X : Searching) (s : ℕ) → InOrder tidy X → is_own X.own s ≡ true → Fine (removed_search X s) (λ o. InOrder tidy (after X o))

-- each command is answered or refused, and leaves all in order, and tidy where it was
abbrev pub StaysInOrder : Type 0
StaysInOrder = (tidy : Bool) (X : Searching) (c : Command) → InOrder tidy X → Fine (outcome X c) (λ o. InOrder tidy (after X o))

-- a new store is in order, and tidy
abbrev pub StartsInOrder : Type 0
StartsInOrder = (name : List ℕ) (X : Searching) → StartsSearching name X → InOrder true X

-- a tree that is in order is sound
abbrev pub IsSoundInOrder : Type 0
IsSoundInOrder = (tidy : Bool) (X : Searching) → InOrder tidy X → IsSound X
