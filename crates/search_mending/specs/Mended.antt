-- A tree with its searches, mended one after another.
use Rattle.std.specs.Prelude.{ℕ, List, [], ◌∷◌, Ok}
use Rattle.mail_tree.specs.Changing.{Answer, ◌>>=◌}
use Rattle.mail_searches.specs.Searching.{Searching}
use Rattle.mail_searches.specs.Step.{after}
use Rattle.search_mending.specs.Mending.{mended_search}

-- the tree with its searches after those of these folders were mended, in their order
abbrev pub mended_all : Searching → List ℕ → Answer Searching
mended_all X [] = Ok X
mended_all X (f ∷ fs) = mended_search X f >>= λ m. mended_all (after X m.coming) fs

-- the tree with its searches mended: all its own search folders, ascending
abbrev pub mended : Searching → Answer Searching
mended X = mended_all X X.own
