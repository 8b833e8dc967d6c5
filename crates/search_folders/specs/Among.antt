-- What is shown with its searches, and what commands come to there.
use Rattle.std.specs.Prelude.{Result}
use Rattle.mail_tree.specs.Changing.{Answer}
use Rattle.mail_tree.specs.Tree.{Tree}
use Rattle.mail_draft.specs.Answers.{Says}
use Rattle.mail_draft.specs.declared.stop.Stop.{Stop}
use Rattle.mail_searches.specs.Criteria as defined
use Rattle.mail_searches.specs.Searching.{Searching}
use Rattle.mail_searches.specs.declared.known.KnownSearches.{KnownSearches}
use Rattle.search_folders.specs.Comings.{KnowsSearches, comes_to}
use Rattle.search_folders.specs.declared.outcome.SearchOutcome.{SearchOutcome}

-- the tree is shown, and these are its searches
abbrev pub among : (Tree → Type 0) → KnownSearches → Searching → Type 0
among shows known X = shows X.tree × KnowsSearches X known

-- what was worked out is what the step makes of each tree with searches that there is
abbrev pub ComesTo : (Searching → Type 0) → (Searching → Answer defined.Coming) → Result SearchOutcome Stop → Type 0
ComesTo has step result = (X : Searching) → has X → Says (comes_to X) (step X) result
