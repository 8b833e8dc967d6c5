-- Which tree with searches nodes show.
use Rattle.std.specs.Prelude.{ℕ}
use Rattle.node_port.specs.Nodes.{Nodes, node_at}
use Rattle.mail_tree.specs.Found.{IsFoundBeside}
use Rattle.mail_tree.specs.Tree.{StandsAt, object_at}
use Rattle.mail_tree.specs.Whole.{IsWhole}
use Rattle.mail_searches.specs.Searching.{AllFresh, AreSearches, IsOfSearch, Searching}
use Rattle.search_lists.specs.Order.{AreMarked}

-- The nodes show the tree with its searches, whatever these list.
pub record ShowsSearches (N : Nodes) (X : Searching) : Type 0 where
  pub at : (q : ℕ) → StandsAt q (node_at N q) (object_at X.tree q) (node_at X.tree.others q)
  pub whole : IsWhole X.tree
  pub found : IsFoundBeside (IsOfSearch X.own) X.tree
  pub searches : AreSearches X
  pub marked : AreMarked X

-- the same, and each running search lists what filtering lists
abbrev pub ShowsFresh : Nodes → Searching → Type 0
ShowsFresh N X = ShowsSearches N X × AllFresh X.tree X.searches
