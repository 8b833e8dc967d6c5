-- What follows of mending.
use Rattle.std.specs.Prelude.{◌≡◌, ℕ, ◌%◌, Bool, true, false, Some}
use Rattle.mail_tree.specs.Changing.{nothing}
use Rattle.mail_tree.specs.Found.{IsFoundBeside}
use Rattle.mail_tree.specs.Tree.{object_at}
use Rattle.mail_tree.specs.Whole.{Fine, IsWhole}
use Rattle.mail_laws.specs.AttachmentLaws.{AllMirrorAttachments}
use Rattle.mail_laws.specs.Laws.{Counts, Mirrors}
use Rattle.mail_searches.specs.Searches.{IsFresh, Search, criteria_node, find_search, results, runs}
use Rattle.mail_searches.specs.Searching.{AreSearches, Each, IsOfSearch, Searching, is_own}
use Rattle.mail_searches.specs.Step.{after}
use Rattle.search_lists.specs.Laws.{MirrorsList, TellsList}
use Rattle.search_lists.specs.Order.{AreMarked, InOrder}
use Rattle.search_mending.specs.Mended.{mended}
use Rattle.search_mending.specs.Mending.{Mending, is_of_first, is_stale, mended_search}

-- A running search shows its list rightly: its rows mirror the messages that they name, and, unless it is stale, its values tell their counts.
pub record ShowsMendable (X : Searching) (s : Search) : Type 0 where
  pub mirrors : runs s ≡ true → MirrorsList X.tree nothing s.nid
  pub counts : runs s ≡ true → is_stale X s.nid ≡ false → TellsList X.tree nothing s.nid

-- A tree with its searches is in order but for what these list: it can be mended. Where it is tidy its rows mirror what they show, those of attachments and of running searches too, and its counts are right, but for those of stale searches.
pub record IsMendable (tidy : Bool) (X : Searching) : Type 0 where
  pub whole : IsWhole X.tree
  pub found : IsFoundBeside (IsOfSearch X.own) X.tree
  pub mirrors : tidy ≡ true → Mirrors X.tree
  pub counts : tidy ≡ true → Counts X.tree
  pub attachments : tidy ≡ true → AllMirrorAttachments X.tree
  pub lists : tidy ≡ true → Each (ShowsMendable X) X.searches
  pub searches : AreSearches X
  pub marked : AreMarked X

-- another node than a search's list, its criteria object, its values and the tables of folders, one of which shows it
pub record IsElsewhere (f q : ℕ) : Type 0 where
  pub list : q ≡ results f → ⊥
  pub criteria : q ≡ criteria_node f → ⊥
  pub values : q ≡ f → ⊥
  pub shows : q % 32 ≡ 13 → ⊥

-- this search is stale, and of the first version, just where it was
pub record IsAsBefore (X Y : Searching) (g : ℕ) : Type 0 where
  pub stale : is_stale Y g ≡ is_stale X g
  pub first : is_of_first Y g ≡ is_of_first X g

-- the search is neither stale nor of the first version
pub record IsMended (X : Searching) (f : ℕ) : Type 0 where
  pub fresh : is_stale X f ≡ false
  pub second : is_of_first X f ≡ false

-- What mending a search leaves: the tree in order, tidy where it was, with the same searches, this one mended and each other one and all else as before.
pub record Mends (tidy : Bool) (X : Searching) (f : ℕ) (m : Mending) : Type 0 where
  pub stale : m.stale ≡ is_stale X f
  pub first : m.first ≡ is_of_first X f
  pub order : IsMendable tidy (after X m.coming)
  pub own : m.coming.own ≡ X.own
  pub searches : m.coming.searches ≡ X.searches
  pub places : m.coming.outcome.places ≡ X.tree.places
  pub all_else : (q : ℕ) → IsElsewhere f q → object_at (after X m.coming).tree q ≡ object_at X.tree q
  pub here : IsMended (after X m.coming) f
  pub others : (g : ℕ) → is_own X.own g ≡ true → (g ≡ f → ⊥) → IsAsBefore X (after X m.coming) g

-- an own search folder is mended, or that is refused
abbrev pub MendsInOrder : Type 0
MendsInOrder = (tidy : Bool) (X : Searching) (f : ℕ) → IsMendable tidy X → is_own X.own f ≡ true → Fine (mended_search X f) (Mends tidy X f)

-- What mending searches leaves: the tree in order, tidy where it was, with the same searches, these mended and each other one as before.
pub record MendsThese (tidy : Bool) (X : Searching) (these : ℕ → Bool) (Y : Searching) : Type 0 where
  pub order : IsMendable tidy Y
  pub own : Y.own ≡ X.own
  pub searches : Y.searches ≡ X.searches
  pub here : (f : ℕ) → these f ≡ true → IsMended Y f
  pub others : (g : ℕ) → is_own X.own g ≡ true → these g ≡ false → IsAsBefore X Y g

-- after all were mended all is in order, and each running search lists what filtering all messages gives
abbrev pub MendsAll : Type 0
MendsAll = (tidy : Bool) (X : Searching) → IsMendable tidy X → Fine (mended X) (InOrder tidy)

-- a search is stale just where it runs and isn't fresh
pub record StaleIsNotFresh (X : Searching) (f : ℕ) (s : Search) : Type 0 where
  pub runs_stale : is_stale X f ≡ true → runs s ≡ true
  pub stale : is_stale X f ≡ true → IsFresh X.tree s → ⊥
  pub fresh : is_stale X f ≡ false → runs s ≡ true → IsFresh X.tree s

abbrev pub TellsStale : Type 0
TellsStale = (X : Searching) (f : ℕ) (s : Search) → find_search f X.searches ≡ Some s → StaleIsNotFresh X f s
