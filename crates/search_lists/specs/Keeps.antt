-- What stays in order while the lists of searches change.
use Rattle.std.specs.Prelude.{◌≡◌, ℕ, ◌%◌, true, IsSome, List, Some}
use Rattle.mapi_values.specs.Keyed.{keys_ascend}
use Rattle.mapi_values.specs.Tables.{find_row}
use Rattle.mapi_values.specs.Values.{Val}
use Rattle.mail_objects.specs.Forms.{Tbl}
use Rattle.mail_objects.specs.declared.object.Object.TheVariants.{Table}
use Rattle.mail_tree.specs.Changing.{Changed, as_message, now_at}
use Rattle.mail_tree.specs.Folders.{Outcome}
use Rattle.mail_tree.specs.Found.{IsFoundBeside}
use Rattle.mail_tree.specs.Places.{find_place}
use Rattle.mail_tree.specs.Step.{after}
use Rattle.mail_tree.specs.Tree.{Tree}
use Rattle.mail_tree.specs.Whole.{Fine, IsWhole}
use Rattle.mail_laws.specs.Laws.{Counts, Mirrors}
use Rattle.mail_searches.specs.Relisting.{Around, Touch, relisted, settled_searches, with_results}
use Rattle.mail_searches.specs.Searches.{Search, results}
use Rattle.mail_searches.specs.Searching.{Each, IsOfSearch}
use Rattle.search_lists.specs.Laws.{AreApart}

-- what a command comes to, with other changes
abbrev pub with_changes : Outcome → Changed → Outcome
with_changes o D = record o { changed = D }

-- Where the tree after a command was in order, it is so with these changes too; the criteria objects and the messages stay as they are, and each list of a search stays a table.
pub record KeepsOrder (T : Tree) (o : Outcome) (D : Changed) : Type 0 where
  pub whole : IsWhole (after T o) → IsWhole (after T (with_changes o D))
  pub found : (own : List ℕ) → IsFoundBeside (IsOfSearch own) (after T o) → IsFoundBeside (IsOfSearch own) (after T (with_changes o D))
  pub mirrors : IsWhole (after T o) → Mirrors (after T o) → Mirrors (after T (with_changes o D))
  pub counts : IsWhole (after T o) → Counts (after T o) → Counts (after T (with_changes o D))
  pub criteria : (q : ℕ) → q % 32 ≡ 7 → now_at T D q ≡ now_at T o.changed q
  pub messages : (q : ℕ) → as_message (now_at T D q) ≡ as_message (now_at T o.changed q)
  pub tables : (q : ℕ) (t : Tbl) → q % 32 ≡ 16 → now_at T o.changed q ≡ Some (Table t) → (u : Tbl) × (now_at T D q ≡ Some (Table u))

-- the search's folder stands there after the command, and its list is a table
pub record IsThere (T : Tree) (o : Outcome) (s : ℕ) : Type 0 where
  pub kind : s % 32 ≡ 3
  pub placed : IsSome (find_place s o.places)
  pub table : (t : Tbl) × (now_at T o.changed (results s) ≡ Some (Table t))

-- a search may get other rows, in their order, whatever they name
abbrev pub ResultsKeepOrder : Type 0
ResultsKeepOrder = (T : Tree) (o : Outcome) (s : ℕ) (rows : List (ℕ × List Val)) (t : Tbl) → IsWhole T → IsWhole (after T o) → IsThere T o s → now_at T o.changed (results s) ≡ Some (Table t)
    → keys_ascend (λ r. r.0) 0 rows ≡ true → Fine (with_results T s rows t o.changed) (KeepsOrder T o)

-- searches may be settled
abbrev pub SettlingKeepsOrder : Type 0
SettlingKeepsOrder = (T : Tree) (o : Outcome) (d : Around) (ts : List Touch) (ss : List Search) → IsWhole T → IsWhole (after T o) → AreApart ss → Each (λ s. IsThere T o s.nid) ss
    → Fine (settled_searches T d ts ss o.changed) (KeepsOrder T o)
