-- What a store with searches stands for, and what it plans.
use Rattle.std.specs.Prelude.{◌≡◌, ◌≤◌, ◌+◌, ℕ, Bool, true, false, List, None, Some, Result, Ok, Err}
use Rattle.command_text.specs.declared.command.Command.{Command}
use Rattle.command_text.specs.declared.command.Command.TheVariants.{ListFolder, MakeSearch, SetCriteria, GetCriteria}
use Rattle.node_port.specs.Nodes.{Nodes}
use Rattle.node_port.specs.Stops.{Room}
use Rattle.mail_tree.specs.declared.known.Known.{Known}
use Rattle.mail_tree.specs.Changing.{Answer}
use Rattle.mail_tree.specs.Folders.{Outcome}
use Rattle.mail_tree.specs.Step as tree
use Rattle.mail_draft.specs.Answers.{IsRefusal}
use Rattle.mail_draft.specs.declared.stop.Stop.{Stop}
use Rattle.mail_store.specs.Planning.{IsHindered, Stores}
use Rattle.mail_store.specs.Space.{HasRoom}
use Rattle.mail_searches.specs.Asking.{work_of}
use Rattle.mail_searches.specs.Criteria.{Coming}
use Rattle.mail_searches.specs.Relisting.{Touch, around}
use Rattle.mail_searches.specs.Searching.{Searching}
use Rattle.mail_searches.specs.Touching.{touched}
use Rattle.mail_searches.specs.declared.known.KnownSearches.{KnownSearches}
use Rattle.search_folders.specs.Comings.{KnowsSearches}

-- a store over these nodes and counters, which knows this beside them, has the tree with its searches
pub record StoresSearches (holds : Nodes → Type 0) (last : List ℕ) (known : Known) (of_searches : KnownSearches) (X : Searching) : Type 0 where
  pub tree : Stores holds last known X.tree
  pub searches : KnowsSearches X of_searches

-- The answer of a command was planned as the definition says, and there is room for what it writes. Where something isn't of its form, nothing is said.
abbrev pub PlansComing : {P : Type 0} → Room → (Coming → P → Type 0) → Answer Coming → Result P Stop → Type 0
PlansComing room plans (Ok o) (Ok planned) = plans o planned × HasRoom room o.outcome.changed
PlansComing room plans (Ok o) (Err stop) = IsHindered room o.outcome.changed stop
PlansComing room plans (Err (Some refusal)) (Ok planned) = ⊥
PlansComing room plans (Err (Some refusal)) (Err stop) = IsRefusal refusal stop
PlansComing room plans (Err None) result = Unit {0}

-- the command knows no searches, and the lists of searches follow it
abbrev pub follows : Command → Bool
follows (MakeSearch parent name) = false
follows (SetCriteria search flags scope restriction) = false
follows (GetCriteria search) = false
follows (ListFolder folder) = false
follows other = true

-- Of each tree with searches that there is, each running search asks its restriction of the messages that the command touches alone, as they were and as they are.
pub record AsksAlone (has : Searching → Type 0) (command : Command) (before after : ℕ) : Type 0 where
  pub most : (X : Searching) → has X → (o : Outcome) (ts : List Touch) → tree.outcome X.tree command ≡ Ok o → touched X.tree command o ≡ Ok ts → after ≤ before + work_of (around X.tree o) ts X.searches
