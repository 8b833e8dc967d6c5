-- The nodes of a tree, one after another.
use Rattle.std.specs.Prelude.{◌≡◌, ℕ, ◌<◌, Bool, true, false, nat_lt, List, Option, None, Some, Result, Ok, Err}
use Rattle.std.specs.List.{list_all}
use Rattle.pst_base.specs.declared.ids.Nid.{Nid}
use Rattle.mail_tree.specs.Tree.{Tree}
use Rattle.mail_tree.specs.Ids.{is_taken}
use Rattle.mail_draft.specs.declared.stop.Stop.{Stop}
use Rattle.mail_draft.specs.Answers.{IsNoMatter}

-- the least id above this one at which a node stands; or there is none
abbrev pub IsNextTaken : Tree → ℕ → Option Nid → Type 0
IsNextTaken T at None = (q : ℕ) → at < q → is_taken T q ≡ false
IsNextTaken T at (Some next) = (at < next.bits) × (is_taken T next.bits ≡ true) × ((q : ℕ) → at < q → q < next.bits → is_taken T q ≡ false)

-- the call gives it, unless the disk failed or memory ran out
abbrev pub GivesNext : Tree → ℕ → Result (Option Nid) Stop → Type 0
GivesNext T at (Ok next) = IsNextTaken T at next
GivesNext T at (Err stop) = IsNoMatter stop

-- each number is a kind of nodes
abbrev pub are_kinds : List ℕ → Bool
are_kinds kinds = list_all (λ kind. nat_lt kind 32) kinds
