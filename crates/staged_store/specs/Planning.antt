-- Commands that are planned within a transaction, and how their changes are made.
use Rattle.std.specs.Prelude.{◌≡◌, ◌<◌, Option, None, Some}
use Rattle.node_port.specs.declared.node.Counts.{Counts}
use Rattle.mail_searches.specs.Criteria.{Coming}
use Rattle.mail_searches.specs.Searching.{Searching}
use Rattle.pinned_session.specs.store_session.mail_store.Planning.{PlansTo}
use Rattle.pinned_session.specs.store_session.search_folders.Comings.{new_or_old}
use Rattle.pinned_session.specs.store_session.search_store.declared.planned.PlannedSearch.{PlannedSearch}
use Rattle.staged_nodes.specs.Sizes.{MOST_STAGED}
use Rattle.staged_nodes.specs.Staged.{Staged, with_changes}
use Rattle.staged_nodes.specs.Staging.{Fits, HasChanges}
use Rattle.staged_nodes.specs.declared.staging.StagedReady.{StagedReady}
use Rattle.staged_nodes.specs.declared.staging.Staging.{Staging}

-- a plan over a transaction with these changes is of what a command comes to
abbrev pub PlansWithin : Staging → Searching → Coming → PlannedSearch StagedReady → Type 0
PlansWithin s X o planned = PlansTo (Fits s) X.tree o.outcome planned.tree.change planned.tree.places planned.tree.flags.items planned.tree.reply × (o.own ≡ new_or_old X.own planned.own) × (o.searches ≡ new_or_old X.searches planned.searches)

-- with planned changes a transaction would put too much
abbrev pub PutsTooMuch : Option StagedReady → Type 0
PutsTooMuch None = ⊥
PutsTooMuch (Some ready) = MOST_STAGED < ready.size

-- planned changes were made, if there are some, and these are the counters after them
abbrev pub Fills : Staging → Staging → Option StagedReady → Option Counts → Type 0
Fills old new None counts = (new ≡ old) × (counts ≡ None)
Fills old new (Some ready) counts =
    ((F : Staged) → HasChanges old.slots F → HasChanges new.slots (with_changes F ready.nodes.items)) × (new.counts ≡ ready.counts) × (new.left ≡ old.left) × (new.size ≡ ready.size) × (counts ≡ Some ready.counts)
