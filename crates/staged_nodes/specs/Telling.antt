-- What a keeper with the changes of a transaction over it tells.
use Rattle.std.specs.Prelude.{◌≡◌, ℕ, Option, None, Some, List}
use Rattle.node_port.specs.Nodes.{Nodes, changed}
use Rattle.node_port.specs.Stops.{Room}
use Rattle.pinned_views.specs.Telling.{KeepsTold}
use Rattle.staged_nodes.specs.Room.{IsLeft}
use Rattle.staged_nodes.specs.Staging.{LiesOver}
use Rattle.staged_nodes.specs.declared.staging.StagedReady.{StagedReady}
use Rattle.staged_nodes.specs.declared.staging.Staging.{Staging}

-- The nodes that a transaction over a keeper shows: they are over some of those that the keeper is to hold. It holds all those, its pins tell what they are to
-- tell, its counters are those, its room is known, and the changes are those that they are to be.
pub record ShowsOver (held : Nodes → Type 0) (told : ℕ → Nodes → Type 0) (counters : List ℕ) (staged : Staging → Type 0) (holds : Nodes → Type 0) (pinned : ℕ → Nodes → Type 0) (last : List ℕ) (room : Room) (s : Staging) (M : Nodes) : Type 0 where
  pub some : Nodes
  pub was : held some
  pub over : LiesOver some s.slots M
  pub stays : (N : Nodes) → held N → holds N
  pub keeps : KeepsTold told pinned
  pub counted : last ≡ counters
  pub left : IsLeft room s.left
  pub are : staged s

-- nodes of which these are shown, with further changes, if some were made
abbrev pub ShowsDone : Option StagedReady → (Nodes → Type 0) → Nodes → Type 0
ShowsDone None shows M = shows M
ShowsDone (Some ready) shows M = (N : Nodes) × shows N × (M ≡ changed N ready.nodes.items)

-- the counters with them
abbrev pub last_with : Option StagedReady → Staging → List ℕ
last_with None s = s.counts.last
last_with (Some ready) s = ready.counts.last

-- what shows each of the nodes shows them with the further changes too
pub done_alike : (done : Option StagedReady) (shows shows' : Nodes → Type 0) → ((N : Nodes) → shows N → shows' N) → (M : Nodes) → ShowsDone done shows M → ShowsDone done shows' M
done_alike None shows shows' goes M is = goes M is
done_alike (Some ready) shows shows' goes M is = (is.0, goes is.0 is.1, is.2)
