-- That a store with its pins stands in a state of a session.
use Rattle.std.specs.Prelude.{ℕ, Bool, List}
use Rattle.pst_outside.specs.World.{Image, World}
use Rattle.node_port.specs.Nodes.{Nodes}
use Rattle.node_port.specs.Stops.{Room}
use Rattle.store_session.specs.Carrying.{Has, StandsOrdered}
use Rattle.pinned_session.specs.Holding.{HasSitting}
use Rattle.pinned_session.specs.Sitting.{Sitting}
use Rattle.pinned_session.specs.declared.pins.PinnedStore.{PinnedStore}

-- by what its keeper holds, counts and tells, over a world
abbrev pub Sits : {K W : Type 0} → (W → World) → (K → World → Nodes → Type 0) → (K → List ℕ) → (K → World → ℕ → Nodes → Type 0) → (K → Room) → (Image → Type 0) → PinnedStore K → W → List ℕ → Bool → Sitting → Type 0
Sits view holds last pinned room rests p v found tidy S =
    let keeper = p.store.store.keeper in
    HasSitting (Has (holds keeper (view v)) (last keeper) p.store.store.known p.store.searches rests (view v) tidy) (pinned keeper (view v)) (room keeper) p.pins.items p.given p.views found S

-- an image stands for the present tree of a state, which is in order with its searches, and tidy if `tidy`
abbrev pub StandsNow : (List ℕ → Image → Nodes → List ℕ → Type 0) → List ℕ → Bool → Image → Sitting → Type 0
StandsNow stands found tidy c S = StandsOrdered tidy (stands found) c S.now
