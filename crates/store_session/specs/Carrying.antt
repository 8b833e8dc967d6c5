-- What carrying out a command over a keeper comes to.
use Rattle.std.specs.Prelude.{◌≡◌, ◌⊎◌, ℕ, Bool, true, List, Result, Ok, Err}
use Rattle.pst_outside.specs.World.{Image, World}
use Rattle.pst_outside.specs.Calls.{LeavesOnly, Rose, Settled}
use Rattle.command_text.specs.declared.reply.CommandRefusal.{CommandRefusal}
use Rattle.line_server.specs.declared.spoken.Spoken.{Spoken}
use Rattle.line_server.specs.Spoken.{no_memory_text, spoken_text}
use Rattle.node_port.specs.Nodes.{Nodes}
use Rattle.search_store.specs.mail_draft.declared.stop.Stop.{Stop}
use Rattle.search_store.specs.mail_draft.declared.stop.Stop.TheVariants as stops
use Rattle.mail_searches.specs.Searching.{Searching}
use Rattle.mail_searches.specs.declared.known.KnownSearches.{KnownSearches}
pub use Rattle.search_store.specs.mail_store.Planning.{StandsFor}
use Rattle.mail_tree.specs.declared.known.Known.{Known}
pub use Rattle.search_laws.specs.search_lists.Order.{InOrder}
use Rattle.search_store.specs.Planning.{StoresSearches}
use Rattle.store_session.specs.Disks.{Medium, medium}
use Rattle.store_session.specs.Run.{refused}
use Rattle.store_session.specs.declared.carrying.StoreStop.{StoreStop}
use Rattle.store_session.specs.declared.carrying.StoreStop.TheVariants.{Disk, Changed}

-- A store over a keeper has the tree with its searches, which is in order, and tidy if `tidy`; nothing is pending, and the disk is as a commit needs it.
pub record Has (holds : Nodes → Type 0) (last : List ℕ) (known : Known) (of_searches : KnownSearches) (rests : Image → Type 0) (world : World) (tidy : Bool) (X : Searching) : Type 0 where
  pub stores : StoresSearches holds last known of_searches X
  pub order : InOrder tidy X
  pub settled : Settled world
  pub at_rest : world.tells → rests world.here

-- the image stands for the tree, which is in order with its searches, and tidy if `tidy`
abbrev pub StandsOrdered : Bool → (Image → Nodes → List ℕ → Type 0) → Image → Searching → Type 0
StandsOrdered tidy stands c X = StandsFor (stands c) X.tree × InOrder tidy X

-- at each moment nothing more was said, and the disk stands for one state or the other, as a tree with its searches
abbrev pub Leaves : {X : Type 0} → (Image → X → Type 0) → World → World → X → X → Type 0
Leaves stands old new X Y = LeavesOnly old new (λ c. (c.said ≡ old.here.said) × (stands c X ⊎ stands c Y))

-- What was carried out: the state after it is had, as a store has a tree with its searches, or the disk failed on the way to one, and nothing is told of it. That something changed never comes.
abbrev pub CarriesOut : {T : Type 0} → (T → Type 0) → (Image → T → Type 0) → (Type 0 → List ℕ → T → Medium → Type 0) → World → World → T → Result Spoken StoreStop → Type 0
CarriesOut {T} has stands answers old new X (Ok spoken) = (Y : T) × answers new.tells (spoken_text spoken) Y (medium new) × has Y × Leaves stands old new X Y
CarriesOut {T} has stands answers old new X (Err Disk) = (Y : T) × (said : List ℕ) × answers ⊥ said Y (medium new) × Leaves stands old new X Y
CarriesOut {T} has stands answers old new X (Err (Changed ib stored computed)) = ⊥

-- the count of the disk's faults rose where it failed, and there is a disk
abbrev pub IsCaused : Bool → World → World → StoreStop → Type 0
IsCaused disk old new Disk = Rose old.disk_faults new.disk_faults × (disk ≡ true)
IsCaused disk old new (Changed ib stored computed) = Unit {0}

-- what is said of a refusal: its text, or that there was no memory for it
abbrev pub SaysRefusal : CommandRefusal → Spoken → Type 0
SaysRefusal refusal spoken = (spoken_text spoken ≡ refused refusal) ⊎ (spoken_text spoken ≡ no_memory_text)

-- what a stop of a plan comes to
abbrev pub ComesTo : Stop → Result Spoken StoreStop → Type 0
ComesTo stop (Ok spoken) = ((refusal : CommandRefusal) × (stop ≡ stops.Refused refusal) × (spoken_text spoken ≡ refused refusal)) ⊎ (spoken_text spoken ≡ no_memory_text)
ComesTo stop (Err Disk) = stop ≡ stops.Fault
ComesTo stop (Err (Changed ib stored computed)) = stop ≡ stops.Changed ib stored computed
