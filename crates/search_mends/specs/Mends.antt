-- What mending the searches of a store over a keeper comes to.
use Rattle.std.specs.Prelude.{◌≡◌, ◌⊎◌, ℕ, Bool, List, [], ◌∷◌, ◌++◌, count_by, Option, Result, Ok, Err}
use Rattle.pst_base.specs.declared.ids.Nid.{Nid}
use Rattle.pst_outside.specs.World.{Image, World}
use Rattle.pst_outside.specs.Calls.{LeavesOnly, Settled}
use Rattle.node_port.specs.Nodes.{Nodes}
use Rattle.node_port.specs.Stops.{Room}
use Rattle.node_port.specs.declared.node.NodeRec.{NodeRec}
use Rattle.store_session.specs.mail_store.Planning.{StandsFor}
use Rattle.mail_searches.specs.Searching.{Searching}
use Rattle.mail_searches.specs.Step.{after}
use Rattle.search_mending.specs.Laws.{IsMendable}
use Rattle.search_mending.specs.Mended.{mended, mended_all}
use Rattle.search_mending.specs.Mending.{Mending, is_of_first, is_stale, mended_search}
use Rattle.search_mends.specs.Stops.{StopsMending, UnlessFault}
use Rattle.search_mends.specs.declared.all.Mended.{Mended}
use Rattle.search_mends.specs.declared.one.WasMended.{WasMended}
use Rattle.search_mends.specs.declared.stop.MendStop.{MendStop}
use Rattle.search_mends.specs.declared.stop.MendStop.TheVariants.{Memory}
use Rattle.store_session.specs.search_store.Planning.{StoresSearches}
use Rattle.store_session.specs.search_store.declared.store.SearchStore.{SearchStore}
use Rattle.store_session.specs.Disks.{Commits, Medium, SameMedium, medium}

-- A store over a keeper has the tree with its searches, which is in order but for what these list, and tidy if `tidy`; nothing is pending, and the disk is as a commit needs it.
pub record HasMendable {K : Type 0} (holds : K → World → Nodes → Type 0) (last : K → List ℕ) (rests : Image → Type 0) (store : SearchStore K) (world : World) (tidy : Bool) (X : Searching) : Type 0 where
  pub stores : StoresSearches (holds store.store.keeper world) (last store.store.keeper) store.store.known store.searches X
  pub order : IsMendable tidy X
  pub settled : Settled world
  pub at_rest : world.tells → rests world.here

-- ---- from disk to disk

-- A search that was mended: its folder, and the tree with its searches and the disk after it.
pub record MendTurn : Type 0 where
  pub folder : ℕ
  pub tree : Searching
  pub disk : Medium

-- From the tree and the disk before it on, mending the search of its folder came to this turn: a commit of its nodes takes the disk to the next. What becomes of the disk is said where `told`.
pub record MendsTo (applied : List (Nid × Option NodeRec) → ℕ → Image → Image → Type 0) (told : Type 0) (before : Searching) (old : Medium) (turn : MendTurn) : Type 0 where
  pub mending : Mending
  pub mends : mended_search before turn.folder ≡ Ok mending
  pub tree : turn.tree ≡ after before mending.coming
  pub disk : told → Commits applied mending.coming old turn.disk

-- one after another
abbrev pub MendTurns : (List (Nid × Option NodeRec) → ℕ → Image → Image → Type 0) → Type 0 → Searching → Medium → List MendTurn → Type 0
MendTurns applied told before old [] = Unit {0}
MendTurns applied told before old (turn ∷ turns) = MendsTo applied told before old turn × MendTurns applied told turn.tree turn.disk turns

-- the tree and the disk at the end
abbrev pub tree_mended : Searching → List MendTurn → Searching
tree_mended before [] = before
tree_mended before (turn ∷ turns) = tree_mended turn.tree turns

abbrev pub disk_mended : Medium → List MendTurn → Medium
disk_mended old [] = old
disk_mended old (turn ∷ turns) = disk_mended turn.disk turns

-- Searches were mended one after another, each by one commit, from a tree and a disk to these.
pub record MendRun (applied : List (Nid × Option NodeRec) → ℕ → Image → Image → Type 0) (told : Type 0) (before : Searching) (old : Medium) (now : Searching) (new : Medium) : Type 0 where
  pub turns : List MendTurn
  pub run : MendTurns applied told before old turns
  pub tree : tree_mended before turns ≡ now
  pub disk : told → SameMedium (disk_mended old turns) new

-- mending the search of this folder, if it was mended, took the disk to the next
abbrev pub CommitsOne : (List (Nid × Option NodeRec) → ℕ → Image → Image → Type 0) → World → World → Searching → ℕ → Result WasMended MendStop → Type 0
CommitsOne applied old new X f (Ok one) = (m : Mending) × (mended_search X f ≡ Ok m) × (new.tells → Commits applied m.coming (medium old) (medium new))
CommitsOne applied old new X f (Err stop) = UnlessFault (new.tells → SameMedium (medium old) (medium new)) stop

-- ---- one search

-- The search of this folder was mended, and the store has the tree after it. Or it wasn't: then the store has the tree still, unless the disk failed.
abbrev pub MendsOne : (Searching → Type 0) → Room → Searching → ℕ → Result WasMended MendStop → Type 0
MendsOne has room X f (Ok one) = (m : Mending) × (mended_search X f ≡ Ok m) × (one.stale ≡ m.stale) × (one.first ≡ m.first) × has (after X m.coming)
MendsOne has room X f (Err stop) = StopsMending room X f stop × UnlessFault (has X) stop

-- it is so of the tree, or of that after the search of this folder was mended
abbrev pub IsBeside : (Searching → Type 0) → Searching → ℕ → Type 0
IsBeside P X f = P X ⊎ ((m : Mending) × (mended_search X f ≡ Ok m) × P (after X m.coming))

-- at each moment nothing more was said, and the disk stands for the tree or for that after the search of this folder was mended
abbrev pub LeavesOne : (Image → Nodes → List ℕ → Type 0) → World → World → Searching → ℕ → Type 0
LeavesOne stands old new X f = LeavesOnly old new (λ c. (c.said ≡ old.here.said) × IsBeside (λ Y. StandsFor (stands c) Y.tree) X f)

-- ---- all searches

-- Mending has come so far: the searches of the first of the own search folders were mended, and of the tree after that it is so.
pub record MendedSoFar (P : Searching → Type 0) (X : Searching) : Type 0 where
  pub front : List ℕ
  pub rest : List ℕ
  pub cuts : X.own ≡ front ++ rest
  pub so_far : Searching
  pub mended : mended_all X front ≡ Ok so_far
  pub is_so : P so_far

-- at each moment nothing more was said, and the disk stands for the tree with the searches of the first of its own search folders mended
abbrev pub LeavesMended : (Image → Nodes → List ℕ → Type 0) → World → World → Searching → Type 0
LeavesMended stands old new X = LeavesOnly old new (λ c. (c.said ≡ old.here.said) × MendedSoFar (λ Y. StandsFor (stands c) Y.tree) X)

-- All were mended: the store has the tree after it, and counted are the searches that were stale and those that were of the first version.
pub record MendsEach (has : Searching → Type 0) (X : Searching) (done : Mended) : Type 0 where
  pub so_far : Searching
  pub mended : mended X ≡ Ok so_far
  pub has_it : has so_far
  pub stale : done.stale ≡ count_by (is_stale X) X.own
  pub migrated : done.migrated ≡ count_by (is_of_first X) X.own

-- why mending stops where the searches of these folders are left
abbrev pub StopsBefore : Room → Searching → List ℕ → MendStop → Type 0
StopsBefore room X [] stop = stop ≡ Memory
StopsBefore room X (f ∷ rest) stop = StopsMending room X f stop

-- Some were mended: mending stopped at the first that is left, or for want of memory, and unless the disk failed the store has the tree after those that were mended.
pub record StopsWithin (has : Searching → Type 0) (room : Room) (X : Searching) (stop : MendStop) : Type 0 where
  pub front : List ℕ
  pub rest : List ℕ
  pub cuts : X.own ≡ front ++ rest
  pub so_far : Searching
  pub mended : mended_all X front ≡ Ok so_far
  pub why : StopsBefore room so_far rest stop
  pub has_it : UnlessFault (has so_far) stop

-- what mending all comes to
abbrev pub MendsSearches : (Searching → Type 0) → Room → Searching → Result Mended MendStop → Type 0
MendsSearches has room X (Ok done) = MendsEach has X done
MendsSearches has room X (Err stop) = StopsWithin has room X stop
