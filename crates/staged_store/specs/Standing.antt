-- That a store with a transaction stands in a state.
use Rattle.std.specs.Prelude.{◌≡◌, ◌⊎◌, ◌≤◌, ◌+◌, ◌*◌, ◌/◌, Bool, false, [], Result, Ok, Err}
use Rattle.command_text.specs.declared.command.Command.{Command}
use Rattle.line_server.specs.Spoken.{spoken_text}
use Rattle.line_server.specs.declared.spoken.Spoken.{Spoken}
use Rattle.node_port.specs.Nodes.{Nodes}
use Rattle.node_port.specs.Stops.{Room}
use Rattle.mail_searches.specs.Searching.{Searching}
use Rattle.mail_searches.specs.declared.known.KnownSearches.{KnownSearches}
use Rattle.mail_tree.specs.declared.known.Known.{Known}
use Rattle.pinned_session.specs.store_session.Carrying.{InOrder}
use Rattle.session_lines.specs.declared.line.SessionLine.{SessionLine}
use Rattle.pinned_session.specs.Viewing.{viewing_of}
use Rattle.pinned_session.specs.store_session.declared.carrying.StoreStop.{StoreStop}
use Rattle.pinned_session.specs.store_session.declared.carrying.StoreStop.TheVariants.{Disk, Changed}
use Rattle.pinned_session.specs.store_session.search_store.Planning.{StoresSearches}
use Rattle.staged_nodes.specs.Room.{IsLeft}
use Rattle.staged_nodes.specs.Staged.{IsOver, Staged, listed, staged_size}
use Rattle.staged_nodes.specs.Staging.{IsStaged}
use Rattle.staged_nodes.specs.declared.staging.Staging.{Staging}
use Rattle.staged_store.specs.Saying.{LacksOn, SaysOn, StagesCommand, Underway}
use Rattle.staged_store.specs.declared.underway.StagedStore.{StagedStore}

-- what is put has room, so that it can be committed
pub record HasRoom (room : Room) (F : Staged) : Type 0 where
  pub numbers : (listed F ≡ [] → ⊥) → room.spent ≡ false
  pub cells : (listed F ≡ [] → ⊥) → room.pages / 16 + 3 * staged_size F + 16 ≤ room.free

-- By what is known beside its nodes, a store over these nodes with the changes of a transaction has the tree with its searches, which is in order, and tidy if `tidy`.
pub record HasOver (base : Nodes) (room : Room) (staging : Staging) (known : Known) (of_searches : KnownSearches) (tidy : Bool) (F : Staged) (X : Searching) : Type 0 where
  pub stores : StoresSearches (IsOver base F) staging.counts.last known of_searches X
  pub order : InOrder tidy X
  pub staged : IsStaged staging F
  pub left : IsLeft room staging.left
  pub enough : HasRoom room F

-- a store with its transaction and its views, over these nodes, stands in this state
pub record IsUnderway {K : Type 0} (base : Nodes) (room : Room) (s : StagedStore K) (tidy : Bool) (U : Underway) : Type 0 where
  pub has : HasOver base room s.staging s.store.store.known s.store.searches tidy U.nodes U.now
  pub shows : U.views ≡ viewing_of s.views

-- A line was answered from one state on, and this is so of the one after it; or the disk failed. That something changed never comes.
abbrev pub Responds : Room → Underway → SessionLine → (Underway → Type 0) → Result Spoken StoreStop → Type 0
Responds room before asked has (Ok spoken) = (after : Underway) × (SaysOn room before asked (spoken_text spoken) after ⊎ LacksOn room before (spoken_text spoken) after) × has after
Responds room before asked has (Err Disk) = Unit {0}
Responds room before asked has (Err (Changed ib stored computed)) = ⊥

-- the same of a command of the store, whatever line it comes of
abbrev pub Stages : Room → Underway → Command → (Underway → Type 0) → Result Spoken StoreStop → Type 0
Stages room before c has (Ok spoken) = (after : Underway) × (StagesCommand room before c (spoken_text spoken) after ⊎ LacksOn room before (spoken_text spoken) after) × has after
Stages room before c has (Err Disk) = Unit {0}
Stages room before c has (Err (Changed ib stored computed)) = ⊥
