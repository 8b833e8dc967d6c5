-- How the mending of the searches of a file ends. What is said of a stop, and of the mending behind the opening, is said where nothing was pending at the start.
use Rattle.std.specs.Prelude.{◌≡◌, ◌⊎◌, ◌+◌, ◌≤◌, ℕ, Bool, false, List, Option, take, Result, Err}
use Rattle.pst_base.specs.declared.ids.Nid.{Nid}
use Rattle.gate_file.specs.Gate.{IsShut, SameStore}
use Rattle.pst_outside.specs.World.{Image, World}
use Rattle.pst_outside.specs.Calls.{LeavesOnly, Settled, Untouched}
use Rattle.lays_kept.specs.Stands.{Stands}
use Rattle.node_port.specs.Nodes.{Nodes}
use Rattle.node_port.specs.Stops.{Room}
use Rattle.node_port.specs.Pins.{no_pins}
use Rattle.node_port.specs.declared.node.NodeRec.{NodeRec}
use Rattle.pst_commit.specs.Keeping.{HasRoom, IsCommitted}
use Rattle.search_mends.specs.store_session.Disks.{Medium, SameMedium, medium}
use Rattle.search_mends.specs.mail_store.Planning.{StandsFor}
use Rattle.mail_searches.specs.Searching.{Searching}
use Rattle.search_mends.specs.search_mending.Laws.{IsMendable}
use Rattle.search_mends.specs.Mends.{MendRun, MendedSoFar, MendsSearches}
use Rattle.search_mends.specs.declared.all.Mended.{Mended}
use Rattle.search_mends.specs.declared.stop.MendStop.{MendStop}
use Rattle.search_mends.specs.declared.stop.MendStop.TheVariants as mends
use Rattle.search_mends.specs.declared.stop.MendStop.TheVariants.{Fault, Memory}
use Rattle.file_open.specs.Opening.{ReadsTree}
use Rattle.file_open.specs.declared.stops.FileStop.{FileStop}
use Rattle.file_open.specs.declared.stops.FileStop.TheVariants as opens
use Rattle.file_blocks.specs.Blocks.{file_of}
use Rattle.file_mending.specs.declared.mend.FileMend.{FileMend}
use Rattle.file_mending.specs.declared.mend.FileMend.TheVariants.{Refused, Ended}

-- the header that counts, as bytes
abbrev pub front_of : Image → List ℕ
front_of image = take 564 (file_of image)

-- The two files of an image stand for nodes that show the tree, which is in order with its searches but for what these list; if `tidy`, its rows mirror what they show and its counts are right. The maps are right wherever the header vouches for them, but in a file whose header is still the one that was found.
abbrev pub ReadsMendable : Bool → List ℕ → Image → Searching → Type 0
ReadsMendable tidy found c X = StandsFor (Stands found c) X.tree × IsMendable tidy X

-- At the moment of a world, whose disk has this room, nothing is pending, and the disk stands for the tree, which is in order but for what its searches list.
abbrev pub StandsMendable : Bool → (Image → Nodes → List ℕ → Type 0) → (Image → Room → Type 0) → Room → World → Searching → Type 0
StandsMendable tidy stands measures room world X = (StandsFor (stands world.here) X.tree × IsMendable tidy X) × Settled world × measures world.here room

-- The opening gave nothing, and a stop at any moment leaves the tree that the files were read as. Want of memory comes before anything is written.
pub record MendUnopened (first now : World) (end : Result Mended MendStop) : Type 0 where
  pub ends : (end ≡ Err Fault) ⊎ (end ≡ Err Memory)
  pub memory : end ≡ Err Memory → Untouched first now
  pub said : now.here.said ≡ first.here.said
  pub images : Settled first → (tidy : Bool) (X : Searching) → ReadsMendable tidy (front_of first.here) first.here X
      → LeavesOnly first now (λ c. (c.said ≡ first.here.said) × ReadsMendable tidy (front_of first.here) c X)

-- what a commit makes of a file beside which nothing is held, and how many bytes its pieces have
abbrev pub Becomes : Type 1
Becomes = List (ℕ × List Bool) → List ℕ → List ℕ → Type 0

abbrev pub Costs : Type 1
Costs = List ℕ → List ℕ → List (Nid × Option NodeRec) → ℕ → Type 0

-- Of the two files, which were read as the tree: a stop at any moment leaves them with the searches of the first of its own search folders mended, and mending came to its end, or stopped, over files with this room. Unless the disk failed, each search that was mended took the files to the next as a commit of just the nodes that it puts.
pub record MendsFiles (becomes : Becomes) (costs : Costs) (tidy : Bool) (found : List ℕ) (first now : World) (X : Searching) (end : Result Mended MendStop) : Type 0 where
  pub images : LeavesOnly first now (λ c. (c.said ≡ first.here.said) × MendedSoFar (ReadsMendable tidy found c) X)
  pub room : Room
  -- the disk that the first search finds: the store is as it was, and at most the gate was closed
  pub opened : Medium
  pub store : SameStore first.here opened.image
  pub opening : opened.written ≤ first.written + 580
  pub idle : IsShut first.here.side → SameMedium (medium first) opened
  pub mends : MendsSearches (λ Y. StandsMendable tidy (Stands found) HasRoom room now Y × MendRun (IsCommitted becomes costs no_pins.opened) now.tells X opened Y (medium now)) room X end

-- The files were opened as a tree with its searches, whatever these list and whether numbers are left, and so their mending ended.
pub record MendOpened (becomes : Becomes) (costs : Costs) (first now : World) (end : Result Mended MendStop) : Type 0 where
  pub start : Searching
  pub reads : ReadsTree first.here start
  pub stands : ReadsMendable false (front_of first.here) first.here start
  pub mends : Settled first → (tidy : Bool) → ReadsMendable tidy (front_of first.here) first.here start → MendsFiles becomes costs tidy (front_of first.here) first now start end

-- how the mending of files ends that weren't refused
abbrev pub FileMendEnds : Becomes → Costs → World → World → Result Mended MendStop → Type 0
FileMendEnds becomes costs first now end = MendUnopened first now end ⊎ MendOpened becomes costs first now end

-- for each stop of the opening
abbrev pub unopened : FileStop → FileMend
unopened (opens.Refused refusal) = Refused refusal
unopened opens.Fault = Ended (Err mends.Fault)
unopened (opens.Changed ib stored computed) = Ended (Err (mends.Changed ib stored computed))
unopened opens.Memory = Ended (Err mends.Memory)
