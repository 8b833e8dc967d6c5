-- How a session over a file ends. What is said of a stop, and of the session behind the opening, is said where nothing was pending at the start.
use Rattle.std.specs.Prelude.{◌≡◌, ◌⊎◌, ◌+◌, ◌≤◌, Bool, true, false, List, Option, ℕ, take}
use Rattle.pst_base.specs.declared.ids.Nid.{Nid}
use Rattle.pst_outside.specs.World.{Image, World}
use Rattle.pst_outside.specs.Calls.{LeavesOnly, Settled, Untouched}
use Rattle.gate_file.specs.Gate.{IsShut, SameStore}
use Rattle.file_blocks.specs.Blocks.{file_of}
use Rattle.lays_kept.specs.Stands.{Stands}
use Rattle.node_port.specs.Pins.{Pins}
use Rattle.node_port.specs.declared.node.NodeRec.{NodeRec}
use Rattle.pst_commit.specs.Keeping.{HasRoom, IsCommitted, IsSaved}
use Rattle.mail_searches.specs.Searching.{Searching}
use Rattle.file_open.specs.Opening.{ReadsFresh}
use Rattle.mail_transactions.specs.pinned_session.store_session.Carrying.{StandsOrdered}
use Rattle.mail_transactions.specs.pinned_session.store_session.Disks.{Effects, Medium, SameMedium, effects_of, medium}
use Rattle.mail_transactions.specs.Session.{SessionEnds}
use Rattle.mail_transactions.specs.Stands.{IsOrdered, StandsCommitted}
use Rattle.mail_transactions.specs.State.{begins}
use Rattle.mail_transactions.specs.pinned_session.store_session.declared.session.SessionEnd.{SessionEnd}
use Rattle.mail_transactions.specs.pinned_session.store_session.declared.session.SessionEnd.TheVariants.{Disk, Memory}

-- the header that counts, as bytes
abbrev pub front_of : Image → List ℕ
front_of image = take 564 (file_of image)

-- The two files of an image are read as the tree with its searches: they lay nodes that show it, with its counters; an opening finds it from the root down, its search folders by their nodes, and each running search lists what filtering lists. If `tidy`, its rows mirror what they show and its counts are right. The maps are right wherever the header vouches for them, but in a file whose header is still the one that was found.
abbrev pub ReadsAs : Bool → List ℕ → Image → Searching → Type 0
ReadsAs tidy found = StandsOrdered tidy (Stands found)

-- The opening gave nothing: no line was taken and nothing was said, and a stop at any moment leaves the tree that the files were read as. Want of memory comes before anything is written, and files that aren't read as a tree with numbers left stay as they are, whatever stops it.
pub record EndsUnopened (first now : World) (end : SessionEnd) : Type 0 where
  pub ends : (end ≡ Disk) ⊎ (end ≡ Memory)
  pub input : now.tells → now.input ≡ first.input
  pub said : now.tells → now.here.said ≡ first.here.said
  pub memory : end ≡ Memory → Untouched first now
  pub no_tree : ((X : Searching) → ReadsFresh first.here X → ⊥) → Untouched first now
  pub store : now.tells → SameStore first.here now.here
  -- at most the gate was closed
  pub written : now.written ≤ first.written + 580
  pub images : Settled first → (tidy : Bool) (X : Searching) → ReadsAs tidy (front_of first.here) first.here X → LeavesOnly first now (λ c. (c.said ≡ first.here.said) × ReadsAs tidy (front_of first.here) c X)

-- What is told of files from turn to turn: their room beside what they lay and these pins hold, what a commit makes of their bytes beside the pins and how many it writes, and what a save does.
abbrev pub file_effects : (List (ℕ × List Bool) → List ℕ → List ℕ → Type 0) → (List ℕ → List ℕ → List (Nid × Option NodeRec) → ℕ → Type 0) → Pins → Effects
file_effects becomes costs pins = effects_of pins HasRoom (λ held. IsCommitted becomes costs held.opened) IsSaved

-- The files were opened as a tree with its searches, with numbers left, and this is how the session over it ended: its replies are those of a run from the tree and no pins, each turn of which takes the files from what they were to what they are, and a stop at any moment leaves files that are read as the committed tree after some of its turns, which within a transaction is the one from before it, among them each whose reply had begun and at most one whose reply wasn't said whole, tidy where it was so at the start. `becomes` says what a commit makes of a file, and `costs` how many bytes its pieces have.
pub record EndsOpened (becomes : List (ℕ × List Bool) → List ℕ → List ℕ → Type 0) (costs : List ℕ → List ℕ → List (Nid × Option NodeRec) → ℕ → Type 0) (first now : World) (end : SessionEnd) : Type 0 where
  pub start : Searching
  pub reads : ReadsAs false (front_of first.here) first.here start
  pub fresh : ReadsFresh first.here start
  -- the disk that the first line finds: the store is as it was
  pub opened : Medium
  pub store : SameStore first.here opened.image
  -- at most the gate was closed, and nothing was written where it was shut
  pub opening : opened.written ≤ first.written + 580
  pub idle : IsShut first.here.side → SameMedium (medium first) opened
  pub session : Settled first → (tidy : Bool) → ReadsAs tidy (front_of first.here) first.here start
      → SessionEnds (file_effects becomes costs) (StandsCommitted Stands (front_of first.here) tidy) (IsOrdered tidy) (λ image. IsShut image.side) opened first now (begins start) end

-- how a session over a file ends that wasn't refused
abbrev pub FileRunEnds : (List (ℕ × List Bool) → List ℕ → List ℕ → Type 0) → (List ℕ → List ℕ → List (Nid × Option NodeRec) → ℕ → Type 0) → World → World → SessionEnd → Type 0
FileRunEnds becomes costs first now end = EndsUnopened first now end ⊎ EndsOpened becomes costs first now end
