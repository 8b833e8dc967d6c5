-- How making a large input in files ends. What is said of a stop, and of what is made behind the opening, is said where nothing was pending at the start.
use Rattle.std.specs.Prelude.{◌≡◌, ◌+◌, ◌≤◌, Bool, false, List, Option, ℕ, Result}
use Rattle.pst_base.specs.declared.ids.Nid.{Nid}
use Rattle.pst_outside.specs.World.{World}
use Rattle.pst_outside.specs.Calls.{Settled}
use Rattle.gate_file.specs.Gate.{IsShut, SameStore}
use Rattle.node_port.specs.declared.node.NodeRec.{NodeRec}
use Rattle.store_filling.specs.mail_draft.declared.stop.Stop.{Stop}
use Rattle.mail_searches.specs.Searching.{Searching}
use Rattle.file_session.specs.file_open.Opening.{ReadsFresh}
use Rattle.store_filling.specs.store_session.Disks.{Medium, SameMedium, medium}
use Rattle.store_filling.specs.Filling.{StoreFillEnds}
use Rattle.store_filling.specs.declared.counting.FillCounts.{FillCounts}
use Rattle.node_port.specs.Pins.{no_pins}
use Rattle.file_session.specs.FileRun.{ReadsAs, file_effects, front_of}

-- What was made behind an opening, of files that were read as the tree. `becomes` says what a commit makes of a file, and `costs` how many bytes its pieces have.
pub record FillsBehind (becomes : List (ℕ × List Bool) → List ℕ → List ℕ → Type 0) (costs : List ℕ → List ℕ → List (Nid × Option NodeRec) → ℕ → Type 0) (tidy : Bool) (found : List ℕ) (first now : World) (start : Searching) (seed count : ℕ) (end : Result FillCounts Stop) : Type 0 where
  -- the disk that the first command finds: the store is as it was
  pub opened : Medium
  pub store : SameStore first.here opened.image
  -- at most the gate was closed, and nothing was written where it was shut
  pub opening : opened.written ≤ first.written + 580
  pub idle : IsShut first.here.side → SameMedium (medium first) opened
  pub ends : StoreFillEnds (file_effects becomes costs no_pins) (ReadsAs tidy found) (λ image. IsShut image.side) opened first now start seed count end

-- The files were opened as a tree with its searches, with numbers left, and so making a large input in it ended.
pub record FillOpened (becomes : List (ℕ × List Bool) → List ℕ → List ℕ → Type 0) (costs : List ℕ → List ℕ → List (Nid × Option NodeRec) → ℕ → Type 0) (first now : World) (seed count : ℕ) (end : Result FillCounts Stop) : Type 0 where
  pub start : Searching
  pub reads : ReadsAs false (front_of first.here) first.here start
  pub fresh : ReadsFresh first.here start
  pub fills : Settled first → (tidy : Bool) → ReadsAs tidy (front_of first.here) first.here start → FillsBehind becomes costs tidy (front_of first.here) first now start seed count end
