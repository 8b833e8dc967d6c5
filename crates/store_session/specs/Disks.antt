-- What becomes of the disk when a line is answered.
use Rattle.std.specs.Prelude.{◌≡◌, ◌+◌, ◌≤◌, ℕ, Bool, true, false, List, Option, Ok, Err}
use Rattle.std.specs.FinMap as map
use Rattle.std.specs.List.{AllZip}
use Rattle.pst_base.specs.declared.ids.Nid.{Nid}
use Rattle.pst_outside.specs.World.{Image, SameDisk, World}
use Rattle.command_text.specs.declared.command.Command.{Command}
use Rattle.command_text.specs.declared.command.Command.TheVariants.{Save}
use Rattle.node_port.specs.Pins.{Pins}
use Rattle.node_port.specs.declared.node.NodeRec.{NodeRec}
use Rattle.node_port.specs.Stops.{Room}
use Rattle.mail_searches.specs.Criteria.{Coming}
use Rattle.search_store.specs.mail_store.Space.{WritesNodes}
use Rattle.search_store.specs.mail_draft.Written.{Writes}
use Rattle.mail_tree.specs.Changing.{Answer}

-- A disk, and how many bytes its writes were asked for so far.
pub record Medium : Type 0 where
  pub image : Image
  pub written : ℕ

-- the disk of a world
abbrev pub medium : World → Medium
medium w = record { image = w.here; written = w.written }

-- the disk is the same, and nothing more was written
pub record SameMedium (old new : Medium) : Type 0 where
  pub disk : SameDisk old.image new.image
  pub written : new.written ≤ old.written

-- What a keeper says of the disk: the room that it has, and what a commit of these changes and a save make of it by writing at most so many bytes.
pub record Effects : Type 1 where
  pub measures : Image → Room → Type 0
  pub applied : List (Nid × Option NodeRec) → ℕ → Image → Image → Type 0
  pub saved : ℕ → Image → Image → Type 0

-- the same of a keeper that has these pins, and keeps them
abbrev pub effects_of : Pins → (Image → Room → Type 0) → (Pins → List (Nid × Option NodeRec) → ℕ → Image → Image → Type 0) → (ℕ → Image → Image → Type 0) → Effects
effects_of pins measures applied saved = record { measures = λ image room. measures image room × (room.pins ≡ pins); applied = applied pins; saved = saved }

-- The old disk was made into the new one, behind which more may have been said, by writing at most as many bytes as is told.
pub record Becomes (makes : ℕ → Image → Image → Type 0) (old new : Medium) : Type 0 where
  pub image : Image
  pub bytes : ℕ
  pub made : makes bytes old.image image
  pub same : SameDisk image new.image
  pub few : new.written ≤ old.written + bytes

-- nodes were written, which are those of the objects that the command puts or removes
pub record CommitsNodes (applied : List (Nid × Option NodeRec) → ℕ → Image → Image → Type 0) (o : Coming) (old new : Medium) : Type 0 where
  pub nodes : List (Nid × Option NodeRec)
  pub are : AllZip Writes (map.entries o.outcome.changed.objects) nodes
  pub disk : Becomes (applied nodes) old new

-- the command is `save`
abbrev pub is_save : Command → Bool
is_save Save = true
is_save other = false

-- The command was carried out: the disk is as a commit leaves it where nodes were written, and else as it was.
pub record Commits (applied : List (Nid × Option NodeRec) → ℕ → Image → Image → Type 0) (o : Coming) (old new : Medium) : Type 0 where
  pub written : WritesNodes o.outcome.changed → CommitsNodes applied o old new
  pub unwritten : o.outcome.changed.objects ≡ map.empty → SameMedium old new

-- what a command leaves that isn't `save`: a refused one leaves the disk as it was
abbrev pub CommitsAnswer : (List (Nid × Option NodeRec) → ℕ → Image → Image → Type 0) → Answer Coming → Medium → Medium → Type 0
CommitsAnswer applied (Ok o) old new = Commits applied o old new
CommitsAnswer applied (Err refusal) old new = SameMedium old new

-- what a command that got its answer leaves: `save` a disk as the keeper's save makes it
abbrev pub Moves : Effects → Bool → Answer Coming → Medium → Medium → Type 0
Moves effects true answer old new = Becomes effects.saved old new
Moves effects false answer old new = CommitsAnswer effects.applied answer old new
