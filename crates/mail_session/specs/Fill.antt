-- What `fill` says and how it ends.
use Rattle.std.specs.Prelude.{◌≡◌, ◌⊎◌, ◌+◌, ◌≤◌, ℕ, Bool, false, true, List, [], ◌++◌, codes, take, Result, Ok, Err}
use Rattle.std.specs.Fmt.{decimal}
use Rattle.pst_outside.specs.World.{SameDisk, World}
use Rattle.pst_outside.specs.Calls.{LeavesOnly, NeverFall, Rose, Settled}
use Rattle.gate_file.specs.Gate.{IsShut, SameStore}
use Rattle.tree_look.specs.mail_draft.declared.stop.Stop.{Stop}
use Rattle.tree_look.specs.mail_draft.declared.stop.Stop.TheVariants as stops
use Rattle.mail_searches.specs.Searching.{Searching}
use Rattle.file_mending.specs.file_open.Opening.{ReadsFresh}
use Rattle.file_planner.specs.Becomes.{IsMade}
use Rattle.file_planner.specs.Cost.{IsWithin}
use Rattle.file_filling.specs.store_session.Disks.{Medium, SameMedium, medium}
use Rattle.file_filling.specs.store_session.Run.{refused}
use Rattle.file_filling.specs.store_session.Session.{HasCause}
use Rattle.file_filling.specs.store_session.declared.session.SessionEnd.{SessionEnd}
use Rattle.file_filling.specs.store_filling.Filling.{FillCame, IsFilled, disk_at, tree_at}
use Rattle.file_filling.specs.store_filling.declared.counting.FillCounts.{FillCounts}
use Rattle.node_port.specs.Pins.{no_pins}
use Rattle.file_filling.specs.file_session.FileRun.{EndsUnopened, ReadsAs, file_effects, front_of}
use Rattle.mail_session.specs.Files.{EndsRefused, status_of_end}
use Rattle.mail_session.specs.Info.{Says}
use Rattle.mail_session.specs.Texts.{line}
use Rattle.mail_session.specs.declared.exit.ChangedAt.{ChangedAt}
use Rattle.mail_session.specs.declared.exit.Status.{Status}
use Rattle.mail_session.specs.declared.exit.Status.TheVariants.{Done, Refused, Disk, Output, Memory, Changed}

-- ---- what is said

-- the line of what was made
abbrev pub filled_line : ℕ → FillCounts → List ℕ
filled_line count c = line (codes "filled " ++ decimal count ++ codes " listed " ++ decimal c.listed ++ codes " bytes " ++ decimal c.bytes)

-- the text of an end, which is that of what was made or of the refusal; other ends have none
abbrev pub IsFillText : ℕ → Result FillCounts Stop → List ℕ → Type 0
IsFillText count (Ok c) text = text ≡ filled_line count c
IsFillText count (Err (stops.Refused refusal)) text = text ≡ refused refusal
IsFillText count (Err stops.Fault) text = ⊥
IsFillText count (Err (stops.Changed ib stored computed)) text = ⊥
IsFillText count (Err stops.Memory) text = ⊥

-- the status that its text means
abbrev pub fill_status : Result FillCounts Stop → Status
fill_status (Ok c) = Done
fill_status (Err stop) = Refused

-- an end of which nothing is said: there was no memory, the disk failed, or something changed
abbrev pub IsQuietFill : Result FillCounts Stop → Status → Type 0
IsQuietFill end status = (status ≡ Memory) ⊎ (((end ≡ Err stops.Fault) × (status ≡ Disk)) ⊎ ((at : ChangedAt) × (end ≡ Err (stops.Changed at.ib at.stored at.computed)) × (status ≡ Changed at)))

-- What was said of an end before the call ended so: its text; where the output failed, a front of it; else nothing.
abbrev pub SaysFill : ℕ → Result FillCounts Stop → Status → List ℕ → Type 0
SaysFill count end status said =
    ((status ≡ fill_status end) × IsFillText count end said) ⊎ (((status ≡ Output) × ((text : List ℕ) × (k : ℕ) × IsFillText count end text × (said ≡ take k text))) ⊎ (IsQuietFill end status × (said ≡ [])))

-- ---- how it ends

-- Of files that are read as the tree, with nothing pending: the commands of a large input were carried out in turn, each commit making of the file what `IsMade` says. A stop at any moment leaves files that are read as the tree after some of the turns; once anything was said, they are those of the end. What is said is what they came to.
pub record FillsTree (tidy : Bool) (found : List ℕ) (old new : World) (start : Searching) (seed count : ℕ) (status : Status) : Type 0 where
  pub end : Result FillCounts Stop
  -- the disk that the first command finds: the store is as it was, and at most the gate was closed
  pub opened : Medium
  pub store : SameStore old.here opened.image
  pub opening : opened.written ≤ old.written + 580
  pub idle : IsShut old.here.side → SameMedium (medium old) opened
  pub came : FillCame (file_effects IsMade IsWithin no_pins) opened new.tells start seed count end
  pub images : LeavesOnly old new (λ c. IsFilled (ReadsAs tidy found) old.here.said start (came.turns ++ came.hand) c ⊎ SameDisk new.here c)
  -- unless the disk failed, they are read as the tree after all turns at the end, and nothing is pending
  pub ends_as : (end ≡ Err stops.Fault → ⊥) → ReadsAs tidy found new.here (tree_at start came.turns)
  pub disk_is : (end ≡ Err stops.Fault → ⊥) → SameMedium (disk_at opened came.turns) (medium new)
  pub settled : (end ≡ Err stops.Fault → ⊥) → Settled new
  pub shut : (end ≡ Err stops.Fault → ⊥) → IsShut new.here.side
  pub said : (text : List ℕ) × SaysFill count end status text × (new.here.said ≡ old.here.said ++ text)

-- the files were read as a tree with its searches, with numbers left, and this came of making a large input in it
pub record FillRead (seed count : ℕ) (old new : World) (status : Status) : Type 0 where
  pub start : Searching
  pub reads : ReadsAs false (front_of old.here) old.here start
  pub fresh : ReadsFresh old.here start
  pub fills : Settled old → (tidy : Bool) → ReadsAs tidy (front_of old.here) old.here start → FillsTree tidy (front_of old.here) old new start seed count status

-- the files were opened
pub record FillServes (seed count : ℕ) (old new : World) (status : Status) : Type 0 where
  pub counts : NeverFall old new
  pub input : new.tells → new.input ≡ old.input
  pub statuses : (status ≡ Done) ⊎ (status ≡ Refused) ⊎ (status ≡ Disk) ⊎ (status ≡ Output) ⊎ (status ≡ Memory) ⊎ ((at : ChangedAt) × (status ≡ Changed at))
  pub disk_failed : status ≡ Disk → Rose old.disk_faults new.disk_faults
  pub output_failed : status ≡ Output → Rose old.out_faults new.out_faults
  pub told : new.tells → FillRead seed count old new status

-- the files weren't opened, as the disk failed or there was no memory
pub record FillUnopened (old new : World) (status : Status) : Type 0 where
  pub end : SessionEnd
  pub status_is : status ≡ status_of_end end
  pub cause : HasCause true old new end
  pub told : new.tells → EndsUnopened old new end

-- How a call of `fill FILE SEED COUNT` ends, over any world: the files were refused, which holds of them, and no tree with numbers left can be read from them; or they weren't opened; or a large input was made in them.
abbrev pub FillEnds : ℕ → ℕ → World → World → Status → Type 0
FillEnds seed count old new status = EndsRefused old new status ⊎ (FillUnopened old new status ⊎ FillServes seed count old new status)

-- ---- what is said behind it

-- its text was said, or it has none, and nothing was asked of the world
abbrev pub SaysEnd : {W : Type 0} → ℕ → Result FillCounts Stop → W → W → World → World → Status → Type 0
SaysEnd count end v w mid new status = ((text : List ℕ) × IsFillText count end text × Says text (fill_status end) mid new status) ⊎ (IsQuietFill end status × (w ≡ v))

-- the text of an end, or the status of one that has none
abbrev pub HasText : ℕ → Result FillCounts Stop → Result (List ℕ) Status → Type 0
HasText count end (Ok text) = IsFillText count end text
HasText count end (Err status) = IsQuietFill end status
