-- How `new` and `run` over a file end.
use Rattle.std.specs.Prelude.{◌≡◌, ◌⊎◌, ℕ, true, List, ◌++◌, take}
use Rattle.pst_outside.specs.World.{Image, World}
use Rattle.pst_outside.specs.Calls.{NeverFall, Rose, Settled}
use Rattle.gate_file.specs.Gate.{IsShut}
use Rattle.empty_file.specs.Empty.{HasBytes}
use Rattle.mail_searches.specs.Searching.{Searching, StartsSearching}
use Rattle.file_mending.specs.file_open.Opening.{IsFileRefused, ReadsFresh}
use Rattle.file_mending.specs.file_open.declared.stops.FileRefusal.{FileRefusal}
use Rattle.file_filling.specs.store_session.Session.{HasCause}
use Rattle.file_filling.specs.store_session.declared.session.SessionEnd.{SessionEnd}
use Rattle.file_filling.specs.store_session.declared.session.SessionEnd.TheVariants as ends
use Rattle.file_planner.specs.Becomes.{IsMade}
use Rattle.file_planner.specs.Cost.{IsWithin}
use Rattle.file_filling.specs.file_session.FileRun.{FileRunEnds, ReadsAs, front_of}
use Rattle.mail_session.specs.Texts.{file_line, made_line, not_empty_line}
use Rattle.mail_session.specs.Worlds.{KeepsDisk}
use Rattle.mail_session.specs.declared.exit.ChangedAt.{ChangedAt}
use Rattle.mail_session.specs.declared.exit.Status.{Status}
use Rattle.mail_session.specs.declared.exit.Status.TheVariants.{Done, Refused, Disk, Input, Output, Memory, Lines, Changed}

-- ---- run

-- the status of a session that ended so
abbrev pub status_of_end : SessionEnd → Status
status_of_end ends.Done = Done
status_of_end ends.Input = Input
status_of_end ends.Output = Output
status_of_end ends.Lines = Lines
status_of_end ends.Disk = Disk
status_of_end (ends.Changed ib stored computed) = Changed (record { ib = ib; stored = stored; computed = computed })
status_of_end ends.Memory = Memory

-- The files were refused, which holds of them, and no tree can be read from them; the disk stays, and the line of the refusal is said.
pub record EndsRefused (old new : World) (status : Status) : Type 0 where
  pub keeps : KeepsDisk old new
  pub input : new.tells → new.input ≡ old.input
  pub refusal : FileRefusal
  pub holds : new.tells → IsFileRefused old.here refusal × ((X : Searching) → ReadsFresh old.here X → ⊥)
  pub statuses : (status ≡ Refused) ⊎ ((status ≡ Output) × Rose old.out_faults new.out_faults) ⊎ (status ≡ Memory)
  pub front : new.tells → (k : ℕ) × (new.here.said ≡ old.here.said ++ take k (file_line refusal))
  pub whole : status ≡ Refused → new.tells → new.here.said ≡ old.here.said ++ file_line refusal
  pub silent : status ≡ Memory → new.tells → new.here.said ≡ old.here.said

-- How a call of `run FILE` ends, over any world: the files were refused; or else the status has its cause, and where the world tells, the session over them ended as `FileRunEnds` says, each of its commits making of the file what `IsMade` says.
abbrev pub RunEnds : World → World → Status → Type 0
RunEnds old new status = EndsRefused old new status ⊎ ((end : SessionEnd) × (status ≡ status_of_end end) × HasCause true old new end × (new.tells → FileRunEnds IsMade IsWithin old new end))

-- no count of faults rose
pub record NoneFailed (old new : World) : Type 0 where
  pub input : Rose old.in_faults new.in_faults → ⊥
  pub output : Rose old.out_faults new.out_faults → ⊥
  pub disk : Rose old.disk_faults new.disk_faults → ⊥

-- Over files that are read as a tree with its searches, with numbers left, while no device fails, a call of `run FILE` is done, or has answered as many lines as a session takes, or found no memory before it took one.
abbrev pub EndsWell : World → World → Status → Type 0
EndsWell old new status = Settled old → new.tells → (X : Searching) → ReadsFresh old.here X → NoneFailed old new → (status ≡ Done) ⊎ ((status ≡ Lines) ⊎ (status ≡ Memory))

-- ---- new

-- the line that `new` says of these files where no device fails: that it is made, or that they have bytes
abbrev pub IsNewLine : Image → List ℕ → Type 0
IsNewLine image text = (text ≡ made_line) ⊎ (HasBytes image × (text ≡ not_empty_line))

-- How a call of `new FILE NAME` ends, over any world. What is made is read as the tree of a new store of that name, with nothing pending and the gate shut, as `run` needs it. Files that have bytes stay as they are, and only they are refused.
pub record NewEnds (name : List ℕ) (old new : World) (status : Status) : Type 0 where
  pub counts : NeverFall old new
  pub input : new.tells → new.input ≡ old.input
  pub made : status ≡ Done → new.tells → (X : Searching) × StartsSearching name X × ReadsAs true (front_of new.here) new.here X
  pub settled : Settled old → status ≡ Done → Settled new
  pub shut : Settled old → status ≡ Done → new.tells → IsShut new.here.side
  pub said : Settled old → status ≡ Done → new.tells → new.here.said ≡ old.here.said ++ made_line
  pub front : Settled old → new.tells → (text : List ℕ) × (k : ℕ) × IsNewLine old.here text × (new.here.said ≡ old.here.said ++ take k text)
  pub refused : status ≡ Refused → new.tells → HasBytes old.here × (new.here.said ≡ old.here.said ++ not_empty_line)
  pub kept : old.tells → HasBytes old.here → KeepsDisk old new × (status ≡ Done → ⊥)
  pub disk_failed : status ≡ Disk → Rose old.disk_faults new.disk_faults
  pub output_failed : status ≡ Output → Rose old.out_faults new.out_faults
  pub not_changed : (at : ChangedAt) → status ≡ Changed at → new.tells → ⊥
  pub statuses : (status ≡ Done) ⊎ (status ≡ Refused) ⊎ (status ≡ Disk) ⊎ (status ≡ Output) ⊎ (status ≡ Memory) ⊎ ((at : ChangedAt) × (status ≡ Changed at))
