-- What `mend` says and how it ends.
use Rattle.std.specs.Prelude.{◌≡◌, ◌⊎◌, ◌+◌, ◌≤◌, ℕ, Bool, false, List, [], ◌++◌, codes, take, Result, Ok, Err}
use Rattle.std.specs.Fmt.{decimal}
use Rattle.pst_outside.specs.World.{Image, SameDisk, World}
use Rattle.pst_outside.specs.Calls.{LeavesOnly, NeverFall, Rose, Settled}
use Rattle.node_port.specs.Stops.{Room}
use Rattle.gate_file.specs.Gate.{IsShut, SameStore}
use Rattle.node_port.specs.Pins.{no_pins}
use Rattle.pst_commit.specs.Keeping.{HasRoom, IsCommitted}
use Rattle.file_planner.specs.Becomes.{IsMade}
use Rattle.file_planner.specs.Cost.{IsWithin}
use Rattle.file_filling.specs.store_session.Disks.{Medium, SameMedium, medium}
use Rattle.mail_searches.specs.Searching.{Searching}
use Rattle.file_mending.specs.search_mending.Mended.{mended}
use Rattle.file_mending.specs.search_mends.Mends.{MendRun, MendedSoFar, MendsSearches}
use Rattle.file_mending.specs.search_mends.declared.all.Mended.{Mended}
use Rattle.file_mending.specs.search_mends.declared.stop.MendStop.{MendStop}
use Rattle.file_mending.specs.search_mends.declared.stop.MendStop.TheVariants.{Rows, Full, Ids, Fault}
use Rattle.file_mending.specs.search_mends.declared.stop.MendStop.TheVariants as stops
use Rattle.file_mending.specs.FileMends.{ReadsMendable, front_of}
use Rattle.file_mending.specs.file_open.Opening.{ReadsTree}
use Rattle.file_filling.specs.file_session.FileRun.{ReadsAs}
use Rattle.mail_session.specs.Info.{Says}
use Rattle.mail_session.specs.Look.{LookRefused}
use Rattle.mail_session.specs.Texts.{hex, line}
use Rattle.mail_session.specs.declared.exit.ChangedAt.{ChangedAt}
use Rattle.mail_session.specs.declared.exit.Status.{Status}
use Rattle.mail_session.specs.declared.exit.Status.TheVariants.{Done, Refused, Disk, Output, Memory, Changed}

-- ---- what is said

-- the line of how many searches were mended
abbrev pub mended_line : Mended → List ℕ
mended_line m = line (codes "mended " ++ decimal m.stale ++ codes " migrated " ++ decimal m.migrated)

-- the line of a refusal at which mending stopped; no other stop has one
abbrev pub stop_line : MendStop → List ℕ
stop_line (Rows n) = line (codes "refused rows " ++ hex n.bits)
stop_line (Full free need) = line (codes "refused full " ++ decimal free ++ codes " " ++ decimal need)
stop_line Ids = line (codes "refused ids")
stop_line other = []

-- the stop is a refusal
abbrev pub IsRefusal : MendStop → Type 0
IsRefusal (Rows n) = Unit {0}
IsRefusal (Full free need) = Unit {0}
IsRefusal Ids = Unit {0}
IsRefusal other = ⊥

-- the line of what mending came to
abbrev pub IsMendedText : (Result Mended MendStop → Type 0) → List ℕ → Type 0
IsMendedText mends text = (m : Mended) × mends (Ok m) × (text ≡ mended_line m)

-- the line of a refusal at which it stopped
abbrev pub IsStoppedText : (Result Mended MendStop → Type 0) → List ℕ → Type 0
IsStoppedText mends text = (stop : MendStop) × IsRefusal stop × mends (Err stop) × (text ≡ stop_line stop)

-- What was said of the mending before the call ended so: how many searches were mended, a refusal; where the output failed, a front of such a text; else nothing.
abbrev pub SaysMended : (Result Mended MendStop → Type 0) → Status → List ℕ → Type 0
SaysMended mends Done said = IsMendedText mends said
SaysMended mends Refused said = IsStoppedText mends said
SaysMended mends Output said = (text : List ℕ) × (k : ℕ) × (IsMendedText mends text ⊎ IsStoppedText mends text) × (said ≡ take k text)
SaysMended mends Disk said = said ≡ []
SaysMended mends Memory said = said ≡ []
SaysMended mends (Changed at) said = ⊥
SaysMended mends other said = ⊥

-- ---- how it ends

-- Mending the tree in files that are read so came to this, over files with some room. Each search that was mended took the files to the next, from those that the opening left on, as a commit of just the nodes that it puts makes them.
abbrev pub MendsIn : Bool → List ℕ → Medium → World → Searching → Result Mended MendStop → Type 0
MendsIn tidy found opened now X end =
    (room : Room) × MendsSearches (λ Y. (ReadsMendable tidy found now.here Y × HasRoom now.here room) × MendRun (IsCommitted IsMade IsWithin no_pins.opened) now.tells X opened Y (medium now)) room X end

-- Before anything is said, the image is read as the tree with the searches of the first of its own search folders mended. Later it has the disk of the end.
abbrev pub IsPartMended : Bool → List ℕ → World → World → Searching → Image → Type 0
IsPartMended tidy found old new X c = ((c.said ≡ old.here.said) × MendedSoFar (ReadsMendable tidy found c) X) ⊎ SameDisk new.here c

-- Of files that are read as the tree, with nothing pending: a stop at any moment leaves them with the first searches mended, and all of them once anything was said. What is said is what mending came to. Where all is mended, the files are read as the mended tree, each running search of which lists what filtering lists.
pub record MendsTree (tidy : Bool) (found : List ℕ) (old new : World) (X : Searching) (status : Status) : Type 0 where
  pub images : LeavesOnly old new (IsPartMended tidy found old new X)
  -- the disk that the first search finds: the store is as it was, and at most the gate was closed
  pub opened : Medium
  pub store : SameStore old.here opened.image
  pub opening : opened.written ≤ old.written + 580
  pub idle : IsShut old.here.side → SameMedium (medium old) opened
  pub said : (text : List ℕ) × SaysMended (MendsIn tidy found opened new X) status text × (new.here.said ≡ old.here.said ++ text)
  pub fresh : status ≡ Done → (Y : Searching) × (mended X ≡ Ok Y) × ReadsAs tidy found new.here Y

-- the files weren't read, as the disk failed or there was no memory: nothing was said, and a stop at any moment leaves the tree that they were read as
pub record MendUnread (old new : World) (status : Status) : Type 0 where
  pub statuses : (status ≡ Disk) ⊎ (status ≡ Memory)
  pub said : new.here.said ≡ old.here.said
  pub images : Settled old → (tidy : Bool) (X : Searching) → ReadsMendable tidy (front_of old.here) old.here X
      → LeavesOnly old new (λ c. (c.said ≡ old.here.said) × ReadsMendable tidy (front_of old.here) c X)

-- the files were read as a tree with its searches, whatever these list and whether numbers are left, and this came of its mending
pub record MendRead (old new : World) (status : Status) : Type 0 where
  pub start : Searching
  pub reads : ReadsTree old.here start
  pub stands : ReadsMendable false (front_of old.here) old.here start
  pub mends : Settled old → (tidy : Bool) → ReadsMendable tidy (front_of old.here) old.here start → MendsTree tidy (front_of old.here) old new start status

-- the files weren't refused
pub record MendServes (old new : World) (status : Status) : Type 0 where
  pub counts : NeverFall old new
  pub input : new.tells → new.input ≡ old.input
  pub statuses : (status ≡ Done) ⊎ (status ≡ Refused) ⊎ (status ≡ Disk) ⊎ (status ≡ Output) ⊎ (status ≡ Memory) ⊎ ((at : ChangedAt) × (status ≡ Changed at))
  pub disk_failed : status ≡ Disk → Rose old.disk_faults new.disk_faults
  pub output_failed : status ≡ Output → Rose old.out_faults new.out_faults
  pub told : new.tells → MendUnread old new status ⊎ MendRead old new status

-- How a call of `mend FILE` ends, over any world: the files were refused, and no tree can be read from them, whatever its searches list and its numbers are; or their searches were mended.
abbrev pub MendEnds : World → World → Status → Type 0
MendEnds old new status = LookRefused old new status ⊎ MendServes old new status

-- ---- what is said behind the mending

-- a text was said, or there was no memory for it, and nothing was asked of the world
abbrev pub SaysOrLacks : {W : Type 0} → List ℕ → Status → W → W → World → World → Status → Type 0
SaysOrLacks text meant v w mid new status = Says text meant mid new status ⊎ ((status ≡ Memory) × (w ≡ v))

-- what a stop comes to
abbrev pub SaysStop : {W : Type 0} → MendStop → W → W → World → World → Status → Type 0
SaysStop (Rows n) v w mid new status = SaysOrLacks (stop_line (Rows n)) Refused v w mid new status
SaysStop (Full free need) v w mid new status = SaysOrLacks (stop_line (Full free need)) Refused v w mid new status
SaysStop Ids v w mid new status = SaysOrLacks (stop_line Ids) Refused v w mid new status
SaysStop Fault v w mid new status = (status ≡ Disk) × (w ≡ v)
SaysStop (stops.Changed ib stored computed) v w mid new status = (status ≡ Changed (record { ib = ib; stored = stored; computed = computed })) × (w ≡ v)
SaysStop stops.Memory v w mid new status = (status ≡ Memory) × (w ≡ v)

-- what the mending comes to
abbrev pub SaysEnd : {W : Type 0} → Result Mended MendStop → W → W → World → World → Status → Type 0
SaysEnd (Ok m) v w mid new status = SaysOrLacks (mended_line m) Done v w mid new status
SaysEnd (Err stop) v w mid new status = SaysStop stop v w mid new status
