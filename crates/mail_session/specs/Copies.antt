-- How a call ends that makes a copy of the files.
use Rattle.std.specs.Prelude.{◌≡◌, ◌⊎◌, ℕ, List, [], ◌++◌, take}
use Rattle.pst_outside.specs.World.{Image, World}
use Rattle.pst_outside.specs.Calls.{NeverFall, LeavesOnly, Rose}
use Rattle.mail_session.specs.Worlds.{KeepsDisk}
use Rattle.mail_session.specs.declared.exit.ChangedAt.{ChangedAt}
use Rattle.mail_session.specs.declared.exit.Status.{Status}
use Rattle.mail_session.specs.declared.exit.Status.TheVariants.{Done, Refused, Disk, Output, Memory, Changed}

-- ---- what is said

-- What was said before a call ended so, over these files and with this copy after it: that it was made; a refusal, which leaves it;
-- where the output failed, a front of such a text; else nothing. A text of a copy that was made of files is `made`, one of a refusal that holds of them `refused`.
abbrev pub SaysCopied : (Image → List ℕ → List ℕ → Type 0) → (Image → List ℕ → Type 0) → Status → Image → List ℕ → List ℕ → Type 0
SaysCopied made refused Done image copy said = made image copy said
SaysCopied made refused Refused image copy said = refused image said × (copy ≡ image.copy)
SaysCopied made refused Output image copy said = (text : List ℕ) × (k : ℕ) × (made image copy text ⊎ (refused image text × (copy ≡ image.copy))) × (said ≡ take k text)
SaysCopied made refused Disk image copy said = said ≡ []
SaysCopied made refused Memory image copy said = said ≡ []
SaysCopied made refused (Changed at) image copy said = ⊥
SaysCopied made refused other image copy said = ⊥

-- ---- how it ends

-- both files are the same
pub record SameFiles (old new : Image) : Type 0 where
  pub main : new.main ≡ old.main
  pub side : new.side ≡ old.side

-- the image has the two files as the world held them, or as a crash might have left them of it
abbrev pub HasFilesOf : World → Image → Type 0
HasFilesOf world c = SameFiles world.here c ⊎ ((d : Image) × world.may_leave d × SameFiles d c)

-- What such a call has to leave: Main and Side are the same, and at each moment they are as they were before.
pub record KeepsFiles (old new : World) : Type 0 where
  pub counts : NeverFall old new
  pub told : new.tells → old.tells
  pub same : new.tells → SameFiles old.here new.here
  pub files : LeavesOnly old new (HasFilesOf old)

-- How such a call ends, over any world. Where the world tells, what it says is that the copy was made, which was stable before that was
-- said, or a refusal that holds of the files.
pub record CopyEnds (made : Image → List ℕ → List ℕ → Type 0) (refused : Image → List ℕ → Type 0) (old new : World) (status : Status) : Type 0 where
  pub keeps : KeepsFiles old new
  -- a copy that has bytes stays as it is
  pub occupied : old.tells → (old.here.copy ≡ [] → ⊥) → KeepsDisk old new
  pub input : new.tells → new.input ≡ old.input
  pub disk_failed : status ≡ Disk → Rose old.disk_faults new.disk_faults
  pub output_failed : status ≡ Output → Rose old.out_faults new.out_faults
  pub statuses : (status ≡ Done) ⊎ (status ≡ Refused) ⊎ (status ≡ Disk) ⊎ (status ≡ Output) ⊎ (status ≡ Memory) ⊎ ((at : ChangedAt) × (status ≡ Changed at))
  pub said : new.tells → (text : List ℕ) × SaysCopied made refused status old.here new.here.copy text × (new.here.said ≡ old.here.said ++ text)
  -- a stop once something of that was said leaves the whole copy
  pub stable : status ≡ Done → (c : Image) → new.left_since old.moment c → (c.said ≡ old.here.said) ⊎ (c.copy ≡ new.here.copy)
