-- What a session leaves of the world: the disk as it was.
use Rattle.std.specs.Prelude.{◌≡◌, ◌⊎◌}
use Rattle.pst_outside.specs.World.{Image, World, SameDisk}
use Rattle.pst_outside.specs.Calls.{NeverFall, LeavesOnly}

-- the image has a disk that the world held, or that a crash might have left of it
abbrev pub HasDiskOf : World → Image → Type 0
HasDiskOf world c = SameDisk world.here c ⊎ ((d : Image) × world.may_leave d × SameDisk d c)

-- Nothing changed but the input that is left and what has been said: nothing was written, the disk is the same, and at each moment it
-- is one that was there before.
pub record KeepsDisk (old new : World) : Type 0 where
  pub counts : NeverFall old new
  pub written : new.written ≡ old.written
  pub told : new.tells → old.tells
  pub same : new.tells → SameDisk old.here new.here
  pub disk : LeavesOnly old new (HasDiskOf old)
