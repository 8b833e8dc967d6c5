-- What a call leaves that writes to Copy alone.
use Rattle.std.specs.Prelude.{◌≡◌, ◌⊎◌}
use Rattle.pst_outside.specs.World.{Image, World}
use Rattle.pst_outside.specs.Calls.{NeverFall, LeavesOnly}

-- all but Copy is the same
pub record SameSource (old new : Image) : Type 0 where
  pub main : new.main ≡ old.main
  pub side : new.side ≡ old.side
  pub said : new.said ≡ old.said

-- the image has Main and Side as the world held them, or as a crash might have left them of it
abbrev pub HasSourceOf : World → Image → Type 0
HasSourceOf world c = SameSource world.here c ⊎ ((d : Image) × world.may_leave d × SameSource d c)

-- Nothing changed but Copy: Main and Side are the same, and at each moment they are as they were before.
pub record KeepsSource (old new : World) : Type 0 where
  pub counts : NeverFall old new
  pub told : new.tells → old.tells
  pub input : new.tells → new.input ≡ old.input
  pub same : new.tells → SameSource old.here new.here
  pub disk : LeavesOnly old new (HasSourceOf old)

-- a crash at this moment leaves Copy as the world holds it
abbrev pub IsStable : World → Type 0
IsStable world = (c : Image) → world.may_leave c → c.copy ≡ world.here.copy
