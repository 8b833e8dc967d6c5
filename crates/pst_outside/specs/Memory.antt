-- A world in memory.
use Rattle.std.specs.Prelude.{◌≡◌, ℕ, List, [], Bool, false, nat_le, Option, Some, None}
use Rattle.pst_outside.specs.World.{Image, World}
use Rattle.pst_outside.specs.Calls.{Settled}
use Rattle.pst_outside.specs.Replay.{Disk, PartState, stable}
use Rattle.pst_outside.specs.declared.crash.Replayed.{Replayed}
use Rattle.pst_outside.specs.declared.outside.Part.{Part}
use Rattle.pst_outside.specs.declared.outside.Part.TheVariants.{Main, Side, Copy}
use Rattle.pst_outside.specs.declared.parts.Parts.{Parts}

-- no device has failed so far, and no write was asked for
pub record NoFaults (world : World) : Type 0 where
  pub in_faults : world.in_faults ≡ 0
  pub out_faults : world.out_faults ≡ 0
  pub disk_faults : world.disk_faults ≡ 0
  pub written : world.written ≡ 0

-- The world tells that it holds these bytes and has this input, with nothing pending, nothing said and no fault.
pub record Starts (input main side copy : List ℕ) (world : World) : Type 0 where
  pub faults : NoFaults world
  pub tells : world.tells
  pub input_left : world.input ≡ input
  pub main_bytes : world.here.main ≡ main
  pub side_bytes : world.here.side ≡ side
  pub copy_bytes : world.here.copy ≡ copy
  pub said : world.here.said ≡ []
  pub settled : Settled world

-- the disk is dead from one of the calls before this number on, or from this one
abbrev pub is_dead : Option ℕ → ℕ → Bool
is_dead None number = false
is_dead (Some from) number = nat_le from number

-- a disk with these parts, all stable, and nothing said
abbrev pub start : Parts → Disk
start parts = record { main = stable parts.main.items; side = stable parts.side.items; copy = stable parts.copy.items; said = [] }

-- the bytes of one of the parts
abbrev pub bytes_of : Part → Parts → List ℕ
bytes_of Main parts = parts.main.items
bytes_of Side parts = parts.side.items
bytes_of Copy parts = parts.copy.items

-- the parts and what was said, as an image
abbrev pub image_of : Parts → List ℕ → Image
image_of parts spoken = record { main = parts.main.items; side = parts.side.items; copy = parts.copy.items; said = spoken }

-- the image with other bytes in one part
abbrev pub with_content : Part → List ℕ → Image → Image
with_content Main bytes image = record { main = bytes; side = image.side; copy = image.copy; said = image.said }
with_content Side bytes image = record { main = image.main; side = bytes; copy = image.copy; said = image.said }
with_content Copy bytes image = record { main = image.main; side = image.side; copy = bytes; said = image.said }

-- a part as its events have left it
abbrev pub state_of : Replayed → PartState
state_of replayed = record { synced = replayed.synced.items; now = replayed.now.items; ranges = replayed.ranges.items }
