-- What the answers about a file's blocks say.
use Rattle.std.specs.Prelude.{◌≡◌, ℕ, ◌+◌, ◌%◌, ◌≤◌, true, List, length, Option, Result, Err}
use Rattle.pst_base.specs.declared.stops.MemOr.{MemOr}
use Rattle.pst_base.specs.declared.stops.MemOr.TheVariants.{Memory, Refused}
use Rattle.pst_outside.specs.World.{World}
use Rattle.btree_pages.specs.declared.entry.BlockEntry.{BlockEntry}
use Rattle.block_frame.specs.Size.{disk_size_of}
use Rattle.file_blocks.specs.declared.check.BlockRefusal.{BlockRefusal}
use Rattle.file_blocks.specs.declared.check.BlockStop.{BlockStop}
use Rattle.file_blocks.specs.declared.check.BlockStop.TheVariants.{Failed, Refused as Faults}
use Rattle.file_blocks.specs.Blocks.{file_of, AllStand, rise_from, found_in}

-- a stop that isn't the disk's is what is wrong with the block
abbrev pub StopsBlock : BlockStop → Result (List ℕ) BlockRefusal → Type 0
StopsBlock Failed read = Unit {0}
StopsBlock (Faults refusal) read = read ≡ Err refusal

abbrev pub StopsRead : MemOr BlockStop → Result (List ℕ) BlockRefusal → Type 0
StopsRead Memory read = Unit {0}
StopsRead (Refused stop) read = StopsBlock stop read

-- the entry's block may stand where the entry says, in a file of eof bytes
pub record IsPlaced (eof : ℕ) (e : BlockEntry) : Type 0 where
  pub short : e.cb ≤ 8176
  pub above : 0x4400 ≤ e.at.ib
  pub start : e.at.ib % 64 ≡ 0
  pub before : e.at.ib + disk_size_of e.cb ≤ eof

-- the world tells a file that ends at eof or later
pub record Tells (world : World) (eof : ℕ) : Type 0 where
  pub tells : world.tells
  pub whole : eof ≤ length world.here.main

-- the world tells a file in which each of the entries names a whole block, their keys ascend, and find gives the data of each
pub record Holds (world : World) (eof : ℕ) (entries : List BlockEntry) (find : ℕ → Option (List ℕ)) : Type 0 where
  pub told : Tells world eof
  pub stand : AllStand (file_of world.here) eof entries
  pub ascend : rise_from 0 entries ≡ true
  pub found : (key : ℕ) → find key ≡ found_in (file_of world.here) entries key
