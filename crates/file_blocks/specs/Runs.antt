-- Runs of a file, and the blocks that stand in them.
use Rattle.std.specs.Prelude.{◌≡◌, ℕ, ◌+◌, ◌<◌, ◌≤◌, List, length, take, drop, get_or}
use Rattle.block_frame.specs.Size.{disk_size_of}
use Rattle.btree_pages.specs.declared.entry.BlockEntry.{BlockEntry}
use Rattle.file_blocks.specs.declared.runs.Run.{Run}
use Rattle.file_blocks.specs.Stops.{IsPlaced}

-- the block of the entry stands in the run
pub record IsIn (run : Run) (e : BlockEntry) : Type 0 where
  pub short : e.cb ≤ 8176
  pub begins : run.from ≤ e.at.ib
  pub ends : e.at.ib + disk_size_of e.cb ≤ run.from + run.len

-- the run lies behind the header and before eof, and the blocks of its entries, the first of these, may stand where they say and stand in it
pub record IsRun (eof : ℕ) (entries : List BlockEntry) (run : Run) : Type 0 where
  pub some : 0 < run.count
  pub count : run.count ≤ length entries
  pub above : 0x4400 ≤ run.from
  pub short : run.len ≤ 65536
  pub before : run.from + run.len ≤ eof
  pub placed : (k : ℕ) (d : BlockEntry) → k < run.count → IsPlaced eof (get_or entries k d)
  pub within : (k : ℕ) (d : BlockEntry) → k < run.count → IsIn run (get_or entries k d)

-- the bytes are those that the file has there
abbrev pub IsOf : List ℕ → Run → List ℕ → Type 0
IsOf file run bytes = bytes ≡ take run.len (drop run.from file)
