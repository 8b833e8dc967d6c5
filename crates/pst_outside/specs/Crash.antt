-- What a crash may leave of one part of a world in memory.
use Rattle.pst_outside.specs.Memory.{start}
use Rattle.pst_outside.specs.Replay.{PartState, part_of, replay}
use Rattle.pst_outside.specs.declared.outside.Part.{Part}
use Rattle.pst_outside.specs.declared.memory.MemWorld.{MemWorld}

-- what is stable of a part, what a read gives, and the ranges written since the last sync
abbrev pub state_in : Part → MemWorld → PartState
state_in part world = part_of part (replay (start world.first) world.events.items)
