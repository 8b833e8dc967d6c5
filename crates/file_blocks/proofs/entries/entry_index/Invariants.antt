use Rattle.std.proofs.Common.{◌-◌, ◌≡◌, true, ◌≤◌, length}
use Rattle.file_blocks.specs.Blocks.{rise_from}
use Rattle.file_blocks.proofs.EntryLaws.{Between}
use Rattle.file_blocks.proofs.entries.entry_index.Given as goal

abbrev pub invariant-loop-low : goal.invariant-loop-low
invariant-loop-low l = (l.high ≤ length l.entries) × (rise_from 0 l.entries ≡ true → Between l.entries l.key l.low l.high)

abbrev pub decreases-loop-low : goal.decreases-loop-low
decreases-loop-low l = l.high - l.low
