use Rattle.std.proofs.Common.{◌≡◌, drop, max}
use Rattle.file_layout.specs.Numbers.{past_blocks, counted_to}
use Rattle.file_scan.proofs.next.next_block.Given as goal

abbrev pub invariant-loop-entry : goal.invariant-loop-entry
invariant-loop-entry l = counted_to (past_blocks l.next (drop l.entry-index l.blocks)) ≡ counted_to (past_blocks (max l.header.next_block 4) l.blocks)
