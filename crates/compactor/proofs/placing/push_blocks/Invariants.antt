use Rattle.std.proofs.Common.{◌≡◌, ◌++◌, map, take}
use Rattle.file_layout.specs.Nodes.{place_of}
use Rattle.compactor.proofs.placing.push_blocks.Given as goal

abbrev pub invariant-loop-entry : goal.invariant-loop-entry
invariant-loop-entry l = l.places.items ≡ l.initial.places.items ++ map place_of (take l.entry-index l.blocks)
