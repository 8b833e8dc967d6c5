use Rattle.std.proofs.Common.{◌≡◌, ◌++◌, map, take}
use Rattle.data_tree.proofs.PieceLaws.{joined}
use Rattle.file_layout.specs.Trees.{page_place}
use Rattle.compactor.proofs.placing.push_levels.Given as goal

abbrev pub invariant-loop-level : goal.invariant-loop-level
invariant-loop-level l = l.places.items ≡ l.initial.places.items ++ map page_place (joined (take l.level-index l.levels))
