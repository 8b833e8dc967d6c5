use Rattle.std.proofs.Common.{◌≡◌, drop, map}
use Rattle.bth_tree.specs.Answers.{seen}
use Rattle.bth_tree.specs.Records.{within}
use Rattle.bth_tree.proofs.read.lie_within.Given as goal

abbrev pub invariant-loop-i : goal.invariant-loop-i
invariant-loop-i l =
    within l.least l.high (drop l.i (map seen l.records)) ≡ within l.low l.high (drop l.from (map seen l.records))
