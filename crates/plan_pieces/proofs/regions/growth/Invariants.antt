use Rattle.std.proofs.Common.{◌≡◌, ◌-◌}
use Rattle.plan_pieces.specs.Growth.{regions_from, regions_in}
use Rattle.plan_pieces.proofs.regions.growth.Given as goal

abbrev pub invariant-loop-region : goal.invariant-loop-region
invariant-loop-region l = l.pieces.items ≡ regions_from l.eof (regions_in l.eof) (l.region - regions_in l.eof)
