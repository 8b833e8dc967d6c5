use Rattle.std.proofs.Common.{◌≡◌, take}
use Rattle.plan_drawing.specs.Freed.{all_behind}
use Rattle.plan_drawing.proofs.freed.all_behind.Given as goal

abbrev pub invariant-loop-place : goal.invariant-loop-place
invariant-loop-place l = l.behind.items ≡ all_behind (take l.place-index l.places)
