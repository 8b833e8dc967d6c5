use Rattle.std.proofs.Common.{false, arith}
use Rattle.std.proofs.lemmas.List.{get_or-replicate}
use Rattle.file_planner.proofs.freeing.held_among.Goals as goal

pub loop-pin-init : goal.loop-pin-init
loop-pin-init c = λ k lt. let short = c.requires.short in get_or-replicate 128 k false false (omega (arith, lt, short))
