use Rattle.std.proofs.Common.{◌≡◌, ◌<◌, ◌+◌, ℕ, false, get_or, take}
use Rattle.pst_commit.specs.Held.{is_held, opened_of}
use Rattle.file_planner.proofs.freeing.held_among.Given as goal

abbrev pub invariant-loop-pin : goal.invariant-loop-pin
invariant-loop-pin l = (k : ℕ) → k < l.n → get_or l.marks k false ≡ is_held (opened_of (take l.pin-index l.pins)) (l.from + k)
