use Rattle.std.proofs.Common.{◌≡◌, drop}
use Rattle.list_check.specs.Watching.{stray_of, watches_of}
use Rattle.list_check.proofs.watching.stray_of.Given as goal

-- each of those before has rows that name messages alone
abbrev pub invariant-loop-one : goal.invariant-loop-one
invariant-loop-one l = stray_of l.flags (watches_of l.watched) ≡ stray_of l.flags (watches_of (drop l.one-index l.watched))
