use Rattle.std.proofs.Common.{◌≡◌, drop}
use Rattle.list_check.specs.Watching.{stale_of, watches_of}
use Rattle.list_check.proofs.watching.stale_of.Given as goal

-- none of those before differs
abbrev pub invariant-loop-one : goal.invariant-loop-one
invariant-loop-one g l = stale_of l.places (watches_of l.watched) l.fn.id.bits l.message ≡ stale_of l.places (watches_of (drop l.one-index l.watched)) l.fn.id.bits l.message
