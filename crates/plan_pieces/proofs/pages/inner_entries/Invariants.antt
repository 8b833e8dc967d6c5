use Rattle.std.proofs.Common.{◌≡◌, take}
use Rattle.plan_pieces.specs.Names.{inner_entries, named}
use Rattle.plan_pieces.proofs.pages.inner_entries.Given as goal

abbrev pub invariant-loop-child : goal.invariant-loop-child
invariant-loop-child l = l.entries.items ≡ inner_entries (named l.first l.places) (take l.child-index l.children)
