use Rattle.std.proofs.Common.{◌≡◌, ◌++◌, [], List, ℕ, drop}
use Rattle.content_plan.specs.Keep.{HasKeys, kept_from}
use Rattle.content_plan.proofs.keep.kept_list.Given as goal

-- the keys of what stays so far, and what is left to look at
abbrev pub invariant-loop-i : goal.invariant-loop-i
invariant-loop-i l =
    (ks : List ℕ) × HasKeys l.keys ks × (l.keep.items ++ kept_from l.next ks (drop l.i l.ids) (drop l.i l.was) (drop l.i l.now) ≡ kept_from l.next [] l.ids l.was l.now)
