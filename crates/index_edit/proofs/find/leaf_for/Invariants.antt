use Rattle.std.proofs.Common.{◌≡◌, ◌-◌, ℕ, List, Option, Some}
use Rattle.bth_tree.specs.Records.{entry_of}
use Rattle.bth_tree.specs.Tree.{root}
use Rattle.index_edit.proofs.find.leaf_for.Given as goal

abbrev pub invariant-loop-level : goal.invariant-loop-level
invariant-loop-level g l =
    (was : List (List ℕ)) (get : ℕ → Option (List ℕ)) → g.H.HeapItems.tells l.heap was get → (recs : List (ℕ × List ℕ)) → root get 4 4 l.fn.top.level l.fn.top.root ≡ Some recs
    → (rs : List (ℕ × List ℕ)) × (root get 4 4 (l.fn.top.level - l._level) l.at ≡ Some rs) × (entry_of l.key recs ≡ entry_of l.key rs)
