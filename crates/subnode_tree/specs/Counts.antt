-- How many subnodes a node has.
use Rattle.std.specs.Prelude.{ℕ, ◌==◌, List, length, count_by, Result, Ok}
use Rattle.pst_base.specs.Flat.{Flat}
use Rattle.data_tree.specs.declared.source.TreeStop.{TreeStop}
use Rattle.data_tree.specs.Tree.{and_then}

-- how many of these stand directly in the node
abbrev pub directs : List Flat → ℕ
directs subs = count_by (λ (sub : Flat). sub.level == 0) subs

-- the same of a reading's subnodes, or the reading's fault
abbrev pub counted : Result (List Flat) TreeStop → Result ℕ TreeStop
counted subs = and_then subs (λ found. Ok (directs found))

-- how many there are at all levels, or the reading's fault
abbrev pub all_counted : Result (List Flat) TreeStop → Result ℕ TreeStop
all_counted subs = and_then subs (λ found. Ok (length found))
