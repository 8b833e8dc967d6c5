-- How long the data of a tree is.
use Rattle.std.specs.Prelude.{ℕ, List, length, Result, Ok}
use Rattle.std.specs.List.{sum_by}
use Rattle.data_tree.specs.declared.source.TreeStop.{TreeStop}
use Rattle.data_tree.specs.Tree.{and_then}

-- how many bytes blocks have together
abbrev pub bytes_in : List (List ℕ) → ℕ
bytes_in blocks = sum_by length blocks

-- the same of a reading's blocks, or the reading's fault
abbrev pub measured : Result (List (List ℕ)) TreeStop → Result ℕ TreeStop
measured blocks = and_then blocks (λ found. Ok (bytes_in found))
