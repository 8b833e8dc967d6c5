-- What a file that grows keeps of its readings.
use Rattle.std.specs.Prelude.{◌≡◌, ◌≤◌, ℕ, List, Option, Some, Result, Ok}
use Rattle.pst_base.specs.declared.ids.Bid.{Bid}
use Rattle.data_tree.specs.declared.source.TreeStop.{TreeStop}
use Rattle.data_tree.specs.Tree.{blocks_of}

-- what is found before is found after, with the same bytes
abbrev pub FindsAll : (ℕ → Option (List ℕ)) → (ℕ → Option (List ℕ)) → Type 0
FindsAll find found = (key : ℕ) (b : List ℕ) → find key ≡ Some b → found key ≡ Some b

-- what one reading gives the other gives too
abbrev pub Gives : {Y : Type 0} → Result Y TreeStop → Result Y TreeStop → Type 0
Gives {Y} r s = (y : Y) → r ≡ Ok y → s ≡ Ok y

-- a data tree has the same data where more blocks are found and the file is longer
abbrev pub StaysRead : Type 0
StaysRead = (find found : ℕ → Option (List ℕ)) → FindsAll find found → (eof longer : ℕ) → eof ≤ longer → (bid : Bid) → Gives (blocks_of find eof bid) (blocks_of found longer bid)
