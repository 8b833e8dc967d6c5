-- What a file that grows keeps of its readings of subnodes.
use Rattle.std.specs.Prelude.{◌≤◌, ℕ, List, Option}
use Rattle.pst_base.specs.declared.ids.Bid.{Bid}
use Rattle.data_tree.specs.Grown.{FindsAll, Gives}
use Rattle.subnode_tree.specs.Subnodes.{subs_of}

-- subnodes are the same where more blocks are found and the file is longer
abbrev pub SubsStayRead : Type 0
SubsStayRead = (find found : ℕ → Option (List ℕ)) → FindsAll find found → (eof longer : ℕ) → eof ≤ longer → (bid : Bid) → Gives (subs_of find eof bid) (subs_of found longer bid)
