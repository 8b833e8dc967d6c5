-- The reading of the blocks that a block of level 1 lists, at one more.
use Rattle.std.proofs.Common.{◌≡◌, ℕ, ◌+◌, ◌<◌, List, ◌++◌, length, drop, get_or, Option, Result, Ok, Err, ap, ◌∙◌}
use Rattle.data_tree.specs.declared.source.TreeStop.{TreeStop}
use Rattle.data_tree.specs.Tree.{and_then}
use Rattle.data_tree.proofs.ListingLaws.{drop-here}
use Rattle.subnode_tree.specs.declared.blocks.SubEntry.{SubEntry}
use Rattle.subnode_tree.specs.declared.blocks.Listed.{Listed}
use Rattle.subnode_tree.specs.Subnodes.{part_of, parts_of}

abbrev Finder : Type 0
Finder = ℕ → Option (List ℕ)

after_part : Finder → ℕ → List Listed → Result (List SubEntry) TreeStop → Result (List SubEntry) TreeStop
after_part find level rest r = and_then r (λ here. and_then (parts_of find level rest) (λ more. Ok (here ++ more)))

parts-is : (find : Finder) (level : ℕ) (all : List Listed) (i : ℕ) (d : Listed) → i < length all
    → parts_of find level (drop i all) ≡ after_part find level (drop (i + 1) all) (part_of find level (get_or all i d))
unfolding after_part
parts-is find level all i d h = ap (parts_of find level) (drop-here all i d h)

pub parts-stop : (find : Finder) (level : ℕ) (all : List Listed) (i : ℕ) (d : Listed) (fault : TreeStop) → i < length all → part_of find level (get_or all i d) ≡ Err fault
    → parts_of find level (drop i all) ≡ Err fault
unfolding after_part
parts-stop find level all i d fault h e = parts-is find level all i d h ∙ ap (after_part find level (drop (i + 1) all)) e
