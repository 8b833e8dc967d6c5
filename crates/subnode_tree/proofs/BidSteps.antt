-- The ids of the data blocks of subnodes, at one subnode more.
use Rattle.std.proofs.Common.{◌≡◌, ℕ, ◌+◌, ◌<◌, List, [], ◌∷◌, length, drop, get_or, Option, Result, Ok, Err, ap, ◌∙◌}
use Rattle.pst_base.specs.declared.ids.Bid.{Bid}
use Rattle.data_tree.specs.declared.source.TreeStop.{TreeStop}
use Rattle.data_tree.specs.Tree.{and_then}
use Rattle.data_tree.proofs.ListingLaws.{drop-here}
use Rattle.data_tree.proofs.Steps.{before}
use Rattle.subnode_tree.specs.declared.blocks.SubEntry.{SubEntry}
use Rattle.subnode_tree.specs.Bids.{bids_each, entry_bids}

abbrev Finder : Type 0
Finder = ℕ → Option (List ℕ)

after_entry : Finder → List SubEntry → Result (List (Option Bid)) TreeStop → Result (List (List (Option Bid))) TreeStop
after_entry find rest r = and_then r (λ here. and_then (bids_each find rest) (λ more. Ok (here ∷ more)))

bids-is : (find : Finder) (es : List SubEntry) (i : ℕ) (d : SubEntry) → i < length es → bids_each find (drop i es) ≡ after_entry find (drop (i + 1) es) (entry_bids find (get_or es i d))
unfolding after_entry
bids-is find es i d h = ap (bids_each find) (drop-here es i d h)

pub bids-next : (find : Finder) (es : List SubEntry) (here : List (Option Bid)) (i : ℕ) (d : SubEntry) → i < length es → entry_bids find (get_or es i d) ≡ Ok here
    → bids_each find (drop i es) ≡ before (here ∷ []) (bids_each find (drop (i + 1) es))
unfolding after_entry
bids-next find es here i d h e = bids-is find es i d h ∙ ap (after_entry find (drop (i + 1) es)) e

pub bids-stop : (find : Finder) (es : List SubEntry) (i : ℕ) (d : SubEntry) (fault : TreeStop) → i < length es → entry_bids find (get_or es i d) ≡ Err fault → bids_each find (drop i es) ≡ Err fault
unfolding after_entry
bids-stop find es i d fault h e = bids-is find es i d h ∙ ap (after_entry find (drop (i + 1) es)) e
