-- The BTree on a heap ([MS-PST] 2.3.2), as a reading of the items that get finds under heap ids.
use Rattle.std.specs.Prelude.{ℕ, zero, suc, ◌^◌, ◌==◌, ◌&&◌, nat_le, if◌then◌else◌, Bool, List, [], ◌∷◌, ◌++◌, length, Option, Some, None}
use Rattle.std.specs.Option.{option_and_then}
use Rattle.byteorder.specs.Endian.{little_number}
use Rattle.pst_base.specs.Fields.{number_at}
use Rattle.bth_tree.specs.Records.{ordered, whole, within}

-- the records, if there are any
abbrev pub filled : List (ℕ × List ℕ) → Option (List (ℕ × List ℕ))
filled [] = None
filled (r ∷ rs) = Some (r ∷ rs)

-- the records of a leaf
unfoldable pub leaf : (ℕ → Option (List ℕ)) → ℕ → ℕ → ℕ → Option (List (ℕ × List ℕ))
leaf get k e hid = option_and_then (ordered k e 0 (2 ^ 32)) (get hid)

-- the key of the first pair, or what is above each key
abbrev pub end_of : List (ℕ × List ℕ) → ℕ
end_of [] = 2 ^ 32
end_of (p ∷ ps) = p.0

-- the records of the children of these pairs of key and heap id, one behind the other; the keys below a pair are at least its key and below the next pair's
abbrev pub gather : (ℕ → Option (List (ℕ × List ℕ))) → List (ℕ × List ℕ) → Option (List (ℕ × List ℕ))
gather child [] = Some []
gather child (p ∷ ps) =
    option_and_then (λ (first : List (ℕ × List ℕ)).
    option_and_then (λ (others : List (ℕ × List ℕ)). if within p.0 (end_of ps) first then Some (first ++ others) else None) (gather child ps))
    (child (little_number 4 p.1))

-- the records of the children that an inner item's pairs name
unfoldable pub children : (ℕ → Option (List (ℕ × List ℕ))) → ℕ → List ℕ → Option (List (ℕ × List ℕ))
children child k x = option_and_then (gather child) (whole k 4 x)

-- the records below an item of a level, of which there are some
unfoldable pub tree : (ℕ → Option (List ℕ)) → ℕ → ℕ → ℕ → ℕ → Option (List (ℕ × List ℕ))
tree get k e zero hid = option_and_then filled (leaf get k e hid)
tree get k e (suc n) hid = option_and_then (λ (x : List ℕ). option_and_then filled (children (tree get k e n) k x)) (get hid)

-- the records below the root, which may have none if it is a leaf
unfoldable pub root : (ℕ → Option (List ℕ)) → ℕ → ℕ → ℕ → ℕ → Option (List (ℕ × List ℕ))
root get k e zero hid = leaf get k e hid
root get k e (suc n) hid = tree get k e (suc n) hid

-- the item is the header of a tree with keys of k bytes and entries of e bytes
abbrev pub is_header : ℕ → ℕ → List ℕ → Bool
is_header k e x = nat_le 8 (length x) && (number_at 1 0 x == 0xB5 && (number_at 1 1 x == k && number_at 1 2 x == e))

-- the records of the tree that a header begins; a root of 0 is none
unfoldable pub under : (ℕ → Option (List ℕ)) → ℕ → ℕ → List ℕ → Option (List (ℕ × List ℕ))
under get k e x = if number_at 4 4 x == 0 then Some [] else root get k e (number_at 1 3 x) (number_at 4 4 x)

-- the records of the tree under a heap id, with keys of k bytes and entries of e bytes
unfoldable pub bth : (ℕ → Option (List ℕ)) → ℕ → ℕ → ℕ → Option (List (ℕ × List ℕ))
bth get hid k e = option_and_then (λ (x : List ℕ). if is_header k e x then under get k e x else None) (get hid)

-- the records of the tree under a heap id, with the key length, from 1 to 4, and the entry length that its header gives
unfoldable pub any_bth : (ℕ → Option (List ℕ)) → ℕ → Option (List (ℕ × List ℕ))
any_bth get hid =
    option_and_then (λ (x : List ℕ). if nat_le 1 (number_at 1 1 x) && nat_le (number_at 1 1 x) 4 then bth get hid (number_at 1 1 x) (number_at 1 2 x) else None) (get hid)
