-- The bytes that ids of heap items and of subnodes name.
use Rattle.std.specs.Prelude.{ℕ, ◌≡◌, zero, suc, ◌+◌, ◌/◌, ◌%◌, ◌==◌, if◌then◌else◌, List, [], ◌∷◌, length, take, drop, Option, Some}
use Rattle.std.specs.List.{concat}
use Rattle.std.specs.Option.{option_map}

-- the bytes that an id of an item or a subnode names; 0 names no bytes
unfoldable pub named : (ℕ → Option (List ℕ)) → (ℕ → Option (List (List ℕ))) → ℕ → Option (List ℕ)
named get sub id = if id == 0 then Some [] else (if id % 32 == 0 then get id else option_map concat (sub id))

-- what was found is found still
abbrev pub KeepsData : (ℕ → Option (List (List ℕ))) → (ℕ → Option (List (List ℕ))) → Type 0
KeepsData old new = (nid : ℕ) (blocks : List (List ℕ)) → old nid ≡ Some blocks → new nid ≡ Some blocks

-- the first n blocks of some bytes, of 8176 bytes each but the last
abbrev pub pieces_of : ℕ → List ℕ → List (List ℕ)
pieces_of zero b = []
pieces_of (suc n) b = take 8176 b ∷ pieces_of n (drop 8176 b)

-- the blocks of some bytes
unfoldable pub pieces : List ℕ → List (List ℕ)
pieces b = pieces_of ((length b + 8175) / 8176) b
