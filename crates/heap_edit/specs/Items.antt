-- The items of a block of a heap, one after the other, and a block that is laid of items.
use Rattle.std.specs.Prelude.{ℕ, zero, suc, ◌≡◌, ◌<◌, ◌^◌, true, false, List, [], ◌∷◌, Result, Ok, Err, slice_range}
use Rattle.pst_base.specs.declared.stops.MemOr.{MemOr}
use Rattle.pst_base.specs.declared.stops.MemOr.TheVariants.{Memory, Refused}
use Rattle.heap_on_node.specs.Heap.{count_of, offset_of}
use Rattle.heap_on_node.specs.Layout.{block}
use Rattle.heap_on_node.specs.Packing.{fit_block}

-- n items of a block, behind the first i
abbrev pub items_from : List ℕ → ℕ → ℕ → List (List ℕ)
items_from b i zero = []
items_from b i (suc n) = slice_range b (offset_of b i) (offset_of b (suc i)) ∷ items_from b (suc i) n

-- the items of a block
unfoldable pub items_of : List ℕ → List (List ℕ)
items_of b = items_from b 0 (count_of b)

-- new is block k of a heap of this client, with this root and these items, which fit it
pub record IsLaid (k client root : ℕ) (xs : List (List ℕ)) (new : List ℕ) : Type 0 where
  pub fit : fit_block k xs ≡ true
  pub laid : new ≡ block k client root xs
  pub low : root < 2 ^ 32

-- unless memory ran out, block k was laid of these items, or they don't fit it
abbrev pub Lays : {F : Type 0} → ℕ → ℕ → ℕ → List (List ℕ) → Result (List ℕ) (MemOr F) → Type 0
Lays k client root xs (Ok new) = IsLaid k client root xs new
Lays k client root xs (Err Memory) = Unit {0}
Lays k client root xs (Err (Refused stop)) = fit_block k xs ≡ false
