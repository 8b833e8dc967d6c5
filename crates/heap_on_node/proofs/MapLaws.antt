-- The offsets of a page map.
use Rattle.std.proofs.Common.{◌≡◌, ◌≤◌, ◌<◌, ◌+◌, ◌-◌, ℕ, zero, suc, List, subst, arith}
use Rattle.heap_on_node.specs.Heap.{HasMap, count_of, map_of, offset_of}

-- offsets rise over any number of items
rises : (b : List ℕ) → HasMap b → (n i : ℕ) → i + n ≤ count_of b → offset_of b i ≤ offset_of b (i + n)
rises b h zero i within = let e : i ≡ i + 0 = omega arith in subst (λ (k : ℕ). offset_of b i ≤ offset_of b k) e (omega arith)
rises b h (suc n) i within =
    let low : offset_of b i ≤ offset_of b (i + n) = rises b h n i (omega arith) in
    let next : offset_of b (i + n) ≤ offset_of b (i + n + 1) = h.ordered (i + n) (omega arith) in
    let e : i + n + 1 ≡ i + suc n = omega arith in
    let all : offset_of b i ≤ offset_of b (i + n + 1) = omega arith in
    subst (λ (k : ℕ). offset_of b i ≤ offset_of b k) e all

-- each offset is at most the place of the page map
pub offset-within : (b : List ℕ) (i : ℕ) → HasMap b → i ≤ count_of b → offset_of b i ≤ map_of b
offset-within b i h high =
    let top : offset_of b i ≤ offset_of b (i + (count_of b - i)) = rises b h (count_of b - i) i (omega arith) in
    let e : i + (count_of b - i) ≡ count_of b = omega arith in
    let last : offset_of b i ≤ offset_of b (count_of b) = subst (λ (k : ℕ). offset_of b i ≤ offset_of b k) e top in
    let ends = h.ends in
    omega arith

-- an item doesn't end before it begins
pub offset-order : (b : List ℕ) (i : ℕ) → HasMap b → 0 < i → i ≤ count_of b → offset_of b (i - 1) ≤ offset_of b i
offset-order b i h low high =
    let e : i - 1 + 1 ≡ i = omega arith in
    subst (λ (k : ℕ). offset_of b (i - 1) ≤ offset_of b k) e (h.ordered (i - 1) (omega arith))
