-- How a heap is filled: its items group by group, one group a block, and a new block only for an item that the last has no room for.
use Rattle.std.specs.Prelude.{ℕ, ◌≡◌, ◌≢◌, ◌+◌, ◌-◌, ◌*◌, ◌%◌, ◌<◌, ◌≤◌, ◌==◌, ◌&&◌, nat_lt, nat_le, if◌then◌else◌, Bool, true, false, List, [], ◌∷◌, ◌++◌, length, get_or, Option, Some, None, slice_get, slice_range, replicate}
use Rattle.std.specs.List.{concat}
use Rattle.heap_on_node.specs.Heap.{map_of, count_of, offset_of, block_of, index_of, item}

-- how many bytes stand before the items of block k
abbrev pub head_size : ℕ → ℕ
head_size k = if k == 0 then 12 else if k % 128 == 8 then 66 else 2

-- where the page map of block k stands behind n bytes of items: at an even place
abbrev pub map_place : ℕ → ℕ → ℕ
map_place k n = head_size k + n + n % 2

-- block k has room for so many items of n bytes together: a heap id has 11 bits for an item's number, and a block at most 8176 bytes
abbrev pub has_room : ℕ → ℕ → ℕ → Bool
has_room k count n = nat_le count 2047 && nat_le (map_place k n + 6 + 2 * count) 8176

-- these items fit block k
abbrev pub fit_block : ℕ → List (List ℕ) → Bool
fit_block k items = has_room k (length items) (length (concat items))

-- each group fits its block, and none but the first is empty; the first item of a group would not have fitted into the block before
pub record IsPacked (groups : List (List (List ℕ))) : Type 0 where
  pub fit : (k : ℕ) → k < length groups → fit_block k (get_or groups k []) ≡ true
  pub filled : (k : ℕ) → 0 < k → k < length groups → 0 < length (get_or groups k [])
  pub tight : (k : ℕ) → k + 1 < length groups → fit_block k (get_or groups k [] ++ get_or (get_or groups (k + 1) []) 0 [] ∷ []) ≡ false

-- the item under a heap id among the groups, if there is one
unfoldable pub item_in : List (List (List ℕ)) → ℕ → Option (List ℕ)
item_in groups hid =
    if (hid % 32 == 0) && nat_lt 0 (index_of hid)
    then slice_get (get_or groups (block_of hid) []) (index_of hid - 1)
    else None

-- block k has room for one item more beside these, whatever its size
abbrev pub has_half : ℕ → List (List ℕ) → Bool
has_half k items = has_room k (length items + 1) (length (concat items) + 3580)

-- the half blocks that are taken: two for each block, or one for the last while it has room for any item
unfoldable pub halves : List (List (List ℕ)) → ℕ
halves groups = 2 * length groups - (if has_half (length groups - 1) (get_or groups (length groups - 1) []) then 1 else 0)

-- what an item counts for: twice its bytes, but 4 at least
abbrev pub spend : List ℕ → ℕ
spend x = 4 + 2 * (length x - 2)

-- what the items of a group count for
abbrev pub spread_of : List (List ℕ) → ℕ
spread_of [] = 0
spread_of (x ∷ xs) = spend x + spread_of xs

-- what all items count for
abbrev pub spread : List (List (List ℕ)) → ℕ
spread [] = 0
spread (g ∷ gs) = spread_of g + spread gs

-- the new groups have x under a heap id that was free, all other items as before, and at most one block more; x takes half a block at most
pub record Adds (old : List (List (List ℕ))) (x : List ℕ) (new : List (List (List ℕ))) (hid : ℕ) : Type 0 where
  pub here : item_in new hid ≡ Some x
  pub free : item_in old hid ≡ None
  pub others : (h : ℕ) → h ≢ hid → item_in new h ≡ item_in old h
  pub blocks : length new ≤ length old + 1
  pub half : halves new ≤ halves old + 1
  pub spent : spread new ≡ spread old + spend x

-- no block's first item would have fitted into the block before it
abbrev pub PacksTight : List (List ℕ) → Type 0
PacksTight blocks = (k : ℕ) (x : List ℕ) → item blocks ((k + 1) * 65536 + 32) ≡ Some x
    → let b = get_or blocks k [] in
    has_room k (count_of b + 1) (offset_of b (count_of b) - offset_of b 0 + length x) ≡ false

-- where the fill levels of block k begin
abbrev pub levels_at : ℕ → ℕ
levels_at k = if k == 0 then 8 else 2

-- block k is no longer than a block may be, its page map stands at an even place, and its fill levels, which end where its items begin, are all 0
pub record IsPlain (k : ℕ) (b : List ℕ) : Type 0 where
  pub size : length b ≤ 8176
  pub even : map_of b % 2 ≡ 0
  pub levels : slice_range b (levels_at k) (head_size k) ≡ replicate (head_size k - levels_at k) 0
