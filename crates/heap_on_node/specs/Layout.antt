-- The bytes of the blocks of a heap.
use Rattle.std.specs.Prelude.{ℕ, ◌+◌, ◌-◌, ◌%◌, ◌==◌, if◌then◌else◌, List, [], ◌∷◌, ◌++◌, length, take, drop, replicate, map}
use Rattle.std.specs.List.{concat, flat_map}
use Rattle.byteorder.specs.Endian.{little_bytes}
use Rattle.heap_on_node.specs.Packing.{head_size, map_place}

-- the sum of some sizes
abbrev pub total : List ℕ → ℕ
total [] = 0
total (n ∷ ns) = n + total ns

-- where items of these sizes begin, one behind the other, and where the last ends
abbrev pub offsets : ℕ → List ℕ → List ℕ
offsets from [] = from ∷ []
offsets from (n ∷ ns) = from ∷ offsets (from + n) ns

-- how many of some sizes are 0
abbrev pub free_among : List ℕ → ℕ
free_among [] = 0
free_among (n ∷ ns) = (if n == 0 then 1 else 0) + free_among ns

-- the page map of items of these sizes: their number, that of free ones, which have no bytes, and the offsets
unfoldable pub page_map : ℕ → List ℕ → List ℕ
page_map from sizes = little_bytes 2 (length sizes) ++ (little_bytes 2 (free_among sizes) ++ flat_map (little_bytes 2) (offsets from sizes))

-- what stands in block k between the place of its page map and its items: signature, client and root in the first, and fill levels of 0
unfoldable pub head_rest : ℕ → ℕ → ℕ → List ℕ
head_rest k client root = if k == 0 then 0xEC ∷ client ∷ (little_bytes 4 root ++ replicate 4 0) else replicate (head_size k - 2) 0

-- block k of a heap, with these items
unfoldable pub block : ℕ → ℕ → ℕ → List (List ℕ) → List ℕ
block k client root items =
    little_bytes 2 (map_place k (length (concat items))) ++ (head_rest k client root
    ++ (concat items ++ (replicate (length (concat items) % 2) 0 ++ page_map (head_size k) (map length items))))

-- the blocks from block k on, of these groups of items
abbrev pub laid : ℕ → ℕ → ℕ → List (List (List ℕ)) → List (List ℕ)
laid k client root [] = []
laid k client root (g ∷ gs) = block k client root g ∷ laid (k + 1) client root gs

-- a run of bytes, cut into pieces of these sizes
abbrev pub cut : List ℕ → List ℕ → List (List ℕ)
cut [] b = []
cut (n ∷ ns) b = take n b ∷ cut ns (drop n b)
