-- The heap on a node ([MS-PST] 2.3.1): blocks of bytes, each with a page map that says where its items stand.
use Rattle.std.specs.Prelude.{ℕ, ◌≡◌, ◌+◌, ◌-◌, ◌*◌, ◌/◌, ◌%◌, ◌<◌, ◌≤◌, ◌==◌, ◌&&◌, nat_lt, nat_le, if◌then◌else◌, List, [], length, get_or, Option, Some, None, slice_range}
use Rattle.pst_base.specs.Fields.{number_at}

-- where a block's page map stands
unfoldable pub map_of : List ℕ → ℕ
map_of b = number_at 2 0 b

-- how many items a block has
unfoldable pub count_of : List ℕ → ℕ
count_of b = number_at 2 (map_of b) b

-- how many of its items a block says are free
unfoldable pub free_of : List ℕ → ℕ
free_of b = number_at 2 (map_of b + 2) b

-- where item i + 1 of a block begins, and item i ends
unfoldable pub offset_of : List ℕ → ℕ → ℕ
offset_of b i = number_at 2 (map_of b + 4 + 2 * i) b

-- the page map lies in the block, and its offsets don't fall and end before it
pub record HasMap (b : List ℕ) : Type 0 where
  pub within : map_of b + 6 + 2 * count_of b ≤ length b
  pub ordered : (i : ℕ) → i < count_of b → offset_of b i ≤ offset_of b (i + 1)
  pub ends : offset_of b (count_of b) ≤ map_of b

-- the blocks begin as a heap does, and each has its page map
pub record IsStart (blocks : List (List ℕ)) : Type 0 where
  pub begins : 12 ≤ length (get_or blocks 0 [])
  pub signature : number_at 1 2 (get_or blocks 0 []) ≡ 0xEC
  pub maps : (k : ℕ) → k < length blocks → HasMap (get_or blocks k [])

-- the blocks are a heap of this client, with this root
pub record IsHeap (blocks : List (List ℕ)) (client root : ℕ) : Type 0 where
  pub start : IsStart blocks
  pub client_is : number_at 1 3 (get_or blocks 0 []) ≡ client
  pub root_is : number_at 4 4 (get_or blocks 0 []) ≡ root

-- the block that a heap id names
abbrev pub block_of : ℕ → ℕ
block_of hid = hid / 65536

-- the item of its block that a heap id names; the first is 1
abbrev pub index_of : ℕ → ℕ
index_of hid = hid / 32 % 2048

-- item i of a block, if it has one
unfoldable pub item_of : List ℕ → ℕ → Option (List ℕ)
item_of b i = if nat_lt 0 i && nat_le i (count_of b) then Some (slice_range b (offset_of b (i - 1)) (offset_of b i)) else None

-- the item under a heap id, if there is one
unfoldable pub item : List (List ℕ) → ℕ → Option (List ℕ)
item blocks hid =
    if (hid % 32 == 0) && nat_lt (block_of hid) (length blocks)
    then item_of (get_or blocks (block_of hid) []) (index_of hid)
    else None
