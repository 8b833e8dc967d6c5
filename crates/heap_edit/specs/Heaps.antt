-- What a heap is after an item was added, or its root was set.
use Rattle.std.specs.Prelude.{ℕ, ◌≡◌, ◌≢◌, ◌+◌, ◌-◌, ◌≤◌, ◌%◌, false, List, [], ◌∷◌, ◌++◌, length, get_or, Some, None}
use Rattle.heap_on_node.specs.Heap.{IsHeap, block_of, item}
use Rattle.heap_on_node.specs.Packing.{IsPlain, fit_block}
use Rattle.heap_edit.specs.Edits.{with_at}
use Rattle.heap_edit.specs.Items.{items_of}

-- no heap has an item under this id
abbrev pub NoneUnder : ℕ → Type 0
NoneUnder hid = (blocks : List (List ℕ)) → item blocks hid ≡ None

-- the last block has no room for x behind its items
abbrev pub LastIsFull : List (List ℕ) → List ℕ → Type 0
LastIsFull blocks x = fit_block (length blocks - 1) (items_of (get_or blocks (length blocks - 1) []) ++ x ∷ []) ≡ false

-- x stands under hid, where no item was, and all other items are as before; the blocks are a heap still, and only that of hid is another or new
pub record Adds (old : List (List ℕ)) (hid : ℕ) (x : List ℕ) (new : List (List ℕ)) : Type 0 where
  pub free : item old hid ≡ None
  pub here : item new hid ≡ Some x
  pub others : (h : ℕ) → h ≢ hid → item new h ≡ item old h
  pub kind : hid % 32 ≡ 0
  pub some : hid ≢ 0
  pub heap : (client root : ℕ) → IsHeap old client root → IsHeap new client root
  pub within : block_of hid ≤ length old
  pub blocks : new ≡ with_at old (block_of hid) (get_or new (block_of hid) [])
  pub count : length new ≤ length old + 1
  pub plain : IsPlain (block_of hid) (get_or new (block_of hid) [])

-- the heap has this root, and all items are as before; only the first block is another
pub record SetsRoot (old : List (List ℕ)) (root : ℕ) (new : List (List ℕ)) : Type 0 where
  pub items : (h : ℕ) → item new h ≡ item old h
  pub heap : (client was : ℕ) → IsHeap old client was → IsHeap new client root
  pub blocks : new ≡ with_at old 0 (get_or new 0 [])
  pub count : length new ≡ length old
  pub plain : IsPlain 0 (get_or new 0 [])
