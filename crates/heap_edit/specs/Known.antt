-- Blocks of a node of which some are known, and edits of them.
use Rattle.std.specs.Prelude.{ℕ, ◌≡◌, ◌<◌, false, List, [], ◌∷◌, ◌++◌, length, get_or, slice_get, Some, None, Option}
use Rattle.pst_base.specs.declared.stops.MemOr.{MemOr}
use Rattle.pst_base.specs.declared.stops.MemOr.TheVariants.{Memory, Refused}
use Rattle.heap_on_node.specs.Heap.{IsStart, item}
use Rattle.heap_edit.specs.Edits.{Edits, edited, put_at}
use Rattle.heap_on_node.specs.Packing.{fit_block}
use Rattle.heap_edit.specs.Items.{items_of}
use Rattle.heap_edit.specs.declared.stops.HeapStop.{HeapStop}
use Rattle.heap_edit.specs.declared.stops.HeapStop.TheVariants.{Full, Lacks, NoHeap}

-- how many blocks there were, those of them that are known, those that are put, and how many blocks there are now
pub record Known : Type 0 where
  pub was : ℕ
  pub known : Edits
  pub puts : Edits
  pub len : ℕ

-- there were as many blocks as e says, and each that is known is that of its position
pub record AreKnown (e : Known) (old : List (List ℕ)) : Type 0 where
  pub count : length old ≡ e.was
  pub each : (p : ℕ) (b : List ℕ) → put_at e.known p ≡ Some b → slice_get old p ≡ Some b

-- the blocks now, of those that there were
abbrev pub blocks_now : Known → List (List ℕ) → List (List ℕ)
blocks_now e old = edited e.puts e.len old

-- the block at this position is one that was there, and neither known nor put
pub record IsUnknown (e : Known) (p : ℕ) : Type 0 where
  pub was : p < e.was
  pub unknown : put_at e.known p ≡ None
  pub unput : put_at e.puts p ≡ None

-- whatever was there, the blocks now became others so
abbrev pub Makes : (List (List ℕ) → List (List ℕ) → Type 0) → Known → Known → Type 0
Makes P e new = (old : List (List ℕ)) → AreKnown e old → AreKnown new old × P (blocks_now e old) (blocks_now new old)

-- whatever heap was there, the blocks now became others so
abbrev pub MakesHeap : (List (List ℕ) → List (List ℕ) → Type 0) → Known → Known → Type 0
MakesHeap P e new = (old : List (List ℕ)) → AreKnown e old → IsStart (blocks_now e old) → AreKnown new old × P (blocks_now e old) (blocks_now new old)

-- old are the blocks that there were, and get reads the items of those now, which are a heap
pub record Reads (e : Known) (old : List (List ℕ)) (get : ℕ → Option (List ℕ)) : Type 0 where
  pub known : AreKnown e old
  pub start : IsStart (blocks_now e old)
  pub items : (h : ℕ) → get h ≡ item (blocks_now e old) h

-- the block at this position has no room for x behind its items
abbrev pub HasNoRoom : Known → ℕ → List ℕ → Type 0
HasNoRoom e p x = (old : List (List ℕ)) → AreKnown e old → fit_block p (items_of (get_or (blocks_now e old) p []) ++ x ∷ []) ≡ false

-- the items of the first block don't fit it
abbrev pub HasNoRoot : Known → Type 0
HasNoRoot e = (old : List (List ℕ)) → AreKnown e old → fit_block 0 (items_of (get_or (blocks_now e old) 0 [])) ≡ false

-- why nothing was given: want of memory, a block that isn't known, blocks that are no heap, or want of room, which F tells
abbrev pub Stops : Known → Type 0 → MemOr HeapStop → Type 0
Stops e F Memory = Unit {0}
Stops e F (Refused (Lacks p)) = IsUnknown e p
Stops e F (Refused NoHeap) = (old : List (List ℕ)) → AreKnown e old → IsStart (blocks_now e old) → ⊥
Stops e F (Refused Full) = F
