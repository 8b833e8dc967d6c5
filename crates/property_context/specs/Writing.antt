-- What writing a property context leaves.
use Rattle.std.specs.Prelude.{ℕ, ◌≡◌, ◌+◌, ◌-◌, ◌*◌, ◌<◌, ◌≤◌, ◌%◌, ◌==◌, if◌then◌else◌, nat_lt, true, false, List, [], ◌∷◌, ◌++◌, length, map, Option, Some, Bool, None, drop, replicate}
use Rattle.std.specs.List.{list_any}
use Rattle.pst_base.specs.Flat.{Flat}
use Rattle.pst_base.specs.Fields.{number_at}
use Rattle.mapi_values.specs.Values.{Val, in_field}
use Rattle.heap_on_node.specs.Heap.{IsHeap, block_of, index_of, item}
use Rattle.heap_on_node.specs.Packing.{item_in, spread}
use Rattle.bth_tree.specs.Tree.{bth}
use Rattle.bth_tree.specs.Making.{AreRecords, Keeps}
use Rattle.node_values.specs.Named.{KeepsData, named}
use Rattle.write_limits.specs.Space.{short_bytes, values_bytes}
use Rattle.property_context.specs.declared.placing.Placer.{Placer}
use Rattle.property_context.specs.Context.{is_named, names, value_of, values_of}
use Rattle.property_context.specs.Placing.{Placing, is_id, long_bytes, placed_data, span}

-- the id by which bytes are named, as it is written: 0 for none, of an item for up to 3580, else of a subnode
abbrev pub hnid_is : List ℕ → ℕ → Bool
hnid_is bytes id = if length bytes == 0 then id == 0 else (if nat_lt 3580 (length bytes) then id % 32 == 31 else id % 32 == 0)

-- the field of a value, as it is written: the value itself with zeros behind it, or the id by which it is named
abbrev pub IsPlainField : Option ℕ → List ℕ → List ℕ → Type 0
IsPlainField (Some width) bytes field = field ≡ bytes ++ replicate (4 - length bytes) 0
IsPlainField None bytes field = hnid_is bytes (number_at 4 0 field) ≡ true

-- the record of a value has such a field behind the kind
abbrev pub IsPlainRecord : Val → ℕ × List ℕ → Type 0
IsPlainRecord v r = IsPlainField (in_field v.kind) v.bytes (drop 2 r.1)

-- each record is such a one of its value
abbrev pub ArePlain : List Val → List (ℕ × List ℕ) → Type 0
ArePlain [] [] = Unit {0}
ArePlain [] (r ∷ rs) = ⊥
ArePlain (v ∷ vs) [] = ⊥
ArePlain (v ∷ vs) (r ∷ rs) = IsPlainRecord v r × ArePlain vs rs

-- the records of the blocks are those of the values, as they are written
pub record WritesFields (blocks : List (List ℕ)) (values : List Val) : Type 0 where
  pub root : ℕ
  pub heap : IsHeap blocks 0xBC root
  pub records : List (ℕ × List ℕ)
  pub tree : bth (item blocks) root 2 6 ≡ Some records
  pub plain : ArePlain values records

-- a number for a heap id, by which the first two items of the blocks are counted
abbrev pub slot_of : ℕ → ℕ
slot_of hid = 2 * block_of hid + (index_of hid - 1)

-- each item of a heap has at most 3580 bytes, and stands in one of so many slots
pub record Holds (heap : List (List (List ℕ))) (n : ℕ) : Type 0 where
  pub slots : List ℕ
  pub few : length slots ≤ n
  pub each : (hid : ℕ) (x : List ℕ) → item_in heap hid ≡ Some x → (length x ≤ 3580) × (list_any (λ m. slot_of hid == m) slots ≡ true)

-- a heap and placed subnodes grew by so many items at most and some long values, and what was found is found still
pub record Grows (heap heap2 : List (List (List ℕ))) (old new : Placer) (count : ℕ) (added : List (ℕ × List ℕ)) : Type 0 where
  pub items : Keeps (item_in heap) (item_in heap2)
  pub holds : (n : ℕ) → Holds heap n → Holds heap2 (n + count)
  pub found : KeepsData (placed_data old) (placed_data new)
  pub room : span new ≤ span old + 32 * length added
  pub placing : (long : List (ℕ × List ℕ)) (rest : List Flat) → Placing old long rest → Placing new (long ++ added) rest

-- wherever what a heap and placed subnodes have is found, a reading gives a value
abbrev pub Gives : {X : Type 0} → List (List (List ℕ)) → Placer → ((ℕ → Option (List ℕ)) → (ℕ → Option (List (List ℕ))) → Option X) → X → Type 0
Gives heap placer reading x =
    (get : ℕ → Option (List ℕ)) (sub : ℕ → Option (List (List ℕ))) → Keeps (item_in heap) get → KeepsData (placed_data placer) sub → reading get sub ≡ Some x

-- the bytes that stand in the heap
abbrev pub in_heap : List ℕ → ℕ
in_heap bytes = if nat_lt 3580 (length bytes) then 0 else length bytes

-- bytes were put where an id names them
pub record PutsBytes (heap heap2 : List (List (List ℕ))) (old new : Placer) (bytes : List ℕ) (id : ℕ) : Type 0 where
  pub added : List (ℕ × List ℕ)
  pub grows : Grows heap heap2 old new 1 added
  pub plain : hnid_is bytes id ≡ true
  pub bytes_are : map (λ (l : ℕ × List ℕ). l.1) added ≡ (if nat_lt 3580 (length bytes) then bytes ∷ [] else [])
  pub reads : Gives heap2 new (λ get sub. named get sub id) bytes
  pub subnode : (nid : ℕ) → (if id % 32 == 0 then false else id == nid) ≡ is_id added nid
  pub spent : spread heap2 ≤ spread heap + (2 * in_heap bytes + 2)

-- a value was put where a record names it
pub record PutsValue (heap heap2 : List (List (List ℕ))) (old new : Placer) (v : Val) (r : ℕ × List ℕ) : Type 0 where
  pub added : List (ℕ × List ℕ)
  pub grows : Grows heap heap2 old new 1 added
  pub bytes : map (λ (l : ℕ × List ℕ). l.1) added ≡ long_bytes (v ∷ [])
  pub reads : Gives heap2 new (λ get sub. value_of get sub r) v
  pub subnode : (nid : ℕ) → names nid r ≡ is_id added nid
  pub plain : IsPlainRecord v r
  pub key : r.0 < 65536
  pub size : length r.1 ≡ 6
  pub spent : spread heap2 ≤ spread heap + (2 * short_bytes v + 2)

-- values were put where records name them
pub record PutsValues (heap heap2 : List (List (List ℕ))) (old new : Placer) (vs : List Val) (rs : List (ℕ × List ℕ)) : Type 0 where
  pub added : List (ℕ × List ℕ)
  pub grows : Grows heap heap2 old new (length vs) added
  pub bytes : map (λ (l : ℕ × List ℕ). l.1) added ≡ long_bytes vs
  pub reads : Gives heap2 new (λ get sub. values_of get sub rs) vs
  pub subnodes : (nid : ℕ) → is_named rs nid ≡ is_id added nid
  pub records : AreRecords 2 6 rs
  pub plain : ArePlain vs rs
  pub count : length rs ≡ length vs
  pub spent : spread heap2 ≤ spread heap + (2 * values_bytes vs + 2 * length vs)
