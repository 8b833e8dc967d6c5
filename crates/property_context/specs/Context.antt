-- The property context ([MS-PST] 2.3.3), as a reading of the items that get finds under heap ids and of the blocks that sub finds under the ids of subnodes.
use Rattle.std.specs.Prelude.{ℕ, ◌≡◌, ◌%◌, ◌==◌, if◌then◌else◌, Bool, false, List, [], ◌∷◌, length, take, drop, Option, Some, None, Result, Ok, Err, ◌||◌}
use Rattle.std.specs.Option.{is_some, option_and_then}
use Rattle.pst_base.specs.Flat.{Flat}
use Rattle.pst_base.specs.Fields.{number_at}
use Rattle.pst_base.specs.declared.stops.MemOr.{MemOr}
use Rattle.pst_base.specs.declared.stops.MemOr.TheVariants.{Memory, Refused}
use Rattle.mapi_values.specs.Values.{Val, fits, in_field}
use Rattle.heap_on_node.specs.Heap.{IsHeap, item}
use Rattle.bth_tree.specs.Tree.{bth}
use Rattle.property_context.specs.declared.read.PcFault.{PcFault}
use Rattle.property_context.specs.declared.read.PcFault.TheVariants.{Heap, Bth, Pc}
use Rattle.node_values.specs.Named.{named}
use Rattle.node_values.specs.Subnodes.{data_of, without}

-- the bytes of a field's value: its first, as many as the width, or where there is none those that it names
abbrev pub of_field : (ℕ → Option (List ℕ)) → (ℕ → Option (List (List ℕ))) → Option ℕ → List ℕ → Option (List ℕ)
of_field get sub (Some width) field = Some (take width field)
of_field get sub None field = named get sub (number_at 4 0 field)

-- the value of an id and a kind with these bytes, if the kind may have so many
unfoldable pub fitting : ℕ → ℕ → List ℕ → Option Val
fitting id kind bytes = if fits kind (length bytes) then Some (record { id = id; kind = kind; bytes = bytes }) else None

-- the value of a record: the kind stands before the field
unfoldable pub value_of : (ℕ → Option (List ℕ)) → (ℕ → Option (List (List ℕ))) → ℕ × List ℕ → Option Val
value_of get sub r = option_and_then (fitting r.0 (number_at 2 0 r.1)) (of_field get sub (in_field (number_at 2 0 r.1)) (drop 2 r.1))

-- the values of all records
abbrev pub values_of : (ℕ → Option (List ℕ)) → (ℕ → Option (List (List ℕ))) → List (ℕ × List ℕ) → Option (List Val)
values_of get sub [] = Some []
values_of get sub (r ∷ rs) =
    option_and_then (λ (v : Val). option_and_then (λ (vs : List Val). Some (v ∷ vs)) (values_of get sub rs)) (value_of get sub r)

-- the record names a subnode, of this id
unfoldable pub names : ℕ → ℕ × List ℕ → Bool
names nid r =
    if is_some (in_field (number_at 2 0 r.1)) || (number_at 4 0 (drop 2 r.1) % 32 == 0) then false else number_at 4 0 (drop 2 r.1) == nid

-- some record names the subnode of this id
abbrev pub is_named : List (ℕ × List ℕ) → ℕ → Bool
is_named [] nid = false
is_named (r ∷ rs) nid = names nid r || is_named rs nid

-- the blocks and the subnodes are a property context with these values, which leaves the rest of the subnodes to others
pub record IsPropertyContext (blocks : List (List ℕ)) (subs : List Flat) (values : List Val) (rest : List Flat) : Type 0 where
  pub root : ℕ
  pub heap : IsHeap blocks 0xBC root
  pub records : List (ℕ × List ℕ)
  pub tree : bth (item blocks) root 2 6 ≡ Some records
  pub values_are : values_of (item blocks) (data_of subs) records ≡ Some values
  pub rest_is : rest ≡ without (is_named records) false subs

-- what is wrong with them, by the first of three that is: there is no heap of the client, no tree under its root, or a record without a value
abbrev pub Lacks : List (List ℕ) → List Flat → PcFault → Type 0
Lacks blocks subs Heap = (root : ℕ) → IsHeap blocks 0xBC root → ⊥
Lacks blocks subs Bth = (root : ℕ) × IsHeap blocks 0xBC root × (bth (item blocks) root 2 6 ≡ None)
Lacks blocks subs Pc =
    (root : ℕ) × (records : List (ℕ × List ℕ)) × IsHeap blocks 0xBC root × (bth (item blocks) root 2 6 ≡ Some records) × (values_of (item blocks) (data_of subs) records ≡ None)

-- unless memory ran out, they are read as the property context that they are, or refused for what is wrong with them
abbrev pub ReadsPc : List (List ℕ) → List Flat → Result (List Val × List Flat) (MemOr PcFault) → Type 0
ReadsPc blocks subs (Ok found) = IsPropertyContext blocks subs found.0 found.1
ReadsPc blocks subs (Err Memory) = Unit {0}
ReadsPc blocks subs (Err (Refused fault)) = Lacks blocks subs fault
