-- A property context is read in one way only.
use Rattle.std.proofs.Common.{◌≡◌, ℕ, false, List, sym, ap, ◌∙◌}
use Rattle.pst_base.specs.Flat.{Flat}
use Rattle.mapi_values.specs.Values.{Val}
use Rattle.heap_on_node.specs.Heap.{IsHeap, item}
use Rattle.bth_tree.specs.Tree.{bth}
use Rattle.bth_tree.proofs.OptionLaws.{none-some, some-injective}
use Rattle.property_context.specs.declared.read.PcFault.{PcFault}
use Rattle.property_context.specs.declared.read.PcFault.TheVariants.{Heap, Bth, Pc}
use Rattle.property_context.specs.Context.{IsPropertyContext, Lacks, is_named, values_of}
use Rattle.node_values.specs.Subnodes.{data_of, without}

same-root : (blocks : List (List ℕ)) (r s : ℕ) → IsHeap blocks 0xBC r → IsHeap blocks 0xBC s → r ≡ s
same-root blocks r s a b = sym a.root_is ∙ b.root_is

same-tree : (blocks : List (List ℕ)) (r s : ℕ) → IsHeap blocks 0xBC r → IsHeap blocks 0xBC s → bth (item blocks) r 2 6 ≡ bth (item blocks) s 2 6
same-tree blocks r s a b = ap (λ (n : ℕ). bth (item blocks) n 2 6) (same-root blocks r s a b)

same-records : (blocks : List (List ℕ)) (subs : List Flat) (values others : List Val) (rest left : List Flat) (a : IsPropertyContext blocks subs values rest) (b : IsPropertyContext blocks subs others left) → a.records ≡ b.records
same-records blocks subs values others rest left a b = some-injective a.records b.records (sym a.tree ∙ same-tree blocks a.root b.root a.heap b.heap ∙ b.tree)

pub same-values : (blocks : List (List ℕ)) (subs : List Flat) (values others : List Val) (rest left : List Flat) → IsPropertyContext blocks subs values rest → IsPropertyContext blocks subs others left → values ≡ others
same-values blocks subs values others rest left a b =
    some-injective values others
    (sym a.values_are ∙ ap (values_of (item blocks) (data_of subs)) (same-records blocks subs values others rest left a b) ∙ b.values_are)

pub same-rest : (blocks : List (List ℕ)) (subs : List Flat) (values others : List Val) (rest left : List Flat) → IsPropertyContext blocks subs values rest → IsPropertyContext blocks subs others left → rest ≡ left
same-rest blocks subs values others rest left a b =
    a.rest_is ∙ ap (λ (rs : List (ℕ × List ℕ)). without (is_named rs) false subs) (same-records blocks subs values others rest left a b) ∙ sym b.rest_is

pub no-fault : (blocks : List (List ℕ)) (subs : List Flat) (values : List Val) (rest : List Flat) (fault : PcFault) → Lacks blocks subs fault → IsPropertyContext blocks subs values rest → ⊥
no-fault blocks subs values rest Heap lacks a = lacks a.root a.heap
no-fault blocks subs values rest Bth lacks a = none-some a.records (sym lacks.2 ∙ same-tree blocks lacks.0 a.root lacks.1 a.heap ∙ a.tree)
no-fault blocks subs values rest Pc lacks a =
    let same : lacks.1 ≡ a.records = some-injective lacks.1 a.records (sym lacks.3 ∙ same-tree blocks lacks.0 a.root lacks.2 a.heap ∙ a.tree) in
    none-some values (sym lacks.4 ∙ ap (values_of (item blocks) (data_of subs)) same ∙ a.values_are)
