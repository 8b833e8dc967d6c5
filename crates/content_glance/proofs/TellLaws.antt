-- From what a record tells to what is told of a whole property context.
use Rattle.std.proofs.Common.{◌≡◌, ◌==◌, ◌%◌, ◌-◌, if◌then◌else◌, ℕ, Bool, true, false, List, length, take, drop, Option, Some, None, is_some, refl, sym, ap, ◌∙◌, inl, inr, arith, ◌||◌}
use Rattle.std.proofs.lemmas.Bool.{cases_Bool, eq-eqb}
use Rattle.std.proofs.lemmas.List.{take_rest}
use Rattle.pst_base.specs.Flat.{Flat}
use Rattle.pst_base.specs.Fields.{number_at}
use Rattle.mapi_values.specs.Values.{Val, in_field}
use Rattle.mapi_values.specs.Properties.{find}
use Rattle.heap_on_node.specs.Heap.{IsHeap, item}
use Rattle.bth_tree.specs.Records.{entry_of}
use Rattle.bth_tree.specs.Tree.{any_bth}
use Rattle.bth_tree.proofs.OptionLaws.{none-some, some-injective}
use Rattle.node_values.specs.Subnodes.{data_of}
use Rattle.property_context.specs.Context.{IsPropertyContext, names, value_of}
use Rattle.content_glance.specs.declared.content.Glance.{Glance}
use Rattle.content_glance.specs.declared.content.Glance.TheVariants.{Held, Absent, Below}
use Rattle.content_glance.specs.Glances.{IsTold, NamesSubnode, RecordTells, Tells, names_below}
use Rattle.content_glance.proofs.EntryLaws.{any-bth, bth-long, entry-long}
use Rattle.content_glance.proofs.FindLaws.{IsFound, find-is, find-none, find-some}

below-test : (width : Option ℕ) (field : List ℕ) → names_below width field ≡ true → (is_some width || (number_at 4 0 field % 32 == 0)) ≡ false
below-test None field h = elim (cases_Bool (number_at 4 0 field % 32 == 0)) [
  | inl t ↦ let e : false ≡ true = rw t at h in cc
  | inr f ↦ f
]
below-test (Some width) field h = cc

pub names-below : (id : ℕ) (entry : List ℕ) (width : Option ℕ) → width ≡ in_field (number_at 2 0 entry) → names_below width (take (length entry - 2) (drop 2 entry)) ≡ true → names (number_at 4 0 (drop 2 entry)) (id, entry) ≡ true
unfolding names
names-below id entry width is h =
    let same : names_below width (take (length entry - 2) (drop 2 entry)) ≡ names_below (in_field (number_at 2 0 entry)) (drop 2 entry) =
    ap (names_below width) (take_rest entry 2) ∙ ap (λ (w : Option ℕ). names_below w (drop 2 entry)) is in
    rw (below-test (in_field (number_at 2 0 entry)) (drop 2 entry) (sym same ∙ h)) (eq-eqb (number_at 4 0 (drop 2 entry)) (number_at 4 0 (drop 2 entry)) refl)

-- the records that were looked at are those of the property context
same-records : (blocks : List (List ℕ)) (root : ℕ) (o : Option (List (ℕ × List ℕ))) (subs : List Flat) (values : List Val) (rest : List Flat) → IsHeap blocks 0xBC root → any_bth (item blocks) root ≡ o
    → (c : IsPropertyContext blocks subs values rest) → o ≡ Some c.records
same-records blocks root o subs values rest heap looked c =
    let same : c.root ≡ root = sym c.heap.root_is ∙ heap.root_is in
    sym looked ∙ ap (any_bth (item blocks)) (sym same) ∙ any-bth (item blocks) c.root 2 6 c.records (omega arith) (omega arith) c.tree

-- a record that names a subnode is of a kind that doesn't stand in the field
not-wide : (width : Option ℕ) (heap named : Bool) → (if is_some width || heap then false else named) ≡ true → width ≡ None
not-wide None heap named h = refl
not-wide (Some width) heap named h = cc

names-wide : (nid : ℕ) (r : ℕ × List ℕ) → names nid r ≡ true → in_field (number_at 2 0 r.1) ≡ None
unfolding names
names-wide nid r h = not-wide (in_field (number_at 2 0 r.1)) (number_at 4 0 (drop 2 r.1) % 32 == 0) (number_at 4 0 (drop 2 r.1) == nid) h

told-so : (get : ℕ → Option (List ℕ)) (sub : ℕ → Option (List (List ℕ))) (id : ℕ) (entry : List ℕ) (values : List Val) (told : Option Glance) → RecordTells get (id, entry) told
    → find id values ≡ value_of get sub (id, entry) → IsFound id entry values → IsTold id values told
told-so get sub id entry values None tells found some = absurd (none-some some.value (sym (found ∙ tells sub) ∙ some.found))
told-so get sub id entry values (Some (Held v)) tells found some = found ∙ tells sub
told-so get sub id entry values (Some Absent) tells found some = absurd tells
told-so get sub id entry values (Some Below) tells found some = (some.value, some.found, ap in_field some.kind ∙ names-wide tells.0 (id, entry) tells.1)

pub tells-found : (blocks : List (List ℕ)) (root id : ℕ) (rs : List (ℕ × List ℕ)) (entry : List ℕ) (told : Option Glance) → IsHeap blocks 0xBC root → any_bth (item blocks) root ≡ Some rs → entry_of id rs ≡ Some entry
    → RecordTells (item blocks) (id, entry) told → Tells blocks id told
tells-found blocks root id rs entry told heap looked here tells = λ subs values rest c.
    let same : rs ≡ c.records = some-injective rs c.records (same-records blocks root (Some rs) subs values rest heap looked c) in
    let at : entry_of id c.records ≡ Some entry = ap (entry_of id) (sym same) ∙ here in
    told-so (item blocks) (data_of subs) id entry values told tells
    (find-some (item blocks) (data_of subs) id entry c.records values c.values_are at)
    (find-is (item blocks) (data_of subs) id entry c.records values c.values_are at)

pub tells-below : (blocks : List (List ℕ)) (root id : ℕ) (rs : List (ℕ × List ℕ)) (entry : List ℕ) (told : Option Glance) → IsHeap blocks 0xBC root → any_bth (item blocks) root ≡ Some rs → entry_of id rs ≡ Some entry
    → RecordTells (item blocks) (id, entry) told → NamesSubnode blocks id told
tells-below blocks root id rs entry None heap looked here tells = tt
tells-below blocks root id rs entry (Some (Held v)) heap looked here tells = tt
tells-below blocks root id rs entry (Some Absent) heap looked here tells = tt
tells-below blocks root id rs entry (Some Below) heap looked here tells = λ subs values rest c.
    let same : rs ≡ c.records = some-injective rs c.records (same-records blocks root (Some rs) subs values rest heap looked c) in
    (entry, tells.0, ap (entry_of id) (sym same) ∙ here, tells.1)

pub tells-absent : (blocks : List (List ℕ)) (root id : ℕ) (rs : List (ℕ × List ℕ)) → IsHeap blocks 0xBC root → any_bth (item blocks) root ≡ Some rs → entry_of id rs ≡ None → Tells blocks id (Some Absent)
tells-absent blocks root id rs heap looked none = λ subs values rest c.
    let same : rs ≡ c.records = some-injective rs c.records (same-records blocks root (Some rs) subs values rest heap looked c) in
    find-none (item blocks) (data_of subs) id c.records values c.values_are (ap (entry_of id) (sym same) ∙ none)

pub tells-no_tree : (blocks : List (List ℕ)) (root id : ℕ) → IsHeap blocks 0xBC root → any_bth (item blocks) root ≡ None → Tells blocks id None
tells-no_tree blocks root id heap looked = λ subs values rest c. none-some c.records (same-records blocks root None subs values rest heap looked c)

pub tells-other : (blocks : List (List ℕ)) (root id : ℕ) (rs : List (ℕ × List ℕ)) (entry : List ℕ) → IsHeap blocks 0xBC root → any_bth (item blocks) root ≡ Some rs → entry_of id rs ≡ Some entry → (length entry ≡ 6 → ⊥) → Tells blocks id None
tells-other blocks root id rs entry heap looked here other = λ subs values rest c.
    let same : rs ≡ c.records = some-injective rs c.records (same-records blocks root (Some rs) subs values rest heap looked c) in
    other (entry-long 6 id c.records entry (bth-long (item blocks) c.root 2 6 c.records (omega arith) c.tree) (ap (entry_of id) (sym same) ∙ here))
