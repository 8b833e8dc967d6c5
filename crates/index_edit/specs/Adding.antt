-- Items that are added for an edit of a row index: all that was found is found still.
use Rattle.std.specs.Prelude.{ℕ, ◌≡◌, ◌≢◌, ◌<◌, ◌⊎◌, ◌^◌, List, [], length, Option, Some, None}
use Rattle.mapi_values.specs.Keyed.{drop_key}
use Rattle.bth_tree.specs.Making.{Keeps}
use Rattle.bth_tree.specs.Records.{entry_of, whole}
use Rattle.bth_tree.specs.Tree.{bth, end_of, gather, root as root_of, tree}
use Rattle.index_edit.specs.Pairs.{MayBeRoot, pairs_of}
use Rattle.index_edit.specs.Rows.{IsPlaceOf, key_of}
use Rattle.index_edit.specs.declared.pairs.Pair.{Pair}
use Rattle.index_edit.specs.declared.pairs.Pairs.{Pairs}
use Rattle.index_edit.specs.declared.stop.IndexStop.{IndexStop}
use Rattle.index_edit.specs.declared.stop.IndexStop.TheVariants.{Heap, Memory, Anew, NoIndex}

-- the stop isn't that there is no index
abbrev pub NotFault : {S : Type 0} → IndexStop S → Type 0
NotFault (Heap stop) = Unit {0}
NotFault Memory = Unit {0}
NotFault Anew = Unit {0}
NotFault NoIndex = ⊥

-- a leaf of these records, which the pair names
pub record AddsLeaf (tells : (ℕ → Option (List ℕ)) → Type 0) (old : ℕ → Option (List ℕ)) (p : Pair) (recs : List (ℕ × List ℕ)) : Type 0 where
  pub get : ℕ → Option (List ℕ)
  pub told : tells get
  pub kept : Keeps old get
  pub here : tree get 4 4 0 p.child ≡ Some recs
  pub first : p.key ≡ end_of recs
  pub some : 0 < length recs
  pub fits : p.child < 2 ^ 32
  pub id : p.child ≢ 0

-- leaves of these records, which the pairs name
pub record AddsPairs (tells : (ℕ → Option (List ℕ)) → Type 0) (old : ℕ → Option (List ℕ)) (ps : Pairs) (recs : List (ℕ × List ℕ)) : Type 0 where
  pub get : ℕ → Option (List ℕ)
  pub told : tells get
  pub kept : Keeps old get
  pub reads : gather (tree get 4 4 0) (pairs_of ps) ≡ Some recs
  pub first : end_of (pairs_of ps) ≡ end_of recs
  pub top : MayBeRoot ps

-- an inner item above leaves of these records
pub record AddsInner (tells : (ℕ → Option (List ℕ)) → Type 0) (old : ℕ → Option (List ℕ)) (hid : ℕ) (recs : List (ℕ × List ℕ)) : Type 0 where
  pub get : ℕ → Option (List ℕ)
  pub told : tells get
  pub kept : Keeps old get
  pub reads : tree get 4 4 1 hid ≡ Some recs
  pub id : hid ≢ 0

-- an index of these records under a heap id
pub record HasIndex (tells : (ℕ → Option (List ℕ)) → Type 0) (old : ℕ → Option (List ℕ)) (header : ℕ) (recs : List (ℕ × List ℕ)) : Type 0 where
  pub get : ℕ → Option (List ℕ)
  pub told : tells get
  pub kept : Keeps old get
  pub reads : bth get header 4 4 ≡ Some recs

-- what comes of leaving out the record of a key: none has it and all stay, or the index of the others
abbrev pub DropsInto : ((ℕ → Option (List ℕ)) → Type 0) → (ℕ → Option (List ℕ)) → ℕ → List (ℕ × List ℕ) → Option ℕ → Type 0
DropsInto tells old key recs None = drop_key key_of key recs ≡ recs
DropsInto tells old key recs (Some header) = (entry_of key recs ≢ None) × HasIndex tells old header (drop_key key_of key recs)

-- the pair of an inner item below which a key belongs
pub record Reaches (get : ℕ → Option (List ℕ)) (n key inner : ℕ) (recs : List (ℕ × List ℕ)) (index child : ℕ) : Type 0 where
  pub item : List ℕ
  pub pairs : List (ℕ × List ℕ)
  pub found : get inner ≡ Some item
  pub reads : whole 4 4 item ≡ Some pairs
  pub covers : gather (tree get 4 4 n) pairs ≡ Some recs
  pub place : IsPlaceOf key pairs index child

-- the level and the root that a header gives: no root, or one with these records below it
abbrev pub HasTop : (ℕ → Option (List ℕ)) → ℕ → ℕ → List (ℕ × List ℕ) → Type 0
HasTop get level hid recs = ((hid ≡ 0) × (recs ≡ [])) ⊎ ((hid ≢ 0) × (root_of get 4 4 level hid ≡ Some recs))
