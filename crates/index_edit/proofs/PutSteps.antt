-- Leaves that were added for one with a record put, and what stands above them.
use Rattle.std.proofs.Common.{◌≡◌, ◌≢◌, ◌<◌, ◌^◌, ℕ, true, List, [], ◌∷◌, ◌++◌, length, Option, Some, refl, sym, ap, ◌∙◌, subst, arith}
use Rattle.byteorder.specs.Numbers.{little_number-reads_back}
use Rattle.mapi_values.specs.Keyed.{put_key}
use Rattle.bth_tree.specs.Records.{ordered, whole, within}
use Rattle.bth_tree.specs.Tree.{end_of, gather, leaf, root, tree}
use Rattle.bth_tree.proofs.MakeLaws.{one-pair}
use Rattle.bth_tree.proofs.WholeLaws.{within-first}
use Rattle.index_edit.specs.Adding.{AddsInner, AddsLeaf, AddsPairs, HasIndex}
use Rattle.index_edit.specs.Pairs.{MayBeRoot, pairs_of}
use Rattle.index_edit.specs.Rows.{key_of}
use Rattle.index_edit.specs.declared.pairs.Pair.{Pair}
use Rattle.index_edit.specs.declared.pairs.Pairs.TheVariants.{Single, Double}
use Rattle.index_edit.proofs.CoverLaws.{within-front, within-right}
use Rattle.index_edit.proofs.KeyLaws.{put-within}
use Rattle.index_edit.proofs.LeafLaws.{ordered-from, ordered-parts}
use Rattle.index_edit.proofs.TreeSteps.{leaf-is_tree, leaf-item, leaves-behind, leaves-one, leaves-two, tree-root}

-- what adding a leaf of these bytes gives
abbrev pub Adds : ((ℕ → Option (List ℕ)) → Type 0) → (ℕ → Option (List ℕ)) → List ℕ → Pair → Type 0
Adds tells get y p = (rs : List (ℕ × List ℕ)) → ordered 4 4 0 (2 ^ 32) y ≡ Some rs → AddsLeaf tells get p rs

put-ascends : (get : ℕ → Option (List ℕ)) (l key : ℕ) → key < 2 ^ 32 → (e : List ℕ) (rs : List (ℕ × List ℕ)) → leaf get 4 4 l ≡ Some rs → within 0 (2 ^ 32) (put_key key_of (key, e) rs) ≡ true
put-ascends get l key fits e rs h =
    let i = leaf-item get l rs h in
    put-within 0 (2 ^ 32) (key, e) rs (omega arith) fits (ordered-parts i.0 rs i.2).1

pub put-one : (tells : (ℕ → Option (List ℕ)) → Type 0) (get : ℕ → Option (List ℕ)) (l key : ℕ) → key < 2 ^ 32 → (e y : List ℕ) (rs : List (ℕ × List ℕ)) (p : Pair) → leaf get 4 4 l ≡ Some rs
    → whole 4 4 y ≡ Some (put_key key_of (key, e) rs) → Adds tells get y p → AddsPairs tells get (Single p) (put_key key_of (key, e) rs)
put-one tells get l key fits e y rs p h w add =
    let up = put-ascends get l key fits e rs h in
    leaves-one tells get p (put_key key_of (key, e) rs) (add (put_key key_of (key, e) rs) (ordered-from y (put_key key_of (key, e) rs) w up)) up

pub single-ordered : (key : ℕ) → key < 2 ^ 32 → (e b : List ℕ) → whole 4 4 b ≡ Some ((key, e) ∷ []) → ordered 4 4 0 (2 ^ 32) b ≡ Some ((key, e) ∷ [])
single-ordered key fits e b w = ordered-from b ((key, e) ∷ []) w (within-first 0 (2 ^ 32) (key, e) [] (omega arith) fits refl)

pub put-last : (tells : (ℕ → Option (List ℕ)) → Type 0) (get : ℕ → Option (List ℕ)) (key : ℕ) → key < 2 ^ 32 → (e b : List ℕ) (rs : List (ℕ × List ℕ)) (p q : Pair) → leaf get 4 4 p.child ≡ Some rs → p.child < 2 ^ 32
    → whole 4 4 b ≡ Some ((key, e) ∷ []) → Adds tells get b q → (put_key key_of (key, e) rs ≡ rs ++ (key, e) ∷ []) × (p.key ≡ end_of rs) × (0 < length rs)
    → AddsPairs tells get (Double p q) (put_key key_of (key, e) rs)
put-last tells get key fits e b rs p q h small w add holds =
    let up = ap (within 0 (2 ^ 32)) (sym holds.0) ∙ put-ascends get p.child key fits e rs h in
    subst (λ (ws : List (ℕ × List ℕ)). AddsPairs tells get (Double p q) ws) (sym holds.0)
    (leaves-behind tells get p q rs ((key, e) ∷ []) (leaf-is_tree get p.child rs h holds.2) small holds.1 holds.2 (add ((key, e) ∷ []) (single-ordered key fits e b w)) up)

pub put-halves : (mid tells : (ℕ → Option (List ℕ)) → Type 0) (get : ℕ → Option (List ℕ)) (l key : ℕ) → key < 2 ^ 32 → (e y z : List ℕ) (rs : List (ℕ × List ℕ)) (p q : Pair) → leaf get 4 4 l ≡ Some rs
    → (xs : List (ℕ × List ℕ)) × (ys : List (ℕ × List ℕ)) × (whole 4 4 y ≡ Some xs) × (whole 4 4 z ≡ Some ys) × (put_key key_of (key, e) rs ≡ xs ++ ys)
    → Adds mid get y p → ((old : ℕ → Option (List ℕ)) → mid old → Adds tells old z q) → AddsPairs tells get (Double p q) (put_key key_of (key, e) rs)
put-halves mid tells get l key fits e y z rs p q h holds first second =
    let up = ap (within 0 (2 ^ 32)) (sym holds.4) ∙ put-ascends get l key fits e rs h in
    let a = first holds.0 (ordered-from y holds.0 holds.2 (within-front 0 (2 ^ 32) holds.0 holds.1 up)) in
    let b = second a.get a.told holds.1 (ordered-from z holds.1 holds.3 (within-right 0 (2 ^ 32) holds.0 holds.1 up)) in
    subst (λ (ws : List (ℕ × List ℕ)). AddsPairs tells get (Double p q) ws) (sym holds.4) (leaves-two mid tells get p q holds.0 holds.1 a b up)

-- a header over what an earlier step left
pub index-after : (tells : (ℕ → Option (List ℕ)) → Type 0) (old mid : ℕ → Option (List ℕ)) (hid : ℕ) (recs : List (ℕ × List ℕ)) → ((h : ℕ) (x : List ℕ) → old h ≡ Some x → mid h ≡ Some x)
    → HasIndex tells mid hid recs → HasIndex tells old hid recs
index-after tells old mid hid recs keeps i = record { get = i.get; told = i.told; kept = λ h x was. i.kept h x (keeps h x was); reads = i.reads }

-- what adding a header gives
abbrev pub Heads : ((ℕ → Option (List ℕ)) → Type 0) → ((ℕ → Option (List ℕ)) → Type 0) → ℕ → ℕ → ℕ → Type 0
Heads mid tells level hid at = (get : ℕ → Option (List ℕ)) → mid get → (recs : List (ℕ × List ℕ)) → hid ≢ 0 → root get 4 4 level hid ≡ Some recs → HasIndex tells get at recs

-- an index of one leaf
pub alone : (mid tells : (ℕ → Option (List ℕ)) → Type 0) (get : ℕ → Option (List ℕ)) (p : Pair) (at : ℕ) (rs : List (ℕ × List ℕ)) → AddsLeaf mid get p rs → Heads mid tells 0 p.child at → HasIndex tells get at rs
alone mid tells get p at rs a heads = index-after tells get a.get at rs a.kept (heads a.get a.told rs a.id (tree-root a.get 0 p.child rs a.here))

-- an index of two levels
pub two-levels : (mid tells : (ℕ → Option (List ℕ)) → Type 0) (get : ℕ → Option (List ℕ)) (hid at : ℕ) (recs : List (ℕ × List ℕ)) → AddsInner mid get hid recs → Heads mid tells 1 hid at → HasIndex tells get at recs
two-levels mid tells get hid at recs i heads = index-after tells get i.get at recs i.kept (heads i.get i.told recs i.id (tree-root i.get 1 hid recs i.reads))

-- a header over one leaf that stands
pub head-one : (mid tells : (ℕ → Option (List ℕ)) → Type 0) (get : ℕ → Option (List ℕ)) (p : Pair) (at : ℕ) (recs : List (ℕ × List ℕ)) → mid get → gather (tree get 4 4 0) (pairs_of (Single p)) ≡ Some recs → MayBeRoot (Single p)
    → Heads mid tells 0 p.child at → HasIndex tells get at recs
head-one mid tells get p at recs told g top heads =
    let here = one-pair (tree get 4 4 0) (pairs_of (Single p)) recs (0, []) refl g in
    heads get told recs top.0 (tree-root get 0 p.child recs (ap (tree get 4 4 0) (sym (little_number-reads_back 4 p.child [] top.1)) ∙ here))
