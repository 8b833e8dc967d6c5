-- A record put or left out below a pair of an inner item.
use Rattle.std.proofs.Common.{◌≡◌, ◌<◌, ◌+◌, ◌*◌, ◌^◌, ℕ, List, [], ◌∷◌, ◌++◌, length, take, drop, Option, Some, refl, sym, ap, ◌∙◌, subst, arith}
use Rattle.mapi_values.specs.Keyed.{put_key, drop_key}
use Rattle.bth_tree.specs.Records.{entry_of, ordered, whole}
use Rattle.bth_tree.specs.Tree.{bth, gather, leaf, tree}
use Rattle.bth_tree.proofs.MakeLaws.{tree-kept}
use Rattle.bth_tree.proofs.OptionLaws.{some-injective}
use Rattle.bth_tree.proofs.RecordLaws.{whole-none}
use Rattle.bth_tree.proofs.WholeLaws.{tree-some}
use Rattle.index_edit.specs.Adding.{AddsInner, AddsLeaf, AddsPairs, HasIndex, Reaches}
use Rattle.index_edit.specs.Pairs.{pairs_of}
use Rattle.index_edit.specs.Rows.{key_of}
use Rattle.index_edit.specs.declared.pairs.Pair.{Pair}
use Rattle.index_edit.specs.declared.pairs.Pairs.{Pairs}
use Rattle.index_edit.specs.declared.pairs.Pairs.TheVariants.{Single}
use Rattle.index_edit.proofs.KeyLaws.{drop-within}
use Rattle.index_edit.proofs.LeafLaws.{ordered-from, ordered-parts}
use Rattle.index_edit.proofs.PlaceLaws.{located-drop, located-empty, located-entry, located-put, located-same}
use Rattle.index_edit.proofs.RowLaws.{from-whole, spells-length, spliced-whole}
use Rattle.index_edit.proofs.TreeSteps.{leaf-item, leaves-one, located, tree-is_leaf}

-- what an added inner item leaves, over what an earlier step left
pub inner-after : (tells : (ℕ → Option (List ℕ)) → Type 0) (old mid : ℕ → Option (List ℕ)) (hid : ℕ) (recs : List (ℕ × List ℕ)) → ((h : ℕ) (x : List ℕ) → old h ≡ Some x → mid h ≡ Some x)
    → AddsInner tells mid hid recs → AddsInner tells old hid recs
inner-after tells old mid hid recs keeps i =
    record { get = i.get; told = i.told; kept = λ h x was. i.kept h x (keeps h x was); reads = i.reads; id = i.id }

-- what adding the changed inner item gives
abbrev pub Changes : ((ℕ → Option (List ℕ)) → Type 0) → ((ℕ → Option (List ℕ)) → Type 0) → ℕ → ℕ → List ℕ → ℕ → Type 0
Changes mid tells inner index bytes hid =
    (get : ℕ → Option (List ℕ)) → mid get → (x : List ℕ) → get inner ≡ Some x → (qs new : List (ℕ × List ℕ)) → whole 4 4 (take (8 * index) x ++ (bytes ++ drop (8 * (index + 1)) x)) ≡ Some qs
    → gather (tree get 4 4 0) qs ≡ Some new → AddsInner tells get hid new

pub put-below : (mid tells : (ℕ → Option (List ℕ)) → Type 0) (old : ℕ → Option (List ℕ)) (key : ℕ) → key < 2 ^ 32 → (e : List ℕ) (inner index child hid : ℕ) (recs : List (ℕ × List ℕ)) (ps : Pairs) (bytes : List ℕ)
    → Reaches old 0 key inner recs index child → ((rs : List (ℕ × List ℕ)) → leaf old 4 4 child ≡ Some rs → AddsPairs mid old ps (put_key key_of (key, e) rs)) → whole 4 4 bytes ≡ Some (pairs_of ps)
    → Changes mid tells inner index bytes hid → AddsInner tells old hid (put_key key_of (key, e) recs)
put-below mid tells old key fits e inner index child hid recs ps bytes r put w add =
    let l = located old 0 key inner recs index child fits r in
    let a = put l.part (tree-is_leaf old child l.part l.here) in
    let laid = spliced-whole r.item bytes index (index + 1) l.before (l.pair ∷ []) l.after (pairs_of ps) (r.reads ∙ ap Some l.pairs) w l.place refl in
    let gathered = located-put (tree old 4 4 0) (tree a.get 4 4 0) (tree-some a.get 4 4 0) (λ h ws. tree-kept old a.get 4 4 0 h ws a.kept) (key, e) r.pairs recs index child l (pairs_of ps) a.reads a.first in
    inner-after tells old a.get hid (put_key key_of (key, e) recs) a.kept
    (add a.get a.told r.item (a.kept inner r.item r.found) (l.before ++ (pairs_of ps ++ l.after)) (put_key key_of (key, e) recs) laid gathered)

same-leaf : (old : ℕ → Option (List ℕ)) (child : ℕ) (xs ys : List (ℕ × List ℕ)) → leaf old 4 4 child ≡ Some xs → leaf old 4 4 child ≡ Some ys → xs ≡ ys
same-leaf old child xs ys a b = some-injective xs ys (sym a ∙ b)

no-records : (y : List ℕ) (ws : List (ℕ × List ℕ)) → length y < 8 → length y ≡ 8 * length ws → ws ≡ []
no-records y [] short e = refl
no-records y (w ∷ ws) short e = absurd (omega (arith, e, short))

-- records are left in the leaf
pub drop-below : (mid tells : (ℕ → Option (List ℕ)) → Type 0) (old : ℕ → Option (List ℕ)) (key : ℕ) → key < 2 ^ 32 → (inner index child hid : ℕ) (recs rs : List (ℕ × List ℕ)) (p : Pair) (bytes : List ℕ)
    → Reaches old 0 key inner recs index child → leaf old 4 4 child ≡ Some rs → AddsLeaf mid old p (drop_key key_of key rs) → whole 4 4 bytes ≡ Some (pairs_of (Single p))
    → Changes mid tells inner index bytes hid → AddsInner tells old hid (drop_key key_of key recs)
drop-below mid tells old key fits inner index child hid recs rs p bytes r h leaf_added w add =
    let l = located old 0 key inner recs index child fits r in
    let same : rs ≡ l.part = same-leaf old child rs l.part h (tree-is_leaf old child l.part l.here) in
    let i = leaf-item old child rs h in
    let a0 = leaves-one mid old p (drop_key key_of key rs) leaf_added (drop-within 0 (2 ^ 32) key rs (ordered-parts i.0 rs i.2).1) in
    let a = subst (λ (ws : List (ℕ × List ℕ)). AddsPairs mid old (Single p) (drop_key key_of key ws)) same a0 in
    let some : 0 < length (drop_key key_of key l.part) = subst (λ (ws : List (ℕ × List ℕ)). 0 < length (drop_key key_of key ws)) same leaf_added.some in
    let laid = spliced-whole r.item bytes index (index + 1) l.before (l.pair ∷ []) l.after (pairs_of (Single p)) (r.reads ∙ ap Some l.pairs) w l.place refl in
    let gathered = located-drop (tree old 4 4 0) (tree a.get 4 4 0) (tree-some a.get 4 4 0) (λ h ws. tree-kept old a.get 4 4 0 h ws a.kept) key r.pairs recs index child l (pairs_of (Single p)) a.reads a.first some in
    inner-after tells old a.get hid (drop_key key_of key recs) a.kept
    (add a.get a.told r.item (a.kept inner r.item r.found) (l.before ++ (pairs_of (Single p) ++ l.after)) (drop_key key_of key recs) laid gathered)

-- none is left
pub empty-below : (mid tells : (ℕ → Option (List ℕ)) → Type 0) (old : ℕ → Option (List ℕ)) (key : ℕ) → key < 2 ^ 32 → (inner index child hid : ℕ) (recs rs : List (ℕ × List ℕ)) (y : List ℕ) → mid old
    → Reaches old 0 key inner recs index child → leaf old 4 4 child ≡ Some rs → whole 4 4 y ≡ Some (drop_key key_of key rs) → length y < 8
    → Changes mid tells inner index [] hid → AddsInner tells old hid (drop_key key_of key recs)
empty-below mid tells old key fits inner index child hid recs rs y told r h w short add =
    let l = located old 0 key inner recs index child fits r in
    let same : rs ≡ l.part = same-leaf old child rs l.part h (tree-is_leaf old child l.part l.here) in
    let none : drop_key key_of key l.part ≡ [] =
    subst (λ (ws : List (ℕ × List ℕ)). drop_key key_of key ws ≡ []) same (no-records y (drop_key key_of key rs) short (spells-length y (drop_key key_of key rs) (from-whole y (drop_key key_of key rs) w))) in
    let laid = spliced-whole r.item [] index (index + 1) l.before (l.pair ∷ []) l.after [] (r.reads ∙ ap Some l.pairs) (whole-none 4 4 (omega arith)) l.place refl in
    let gathered = located-empty (tree old 4 4 0) (tree old 4 4 0) (λ h ws was. was) key r.pairs recs index child l none in
    add old told r.item r.found (l.before ++ l.after) (drop_key key_of key recs) laid gathered

-- the records below the pair are those of its leaf
pub entry-below : (old : ℕ → Option (List ℕ)) (key : ℕ) → key < 2 ^ 32 → (inner index child : ℕ) (recs rs : List (ℕ × List ℕ)) → Reaches old 0 key inner recs index child → leaf old 4 4 child ≡ Some rs
    → entry_of key recs ≡ entry_of key rs
entry-below old key fits inner index child recs rs r h =
    let l = located old 0 key inner recs index child fits r in
    located-entry (tree old 4 4 0) key r.pairs recs index child l ∙ ap (entry_of key) (sym (same-leaf old child rs l.part h (tree-is_leaf old child l.part l.here)))

pub same-below : (old : ℕ → Option (List ℕ)) (key : ℕ) → key < 2 ^ 32 → (inner index child : ℕ) (recs rs : List (ℕ × List ℕ)) → Reaches old 0 key inner recs index child → leaf old 4 4 child ≡ Some rs
    → drop_key key_of key rs ≡ rs → drop_key key_of key recs ≡ recs
same-below old key fits inner index child recs rs r h same =
    let l = located old 0 key inner recs index child fits r in
    let e : rs ≡ l.part = same-leaf old child rs l.part h (tree-is_leaf old child l.part l.here) in
    located-same (tree old 4 4 0) key r.pairs recs index child l (subst (λ (ws : List (ℕ × List ℕ)). drop_key key_of key ws ≡ ws) e same)

-- a pair of an inner item that is reached names a leaf
pub child-leaf : (old : ℕ → Option (List ℕ)) (key : ℕ) → key < 2 ^ 32 → (inner index child : ℕ) (recs : List (ℕ × List ℕ)) → Reaches old 0 key inner recs index child
    → (rs : List (ℕ × List ℕ)) × (leaf old 4 4 child ≡ Some rs)
child-leaf old key fits inner index child recs r =
    let l = located old 0 key inner recs index child fits r in
    (l.part, tree-is_leaf old child l.part l.here)

-- a leaf's bytes with a record left out
pub drop-ordered : (get : ℕ → Option (List ℕ)) (l key : ℕ) (rs : List (ℕ × List ℕ)) (y : List ℕ) → leaf get 4 4 l ≡ Some rs → whole 4 4 y ≡ Some (drop_key key_of key rs)
    → ordered 4 4 0 (2 ^ 32) y ≡ Some (drop_key key_of key rs)
drop-ordered get l key rs y h w =
    let i = leaf-item get l rs h in
    ordered-from y (drop_key key_of key rs) w (drop-within 0 (2 ^ 32) key rs (ordered-parts i.0 rs i.2).1)

-- the index that stays
pub index-same : (tells : (ℕ → Option (List ℕ)) → Type 0) (get : ℕ → Option (List ℕ)) (header key : ℕ) (recs : List (ℕ × List ℕ)) → tells get → bth get header 4 4 ≡ Some recs → drop_key key_of key recs ≡ recs
    → HasIndex tells get header (drop_key key_of key recs)
index-same tells get header key recs told h same = record { get = get; told = told; kept = λ at x was. was; reads = h ∙ ap Some (sym same) }
