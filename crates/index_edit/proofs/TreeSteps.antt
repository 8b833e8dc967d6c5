-- What items that were added to a heap read as.
use Rattle.std.proofs.Common.{◌≡◌, ◌≢◌, ◌≤◌, ◌<◌, ◌==◌, ◌&&◌, ◌+◌, ◌*◌, ◌^◌, if◌then◌else◌, inl, inr, nat_le, ℕ, suc, true, List, [], ◌∷◌, ◌++◌, length, Option, Some, None, refl, sym, ap, ◌∙◌, subst, length-append, arith}
use Rattle.std.proofs.lemmas.Bool.{and_parts, cases_Bool, cases_eq, leb-true}
use Rattle.std.specs.Option.{option_and_then}
use Rattle.byteorder.specs.Endian.{little_number}
use Rattle.byteorder.specs.Numbers.{little_number-reads_back}
use Rattle.pst_base.specs.Fields.{number_at}
use Rattle.heap_items.specs.Items.{AddsItem}
use Rattle.bth_tree.specs.Making.{Keeps, header_of}
use Rattle.bth_tree.specs.Records.{entry_of, ordered, whole, within}
use Rattle.bth_tree.specs.Tree.{bth, children, end_of, filled, gather, is_header, leaf, root, tree, under}
use Rattle.bth_tree.proofs.MakeLaws.{header-over, level-kept, root-from, root-kept, tree-kept}
use Rattle.bth_tree.proofs.OptionLaws.{bind-some, none-some, some-injective}
use Rattle.bth_tree.proofs.ReadLaws.{filled-some}
use Rattle.bth_tree.proofs.TreeLaws.{tree-leaf, tree-suc}
use Rattle.bth_tree.proofs.WholeLaws.{filled-is, tree-some, under-none, under-root}
use Rattle.index_edit.specs.Adding.{AddsInner, AddsLeaf, AddsPairs, HasIndex, HasTop, Reaches}
use Rattle.index_edit.specs.Pairs.{pair_of}
use Rattle.index_edit.specs.Rows.{IsPlaceOf, rows}
use Rattle.index_edit.specs.declared.pairs.Pair.{Pair}
use Rattle.index_edit.specs.declared.pairs.Pairs.TheVariants.{Single, Double}
use Rattle.index_edit.proofs.CoverLaws.{covers-none, covers-some, end-left, from-gather, one-leaf, two-leaves}
use Rattle.index_edit.proofs.LeafLaws.{leaf-first, ordered-parts}
use Rattle.index_edit.proofs.PlaceLaws.{Located, locate, located-entry}
use Rattle.index_edit.proofs.RowLaws.{from-whole, rows-whole, spells-length}

pub keeps-item : (tells : (ℕ → Option (List ℕ)) → Type 0) (old : ℕ → Option (List ℕ)) (x : List ℕ) (hid : ℕ) (a : AddsItem tells old x hid) → Keeps old a.get
keeps-item tells old x hid a h y was = a.others h (λ e. none-some y (sym a.free ∙ ap old (sym e) ∙ was)) ∙ was

pub leaf-ordered : (get : ℕ → Option (List ℕ)) (hid : ℕ) (x : List ℕ) (rs : List (ℕ × List ℕ)) → get hid ≡ Some x → leaf get 4 4 hid ≡ Some rs → ordered 4 4 0 (2 ^ 32) x ≡ Some rs
unfolding leaf
leaf-ordered get hid x rs here h = sym (ap (option_and_then (ordered 4 4 0 (2 ^ 32))) here) ∙ h

-- a leaf that is read has an item
pub leaf-item : (get : ℕ → Option (List ℕ)) (hid : ℕ) (rs : List (ℕ × List ℕ)) → leaf get 4 4 hid ≡ Some rs → (x : List ℕ) × (get hid ≡ Some x) × (ordered 4 4 0 (2 ^ 32) x ≡ Some rs)
unfolding leaf
leaf-item get hid rs h = bind-some (ordered 4 4 0 (2 ^ 32)) (get hid) rs h

-- the records below a leaf's pair are those of the leaf
pub tree-is_leaf : (get : ℕ → Option (List ℕ)) (hid : ℕ) (rs : List (ℕ × List ℕ)) → tree get 4 4 0 hid ≡ Some rs → leaf get 4 4 hid ≡ Some rs
unfolding tree
tree-is_leaf get hid rs h = let b = bind-some filled (leaf get 4 4 hid) rs h in b.1 ∙ ap Some (filled-is b.0 rs b.2).0

pub leaf-is_tree : (get : ℕ → Option (List ℕ)) (hid : ℕ) (rs : List (ℕ × List ℕ)) → leaf get 4 4 hid ≡ Some rs → 0 < length rs → tree get 4 4 0 hid ≡ Some rs
unfolding tree
leaf-is_tree get hid rs h n = ap (option_and_then filled) h ∙ filled-some rs n

-- an inner item's pairs, and the records below them
pub inner-item : (get : ℕ → Option (List ℕ)) (n hid : ℕ) (recs : List (ℕ × List ℕ)) → tree get 4 4 (suc n) hid ≡ Some recs
    → (x : List ℕ) × (ps : List (ℕ × List ℕ)) × (get hid ≡ Some x) × (whole 4 4 x ≡ Some ps) × (gather (tree get 4 4 n) ps ≡ Some recs) × (0 < length recs)
unfolding tree children
inner-item get n hid recs h =
    let a = bind-some (λ (x : List ℕ). option_and_then filled (option_and_then (gather (tree get 4 4 n)) (whole 4 4 x))) (get hid) recs h in
    let b = bind-some filled (option_and_then (gather (tree get 4 4 n)) (whole 4 4 a.0)) recs a.2 in
    let c = bind-some (gather (tree get 4 4 n)) (whole 4 4 a.0) b.0 b.1 in
    let f = filled-is b.0 recs b.2 in
    (a.0, c.0, a.1, c.1, c.2 ∙ ap Some f.0, f.1)

pub reaches : (get : ℕ → Option (List ℕ)) (n key inner : ℕ) (recs : List (ℕ × List ℕ)) (index child : ℕ) (x : List ℕ) → tree get 4 4 (suc n) inner ≡ Some recs → get inner ≡ Some x → IsPlaceOf key (rows x) index child
    → Reaches get n key inner recs index child
reaches get n key inner recs index child x h here place =
    let i = inner-item get n inner recs h in
    let same : x ≡ i.0 = some-injective x i.0 (sym here ∙ i.2) in
    let reads : whole 4 4 x ≡ Some i.1 = ap (whole 4 4) same ∙ i.3 in
    record { item = x; pairs = i.1; found = here; reads = reads; covers = i.4; place = subst (λ (ws : List (ℕ × List ℕ)). IsPlaceOf key ws index child) (rows-whole x i.1 reads) place }

-- an inner item has a pair
pub not-empty : (get : ℕ → Option (List ℕ)) (n inner : ℕ) (recs : List (ℕ × List ℕ)) (x : List ℕ) → tree get 4 4 (suc n) inner ≡ Some recs → get inner ≡ Some x → rows x ≡ [] → ⊥
not-empty get n inner recs x h here none =
    let i = inner-item get n inner recs h in
    let same : x ≡ i.0 = some-injective x i.0 (sym here ∙ i.2) in
    let empty : i.1 ≡ [] = sym (rows-whole x i.1 (ap (whole 4 4) same ∙ i.3)) ∙ none in
    let nothing = covers-none (tree get 4 4 n) (2 ^ 32) i.1 recs empty (from-gather (tree get 4 4 n) (tree-some get 4 4 n) i.1 recs i.4) in
    omega (arith, ap length nothing, i.5)

pub reaches-long : (get : ℕ → Option (List ℕ)) (n key inner : ℕ) (recs : List (ℕ × List ℕ)) (index child : ℕ) (r : Reaches get n key inner recs index child) → 8 * (index + 1) ≤ length r.item
reaches-long get n key inner recs index child r =
    let p = r.place in
    omega (arith, spells-length r.item r.pairs (from-whole r.item r.pairs r.reads), ap length p.parts, length-append p.before (p.pair ∷ p.after), p.place)

pub located : (get : ℕ → Option (List ℕ)) (n key inner : ℕ) (recs : List (ℕ × List ℕ)) (index child : ℕ) → key < 2 ^ 32 → (r : Reaches get n key inner recs index child)
    → Located (tree get 4 4 n) key r.pairs recs index child
located get n key inner recs index child fits r = locate (tree get 4 4 n) (tree-some get 4 4 n) key fits r.pairs recs index child r.covers r.place

pub adds-leaf : (tells : (ℕ → Option (List ℕ)) → Type 0) (old : ℕ → Option (List ℕ)) (y : List ℕ) (p : Pair) (rs : List (ℕ × List ℕ)) → AddsItem tells old y p.child → ordered 4 4 0 (2 ^ 32) y ≡ Some rs
    → 8 ≤ length y → p.key ≡ number_at 4 0 y → p.child < 2 ^ 32 → AddsLeaf tells old p rs
adds-leaf tells old y p rs a o room key fits =
    let h = ordered-parts y rs o in
    let f = leaf-first y rs h.0 room in
    record {
      get = a.get;
      told = a.told;
      kept = keeps-item tells old y p.child a;
      here = tree-leaf a.get 4 4 0 p.child y a.here refl ∙ ap (option_and_then filled) o ∙ filled-some rs f.1;
      first = key ∙ f.0;
      some = f.1;
      fits = fits;
      id = a.some;
    }

-- the pair's heap id is that of the leaf
named : (get : ℕ → Option (List ℕ)) (p : Pair) (rs : List (ℕ × List ℕ)) → p.child < 2 ^ 32 → tree get 4 4 0 p.child ≡ Some rs → tree get 4 4 0 (little_number 4 (pair_of p).1) ≡ Some rs
named get p rs fits h = ap (tree get 4 4 0) (little_number-reads_back 4 p.child [] fits) ∙ h

pub leaves-one : (tells : (ℕ → Option (List ℕ)) → Type 0) (old : ℕ → Option (List ℕ)) (p : Pair) (rs : List (ℕ × List ℕ)) → AddsLeaf tells old p rs → within 0 (2 ^ 32) rs ≡ true → AddsPairs tells old (Single p) rs
leaves-one tells old p rs a w = record {
  get = a.get;
  told = a.told;
  kept = a.kept;
  reads = one-leaf (tree a.get 4 4 0) (pair_of p) rs w a.some a.first (named a.get p rs a.fits a.here);
  first = a.first;
  top = (a.id, a.fits);
}

pub leaves-behind : (tells : (ℕ → Option (List ℕ)) → Type 0) (old : ℕ → Option (List ℕ)) (p q : Pair) (xs ys : List (ℕ × List ℕ)) → tree old 4 4 0 p.child ≡ Some xs → p.child < 2 ^ 32 → p.key ≡ end_of xs → 0 < length xs
    → AddsLeaf tells old q ys → within 0 (2 ^ 32) (xs ++ ys) ≡ true → AddsPairs tells old (Double p q) (xs ++ ys)
leaves-behind tells old p q xs ys here fits first some a w = record {
  get = a.get;
  told = a.told;
  kept = a.kept;
  reads = two-leaves (tree a.get 4 4 0) (pair_of p) (pair_of q) xs ys w some a.some first a.first
      (named a.get p xs fits (tree-kept old a.get 4 4 0 p.child xs a.kept here)) (named a.get q ys a.fits a.here);
  first = first ∙ sym (end-left xs ys some);
  top = tt;
}

-- a second leaf behind one that was added before
pub leaves-two : (mid tells : (ℕ → Option (List ℕ)) → Type 0) (old : ℕ → Option (List ℕ)) (p q : Pair) (xs ys : List (ℕ × List ℕ)) (a : AddsLeaf mid old p xs) → AddsLeaf tells a.get q ys → within 0 (2 ^ 32) (xs ++ ys) ≡ true
    → AddsPairs tells old (Double p q) (xs ++ ys)
leaves-two mid tells old p q xs ys a b w =
    let c = leaves-behind tells a.get p q xs ys a.here a.fits a.first a.some b w in
    record { get = c.get; told = c.told; kept = λ h x was. c.kept h x (a.kept h x was); reads = c.reads; first = c.first; top = c.top }

children-are : (child : ℕ → Option (List (ℕ × List ℕ))) (y : List ℕ) (ps : List (ℕ × List ℕ)) → whole 4 4 y ≡ Some ps → children child 4 y ≡ gather child ps
unfolding children
children-are child y ps h = ap (option_and_then (gather child)) h

-- an inner item above leaves
pub adds-inner : (tells : (ℕ → Option (List ℕ)) → Type 0) (old : ℕ → Option (List ℕ)) (y : List ℕ) (hid : ℕ) (ps recs : List (ℕ × List ℕ)) → AddsItem tells old y hid → 8 ≤ length y → whole 4 4 y ≡ Some ps
    → gather (tree old 4 4 0) ps ≡ Some recs → AddsInner tells old hid recs
adds-inner tells old y hid ps recs a room h g = record {
  get = a.get;
  told = a.told;
  kept = keeps-item tells old y hid a;
  reads = tree-suc a.get 4 4 0 hid y a.here ∙ ap (option_and_then filled) (children-are (tree a.get 4 4 0) y ps h ∙ level-kept old a.get 4 4 0 ps recs (keeps-item tells old y hid a) g)
      ∙ filled-some recs (covers-some (tree old 4 4 0) (2 ^ 32) ps recs (from-gather (tree old 4 4 0) (tree-some old 4 4 0) ps recs g) (omega (arith, spells-length y ps (from-whole y ps h), room)));
  id = a.some;
}

pub adds-header : (tells : (ℕ → Option (List ℕ)) → Type 0) (old : ℕ → Option (List ℕ)) (level hid at : ℕ) (recs : List (ℕ × List ℕ)) → AddsItem tells old (header_of 4 4 level hid) at → hid < 2 ^ 32 → hid ≢ 0
    → root old 4 4 level hid ≡ Some recs → HasIndex tells old at recs
adds-header tells old level hid at recs a fits some h = record {
  get = a.get;
  told = a.told;
  kept = keeps-item tells old (header_of 4 4 level hid) at a;
  reads = header-over a.get at 4 4 level hid recs fits some a.here (root-kept old a.get 4 4 level hid recs (keeps-item tells old (header_of 4 4 level hid) at a) h);
}

-- what a header says
pub top-is : (get : ℕ → Option (List ℕ)) (header : ℕ) (x : List ℕ) (recs : List (ℕ × List ℕ)) → get header ≡ Some x → bth get header 4 4 ≡ Some recs → (8 ≤ length x) × (under get 4 4 x ≡ Some recs)
unfolding bth
top-is get header x recs here h =
    let g : (if is_header 4 4 x then under get 4 4 x else None) ≡ Some recs = sym (ap (option_and_then (λ (y : List ℕ). if is_header 4 4 y then under get 4 4 y else None)) here) ∙ h in
    elim (cases_Bool (is_header 4 4 x)) [
      | inl t ↦
          let p = and_parts (nat_le 8 (length x)) (number_at 1 0 x == 0xB5 && (number_at 1 1 x == 4 && number_at 1 2 x == 4)) t in
          (leb-true 8 (length x) p.0, rw t at g)
      | inr f ↦ absurd (none-some recs (rw f at g))
    ]

pub top-of : (get : ℕ → Option (List ℕ)) (x : List ℕ) (level hid : ℕ) (recs : List (ℕ × List ℕ)) → under get 4 4 x ≡ Some recs → level ≡ number_at 1 3 x → hid ≡ number_at 4 4 x → HasTop get level hid recs
top-of get x level hid recs h a b = elim (cases_eq hid 0) [
  | inl z ↦ inl (z, sym (some-injective [] recs (sym (under-none get 4 4 x (sym b ∙ z)) ∙ h)))
  | inr n ↦ inr (n, ap (λ (m : ℕ). root get 4 4 m hid) a ∙ ap (root get 4 4 (number_at 1 3 x)) b ∙ (sym (under-root get 4 4 x (λ z. n (b ∙ z))) ∙ h))
]

pub header-item : (get : ℕ → Option (List ℕ)) (header : ℕ) (recs : List (ℕ × List ℕ)) → bth get header 4 4 ≡ Some recs → (x : List ℕ) × (get header ≡ Some x)
unfolding bth
header-item get header recs h =
    let b = bind-some (λ (y : List ℕ). if is_header 4 4 y then under get 4 4 y else None) (get header) recs h in
    (b.0, b.1)

pub root-is_leaf : (get : ℕ → Option (List ℕ)) (level hid : ℕ) (recs : List (ℕ × List ℕ)) → level ≡ 0 → root get 4 4 level hid ≡ Some recs → leaf get 4 4 hid ≡ Some recs
unfolding root
root-is_leaf get level hid recs z h = sym (ap (λ (m : ℕ). root get 4 4 m hid) z) ∙ h

pub root-is_tree : (get : ℕ → Option (List ℕ)) (level n hid : ℕ) (recs : List (ℕ × List ℕ)) → level ≡ suc n → root get 4 4 level hid ≡ Some recs → tree get 4 4 (suc n) hid ≡ Some recs
unfolding root
root-is_tree get level n hid recs z h = sym (ap (λ (m : ℕ). root get 4 4 m hid) z) ∙ h

-- a level's first item, whose root it may be
pub tree-root : (get : ℕ → Option (List ℕ)) (n hid : ℕ) (recs : List (ℕ × List ℕ)) → tree get 4 4 n hid ≡ Some recs → root get 4 4 n hid ≡ Some recs
tree-root get n hid recs h = root-from get 4 4 n hid recs h

pub top-none : (get : ℕ → Option (List ℕ)) (level hid : ℕ) (recs : List (ℕ × List ℕ)) → HasTop get level hid recs → hid ≡ 0 → recs ≡ []
top-none get level hid recs (inl t) z = t.1
top-none get level hid recs (inr t) z = absurd (t.0 z)

pub top-some : (get : ℕ → Option (List ℕ)) (level hid : ℕ) (recs : List (ℕ × List ℕ)) → HasTop get level hid recs → (hid ≡ 0 → ⊥) → root get 4 4 level hid ≡ Some recs
top-some get level hid recs (inl t) n = absurd (n t.0)
top-some get level hid recs (inr t) n = t.1

-- one level down on the way to a key
pub find-step : (get : ℕ → Option (List ℕ)) (n key at : ℕ) (recs : List (ℕ × List ℕ)) (index child : ℕ) → key < 2 ^ 32 → Reaches get n key at recs index child
    → (rs : List (ℕ × List ℕ)) × (root get 4 4 n child ≡ Some rs) × (entry_of key recs ≡ entry_of key rs)
find-step get n key at recs index child fits r =
    let l = located get n key at recs index child fits r in
    (l.part, tree-root get n child l.part l.here, located-entry (tree get 4 4 n) key r.pairs recs index child l)
