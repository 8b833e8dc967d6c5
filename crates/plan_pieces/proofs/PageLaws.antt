-- New pages show what was planned.
use Rattle.std.proofs.Common.{◌≡◌, ◌∙◌, ℕ, zero, suc, ◌+◌, ◌<◌, ◌≤◌, true, List, [], ◌∷◌, ◌++◌, map, length, take, get_or, Ok, Some, refl, sym, ap, subst, arith}
use Rattle.std.proofs.lemmas.Bool.{lt-ltb}
use Rattle.std.proofs.lemmas.List.{length-take-le, take_more}
use Rattle.std.specs.List.{All}
use Rattle.pst_base.specs.declared.ids.Bref.{Bref}
use Rattle.pst_base.specs.declared.places.Place.{Place}
use Rattle.btree_pages.specs.declared.inner.Inner.{Inner}
use Rattle.btree_pages.specs.Entries.{inner_bytes, InnerFits}
use Rattle.btree_pages.specs.Pages.{ascend, page_of, rise_above}
use Rattle.lays_kept.specs.declared.Piece.{Piece}
use Rattle.tree_edit.specs.declared.plan.Child.{Child}
use Rattle.tree_edit.specs.declared.plan.PlanPage.{PlanPage}
use Rattle.tree_edit.specs.Pages.{seen}
use Rattle.tree_edit.specs.Plans.{AreKeys, AreWritable, IsWritable, keys_of, resolve, resolved}
use Rattle.tree_edit.specs.Shapes.{RiseIn, inner, leaf}
use Rattle.node_layout.specs.Lookups.{Each as EachOf}
use Rattle.node_layout.specs.Pieces.{piece_place}
use Rattle.node_layout.specs.Written.{AreWritten, IsWritten}
use Rattle.node_layout.proofs.WrittenLaws.{ChildFits, inner-shows, inners, leaf-shows}
use Rattle.plan_pieces.specs.Names.{inner_entries, named}
use Rattle.plan_pieces.proofs.ListLaws.{each-of-all, place-parts}

-- keys that rise ascend
rises-above : (k high : ℕ) (ks : List ℕ) → RiseIn (k + 1) high ks → rise_above k ks ≡ true
rises-above k high [] r = refl
rises-above k high (x ∷ xs) r = let a = r.0 in rw (lt-ltb k x (omega (arith, a))) (rises-above x high xs r.2)

pub rise-ascends : (low high : ℕ) (ks : List ℕ) → RiseIn low high ks → ascend ks ≡ true
rise-ascends low high [] r = refl
rise-ascends low high (x ∷ xs) r = rises-above x high xs r.2

-- the tree's rule leaves the keys of the entries
pub rule-keys : (rule : ℕ → ℕ) (name : ℕ → Bref) (cs : List (ℕ × Child)) → AreKeys rule (keys_of cs) → map (λ (e : Inner). rule e.key) (inner_entries name cs) ≡ keys_of cs
rule-keys rule name [] are = refl
rule-keys rule name (c ∷ cs) are = ap (λ (k : ℕ). k ∷ map (λ (e : Inner). rule e.key) (inner_entries name cs)) are.0 ∙ ap (λ (l : List ℕ). c.0 ∷ l) (rule-keys rule name cs are.1)

entries-of : (name : ℕ → Bref) (cs : List (ℕ × Child)) → inner_entries name cs ≡ inners (resolved name cs)
entries-of name [] = refl
entries-of name (c ∷ cs) = ap (λ (l : List Inner). record { key = c.0; page = resolve name c.1 } ∷ l) (entries-of name cs)

children-fit : (rule : ℕ → ℕ) (name : ℕ → Bref) (cs : List (ℕ × Child)) → AreKeys rule (keys_of cs) → EachOf InnerFits (inner_entries name cs) → EachOf (ChildFits rule) (resolved name cs)
children-fit rule name [] are fit = tt
children-fit rule name (c ∷ cs) are fit = (record { fits = fit.0; steady = are.0 }, children-fit rule name cs are.1 fit.1)

-- a leaf's content
pub leaf-body : {E : Type 0} (rule : ℕ → ℕ) (size : ℕ) (bytes : E → List ℕ) (entry_of : List ℕ → E) (fits : E → Type 0) → ((e : E) → fits e → entry_of (bytes e) ≡ e) → (body : List ℕ) (es : List E) → All fits es
    → page_of rule size body ≡ Ok (record { level = 0; entries = map bytes es }) → seen rule entry_of (page_of rule size body) ≡ Some (leaf es)
leaf-body rule size bytes entry_of fits law body es all reads = leaf-shows rule size bytes entry_of fits law body es (each-of-all fits es all) reads

-- an inner page's content
pub inner-body : {E : Type 0} (rule : ℕ → ℕ) (size : ℕ) (entry_of : List ℕ → E) (body : List ℕ) (level : ℕ) (name : ℕ → Bref) (cs : List (ℕ × Child)) (entries : List Inner) → 1 ≤ level → AreKeys rule (keys_of cs) → entries ≡ inner_entries name cs → All InnerFits entries
    → page_of rule size body ≡ Ok (record { level = level; entries = map inner_bytes entries }) → seen rule entry_of (page_of rule size body) ≡ Some (inner {E = E} level (resolved name cs))
inner-body {E} rule size entry_of body level name cs entries some are is fit reads =
    inner-shows {E = E} rule size entry_of body level (resolved name cs) some (children-fit rule name cs are (each-of-all InnerFits (inner_entries name cs) (subst (All InnerFits) is fit)))
    (reads ∙ ap (λ (l : List Inner). Ok (record { level = level; entries = map inner_bytes l })) (is ∙ entries-of name cs))

-- one more page is written
written-push : {E : Type 0} (rule : ℕ → ℕ) (size : ℕ) (entry_of : List ℕ → E) (kind : ℕ) (name : ℕ → Bref) (from : ℕ) (ps : List (PlanPage E)) (qs : List Piece) (p : PlanPage E) (q : Piece)
    → AreWritten rule size entry_of kind name from ps qs → IsWritten rule size entry_of kind name (name (from + length ps)) p q → AreWritten rule size entry_of kind name from (ps ++ p ∷ []) (qs ++ q ∷ [])
written-push {E} rule size entry_of kind name from [] qs p q are is =
    let e : from + 0 ≡ from = omega arith in
    subst (λ (l : List Piece). AreWritten rule size entry_of kind name from (p ∷ []) (l ++ q ∷ [])) (sym are) (subst (λ (n : ℕ). IsWritten rule size entry_of kind name (name n) p q) e is, refl)
written-push rule size entry_of kind name from (x ∷ ps) [] p q are is = absurd are
written-push {E} rule size entry_of kind name from (x ∷ ps) (y ∷ qs) p q are is =
    let e : from + length (x ∷ ps) ≡ from + 1 + length ps = omega arith in
    (are.0, written-push rule size entry_of kind name (from + 1) ps qs p q are.1 (subst (λ (n : ℕ). IsWritten rule size entry_of kind name (name n) p q) e is))

pub more-written : {E : Type 0} (rule : ℕ → ℕ) (size : ℕ) (entry_of : List ℕ → E) (kind : ℕ) (name : ℕ → Bref) (pages : List (PlanPage E)) (i : ℕ) (page : PlanPage E) (old new : List Piece) (q : Piece) → i < length pages → page ≡ get_or pages i page
    → AreWritten rule size entry_of kind name 0 (take i pages) old → IsWritten rule size entry_of kind name (name i) page q → new ≡ old ++ q ∷ [] → AreWritten rule size entry_of kind name 0 (take (i + 1) pages) new
more-written {E} rule size entry_of kind name pages i page old new q lt here are is items =
    let k : 0 + length (take i pages) ≡ i = omega (arith, length-take-le i pages (omega (arith, lt))) in
    subst (AreWritten rule size entry_of kind name 0 (take (i + 1) pages)) (sym items)
    (subst (λ (l : List (PlanPage E)). AreWritten rule size entry_of kind name 0 l (old ++ q ∷ [])) (ap (λ (p : PlanPage E). take i pages ++ p ∷ []) here ∙ sym (take_more pages i page lt))
    (written-push rule size entry_of kind name 0 (take i pages) old page q are (subst (λ (n : ℕ). IsWritten rule size entry_of kind name (name n) page q) (sym k) is)))

-- the name of a page within the places
pub named-within : (first : ℕ) (places : List Place) (i : ℕ) → i < length places → named first places i ≡ record { bid = record { bits = first + i }; ib = (get_or places i (record { ib = 0; len = 0 })).ib }
unfolding named
named-within first places i lt = rw (lt-ltb i (length places) lt) refl

-- a page that is written for its place fills it
pub page-fills : (first : ℕ) (places : List Place) (i : ℕ) (q : Piece) → i < length places → All (λ (p : Place). p.len ≡ 512) places → q.at ≡ (named first places i).ib → length q.bytes ≡ 512 → piece_place q ≡ get_or places i (record { ib = 0; len = 0 })
page-fills first places i q lt sized at size =
    let p : Place = get_or places i (record { ib = 0; len = 0 }) in
    place-parts p q.at (length q.bytes) (at ∙ ap (λ (b : Bref). b.ib) (named-within first places i lt)) (size ∙ sym (sized i (record { ib = 0; len = 0 }) lt))

-- each page may be written
pub writable-at : {E : Type 0} (key : E → ℕ) (rule : ℕ → ℕ) (size : ℕ) (pages : List (PlanPage E)) (i : ℕ) (page : PlanPage E) → AreWritable key rule size pages → i < length pages → page ≡ get_or pages i page → IsWritable key rule size page
writable-at key rule size [] i page are lt is = absurd (omega (arith, lt))
writable-at key rule size (p ∷ pages) zero page are lt is = subst (IsWritable key rule size) (sym is) are.0
writable-at key rule size (p ∷ pages) (suc i) page are lt is = writable-at key rule size pages i page are.1 (omega (arith, lt)) is
