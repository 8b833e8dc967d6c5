-- What a page that is written shows.
use Rattle.std.proofs.Common.{◌≡◌, ◌∙◌, ℕ, ◌≤◌, List, [], ◌∷◌, map, Ok, Some, refl, sym, ap}
use Rattle.std.specs.List.{All}
use Rattle.btree_pages.specs.declared.inner.Inner.{Inner}
use Rattle.btree_pages.specs.Entries.{inner_bytes, InnerFits}
use Rattle.btree_pages.specs.Pages.{page_of}
use Rattle.tree_edit.specs.Pages.{seen}
use Rattle.tree_edit.specs.Plans.{AreKeys}
use Rattle.tree_edit.specs.Shapes.{inner}
use Rattle.node_layout.specs.Lookups.{Each as EachOf}
use Rattle.node_layout.proofs.WrittenLaws.{ChildFits, inner-shows, inners}
use Rattle.plan_pieces.proofs.ListLaws.{each-of-all}
use Rattle.packed_tree.specs.Shown.{keys, kids}

pub rule-keys : (rule : ℕ → ℕ) (cs : List Inner) → AreKeys rule (keys cs) → map (λ (e : Inner). rule e.key) cs ≡ keys cs
rule-keys rule [] are = refl
rule-keys rule (c ∷ cs) are = ap (λ (k : ℕ). k ∷ map (λ (e : Inner). rule e.key) cs) are.0 ∙ ap (λ (l : List ℕ). c.key ∷ l) (rule-keys rule cs are.1)

inners-kids : (cs : List Inner) → inners (kids cs) ≡ cs
inners-kids [] = refl
inners-kids (c ∷ cs) = ap (λ (l : List Inner). c ∷ l) (inners-kids cs)

kids-fit : (rule : ℕ → ℕ) (cs : List Inner) → AreKeys rule (keys cs) → EachOf InnerFits cs → EachOf (ChildFits rule) (kids cs)
kids-fit rule [] are fit = tt
kids-fit rule (c ∷ cs) are fit = (record { fits = fit.0; steady = are.0 }, kids-fit rule cs are.1 fit.1)

pub inner-body : {E : Type 0} (rule : ℕ → ℕ) (size : ℕ) (entry_of : List ℕ → E) (body : List ℕ) (level : ℕ) (cs : List Inner) → 1 ≤ level → AreKeys rule (keys cs) → All InnerFits cs
    → page_of rule size body ≡ Ok (record { level = level; entries = map inner_bytes cs }) → seen rule entry_of (page_of rule size body) ≡ Some (inner {E = E} level (kids cs))
inner-body {E} rule size entry_of body level cs some are fit reads =
    inner-shows {E = E} rule size entry_of body level (kids cs) some (kids-fit rule cs are (each-of-all InnerFits cs fit))
    (reads ∙ ap (λ (l : List Inner). Ok (record { level = level; entries = map inner_bytes l })) (sym (inners-kids cs)))
