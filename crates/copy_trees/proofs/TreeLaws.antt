-- Pages that show what was written are a packed tree.
use Rattle.std.proofs.Common.{◌≡◌, ◌∙◌, ℕ, suc, ◌<◌, ◌≤◌, List, [], ◌∷◌, ◌++◌, map, length, Option, refl, sym, ap, subst, arith}
use Rattle.std.proofs.lemmas.List.{length-map, nil_from_length}
use Rattle.pst_base.specs.declared.ids.Bref.{Bref}
use Rattle.data_tree.proofs.PieceLaws.{joined}
use Rattle.tree_edit.specs.Shapes.{Shape, inner, leaf}
use Rattle.packed_tree.specs.Packed.{AreAbove, ArePages, IsPacked, children, first_of, groups, head}
use Rattle.copy_trees.specs.Levels.{AreLevels, AreLevelsAbove, IsRoot, pages_for}
use Rattle.copy_trees.specs.Writes.{shapes_above, shapes_in}
use Rattle.copy_trees.proofs.WriteLaws.{children-count, groups-count}

-- the first pages and the others
pages-split : {E : Type 0} (find : Bref → Option (Shape E)) (ss ts : List (Shape E)) (ats bts : List Bref) → length ss ≡ length ats → ArePages find (ss ++ ts) (ats ++ bts) → ArePages find ss ats × ArePages find ts bts
pages-split find [] ts [] bts same are = (refl, are)
pages-split find [] ts (at ∷ ats) bts same are = absurd (omega (arith, same))
pages-split find (s ∷ ss) ts [] bts same are = absurd (omega (arith, same))
pages-split find (s ∷ ss) ts (at ∷ ats) bts same are = let more = pages-split find ss ts ats bts (omega (arith, same)) are.1 in ((are.0, more.0), more.1)

root-alone : {X : Type 0} (key : X → ℕ) (gs : List (List X)) (ats : List Bref) (root : Bref) → length gs ≡ length ats → ats ≡ root ∷ [] → (k : ℕ) × (children key gs ats ≡ (k, root) ∷ [])
root-alone key [] [] root same is = absurd (let long = ap length is in omega (arith, long))
root-alone key [] (at ∷ ats) root same is = absurd (omega (arith, same))
root-alone key (g ∷ gs) [] root same is = absurd (omega (arith, same))
root-alone {X} key (g ∷ gs) (at ∷ ats) root same is =
    let long = ap length is in
    let none : gs ≡ [] = nil_from_length gs (omega (arith, same, long)) in
    (first_of key g, ap (children key (g ∷ gs)) is ∙ ap (λ (l : List (List X)). (first_of key g, root) ∷ children key l []) none)

above-packed : {X E : Type 0} (find : Bref → Option (Shape E)) (key : X → ℕ) (n : ℕ) (gs : List (List X)) (ats : List Bref) (levels : List (List Bref)) (root : Bref) → length gs ≡ length ats → AreLevelsAbove (length ats) levels
    → IsRoot (ats ∷ levels) root → ArePages find (shapes_above n (children key gs ats) levels) (joined levels) → AreAbove find n (children key gs ats) levels root
above-packed find key n gs ats [] root same higher root_is are = root-alone key gs ats root same root_is
above-packed {X} {E} find key n gs ats (next ∷ levels) root same higher root_is are =
    let cs = children key gs ats in
    let two = higher.0 in
    let size = children-count key gs ats same in
    let count : length (groups 20 cs) ≡ length next = groups-count 20 cs (omega arith) ∙ ap (pages_for 20) size ∙ sym higher.1 in
    let shapes = length-map (groups 20 cs) (inner {E = E} (suc n)) in
    let parts = pages-split find (map (inner (suc n)) (groups 20 cs)) (shapes_above (suc n) (children head (groups 20 cs) next) levels) next (joined levels) (shapes ∙ count) are in
    (omega (arith, two, size), parts.0, above-packed find head (suc n) (groups 20 cs) next levels root count higher.2 root_is parts.1)

levels-packed : {E : Type 0} (find : Bref → Option (Shape E)) (key : E → ℕ) (most : ℕ) (es : List E) (leaves : List Bref) (above : List (List Bref)) (root : Bref) → 0 < most → length leaves ≡ pages_for most (length es) → length above ≤ 7
    → AreLevelsAbove (length leaves) above → IsRoot (leaves ∷ above) root → ArePages find (shapes_in key most es (leaves ∷ above)) (joined (leaves ∷ above)) → IsPacked find key most es (leaves ∷ above) root
levels-packed {E} find key most es leaves above root some enough few higher root_is are =
    let gs = groups most es in
    let count : length gs ≡ length leaves = groups-count most es some ∙ sym enough in
    let parts = pages-split find (map leaf gs) (shapes_above 0 (children key gs leaves) above) leaves (joined above) (length-map gs (leaf {E = E}) ∙ count) are in
    record {
      leaves = leaves;
      above = above;
      are = refl;
      low_enough = few;
      entries = parts.0;
      names = above-packed find key 0 gs leaves above root count higher root_is parts.1;
    }

-- pages that show at their places what the pages of the levels show are a packed tree of these entries
pub written-packed : {E : Type 0} (find : Bref → Option (Shape E)) (key : E → ℕ) (most : ℕ) (es : List E) (levels : List (List Bref)) (root : Bref) → 0 < most → AreLevels most (length es) levels root
    → ArePages find (shapes_in key most es levels) (joined levels) → IsPacked find key most es levels root
written-packed {E} find key most es levels root some is are =
    subst (λ (l : List (List Bref)). IsPacked find key most es l root) (sym is.are)
    (levels-packed find key most es is.leaves is.above root some is.enough is.few is.higher (subst (λ (l : List (List Bref)). IsRoot l root) is.are is.root_is)
    (subst (λ (l : List (List Bref)). ArePages find (shapes_in key most es l) (joined l)) is.are are))
