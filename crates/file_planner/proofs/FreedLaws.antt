-- What edits of the block tree free.
use Rattle.std.proofs.Common.{Bool, true, false, ◌≡◌, inl, inr, ℕ, zero, suc, ◌+◌, ◌^◌, ◌≤◌, eqb, List, [], ◌∷◌, ◌++◌, map, Option, Some, None, refl, ap, subst, arith, if◌then◌else◌}
use Rattle.std.proofs.lemmas.Bool.{cases_lt, lt-ltb, le-ltb}
use Rattle.pst_base.specs.declared.ids.Bref.{Bref}
use Rattle.pst_base.specs.declared.places.Place.{Place}
use Rattle.btree_pages.specs.declared.entry.BlockEntry.{BlockEntry}
use Rattle.file_blocks.specs.Blocks.{entry_key}
use Rattle.file_layout.specs.Nodes.{place_of}
use Rattle.alloc_map.specs.Tally.{one_at, tally}
use Rattle.alloc_map.proofs.TallyLaws.{tally_append}
use Rattle.tree_edit.specs.Edits.{AreEdits, entry_with, of_some}
use Rattle.tree_edit.specs.Shapes.{IsWhole, IsRootOf, IsTree, RiseIn, Shape}
use Rattle.tree_edit.proofs.ShapeLaws.{below-rise, tree-rise}
use Rattle.node_layout.specs.Lookups.{sum_of}
use Rattle.node_layout.specs.Counts.{sum_put}
use Rattle.ref_counts.specs.declared.table.RefChange.{RefChange}
use Rattle.plan_drawing.specs.Recounts.{edit_of, left_places, place_left, puts_of, recounted, recounts, with_refs}
use Rattle.plan_drawing.proofs.NewLaws.{sum_olds}
use Rattle.plan_drawing.proofs.RecountLaws.{put-sum-append}
use Rattle.file_planner.proofs.SlotLaws.{AllTame, IsTame}

-- ---- keys of a whole tree ascend

root-rise : {E : Type 0} (find : Bref → Option (Shape E)) (key : E → ℕ) (n low high : ℕ) (at : Bref) (es : List E) (ps : List Bref) → IsRootOf find key n low high at es ps → RiseIn low high (map key es)
root-rise find key zero low high at es ps is = is.rises
root-rise find key (suc n) low high at es ps is = below-rise (IsTree find key n) key (tree-rise find key n) low high is.children es is.below is.rises is.are

pub whole-rise : {E : Type 0} (find : Bref → Option (Shape E)) (key : E → ℕ) (root : Bref) (es : List E) (ps : List Bref) → IsWhole find key root es ps → RiseIn 0 (2 ^ 64) (map key es)
whole-rise find key root es ps is = root-rise find key is.level 0 (2 ^ 64) root es ps is.tree

-- ---- sums

pub olds-append : (f : BlockEntry → ℕ) (es : List BlockEntry) (xs ys : List (ℕ × Option BlockEntry)) → sum_olds entry_key f es (xs ++ ys) ≡ sum_olds entry_key f es xs + sum_olds entry_key f es ys
olds-append f es [] ys = omega arith
olds-append f es (x ∷ xs) ys = let h = olds-append f es xs ys in omega (arith, h)

-- an entry is put again, or its place is left
one-left : (slot : ℕ) (e : BlockEntry) (c : RefChange) → one_at slot (place_of e) ≡ of_some (λ o. one_at slot (place_of o)) (recounted e c.after) + tally slot (place_left (Some e) c)
one-left slot e c = by (eqb c.after 0)
  where
    by : (b : Bool) → one_at slot (place_of e) ≡ of_some (λ o. one_at slot (place_of o)) (if b then None else Some (with_refs e c.after)) + tally slot (if b then place_of e ∷ [] else [])
    by true = omega arith
    by false = omega arith

edit-left : (slot : ℕ) (es : List BlockEntry) (c : RefChange) (o : Option BlockEntry) → entry_with entry_key c.key es ≡ o
    → sum_olds entry_key (λ x. one_at slot (place_of x)) es (edit_of o c) ≡ sum_put (λ x. one_at slot (place_of x)) (edit_of o c) + tally slot (place_left o c)
edit-left slot es c None is = refl
edit-left slot es c (Some e) is =
    let a = one-left slot e c in
    let b : of_some (λ x. one_at slot (place_of x)) (entry_with entry_key c.key es) ≡ one_at slot (place_of e) = ap (of_some (λ x. one_at slot (place_of x))) is in
    omega (arith, a, b)

pub recounts-sum : (slot : ℕ) (es : List BlockEntry) (next : ℕ) (cs : List RefChange)
    → sum_olds entry_key (λ x. one_at slot (place_of x)) es (recounts es next cs) ≡ sum_put (λ x. one_at slot (place_of x)) (recounts es next cs) + tally slot (left_places es next cs)
recounts-sum slot es next [] = refl
recounts-sum slot es next (c ∷ cs) =
    let f : BlockEntry → ℕ = λ x. one_at slot (place_of x) in
    let rest = recounts-sum slot es next cs in
    let o : Option BlockEntry = entry_with entry_key c.key es in
    elim (cases_lt c.key next) [
      | inl lt ↦ rw (lt-ltb c.key next lt) (
          let a = olds-append f es (edit_of o c) (recounts es next cs) in
          let b = put-sum-append f (edit_of o c) (recounts es next cs) in
          let d = tally_append slot (place_left o c) (left_places es next cs) in
          let g = edit-left slot es c o refl in
          omega (arith, a, b, d, g, rest))
      | inr le ↦ rw (le-ltb c.key next le) rest
    ]

-- new keys have no entries
pub puts-olds : (f : BlockEntry → ℕ) (es news : List BlockEntry) (low high : ℕ) → AreEdits entry_key low high (puts_of news) → ((k : ℕ) → low ≤ k → entry_with entry_key k es ≡ None) → sum_olds entry_key f es (puts_of news) ≡ 0
puts-olds f es [] low high are none = refl
puts-olds f es (e ∷ news) low high are none =
    let a = are.0 in
    let here = ap (of_some f) (none (entry_key e) a) in
    let rest = puts-olds f es news (entry_key e + 1) high are.3 (λ k le. none k (omega (arith, a, le))) in
    omega (arith, here, rest)

pub puts-sum : (f : BlockEntry → ℕ) (news : List BlockEntry) → sum_put f (puts_of news) ≡ sum_of f news
puts-sum f [] = refl
puts-sum f (e ∷ news) = ap (λ (n : ℕ). f e + n) (puts-sum f news)

-- ---- places

tame-append : (xs ys : List Place) → AllTame xs → AllTame ys → AllTame (xs ++ ys)
tame-append [] ys a b = b
tame-append (x ∷ xs) ys a b = (a.0, tame-append xs ys a.1 b)

pub tame-both : (xs ys : List Place) → AllTame xs → AllTame ys → AllTame (xs ++ ys)
tame-both xs ys a b = tame-append xs ys a b

pub tame-front : (xs ys : List Place) → AllTame (xs ++ ys) → AllTame xs
tame-front [] ys a = tt
tame-front (x ∷ xs) ys a = (a.0, tame-front xs ys a.1)

pub tame-back : (xs ys : List Place) → AllTame (xs ++ ys) → AllTame ys
tame-back [] ys a = a
tame-back (x ∷ xs) ys a = tame-back xs ys a.1

tame-with : (k : ℕ) (es : List BlockEntry) (o : Option BlockEntry) (c : RefChange) → entry_with entry_key k es ≡ o → AllTame (map place_of es) → AllTame (place_left o c)
tame-with k es None c is tame = tt
tame-with k es (Some e) c is tame = by (eqb c.after 0) (tame-at k es e is tame)
  where
    by : (b : Bool) → IsTame (place_of e) → AllTame (if b then place_of e ∷ [] else [])
    by true own = (own, tt)
    by false own = tt

    tame-at : (k : ℕ) (es : List BlockEntry) (e : BlockEntry) → entry_with entry_key k es ≡ Some e → AllTame (map place_of es) → IsTame (place_of e)
    tame-at k [] e h tame = absurd (cc)
    tame-at k (x ∷ es) e h tame = step (eqb (entry_key x) k) (tame-at k es e) h
      where
        some-one : ◌≡◌ {A = Option BlockEntry} (Some x) (Some e) → x ≡ e
        some-one i = cc

        step : (b : Bool) → (entry_with entry_key k es ≡ Some e → AllTame (map place_of es) → IsTame (place_of e)) → (if b then Some x else entry_with entry_key k es) ≡ Some e → IsTame (place_of e)
        step true rest i = subst (λ (y : BlockEntry). IsTame (place_of y)) (some-one i) tame.0
        step false rest i = rest i tame.1

pub left-tame : (es : List BlockEntry) (next : ℕ) (cs : List RefChange) → AllTame (map place_of es) → AllTame (left_places es next cs)
left-tame es next [] tame = tt
left-tame es next (c ∷ cs) tame =
    let rest = left-tame es next cs tame in
    elim (cases_lt c.key next) [
      | inl lt ↦ rw (lt-ltb c.key next lt) (tame-append (place_left (entry_with entry_key c.key es) c) (left_places es next cs) (tame-with c.key es (entry_with entry_key c.key es) c refl tame) rest)
      | inr le ↦ rw (le-ltb c.key next le) rest
    ]
