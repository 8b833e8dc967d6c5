-- Pages written one after another.
use Rattle.std.proofs.Common.{◌≡◌, ◌∙◌, ℕ, zero, suc, ◌+◌, ◌-◌, ◌/◌, ◌<◌, ◌≤◌, ◌^◌, min, List, [], ◌∷◌, ◌++◌, map, length, take, drop, get_or, refl, sym, ap, subst, arith, append_assoc}
use Rattle.std.proofs.lemmas.List.{append-nil, drop_all, drop-map, drop_min, drop_more, length-map, length-take, take_all, take-map, take_min, take_more}
use Rattle.std.proofs.Math.Nat.{div-eq_of_lt}
use Rattle.std.proofs.Math.Seq.{take-nil}
use Rattle.pst_base.specs.declared.ids.Bref.{Bref}
use Rattle.pst_outside.specs.World.{after_write}
use Rattle.btree_pages.specs.declared.inner.Inner.{Inner}
use Rattle.data_tree.specs.Plan.{cut, pieces}
use Rattle.data_tree.proofs.PieceLaws.{Each, cut-more, joined, length-cut}
use Rattle.lays_kept.specs.declared.Piece.{Piece}
use Rattle.tree_edit.specs.Plans.{AreKeys}
use Rattle.tree_edit.specs.Shapes.{RiseIn, Shape, inner, leaf}
use Rattle.tree_edit.proofs.ShapeLaws.{map-join, rise-widen}
use Rattle.packed_tree.specs.Packed.{children, first_of, groups, head}
use Rattle.packed_tree.specs.Shown.{ShowsPage, keys, kids}
use Rattle.packed_tree.proofs.PackedLaws.{Has, groups-joined, groups-some, heads-rise}
use Rattle.copy_pieces.proofs.AddLaws.{adds-none, adds-then, adds-write}
use Rattle.copy_trees.specs.Levels.{AreLevels, AreLevelsAbove, pages_for}
use Rattle.copy_trees.specs.Writes.{AddsPages, AddsTree, ArePagesOf, Form, shapes_above, shapes_in}
use Rattle.copy_trees.proofs.LevelLaws.{joined-more}

-- ---- pages

pub pages-none : {E : Type 0} (form : Form E) (copy : List ℕ) → AddsPages form [] [] copy copy
pages-none form copy = record { pieces = []; are = (refl, refl); adds = adds-none copy }

of-join : {E : Type 0} (form : Form E) (ss ts : List (Shape E)) (ats bts : List Bref) (ps qs : List Piece) → ArePagesOf form ss ats ps → ArePagesOf form ts bts qs → ArePagesOf form (ss ++ ts) (ats ++ bts) (ps ++ qs)
of-join form [] ts ats bts ps qs a b =
    subst (λ (l : List Bref). ArePagesOf form ts (l ++ bts) (ps ++ qs)) (sym a.0) (subst (λ (l : List Piece). ArePagesOf form ts bts (l ++ qs)) (sym a.1) b)
of-join form (s ∷ ss) ts [] bts ps qs a b = absurd a
of-join form (s ∷ ss) ts (at ∷ ats) bts [] qs a b = absurd a
of-join form (s ∷ ss) ts (at ∷ ats) bts (p ∷ ps) qs a b = (a.0, a.1, of-join form ss ts ats bts ps qs a.2 b)

pub pages-then : {E : Type 0} (form : Form E) (ss ts : List (Shape E)) (ats bts : List Bref) (a b c : List ℕ) → AddsPages form ss ats a b → AddsPages form ts bts b c → AddsPages form (ss ++ ts) (ats ++ bts) a c
pages-then form ss ts ats bts a b c p q = record {
  pieces = p.pieces ++ q.pieces;
  are = of-join form ss ts ats bts p.pieces q.pieces p.are q.are;
  adds = adds-then a b c p.pieces q.pieces p.adds q.adds;
}

page-alone : {E : Type 0} (form : Form E) (s : Shape E) (at : Bref) (bytes old new : List ℕ) → ShowsPage form.rule form.size form.entry_of form.kind s at bytes → new ≡ after_write old at.ib bytes → AddsPages form (s ∷ []) (at ∷ []) old new
page-alone form s at bytes old new shows is = record {
  pieces = record { at = at.ib; bytes = bytes } ∷ [];
  are = (refl, shows, (refl, refl));
  adds = adds-write old new at.ib bytes is;
}

-- ---- a level

-- these are the parts of a list, so many elements each while there are some
abbrev pub AreCuts : {X : Type 0} → ℕ → List (List X) → List X → Type 0
AreCuts most [] xs = Unit {0}
AreCuts most (g ∷ gs) xs = (g ≡ take most xs) × AreCuts most gs (drop most xs)

cuts-pieces : {X : Type 0} (most n : ℕ) (xs : List X) → AreCuts most (pieces most n xs) xs
cuts-pieces most zero xs = tt
cuts-pieces most (suc n) xs = (refl, cuts-pieces most n (drop most xs))

cuts-cut : {X : Type 0} (most : ℕ) (xs : List X) → AreCuts most (cut most xs) xs
unfolding cut
cuts-cut most xs = cuts-pieces most ((length xs + (most - 1)) / most) xs

cuts-groups : {X : Type 0} (most : ℕ) (xs : List X) → AreCuts most (groups most xs) xs
cuts-groups most [] = (sym (take-nil most), tt)
cuts-groups most (x ∷ xs) = cuts-cut most (x ∷ xs)

pub groups-count : {X : Type 0} (most : ℕ) (xs : List X) → 0 < most → length (groups most xs) ≡ pages_for most (length xs)
groups-count most [] some =
    let e : (0 + (most - 1)) / most ≡ 0 = div-eq_of_lt (omega arith) in
    omega (arith, e)
groups-count most (x ∷ xs) some =
    let size = length-cut most (x ∷ xs) in
    let more = ap length (cut-more most (x ∷ xs) some (omega arith)) in
    omega (arith, size, more)

children-append : {X : Type 0} (key : X → ℕ) (gs : List (List X)) (ats : List Bref) (g : List X) (at : Bref) → length gs ≡ length ats → children key (gs ++ g ∷ []) (ats ++ at ∷ []) ≡ children key gs ats ++ (first_of key g, at) ∷ []
children-append key [] [] g at same = refl
children-append key [] (a ∷ ats) g at same = absurd (omega (arith, same))
children-append key (h ∷ gs) [] g at same = absurd (omega (arith, same))
children-append key (h ∷ gs) (a ∷ ats) g at same = ap (λ (l : List (ℕ × Bref)). (first_of key h, a) ∷ l) (children-append key gs ats g at (omega (arith, same)))

each-at : {X : Type 0} (P : X → Type 0) (xs : List X) (i : ℕ) (d : X) → Each P xs → i < length xs → P (get_or xs i d)
each-at P [] i d all within = absurd (omega (arith, within))
each-at P (x ∷ xs) zero d all within = all.0
each-at P (x ∷ xs) (suc i) d all within = each-at P xs i d all.1 (omega (arith, within))

-- The pages of the first groups of a level are written, and the others are cut of what is left; those written are named so.
pub record Begun {X E : Type 0} (form : Form E) (shape : List X → Shape E) (key : X → ℕ) (most : ℕ) (xs : List X) (ats : List Bref) (told : Type 0) (old new : List ℕ) (i : ℕ) (rest : List X) (cs : List (ℕ × Bref)) : Type 0 where
  pub cuts : AreCuts most (drop i (groups most xs)) rest
  pub named : cs ≡ children key (take i (groups most xs)) (take i ats)
  pub copy : told → AddsPages form (map shape (take i (groups most xs))) (take i ats) old new

pub begun-none : {X E : Type 0} (form : Form E) (shape : List X → Shape E) (key : X → ℕ) (most : ℕ) (xs : List X) (ats : List Bref) (told : Type 0) (old : List ℕ) (cs : List Inner) → cs ≡ [] → Begun form shape key most xs ats told old old 0 xs (kids cs)
begun-none form shape key most xs ats told old cs none = record { cuts = cuts-groups most xs; named = ap kids none; copy = λ t. pages-none form old }

-- the next group
pub begun-here : {X : Type 0} (most : ℕ) (xs : List X) (i : ℕ) (rest : List X) → AreCuts most (drop i (groups most xs)) rest → i < length (groups most xs)
    → (get_or (groups most xs) i [] ≡ take most rest) × AreCuts most (drop (i + 1) (groups most xs)) (drop most rest)
begun-here {X} most xs i rest cuts within =
    subst (λ (l : List (List X)). AreCuts most l rest) (drop_more (groups most xs) i [] within) cuts

pub begun-some : {X : Type 0} (most : ℕ) (xs : List X) (i : ℕ) (rest : List X) → AreCuts most (drop i (groups most xs)) rest → i < length (groups most xs) → 0 < most → 0 < length xs → 0 < length (take most rest)
begun-some {X} most xs i rest cuts within some has =
    subst (λ (g : List X). 0 < length g) (begun-here most xs i rest cuts within).0 (each-at Has (groups most xs) i [] (groups-some most xs some has) within)

pub begun-more : {X E : Type 0} (form : Form E) (shape : List X → Shape E) (key : X → ℕ) (most : ℕ) (xs : List X) (ats : List Bref) (told told' : Type 0) (old mid new : List ℕ) (i : ℕ) (rest rest' : List X) (cs cs' : List (ℕ × Bref))
    (g : List X) (d at : Bref) (bytes : List ℕ) → Begun form shape key most xs ats told old mid i rest cs → length (groups most xs) ≡ length ats → i < length ats → at ≡ get_or ats i d → g ≡ take most rest → rest' ≡ drop most rest
    → cs' ≡ cs ++ (first_of key g, at) ∷ [] → ShowsPage form.rule form.size form.entry_of form.kind (shape g) at bytes → (told' → told × (new ≡ after_write mid at.ib bytes)) → Begun form shape key most xs ats told' old new (i + 1) rest' cs'
begun-more {X} {E} form shape key most xs ats told told' old mid new i rest rest' cs cs' g d at bytes so_far count within at_is g_is rest_is cs_is shows written =
    let gs = groups most xs in
    let inside : i < length gs = omega (arith, count, within) in
    let here = begun-here most xs i rest so_far.cuts inside in
    let g_at : get_or gs i [] ≡ g = here.0 ∙ sym g_is in
    let groups_more : take (i + 1) gs ≡ take i gs ++ g ∷ [] = take_more gs i [] inside ∙ ap (λ (h : List X). take i gs ++ h ∷ []) g_at in
    let ats_more : take (i + 1) ats ≡ take i ats ++ at ∷ [] = take_more ats i d within ∙ ap (λ (b : Bref). take i ats ++ b ∷ []) (sym at_is) in
    let long = length-take i gs in
    let long' = length-take i ats in
    let same : length (take i gs) ≡ length (take i ats) = omega (arith, long, long', count) in
    record {
      cuts = subst (AreCuts most (drop (i + 1) gs)) (sym rest_is) here.1;
      named = cs_is ∙ ap (λ (l : List (ℕ × Bref)). l ++ (first_of key g, at) ∷ []) so_far.named ∙ sym (children-append key (take i gs) (take i ats) g at same)
          ∙ ap (λ (l : List (List X)). children key l (take i ats ++ at ∷ [])) (sym groups_more) ∙ ap (children key (take (i + 1) gs)) (sym ats_more);
      copy = λ t.
          let w = written t in
          let shapes_more : map shape (take (i + 1) gs) ≡ map shape (take i gs) ++ shape g ∷ [] = ap (map shape) groups_more ∙ map-join shape (take i gs) (g ∷ []) in
          let both = pages-then form (map shape (take i gs)) (shape g ∷ []) (take i ats) (at ∷ []) old mid new (so_far.copy w.0) (page-alone form (shape g) at bytes mid new shows w.1) in
          subst (λ (l : List (Shape E)). AddsPages form l (take (i + 1) ats) old new) (sym shapes_more) (subst (λ (l : List Bref). AddsPages form (map shape (take i gs) ++ shape g ∷ []) l old new) (sym ats_more) both);
    }

-- all of them
pub record Done {X E : Type 0} (form : Form E) (shape : List X → Shape E) (key : X → ℕ) (most : ℕ) (xs : List X) (ats : List Bref) (told : Type 0) (old new : List ℕ) (cs : List (ℕ × Bref)) : Type 0 where
  pub named : cs ≡ children key (groups most xs) ats
  pub copy : told → AddsPages form (map shape (groups most xs)) ats old new

pub begun-all : {X E : Type 0} (form : Form E) (shape : List X → Shape E) (key : X → ℕ) (most : ℕ) (xs : List X) (ats : List Bref) (told : Type 0) (old new : List ℕ) (i : ℕ) (rest : List X) (cs : List (ℕ × Bref))
    → Begun form shape key most xs ats told old new i rest cs → length (groups most xs) ≡ length ats → length ats ≤ i → Done form shape key most xs ats told old new cs
begun-all {X} {E} form shape key most xs ats told old new i rest cs is count past =
    let gs = groups most xs in
    let all : take i gs ≡ gs = take_all i gs (omega (arith, count, past)) in
    let all' : take i ats ≡ ats = take_all i ats past in
    record {
      named = is.named ∙ ap (λ (l : List (List X)). children key l (take i ats)) all ∙ ap (children key gs) all';
      copy = λ t. subst (λ (l : List (List X)). AddsPages form (map shape l) ats old new) all (subst (λ (l : List Bref). AddsPages form (map shape (take i gs)) l old new) all' (is.copy t));
    }

-- ---- keys

pub rise-take : {X : Type 0} (key : X → ℕ) (low high n : ℕ) (xs : List X) → RiseIn low high (map key xs) → RiseIn low high (map key (take n xs))
rise-take key low high zero xs r = tt
rise-take key low high (suc n) [] r = tt
rise-take key low high (suc n) (x ∷ xs) r = (r.0, r.1, rise-take key (key x + 1) high n xs r.2)

pub rise-left : {X : Type 0} (key : X → ℕ) (low high n : ℕ) (xs : List X) → RiseIn low high (map key xs) → RiseIn low high (map key (drop n xs))
rise-left key low high zero xs r = r
rise-left key low high (suc n) [] r = tt
rise-left key low high (suc n) (x ∷ xs) r =
    let a = r.0 in rise-widen (key x + 1) high low high (map key (drop n xs)) (rise-left key (key x + 1) high n xs r.2) (omega (arith, a)) (omega arith)

pub keys-take : {X : Type 0} (rule : ℕ → ℕ) (key : X → ℕ) (n : ℕ) (xs : List X) → AreKeys rule (map key xs) → AreKeys rule (map key (take n xs))
keys-take rule key zero xs are = tt
keys-take rule key (suc n) [] are = tt
keys-take rule key (suc n) (x ∷ xs) are = (are.0, keys-take rule key n xs are.1)

pub keys-left : {X : Type 0} (rule : ℕ → ℕ) (key : X → ℕ) (n : ℕ) (xs : List X) → AreKeys rule (map key xs) → AreKeys rule (map key (drop n xs))
keys-left rule key zero xs are = are
keys-left rule key (suc n) [] are = tt
keys-left rule key (suc n) (x ∷ xs) are = keys-left rule key n xs are.1

pub keys-more : (rule : ℕ → ℕ) (cs : List Inner) (c : Inner) → AreKeys rule (keys cs) → rule c.key ≡ c.key → AreKeys rule (keys (cs ++ c ∷ []))
keys-more rule [] c are is = (is, tt)
keys-more rule (d ∷ cs) c are is = (are.0, keys-more rule cs c are.1 is)

pub kids-more : (cs : List Inner) (c : Inner) → kids (cs ++ c ∷ []) ≡ kids cs ++ (c.key, c.page) ∷ []
kids-more cs c = map-join (λ (e : Inner). (e.key, e.page)) cs (c ∷ [])

pub first-is : {X : Type 0} (key : X → ℕ) (xs : List X) (d : X) → 0 < length xs → key (get_or xs 0 d) ≡ first_of key xs
first-is key [] d some = absurd (omega (arith, some))
first-is key (x ∷ xs) d some = refl

-- ---- what is split off

pub front-is : {X : Type 0} (front rest : List X) (n m most : ℕ) → front ≡ take n rest → n ≡ min m (length rest) → m ≡ most → front ≡ take most rest
front-is front rest n m most is at same = is ∙ ap (λ (k : ℕ). take k rest) (at ∙ ap (λ (k : ℕ). min k (length rest)) same) ∙ take_min most rest

pub back-is : {X : Type 0} (back rest : List X) (n m most : ℕ) → back ≡ drop n rest → n ≡ min m (length rest) → m ≡ most → back ≡ drop most rest
back-is back rest n m most is at same = is ∙ ap (λ (k : ℕ). drop k rest) (at ∙ ap (λ (k : ℕ). min k (length rest)) same) ∙ drop_min most rest

-- ---- pages that name others

-- what an inner page of a level shows that has these entries
abbrev pub shows_inner : {E : Type 0} → ℕ → List Inner → Shape E
shows_inner n cs = inner n (kids cs)

-- the key of such an entry
abbrev pub key_of : Inner → ℕ
key_of c = c.key

-- what such an entry names
abbrev pub kid : Inner → ℕ × Bref
kid c = (c.key, c.page)

pieces-map : {X Y : Type 0} (f : X → Y) (size n : ℕ) (xs : List X) → pieces size n (map f xs) ≡ map (map f) (pieces size n xs)
pieces-map f size zero xs = refl
pieces-map {X} {Y} f size (suc n) xs =
    ap (λ (l : List Y). l ∷ pieces size n (drop size (map f xs))) (take-map f size xs) ∙ ap (λ (l : List Y). map f (take size xs) ∷ pieces size n l) (drop-map f size xs)
    ∙ ap (λ (l : List (List Y)). map f (take size xs) ∷ l) (pieces-map f size n (drop size xs))

cut-map : {X Y : Type 0} (f : X → Y) (size : ℕ) (xs : List X) → cut size (map f xs) ≡ map (map f) (cut size xs)
unfolding cut
cut-map f size xs = ap (λ (k : ℕ). pieces size ((k + (size - 1)) / size) (map f xs)) (length-map xs f) ∙ pieces-map f size ((length xs + (size - 1)) / size) xs

groups-map : {X Y : Type 0} (f : X → Y) (most : ℕ) (xs : List X) → groups most (map f xs) ≡ map (map f) (groups most xs)
groups-map f most [] = refl
groups-map f most (x ∷ xs) = cut-map f most (x ∷ xs)

first-kid : (cs : List Inner) → first_of head (map kid cs) ≡ first_of key_of cs
first-kid [] = refl
first-kid (c ∷ cs) = refl

children-kids : (gs : List (List Inner)) (ats : List Bref) → children head (map (map kid) gs) ats ≡ children key_of gs ats
children-kids [] ats = refl
children-kids (g ∷ gs) [] = refl
children-kids (g ∷ gs) (at ∷ ats) =
    ap (λ (k : ℕ). (k, at) ∷ children head (map (map kid) gs) ats) (first-kid g) ∙ ap (λ (l : List (ℕ × Bref)). (first_of key_of g, at) ∷ l) (children-kids gs ats)

shapes-kids : {E : Type 0} (n : ℕ) (gs : List (List Inner)) → map (inner {E = E} n) (map (map kid) gs) ≡ map (shows_inner {E = E} n) gs
shapes-kids n [] = refl
shapes-kids {E} n (g ∷ gs) = ap (λ (l : List (Shape E)). inner n (map kid g) ∷ l) (shapes-kids n gs)

pub kids-named : (cs : List Inner) (ats : List Bref) → children key_of (groups 20 cs) ats ≡ children head (groups 20 (kids cs)) ats
kids-named cs ats = sym (children-kids (groups 20 cs) ats) ∙ ap (λ (l : List (List (ℕ × Bref))). children head l ats) (sym (groups-map kid 20 cs))

pub kids-shown : {E : Type 0} (n : ℕ) (cs : List Inner) → map (shows_inner {E = E} n) (groups 20 cs) ≡ map (inner {E = E} n) (groups 20 (kids cs))
kids-shown {E} n cs = sym (shapes-kids n (groups 20 cs)) ∙ ap (λ (l : List (List (ℕ × Bref))). map (inner {E = E} n) l) (sym (groups-map kid 20 cs))

pub head-kids : (cs : List Inner) → map head (kids cs) ≡ keys cs
head-kids [] = refl
head-kids (c ∷ cs) = ap (λ (l : List ℕ). c.key ∷ l) (head-kids cs)

keys-behind : {X : Type 0} (rule : ℕ → ℕ) (key : X → ℕ) (xs ys : List X) → AreKeys rule (map key (xs ++ ys)) → AreKeys rule (map key ys)
keys-behind rule key [] ys are = are
keys-behind rule key (x ∷ xs) ys are = keys-behind rule key xs ys are.1

heads-keys : {X : Type 0} (rule : ℕ → ℕ) (key : X → ℕ) (gs : List (List X)) (ats : List Bref) → Each Has gs → AreKeys rule (map key (joined gs)) → AreKeys rule (map head (children key gs ats))
heads-keys rule key [] ats some are = tt
heads-keys rule key (g ∷ gs) [] some are = tt
heads-keys rule key ([] ∷ gs) (at ∷ ats) some are = absurd (let a = some.0 in omega (arith, a))
heads-keys rule key ((x ∷ g) ∷ gs) (at ∷ ats) some are = (are.0, heads-keys rule key gs ats some.1 (keys-behind rule key g (joined gs) are.1))

-- ---- level by level

pub children-count : {X : Type 0} (key : X → ℕ) (gs : List (List X)) (ats : List Bref) → length gs ≡ length ats → length (children key gs ats) ≡ length ats
children-count key [] ats same = same
children-count key (g ∷ gs) [] same = absurd (omega (arith, same))
children-count key (g ∷ gs) (at ∷ ats) same = ap suc (children-count key gs ats (omega (arith, same)))

leaf-rises : {E : Type 0} (key : E → ℕ) (most : ℕ) (es : List E) (ats : List Bref) → 0 < most → RiseIn 0 (2 ^ 64) (map key es) → RiseIn 0 (2 ^ 64) (map head (children key (groups most es) ats))
leaf-rises key most [] [] some r = tt
leaf-rises key most [] (at ∷ ats) some r = (omega arith, omega arith, tt)
leaf-rises {E} key most (e ∷ es) ats some r =
    heads-rise key 0 (2 ^ 64) (groups most (e ∷ es)) ats (groups-some most (e ∷ es) some (omega arith))
    (subst (λ (l : List E). RiseIn 0 (2 ^ 64) (map key l)) (sym (groups-joined most (e ∷ es) some)) r)

many-some : {E : Type 0} (most : ℕ) (es : List E) → 2 ≤ length (groups most es) → 0 < length es
many-some most [] two = absurd (omega (arith, two))
many-some most (e ∷ es) two = omega arith

-- what names all leaves, once they are written
pub record Leaves {E : Type 0} (form : Form E) (most : ℕ) (es : List E) (ats : List Bref) (told : Type 0) (old new : List ℕ) (cs : List Inner) : Type 0 where
  pub named : kids cs ≡ children form.key (groups most es) ats
  pub count : length cs ≡ length ats
  pub rises : RiseIn 0 (2 ^ 64) (keys cs)
  pub some : 2 ≤ length cs → 0 < length es
  pub copy : told → AddsPages form (map leaf (groups most es)) ats old new

pub leaves-all : {E : Type 0} (form : Form E) (most : ℕ) (es : List E) (ats : List Bref) (told : Type 0) (old new : List ℕ) (i : ℕ) (rest : List E) (cs : List Inner) → Begun form leaf form.key most es ats told old new i rest (kids cs)
    → 0 < most → length ats ≡ pages_for most (length es) → RiseIn 0 (2 ^ 64) (map form.key es) → length ats ≤ i → Leaves form most es ats told old new cs
leaves-all form most es ats told old new i rest cs begun some enough rises past =
    let count = groups-count most es some ∙ sym enough in
    let done = begun-all form leaf form.key most es ats told old new i rest (kids cs) begun count past in
    let size = sym (length-map cs kid) ∙ ap length done.named ∙ children-count form.key (groups most es) ats count in
    record {
      named = done.named;
      count = size;
      rises = subst (RiseIn 0 (2 ^ 64)) (ap (map head) (sym done.named) ∙ head-kids cs) (leaf-rises form.key most es ats some rises);
      some = λ two. many-some most es (omega (arith, two, size, count));
      copy = done.copy;
    }

-- The pages of the first levels are written, and what names the last of them is known.
pub record Written {E : Type 0} (form : Form E) (most : ℕ) (es : List E) (rows : List (List Bref)) (told : Type 0) (old new : List ℕ) (n : ℕ) (cs : List (ℕ × Bref)) : Type 0 where
  pub below : ℕ
  pub level : n ≡ suc below
  pub done : List (Shape E)
  pub shapes : shapes_in form.key most es rows ≡ done ++ shapes_above below cs (drop n rows)
  pub above : AreLevelsAbove (length cs) (drop n rows)
  pub rises : RiseIn 0 (2 ^ 64) (map head cs)
  pub steady : 2 ≤ length cs → AreKeys form.rule (map head cs)
  pub copy : told → AddsPages form done (joined (take n rows)) old new

leaves-written : {E : Type 0} (form : Form E) (most : ℕ) (es : List E) (leaves : List Bref) (above : List (List Bref)) (told : Type 0) (old new : List ℕ) (cs : List (ℕ × Bref)) → AreLevelsAbove (length leaves) above
    → cs ≡ children form.key (groups most es) leaves → length cs ≡ length leaves → RiseIn 0 (2 ^ 64) (map head cs) → (2 ≤ length cs → AreKeys form.rule (map head cs)) → (told → AddsPages form (map leaf (groups most es)) leaves old new)
    → Written form most es (leaves ∷ above) told old new 1 cs
leaves-written {E} form most es leaves above told old new cs higher named count rises steady written =
    let gs = groups most es in
    record {
      below = 0;
      level = refl;
      done = map leaf gs;
      shapes = ap (λ (l : List (ℕ × Bref)). map leaf gs ++ shapes_above 0 l above) (sym named);
      above = subst (λ (n : ℕ). AreLevelsAbove n above) (sym count) higher;
      rises = rises;
      steady = steady;
      copy = λ t. subst (λ (l : List Bref). AddsPages form (map leaf gs) l old new) (sym (append-nil leaves)) (written t);
    }

pub written-leaves : {E : Type 0} (form : Form E) (most : ℕ) (es : List E) (rows : List (List Bref)) (root : Bref) (told : Type 0) (old new : List ℕ) (row : List Bref) (cs : List (ℕ × Bref)) → AreLevels most (length es) rows root
    → row ≡ get_or rows 0 row → cs ≡ children form.key (groups most es) row → length cs ≡ length row → RiseIn 0 (2 ^ 64) (map head cs) → (2 ≤ length cs → AreKeys form.rule (map head cs))
    → (told → AddsPages form (map leaf (groups most es)) row old new) → Written form most es rows told old new 1 cs
written-leaves {E} form most es rows root told old new row cs levels row_is named count rises steady written =
    let same : row ≡ levels.leaves = row_is ∙ ap (λ (l : List (List Bref)). get_or l 0 row) levels.are in
    subst (λ (l : List (List Bref)). Written form most es l told old new 1 cs) (sym levels.are)
    (leaves-written form most es levels.leaves levels.above told old new cs levels.higher (named ∙ ap (children form.key (groups most es)) same) (count ∙ ap length same) rises steady
    (λ t. subst (λ (l : List Bref). AddsPages form (map leaf (groups most es)) l old new) same (written t)))

row-here : (rows : List (List Bref)) (n : ℕ) (row : List Bref) → n < length rows → row ≡ get_or rows n row → drop n rows ≡ row ∷ drop (n + 1) rows
row-here rows n row within is = drop_more rows n row within ∙ ap (λ (r : List Bref). r ∷ drop (n + 1) rows) (sym is)

-- what the next level is
pub written-here : {E : Type 0} (form : Form E) (most : ℕ) (es : List E) (rows : List (List Bref)) (told : Type 0) (old new : List ℕ) (n : ℕ) (cs : List (ℕ × Bref)) (row : List Bref) → Written form most es rows told old new n cs
    → n < length rows → row ≡ get_or rows n row → (2 ≤ length cs) × (length row ≡ pages_for 20 (length cs)) × AreLevelsAbove (length row) (drop (n + 1) rows)
written-here form most es rows told old new n cs row is within row_is = subst (AreLevelsAbove (length cs)) (row-here rows n row within row_is) is.above

pub written-more : {E : Type 0} (form : Form E) (most : ℕ) (es : List E) (rows : List (List Bref)) (told told' : Type 0) (old mid new : List ℕ) (n : ℕ) (cs cs' : List (ℕ × Bref)) (row : List Bref) → Written form most es rows told old mid n cs
    → n < length rows → row ≡ get_or rows n row → cs' ≡ children head (groups 20 cs) row → (told' → told × AddsPages form (map (inner n) (groups 20 cs)) row mid new) → Written form most es rows told' old new (n + 1) cs'
written-more {E} form most es rows told told' old mid new n cs cs' row is within row_is named written =
    let gs = groups 20 cs in
    let here = row-here rows n row within row_is in
    let next = written-here form most es rows told old mid n cs row is within row_is in
    let two = next.0 in
    let some = groups-some 20 cs (omega arith) (omega (arith, two)) in
    let whole = groups-joined 20 cs (omega arith) in
    let count : length gs ≡ length row = groups-count 20 cs (omega arith) ∙ sym next.1 in
    let size : length cs' ≡ length row = ap length named ∙ children-count head gs row count in
    let more = drop (n + 1) rows in
    record {
      below = n;
      level = omega arith;
      done = is.done ++ map (inner n) gs;
      shapes = is.shapes ∙ ap (λ (l : List (List Bref)). is.done ++ shapes_above is.below cs l) here
          ∙ ap (λ (k : ℕ). is.done ++ (map (inner k) gs ++ shapes_above k (children head gs row) more)) (sym is.level)
          ∙ ap (λ (l : List (ℕ × Bref)). is.done ++ (map (inner n) gs ++ shapes_above n l more)) (sym named)
          ∙ sym (append_assoc is.done (map (inner n) gs) (shapes_above n cs' more));
      above = subst (λ (k : ℕ). AreLevelsAbove k more) (sym size) next.2;
      rises = subst (λ (l : List (ℕ × Bref)). RiseIn 0 (2 ^ 64) (map head l)) (sym named)
          (heads-rise head 0 (2 ^ 64) gs row some (subst (λ (l : List (ℕ × Bref)). RiseIn 0 (2 ^ 64) (map head l)) (sym whole) is.rises));
      steady = λ many. subst (λ (l : List (ℕ × Bref)). AreKeys form.rule (map head l)) (sym named)
          (heads-keys form.rule head gs row some (subst (λ (l : List (ℕ × Bref)). AreKeys form.rule (map head l)) (sym whole) (is.steady two)));
      copy = λ t.
          let w = written t in
          let ats : joined (take (n + 1) rows) ≡ joined (take n rows) ++ row =
          ap joined (take_more rows n row within ∙ ap (λ (r : List Bref). take n rows ++ r ∷ []) (sym row_is)) ∙ joined-more (take n rows) row in
          subst (λ (l : List Bref). AddsPages form (is.done ++ map (inner n) gs) l old new) (sym ats)
          (pages-then form is.done (map (inner n) gs) (joined (take n rows)) row old mid new (is.copy w.0) w.1);
    }

pub written-all : {E : Type 0} (form : Form E) (most : ℕ) (es : List E) (rows : List (List Bref)) (told : Type 0) (old new : List ℕ) (n : ℕ) (cs : List (ℕ × Bref)) → Written form most es rows told old new n cs → length rows ≤ n → told
    → AddsTree form most es rows old new
written-all {E} form most es rows told old new n cs is past t =
    let made = is.copy t in
    let shapes : shapes_in form.key most es rows ≡ is.done = is.shapes ∙ ap (λ (l : List (List Bref)). is.done ++ shapes_above is.below cs l) (drop_all n rows past) ∙ append-nil is.done in
    let all : joined (take n rows) ≡ joined rows = ap joined (take_all n rows past) in
    record {
      pieces = made.pieces;
      are = subst (λ (l : List (Shape E)). ArePagesOf form l (joined rows) made.pieces) (sym shapes) (subst (λ (l : List Bref). ArePagesOf form is.done l made.pieces) all made.are);
      adds = made.adds;
    }
