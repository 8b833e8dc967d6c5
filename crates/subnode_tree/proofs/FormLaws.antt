-- What subnodes that can be written are one by one.
use Rattle.std.proofs.Common.{true, false, ◌≡◌, ℕ, suc, ◌+◌, ◌<◌, ◌≤◌, inl, inr, eqb, List, [], ◌∷◌, ◌++◌, length, map, take, drop, get_or, refl, sym, ap, subst, ◌∙◌, arith, length-append, append_assoc, append-nil}
use Rattle.std.specs.List.{All}
use Rattle.std.proofs.lemmas.Bool.{cases_eq, eq-eqb, ne_eqb, cases_Bool}
use Rattle.std.proofs.lemmas.List.{length-map, map-append, take-append-drop, drop_more}
use Rattle.pst_base.specs.declared.subs.Sub.{Sub}
use Rattle.pst_base.specs.Flat.{Flat}
use Rattle.pst_base.specs.Subs.{flattened, one_deeper}
use Rattle.data_tree.specs.Plan.{IsContent}
use Rattle.data_tree.proofs.PieceLaws.{Each, all_from-each, each-from_all, each-left, each-right}
use Rattle.subnode_tree.specs.Plan.{IsForm, ascending, data_in, nids_at}
use Rattle.subnode_tree.proofs.SubSteps.{flattened-append}

-- a fact of those below, one level deeper
pub each-below : (P Q : Flat → Type 0) → ((f : Flat) → P (one_deeper f) → Q f) → (flats : List Flat) → Each P (map one_deeper flats) → Each Q flats
each-below P Q from [] each = tt
each-below P Q from (f ∷ flats) each = (from f each.0, each-below P Q from flats each.1)

-- a subnode's own place in the flat list
abbrev pub own : Sub → Flat
own x = record { level = 0; nid = (x.nid).bits; blocks = x.blocks }

-- the flat list up to a subnode, that one with those below it, and the rest
pub split-at : (xs : List Sub) (i : ℕ) (d : Sub) → i < length xs
    → flattened xs ≡ flattened (take i xs) ++ ((own (get_or xs i d) ∷ map one_deeper (get_or xs i d).subs) ++ flattened (drop (i + 1) xs))
split-at xs i d h =
    ap flattened (sym (take-append-drop i xs) ∙ ap (λ (rest : List Sub). take i xs ++ rest) (drop_more xs i d h))
    ∙ flattened-append (take i xs) (get_or xs i d ∷ drop (i + 1) xs)

each-here : (P : Flat → Type 0) (xs : List Sub) (i : ℕ) (d : Sub) → i < length xs → All P (flattened xs) → Each P (own (get_or xs i d) ∷ map one_deeper (get_or xs i d).subs)
each-here P xs i d h all =
    let x = get_or xs i d in
    let here = own x ∷ map one_deeper x.subs in
    let rest = flattened (drop (i + 1) xs) in
    let whole : Each P (flattened (take i xs) ++ (here ++ rest)) = subst (λ (flats : List Flat). Each P flats) (split-at xs i d h) (each-from_all P (flattened xs) all) in
    each-left P here rest (each-right P (flattened (take i xs)) (here ++ rest) whole)

pub form-content : (xs : List Sub) (i : ℕ) (d : Sub) → i < length xs → IsForm (flattened xs) → IsContent (get_or xs i d).blocks
form-content xs i d h form = (each-here (λ f. IsContent f.blocks) xs i d h form.fits).0

-- ---- ids at a level

pub nids-deeper : (level : ℕ) (flats : List Flat) → nids_at (level + 1) (map one_deeper flats) ≡ nids_at level flats
nids-deeper level [] = refl
nids-deeper level (f ∷ flats) =
    let rest = nids-deeper level flats in
    elim (cases_eq f.level level) [
      | inl same ↦
          let one : eqb (f.level + 1) (level + 1) ≡ true = eq-eqb (f.level + 1) (level + 1) (omega arith) in
          let two : eqb f.level level ≡ true = eq-eqb f.level level same in
          rw (one, two) (ap (λ (nids : List ℕ). f.nid ∷ nids) rest)
      | inr other ↦
          let one : eqb (f.level + 1) (level + 1) ≡ false = ne_eqb (f.level + 1) (level + 1) (λ e. other (omega arith)) in
          let two : eqb f.level level ≡ false = ne_eqb f.level level other in
          rw (one, two) rest
    ]

nids-below : (flats : List Flat) → nids_at 0 (map one_deeper flats) ≡ []
nids-below [] = refl
nids-below (f ∷ flats) =
    let no : eqb (f.level + 1) 0 ≡ false = ne_eqb (f.level + 1) 0 (λ e. absurd (omega arith)) in
    rw no (nids-below flats)

pub nids-append : (level : ℕ) (xs ys : List Flat) → nids_at level (xs ++ ys) ≡ nids_at level xs ++ nids_at level ys
nids-append level [] ys = refl
nids-append level (f ∷ xs) ys =
    let rest = nids-append level xs ys in
    elim (cases_Bool (eqb f.level level)) [
      | inl same ↦ rw same (ap (λ (nids : List ℕ). f.nid ∷ nids) rest)
      | inr other ↦ rw other rest
    ]

-- the ids of the subnodes directly in a node
abbrev pub sub_nids : List Sub → List ℕ
sub_nids xs = map (λ x. (x.nid).bits) xs

pub nids-top : (xs : List Sub) → nids_at 0 (flattened xs) ≡ sub_nids xs
nids-top [] = refl
nids-top (x ∷ xs) =
    ap (λ (nids : List ℕ). (x.nid).bits ∷ nids)
    (nids-append 0 (map one_deeper x.subs) (flattened xs) ∙ ap (λ (nids : List ℕ). nids ++ nids_at 0 (flattened xs)) (nids-below x.subs) ∙ nids-top xs)

-- the subnodes directly in a node
pub form-top : (xs : List Sub) → IsForm (flattened xs) → (ascending (sub_nids xs) ≡ true) × (length xs ≤ 173400)
form-top xs form =
    let both = form.beside [] (flattened xs) [] (sym (append-nil (flattened xs))) 0 (λ k d h. omega arith) in
    let top = nids-top xs in
    let rise : ascending (sub_nids xs) ≡ true = ap ascending (sym top) ∙ both.0 in
    let few = both.1 in
    let count : length (nids_at 0 (flattened xs)) ≡ length xs = ap length top ∙ length-map xs (λ (x : Sub). (x.nid).bits) in
    (rise, omega arith)

levels-deeper : (level : ℕ) (flats : List Flat) → All (λ f. level ≤ f.level) flats → Each (λ f. level + 1 ≤ f.level) (map one_deeper flats)
levels-deeper level [] all = tt
levels-deeper level (f ∷ flats) all = (let here : level ≤ f.level = all 0 f (omega arith) in omega arith, levels-deeper level flats (λ k d h. all (suc k) d (omega arith)))

-- those below one
pub form-inner : (xs : List Sub) (i : ℕ) (d : Sub) → i < length xs → IsForm (flattened xs) → IsForm (get_or xs i d).subs
form-inner xs i d h form =
    let x = get_or xs i d in
    let front = flattened (take i xs) in
    let rest = flattened (drop (i + 1) xs) in
    record {
      fits = all_from-each (λ f. IsContent f.blocks) x.subs (each-below (λ f. IsContent f.blocks) (λ f. IsContent f.blocks) (λ f fits. fits) x.subs (each-here (λ f. IsContent f.blocks) xs i d h form.fits).1);
      levels = all_from-each (λ f. f.level < 8) x.subs (each-below (λ f. f.level < 8) (λ f. f.level < 8) (λ f low. omega arith) x.subs (each-here (λ f. f.level < 8) xs i d h form.levels).1);
      beside = λ before here after e level above.
          let deeper = map one_deeper here in
          let inside : map one_deeper x.subs ≡ map one_deeper before ++ (deeper ++ map one_deeper after) =
          ap (map one_deeper) e ∙ map-append one_deeper before (here ++ after) ∙ ap (λ (flats : List Flat). map one_deeper before ++ flats) (map-append one_deeper here after) in
          let shape : (own x ∷ (map one_deeper before ++ (deeper ++ map one_deeper after))) ++ rest ≡ (own x ∷ map one_deeper before) ++ (deeper ++ (map one_deeper after ++ rest)) =
          append_assoc (own x ∷ map one_deeper before) (deeper ++ map one_deeper after) rest ∙ ap (λ (flats : List Flat). (own x ∷ map one_deeper before) ++ flats) (append_assoc deeper (map one_deeper after) rest) in
          let whole : flattened xs ≡ (front ++ (own x ∷ map one_deeper before)) ++ (deeper ++ (map one_deeper after ++ rest)) =
          split-at xs i d h ∙ ap (λ (flats : List Flat). front ++ ((own x ∷ flats) ++ rest)) inside ∙ ap (λ (flats : List Flat). front ++ flats) shape
          ∙ sym (append_assoc front (own x ∷ map one_deeper before) (deeper ++ (map one_deeper after ++ rest))) in
          let both = form.beside (front ++ (own x ∷ map one_deeper before)) deeper (map one_deeper after ++ rest) whole (level + 1)
          (all_from-each (λ f. level + 1 ≤ f.level) deeper (levels-deeper level here above)) in
          let same = nids-deeper level here in
          (ap ascending (sym same) ∙ both.0, subst (λ (nids : List ℕ). length nids ≤ 173400) same both.1);
    }

-- ---- the data

data-append : (xs ys : List Flat) → data_in (xs ++ ys) ≡ data_in xs ++ data_in ys
data-append [] ys = refl
data-append (f ∷ xs) ys = ap (λ (rest : List (List ℕ)). f.blocks ++ rest) (data-append xs ys) ∙ sym (append_assoc f.blocks (data_in xs) (data_in ys))

data-deeper : (flats : List Flat) → data_in (map one_deeper flats) ≡ data_in flats
data-deeper [] = refl
data-deeper (f ∷ flats) = ap (λ (rest : List (List ℕ)). f.blocks ++ rest) (data-deeper flats)

-- the data of one subnode more
pub data-more : (xs : List Sub) (x : Sub) → data_in (flattened (xs ++ x ∷ [])) ≡ (data_in (flattened xs) ++ x.blocks) ++ data_in x.subs
data-more xs x =
    ap data_in (flattened-append xs (x ∷ [])) ∙ data-append (flattened xs) (flattened (x ∷ []))
    ∙ ap (λ (rest : List Flat). data_in (flattened xs) ++ (x.blocks ++ data_in rest)) (append-nil (map one_deeper x.subs))
    ∙ ap (λ (rest : List (List ℕ)). data_in (flattened xs) ++ (x.blocks ++ rest)) (data-deeper x.subs) ∙ sym (append_assoc (data_in (flattened xs)) x.blocks (data_in x.subs))

-- fewer stand below one than in the whole
pub fewer-inner : (xs : List Sub) (i : ℕ) (d : Sub) → i < length xs → length (get_or xs i d).subs < length (flattened xs)
fewer-inner xs i d h =
    let x = get_or xs i d in
    let front = flattened (take i xs) in
    let below = map one_deeper x.subs in
    let rest = flattened (drop (i + 1) xs) in
    let whole : length (flattened xs) ≡ length (front ++ ((own x ∷ below) ++ rest)) = ap length (split-at xs i d h) in
    let one = length-append front ((own x ∷ below) ++ rest) in
    let two = length-append (own x ∷ below) rest in
    let three = length-map x.subs one_deeper in
    omega arith
