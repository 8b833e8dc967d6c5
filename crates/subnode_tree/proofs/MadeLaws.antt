-- Subnodes that are put together from ones that can be written can be written.
use Rattle.std.proofs.Common.{true, ◌≡◌, ℕ, zero, suc, ◌+◌, ◌<◌, ◌≤◌, ◌⊎◌, inl, inr, ltb, List, [], ◌∷◌, ◌++◌, length, map, refl, sym, ap, subst, ◌∙◌, arith, length-append, append-nil}
use Rattle.std.specs.List.{All}
use Rattle.std.proofs.lemmas.Bool.{and_from, and_parts, lt-ltb}
use Rattle.std.proofs.lemmas.List.{length-map, map-append}
use Rattle.pst_base.specs.declared.subs.Sub.{Sub}
use Rattle.pst_base.specs.Flat.{Flat}
use Rattle.pst_base.specs.Subs.{flattened, one_deeper}
use Rattle.data_tree.specs.Plan.{IsContent}
use Rattle.data_tree.proofs.PieceLaws.{Each, all_from-each, each-append, each-from_all, each-right}
use Rattle.subnode_tree.specs.Plan.{IsForm, ascending, nids_at, rise_from}
use Rattle.subnode_tree.proofs.FormLaws.{each-below, nids-append, nids-deeper, nids-top, own, sub_nids}
use Rattle.subnode_tree.proofs.TableLaws.{ascending-left, ascending-right}

-- a subnode that can stand in a node
pub record SubFits (levels : ℕ) (x : Sub) : Type 0 where
  pub content : IsContent x.blocks
  pub form : IsForm x.subs
  pub shallow : All (λ f. f.level < levels) x.subs

-- those of one node, whose ids are below a bound
pub record Made (levels : ℕ) (xs : List Sub) (bound : ℕ) : Type 0 where
  pub rise : ascending (sub_nids xs) ≡ true
  pub below : Each (λ n. n < bound) (sub_nids xs)
  pub each : Each (SubFits levels) xs

-- ---- lists in parts

-- two ways to part a list: one front is the longer
split-both : {X : Type 0} (us bs cs ds : List X) → us ++ bs ≡ cs ++ ds
    → ((es : List X) × (us ≡ cs ++ es) × (ds ≡ es ++ bs)) ⊎ ((es : List X) × (cs ≡ us ++ es) × (bs ≡ es ++ ds))
split-both [] bs cs ds e = inr (cs, refl, e)
split-both (a ∷ us) bs [] ds e = inl (a ∷ us, refl, sym e)
split-both {X} (a ∷ us) bs (c ∷ cs) ds e =
    let head : a ≡ c = cc in
    let tail : us ++ bs ≡ cs ++ ds = cc in
    elim (split-both us bs cs ds tail) [
      | inl s ↦ inl (s.0, ap (λ (l : List X). a ∷ l) s.1 ∙ ap (λ (h : X). h ∷ (cs ++ s.0)) head, s.2)
      | inr s ↦ inr (s.0, ap (λ (h : X). h ∷ cs) (sym head) ∙ ap (λ (l : List X). a ∷ l) s.1, s.2)
    ]

map-split : (flats : List Flat) (ps qs : List Flat) → map one_deeper flats ≡ ps ++ qs → (us : List Flat) × (bs : List Flat) × (flats ≡ us ++ bs) × (ps ≡ map one_deeper us) × (qs ≡ map one_deeper bs)
map-split flats [] qs e = ([], flats, refl, refl, sym e)
map-split [] (p ∷ ps) qs e = absurd (cc)
map-split (f ∷ flats) (p ∷ ps) qs e =
    let head : one_deeper f ≡ p = cc in
    let tail : map one_deeper flats ≡ ps ++ qs = cc in
    let s = map-split flats ps qs tail in
    (f ∷ s.0, s.1, ap (λ (l : List Flat). f ∷ l) s.2, ap (λ (l : List Flat). p ∷ l) s.3 ∙ ap (λ (h : Flat). h ∷ map one_deeper s.0) (sym head), s.4)

none-between : (before here after : List Flat) → [] ≡ before ++ (here ++ after) → here ≡ []
none-between [] [] after e = refl
none-between [] (f ∷ here) after e = absurd (cc)
none-between (f ∷ before) here after e = absurd (cc)

-- ---- side by side

abbrev AreBeside : ℕ → List Flat → Type 0
AreBeside level here = (ascending (nids_at level here) ≡ true) × (length (nids_at level here) ≤ 173400)

beside-none : (level : ℕ) (here : List Flat) → here ≡ [] → AreBeside level here
beside-none level here none = subst (λ (flats : List Flat). AreBeside level flats) (sym none) (refl, omega arith)

-- within one subnode
beside-inside : (level : ℕ) (flats before here after : List Flat) → IsForm flats → map one_deeper flats ≡ before ++ (here ++ after) → Each (λ f. level + 1 ≤ f.level) here → AreBeside (level + 1) here
beside-inside level flats before here after form e above =
    let first = map-split flats before (here ++ after) e in
    let next = map-split first.1 here after (sym first.4) in
    let inner = next.0 in
    let parts : flats ≡ first.0 ++ (inner ++ next.1) = first.2 ∙ ap (λ (l : List Flat). first.0 ++ l) next.2 in
    let deeper : Each (λ f. level + 1 ≤ f.level) (map one_deeper inner) = subst (λ (l : List Flat). Each (λ f. level + 1 ≤ f.level) l) next.3 above in
    let all = all_from-each (λ f. level ≤ f.level) inner (each-below (λ f. level + 1 ≤ f.level) (λ f. level ≤ f.level) (λ f low. omega arith) inner deeper) in
    let both = form.beside first.0 inner next.1 parts level all in
    let same : nids_at (level + 1) here ≡ nids_at level inner = ap (nids_at (level + 1)) next.3 ∙ nids-deeper level inner in
    let few = both.1 in
    let count = ap length same in
    (ap ascending same ∙ both.0, omega arith)

-- a list that begins with a subnode of the node
begins-low : (level : ℕ) (xs : List Sub) (g : Flat) (rest : List Flat) → flattened xs ≡ g ∷ rest → level + 1 ≤ g.level → ⊥
begins-low level [] g rest e low = absurd (cc)
begins-low level (x ∷ xs) g rest e low =
    let same : own x ≡ g = cc in
    let zero_level : 0 ≡ g.level = ap (λ (f : Flat). f.level) same in
    absurd (omega arith)

beside-deeper : (level levels : ℕ) (xs : List Sub) (before here after : List Flat) → Each (SubFits levels) xs → flattened xs ≡ before ++ (here ++ after) → Each (λ f. level + 1 ≤ f.level) here → AreBeside (level + 1) here
beside-deeper level levels [] before here after each e above = beside-none (level + 1) here (none-between before here after e)
beside-deeper level levels (x ∷ xs) [] [] after each e above = beside-none (level + 1) [] refl
beside-deeper level levels (x ∷ xs) [] (f ∷ here) after each e above = absurd (begins-low level (x ∷ xs) f (here ++ after) e above.0)
beside-deeper level levels (x ∷ xs) (p ∷ before) here after each e above =
    let below = map one_deeper x.subs in
    let tail : below ++ flattened xs ≡ before ++ (here ++ after) = cc in
    elim (split-both below (flattened xs) before (here ++ after) tail) [
      | inr s ↦ beside-deeper level levels xs s.0 here after each.1 s.2 above
      | inl s ↦ elim (split-both here after s.0 (flattened xs) s.2) [
        | inl r ↦ ends level xs x.subs before here after s.0 r.0 each.0.form s.1 r.1 r.2 above
        | inr r ↦ beside-inside level x.subs before here r.0 each.0.form (s.1 ∙ ap (λ (l : List Flat). before ++ l) r.1) above
      ]
    ]
  where
    ends : (level : ℕ) (xs : List Sub) (flats before here after inside rest : List Flat) → IsForm flats → map one_deeper flats ≡ before ++ inside → here ≡ inside ++ rest → flattened xs ≡ rest ++ after
        → Each (λ f. level + 1 ≤ f.level) here → AreBeside (level + 1) here
    ends level xs flats before here after inside [] form e whole next above =
        let same : inside ≡ here ++ [] = sym (append-nil inside) ∙ sym whole ∙ sym (append-nil here) in
        beside-inside level flats before here [] form (e ∙ ap (λ (l : List Flat). before ++ l) same) above
    ends level xs flats before here after inside (g ∷ rest) form e whole next above =
        let all : Each (λ f. level + 1 ≤ f.level) (inside ++ g ∷ rest) = subst (λ (l : List Flat). Each (λ f. level + 1 ≤ f.level) l) whole above in
        absurd (begins-low level xs g (rest ++ after) next (each-right (λ f. level + 1 ≤ f.level) inside (g ∷ rest) all).0)

beside-top : (xs : List Sub) (before here after : List Flat) → ascending (sub_nids xs) ≡ true → length xs ≤ 173400 → flattened xs ≡ before ++ (here ++ after) → AreBeside 0 here
beside-top xs before here after rise few e =
    let one = nids_at 0 before in
    let two = nids_at 0 here in
    let three = nids_at 0 after in
    let parts : sub_nids xs ≡ one ++ (two ++ three) =
    sym (nids-top xs) ∙ ap (nids_at 0) e ∙ nids-append 0 before (here ++ after) ∙ ap (λ (l : List ℕ). one ++ l) (nids-append 0 here after) in
    let whole : ascending (one ++ (two ++ three)) ≡ true = ap ascending (sym parts) ∙ rise in
    let count = ap length parts in
    let size = length-map xs (λ (x : Sub). (x.nid).bits) in
    let outer = length-append one (two ++ three) in
    let inner = length-append two three in
    (ascending-left two three (ascending-right one (two ++ three) whole), omega arith)

-- ---- all

each-deeper : (P Q : Flat → Type 0) → ((f : Flat) → Q f → P (one_deeper f)) → (flats : List Flat) → Each Q flats → Each P (map one_deeper flats)
each-deeper P Q into [] each = tt
each-deeper P Q into (f ∷ flats) each = (into f each.0, each-deeper P Q into flats each.1)

each-content : (levels : ℕ) (xs : List Sub) → Each (SubFits levels) xs → Each (λ f. IsContent f.blocks) (flattened xs)
each-content levels [] each = tt
each-content levels (x ∷ xs) each =
    let inner = each-from_all (λ f. IsContent f.blocks) x.subs each.0.form.fits in
    (each.0.content, each-append (λ f. IsContent f.blocks) (map one_deeper x.subs) (flattened xs) (each-deeper (λ f. IsContent f.blocks) (λ f. IsContent f.blocks) (λ f fits. fits) x.subs inner) (each-content levels xs each.1))

each-shallow : (levels : ℕ) (xs : List Sub) → Each (SubFits levels) xs → Each (λ f. f.level < levels + 1) (flattened xs)
each-shallow levels [] each = tt
each-shallow levels (x ∷ xs) each =
    let inner = each-from_all (λ f. f.level < levels) x.subs each.0.shallow in
    (omega arith, each-append (λ f. f.level < levels + 1) (map one_deeper x.subs) (flattened xs) (each-deeper (λ f. f.level < levels + 1) (λ f. f.level < levels) (λ f low. omega arith) x.subs inner) (each-shallow levels xs each.1))

pub made-shallow : (levels bound : ℕ) (xs : List Sub) → Made levels xs bound → All (λ f. f.level < levels + 1) (flattened xs)
made-shallow levels bound xs made = all_from-each (λ f. f.level < levels + 1) (flattened xs) (each-shallow levels xs made.each)

lower : (levels : ℕ) (flats : List Flat) → levels ≤ 7 → Each (λ f. f.level < levels + 1) flats → Each (λ f. f.level < 8) flats
lower levels [] h each = tt
lower levels (f ∷ flats) h each = (let low = each.0 in omega arith, lower levels flats h each.1)

pub form-made : (levels bound : ℕ) (xs : List Sub) → levels ≤ 7 → length xs ≤ 173400 → Made levels xs bound → IsForm (flattened xs)
form-made levels bound xs h few made = record {
  fits = all_from-each (λ f. IsContent f.blocks) (flattened xs) (each-content levels xs made.each);
  levels = all_from-each (λ f. f.level < 8) (flattened xs) (lower levels (flattened xs) h (each-shallow levels xs made.each));
  beside = λ before here after e level above. beside-at level levels xs before here after made.rise few made.each e above;
}
  where
    beside-at : (level levels : ℕ) (xs : List Sub) (before here after : List Flat) → ascending (sub_nids xs) ≡ true → length xs ≤ 173400 → Each (SubFits levels) xs → flattened xs ≡ before ++ (here ++ after)
        → All (λ f. level ≤ f.level) here → AreBeside level here
    beside-at zero levels xs before here after rise few each e above = beside-top xs before here after rise few e
    beside-at (suc level) levels xs before here after rise few each e above =
        let next : level + 1 ≡ suc level = omega arith in
        let all : Each (λ f. level + 1 ≤ f.level) here = subst (λ (n : ℕ). Each (λ f. n ≤ f.level) here) (sym next) (each-from_all (λ f. suc level ≤ f.level) here above) in
        subst (λ (n : ℕ). AreBeside n here) next (beside-deeper level levels xs before here after each e all)

-- ---- one more

rise-push : (last : ℕ) (xs : List ℕ) (y : ℕ) → rise_from last xs ≡ true → last < y → Each (λ n. n < y) xs → rise_from last (xs ++ y ∷ []) ≡ true
rise-push last [] y rise h all = and_from (ltb last y) true (lt-ltb last y h) refl
rise-push last (x ∷ xs) y rise h all =
    let both = and_parts (ltb last x) (rise_from x xs) rise in
    and_from (ltb last x) (rise_from x (xs ++ y ∷ [])) both.0 (rise-push x xs y both.1 all.0 all.1)

ascending-push : (xs : List ℕ) (y : ℕ) → ascending xs ≡ true → Each (λ n. n < y) xs → ascending (xs ++ y ∷ []) ≡ true
ascending-push [] y rise all = refl
ascending-push (x ∷ xs) y rise all = rise-push x xs y rise all.0 all.1

raise : (low high : ℕ) (xs : List ℕ) → low ≤ high → Each (λ n. n < low) xs → Each (λ n. n < high) xs
raise low high [] h all = tt
raise low high (x ∷ xs) h all = (let under = all.0 in omega arith, raise low high xs h all.1)

pub made-none : (levels bound : ℕ) → Made levels [] bound
made-none levels bound = record { rise = refl; below = tt; each = tt }

pub made-push : (levels bound next : ℕ) (xs : List Sub) (x : Sub) → Made levels xs bound → bound ≤ (x.nid).bits → (x.nid).bits < next → SubFits levels x → Made levels (xs ++ x ∷ []) next
made-push levels bound next xs x made low high fits =
    let nid = (x.nid).bits in
    let more : sub_nids (xs ++ x ∷ []) ≡ sub_nids xs ++ nid ∷ [] = map-append (λ (s : Sub). (s.nid).bits) xs (x ∷ []) in
    record {
      rise = ap ascending more ∙ ascending-push (sub_nids xs) nid made.rise (raise bound nid (sub_nids xs) low made.below);
      below = subst (λ (nids : List ℕ). Each (λ n. n < next) nids) (sym more)
          (each-append (λ n. n < next) (sub_nids xs) (nid ∷ []) (raise bound next (sub_nids xs) (omega arith) made.below) (high, tt));
      each = each-append (SubFits levels) xs (x ∷ []) made.each (fits, tt);
    }

-- no subnodes
pub form-none : IsForm []
form-none = form-made 0 0 [] (omega arith) (omega arith) (made-none 0 0)

content-one : (byte : ℕ) → IsContent ((byte ∷ []) ∷ [])
content-one byte = record {
  small = all_from-each (λ (b : List ℕ). length b ≤ 8176) ((byte ∷ []) ∷ []) (omega arith, tt);
  few = omega arith;
  together = omega arith;
}

-- a subnode with one byte
pub sub-fits : (levels byte : ℕ) (x : Sub) (subs : List Flat) → x.blocks ≡ (byte ∷ []) ∷ [] → x.subs ≡ subs → IsForm subs → All (λ f. f.level < levels) subs → SubFits levels x
sub-fits levels byte x subs holds below form shallow =
    let P : List (List ℕ) → Type 0 = λ bs. IsContent bs in
    let Q : List Flat → Type 0 = λ flats. IsForm flats in
    let R : List Flat → Type 0 = λ flats. All (λ f. f.level < levels) flats in
    record { content = subst P (sym holds) (content-one byte); form = subst Q (sym below) form; shallow = subst R (sym below) shallow }

pub none-shallow : (levels : ℕ) → All (λ (f : Flat). f.level < levels) []
none-shallow levels = all_from-each (λ (f : Flat). f.level < levels) [] tt

-- one subnode alone
pub made-one : (levels : ℕ) (x : Sub) → SubFits levels x → Made levels (x ∷ []) ((x.nid).bits + 1)
made-one levels x fits = made-push levels 0 ((x.nid).bits + 1) [] x (made-none levels 0) (omega arith) (omega arith) fits
