-- What stays of subnodes, by their paths.
use Rattle.std.proofs.Common.{Bool, true, false, ◌≡◌, ◌∙◌, ℕ, zero, suc, ◌<◌, ltb, if◌then◌else◌, List, [], ◌∷◌, ◌++◌, length, drop, take, map, Option, refl, ap, arith, add-one}
use Rattle.std.proofs.lemmas.Bool.{and_parts, eq-eqb, ne_eqb, ltb-true}
use Rattle.pst_base.specs.declared.ids.Bid.{Bid}
use Rattle.pst_base.specs.declared.subs.Sub.{Sub}
use Rattle.pst_base.specs.Flat.{Flat}
use Rattle.pst_base.specs.Subs.{flattened, one_deeper}
use Rattle.data_tree.specs.Plan.{AreFound}
use Rattle.data_tree.proofs.PieceLaws.{Each}
use Rattle.subnode_tree.specs.Plan.{first_list, paired}
use Rattle.subnode_tree.proofs.PairLaws.{Keep, Pair}
use Rattle.subnode_tree.proofs.SubPlanLaws.{PairFound}
use Rattle.content_plan.specs.Keep.{ascend_after, first_below, kept_among, kept_at, kept_each, kept_list, kept_subs, path_after, paths_after, paths_of, same_path, subs_ascend}
use Rattle.content_plan.proofs.KeepLaws.{kept-found, nothing-found}

-- ---- paths

-- on top no path before counts
pub paths-top : (last : List ℕ) (xs : List Sub) → paths_after last (flattened xs) ≡ paths_of (flattened xs)
paths-top last [] = refl
paths-top last (x ∷ xs) = refl

drop-more : {A : Type 0} (n : ℕ) (xs : List A) → drop n (drop 1 xs) ≡ drop (suc n) xs
drop-more zero [] = refl
drop-more (suc n) [] = refl
drop-more zero (x ∷ xs) = refl
drop-more (suc n) (x ∷ xs) = refl

other-path : (n m : ℕ) (p path : List ℕ) → (n ≡ m → ⊥) → same_path (n ∷ p) (m ∷ path) ≡ false
other-path n m p path ne = rw (ne_eqb n m ne) refl

same-head : (n : ℕ) (p path : List ℕ) → same_path (n ∷ p) (n ∷ path) ≡ same_path p path
same-head n p path = rw (eq-eqb n n refl) refl

-- ---- the old subnodes

-- a path that begins with another id leads to none of a subnode's own
skip-below : (next n m : ℕ) (path : List ℕ) (now : List (List ℕ)) → (n ≡ m → ⊥) → (inner : List Flat) (last : List ℕ) (ids : Keep) (xs : List Sub)
    → kept_among next (paths_after (n ∷ last) (map one_deeper inner ++ flattened xs)) (paired ids (map one_deeper inner ++ flattened xs)) (m ∷ path) now ≡ kept_at next (drop (length inner) ids) (flattened xs) (m ∷ path) now
skip-below next n m path now ne [] last ids xs = ap (λ (ps : List (List ℕ)). kept_among next ps (paired ids (flattened xs)) (m ∷ path) now) (paths-top (n ∷ last) xs)
skip-below next n m path now ne (f ∷ inner) last ids xs =
    rw (add-one f.level, other-path n m (path_after last f) path ne)
    (skip-below next n m path now ne inner (path_after last f) (drop 1 ids) xs ∙ ap (λ (k : Keep). kept_at next k (flattened xs) (m ∷ path) now) (drop-more (length inner) ids))

pub skip-one : (next m : ℕ) (path : List ℕ) (now : List (List ℕ)) (ids : Keep) (x : Sub) (xs : List Sub) → ((x.nid).bits ≡ m → ⊥)
    → kept_at next ids (flattened (x ∷ xs)) (m ∷ path) now ≡ kept_at next (drop (length x.subs) (drop 1 ids)) (flattened xs) (m ∷ path) now
skip-one next m path now ids x xs ne =
    rw (other-path (x.nid).bits m [] path ne)
    (skip-below next (x.nid).bits m path now ne x.subs [] (drop 1 ids) xs)

-- each subnode has a higher id
abbrev pub Above : ℕ → List Sub → Type 0
Above n xs = Each (λ (x : Sub). n < (x.nid).bits) xs

pub absent : (next n : ℕ) (path : List ℕ) (now : List (List ℕ)) (ids : Keep) (xs : List Sub) → Above n xs → kept_at next ids (flattened xs) (n ∷ path) now ≡ []
absent next n path now ids [] above = refl
absent next n path now ids (x ∷ xs) above =
    let high = above.0 in
    skip-one next n path now ids x xs (λ e. absurd (omega (arith, e, high))) ∙ absent next n path now (drop (length x.subs) (drop 1 ids)) xs above.1

pub found-own : (next : ℕ) (now : List (List ℕ)) (ids : Keep) (x : Sub) (xs : List Sub) → kept_at next ids (flattened (x ∷ xs)) ((x.nid).bits ∷ []) now ≡ kept_list next (first_list ids) x.blocks now
found-own next now ids x xs = rw (eq-eqb (x.nid).bits (x.nid).bits refl) refl

into-below : (next n : ℕ) (path : List ℕ) (now : List (List ℕ)) (inner : List Flat) (last : List ℕ) (ids : Keep) (xs : List Sub) → Above n xs
    → kept_among next (paths_after (n ∷ last) (map one_deeper inner ++ flattened xs)) (paired ids (map one_deeper inner ++ flattened xs)) (n ∷ path) now ≡ kept_among next (paths_after last inner) (paired ids inner) path now
into-below next n path now [] last ids xs above =
    ap (λ (ps : List (List ℕ)). kept_among next ps (paired ids (flattened xs)) (n ∷ path) now) (paths-top (n ∷ last) xs) ∙ absent next n path now ids xs above
into-below next n path now (f ∷ inner) last ids xs above =
    let rest = into-below next n path now inner (path_after last f) (drop 1 ids) xs above in
    rw (add-one f.level, same-head n (path_after last f) path)
    (ap (λ (l : List (Option Bid)). if same_path (path_after last f) path then kept_list next (first_list ids) f.blocks now else l) rest)

pub found-below : (next p : ℕ) (path : List ℕ) (now : List (List ℕ)) (ids : Keep) (x : Sub) (xs : List Sub) → Above (x.nid).bits xs
    → kept_at next ids (flattened (x ∷ xs)) ((x.nid).bits ∷ (p ∷ path)) now ≡ kept_at next (drop 1 ids) x.subs (p ∷ path) now
found-below next p path now ids x xs above =
    rw (same-head (x.nid).bits [] (p ∷ path))
    (into-below next (x.nid).bits (p ∷ path) now x.subs [] (drop 1 ids) xs above)

-- ---- the order

-- of subnodes that ascend those of one do, and those behind it
part-below : (n : ℕ) (inner : List Flat) (last : List ℕ) (rest : List Flat) → ascend_after (n ∷ last) (map one_deeper inner ++ rest) ≡ true → (ascend_after last inner ≡ true) × (tail : List ℕ) × (ascend_after (n ∷ tail) rest ≡ true)
part-below n [] last rest h = (refl, last, h)
part-below n (f ∷ inner) last rest h =
    let both = and_parts (first_below (drop f.level last) f.nid) (ascend_after (n ∷ path_after last f) (map one_deeper inner ++ rest)) (rw (add-one f.level) at h) in
    let more = part-below n inner (path_after last f) rest both.1 in
    let here = both.0 in
    (rw here more.0, more.1, more.2)

-- subnodes behind one with an id
behind-one : (k : ℕ) (tail : List ℕ) (xs : List Sub) → ascend_after (k ∷ tail) (flattened xs) ≡ true → Above k xs × (subs_ascend (flattened xs) ≡ true)
behind-one k tail [] h = (tt, refl)
behind-one k tail (x ∷ xs) h =
    let both = and_parts (ltb k (x.nid).bits) (ascend_after ((x.nid).bits ∷ []) (map one_deeper x.subs ++ flattened xs)) h in
    let high = ltb-true k (x.nid).bits both.0 in
    let parts = part-below (x.nid).bits x.subs [] (flattened xs) both.1 in
    let rest = behind-one (x.nid).bits parts.1 xs parts.2 in
    ((high, raise (x.nid).bits xs high rest.0), both.1)
  where
    raise : (n : ℕ) (ys : List Sub) → k < n → Above n ys → Above k ys
    raise n [] low above = tt
    raise n (y ∷ ys) low above = (let h = above.0 in omega (arith, low, h), raise n ys low above.1)

-- what the order of subnodes says of the first
pub record First (x : Sub) (xs : List Sub) : Type 0 where
  pub below : subs_ascend x.subs ≡ true
  pub above : Above (x.nid).bits xs
  pub rest : subs_ascend (flattened xs) ≡ true

pub first-ascends : (x : Sub) (xs : List Sub) → subs_ascend (flattened (x ∷ xs)) ≡ true → First x xs
first-ascends x xs h =
    let parts = part-below (x.nid).bits x.subs [] (flattened xs) h in
    let behind = behind-one (x.nid).bits parts.1 xs parts.2 in
    record { below = parts.0; above = behind.0; rest = behind.1 }

-- ---- the new subnodes

kept-join : (kept : List ℕ → List (List ℕ) → List (Option Bid)) (n : ℕ) (inner : List Flat) (last : List ℕ) (ys : List Sub)
    → kept_each kept (paths_after (n ∷ last) (map one_deeper inner ++ flattened ys)) (map one_deeper inner ++ flattened ys) ≡ kept_each (λ path. kept (n ∷ path)) (paths_after last inner) inner ++ kept_each kept (paths_of (flattened ys)) (flattened ys)
kept-join kept n [] last ys = ap (λ (ps : List (List ℕ)). kept_each kept ps (flattened ys)) (paths-top (n ∷ last) ys)
kept-join kept n (f ∷ inner) last ys = rw (add-one f.level) (ap (λ (l : Keep). kept (n ∷ path_after last f) f.blocks ∷ l) (kept-join kept n inner (path_after last f) ys))

-- the same of what is kept alike
pub kept-alike : (one other : List ℕ → List (List ℕ) → List (Option Bid)) → ((p : ℕ) (path : List ℕ) (now : List (List ℕ)) → one (p ∷ path) now ≡ other (p ∷ path) now) → (flats : List Flat) (last : List ℕ)
    → kept_each one (paths_after last flats) flats ≡ kept_each other (paths_after last flats) flats
kept-alike one other same [] last = refl
kept-alike one other same (f ∷ flats) last =
    ap (λ (l : List (Option Bid)). l ∷ kept_each one (paths_after (path_after last f) flats) flats) (here (take f.level last))
    ∙ ap (λ (l : Keep). other (path_after last f) f.blocks ∷ l) (kept-alike one other same flats (path_after last f))
  where
    here : (front : List ℕ) → one (front ++ f.nid ∷ []) f.blocks ≡ other (front ++ f.nid ∷ []) f.blocks
    here [] = same f.nid [] f.blocks
    here (p ∷ front) = same p (front ++ f.nid ∷ []) f.blocks

-- what stays of some subnodes, one of them first
pub kept-first : (kept : List ℕ → List (List ℕ) → List (Option Bid)) (y : Sub) (ys : List Sub)
    → kept_each kept (paths_of (flattened (y ∷ ys))) (flattened (y ∷ ys)) ≡ kept ((y.nid).bits ∷ []) y.blocks ∷ (kept_each (λ path. kept ((y.nid).bits ∷ path)) (paths_of y.subs) y.subs ++ kept_each kept (paths_of (flattened ys)) (flattened ys))
kept-first kept y ys = ap (λ (l : Keep). kept ((y.nid).bits ∷ []) y.blocks ∷ l) (kept-join kept (y.nid).bits y.subs [] ys)

-- ---- what stays may stay, and is found

among-found : (find : ℕ → Option (List ℕ)) (next : ℕ) (paths : List (List ℕ)) (had : List Pair) (path : List ℕ) (now : List (List ℕ)) → Each (PairFound find) had → AreFound find (kept_among next paths had path now) now
among-found find next [] had path now found = nothing-found find now
among-found find next (p ∷ paths) [] path now found = nothing-found find now
among-found find next (p ∷ paths) (one ∷ had) path now found = by (among-found find next paths had path now found.1) (same_path p path)
  where
    by : AreFound find (kept_among next paths had path now) now → (b : Bool) → AreFound find (if b then kept_list next one.0 one.1 now else kept_among next paths had path now) now
    by rest true = kept-found find next [] one.0 one.1 now found.0
    by rest false = rest

each-found : (find : ℕ → Option (List ℕ)) (kept : List ℕ → List (List ℕ) → List (Option Bid)) → ((path : List ℕ) (now : List (List ℕ)) → AreFound find (kept path now) now) → (flats : List Flat) (last : List ℕ)
    → Each (PairFound find) (paired (kept_each kept (paths_after last flats) flats) flats)
each-found find kept each [] last = tt
each-found find kept each (f ∷ flats) last = (each (path_after last f) f.blocks, each-found find kept each flats (path_after last f))

pub subs-found : (find : ℕ → Option (List ℕ)) (next : ℕ) (ids : Keep) (was new : List Flat) → Each (PairFound find) (paired ids was) → Each (PairFound find) (paired (kept_subs next ids was new) new)
subs-found find next ids was new found = each-found find (kept_at next ids was) (λ path now. among-found find next (paths_of was) (paired ids was) path now found) new []
