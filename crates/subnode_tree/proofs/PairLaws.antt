-- What is kept of subnodes, one subnode more.
use Rattle.std.proofs.Common.{◌≡◌, ℕ, zero, suc, ◌+◌, ◌<◌, ◌≤◌, List, [], ◌∷◌, ◌++◌, length, map, drop, take, get_or, Option, Some, None, refl, sym, ap, subst, ◌∙◌, arith, append_assoc, length-append, length-drop}
use Rattle.std.specs.List.{flat_map}
use Rattle.std.proofs.lemmas.List.{drop-drop, length-map}
use Rattle.pst_base.specs.declared.ids.Bid.{Bid}
use Rattle.pst_base.specs.declared.subs.Sub.{Sub}
use Rattle.pst_base.specs.Flat.{Flat}
use Rattle.pst_base.specs.Subs.{flattened, one_deeper}
use Rattle.data_tree.specs.Plan.{MayKeep, kept_bids, unkept}
use Rattle.data_tree.proofs.PieceLaws.{Each, each-drop}
use Rattle.data_tree.proofs.KeepLaws.{unkept-none}
use Rattle.subnode_tree.specs.Plan.{data_in, first_list, kept_in, nothing, paired, unkept_in}
use Rattle.subnode_tree.proofs.FormLaws.{own, split-at}
use Rattle.subnode_tree.proofs.SubSteps.{flattened-more}

abbrev pub Keep : Type 0
Keep = List (List (Option Bid))

abbrev pub Pair : Type 0
Pair = List (Option Bid) × List (List ℕ)

pub paired-append : (keep : Keep) (xs ys : List Flat) → paired keep (xs ++ ys) ≡ paired keep xs ++ paired (drop (length xs) keep) ys
paired-append keep [] ys = refl
paired-append keep (f ∷ xs) ys =
    let e : 1 + length xs ≡ suc (length xs) = omega arith in
    ap (λ (l : List Pair). (first_list keep, f.blocks) ∷ l) (paired-append (drop 1 keep) xs ys)
    ∙ ap (λ (k : Keep). (first_list keep, f.blocks) ∷ (paired (drop 1 keep) xs ++ paired k ys)) (drop-drop (length xs) 1 keep ∙ ap (λ (n : ℕ). drop n keep) e)

pub paired-deeper : (keep : Keep) (flats : List Flat) → paired keep (map one_deeper flats) ≡ paired keep flats
paired-deeper keep [] = refl
paired-deeper keep (f ∷ flats) = ap (λ (l : List Pair). (first_list keep, f.blocks) ∷ l) (paired-deeper (drop 1 keep) flats)

-- one subnode more, of whose ids and of those behind it these are kept
pub paired-more : (keep rest : Keep) (xs : List Sub) (x : Sub) → rest ≡ drop (length (flattened xs)) keep
    → paired keep (flattened (xs ++ x ∷ [])) ≡ paired keep (flattened xs) ++ ((first_list rest, x.blocks) ∷ paired (drop 1 rest) x.subs)
paired-more keep rest xs x is =
    let here : List Flat = own x ∷ map one_deeper x.subs in
    ap (paired keep) (flattened-more xs x) ∙ paired-append keep (flattened xs) here
    ∙ ap (λ (k : Keep). paired keep (flattened xs) ++ paired k here) (sym is)
    ∙ ap (λ (l : List Pair). paired keep (flattened xs) ++ ((first_list rest, x.blocks) ∷ l)) (paired-deeper (drop 1 rest) x.subs)

flat-append : {X A : Type 0} (f : X → List A) (xs ys : List X) → flat_map f (xs ++ ys) ≡ flat_map f xs ++ flat_map f ys
flat-append f [] ys = refl
flat-append {X} {A} f (x ∷ xs) ys = ap (λ (l : List A). f x ++ l) (flat-append f xs ys) ∙ sym (append_assoc (f x) (flat_map f xs) (flat_map f ys))

pub unkept-more : (keep rest : Keep) (xs : List Sub) (x : Sub) → rest ≡ drop (length (flattened xs)) keep
    → unkept_in keep (flattened (xs ++ x ∷ [])) ≡ unkept_in keep (flattened xs) ++ (unkept (first_list rest) x.blocks ++ unkept_in (drop 1 rest) x.subs)
unkept-more keep rest xs x is =
    let f : Pair → List (List ℕ) = λ pair. unkept pair.0 pair.1 in
    ap (flat_map f) (paired-more keep rest xs x is) ∙ flat-append f (paired keep (flattened xs)) ((first_list rest, x.blocks) ∷ paired (drop 1 rest) x.subs)

pub kept-more : (keep rest : Keep) (xs : List Sub) (x : Sub) → rest ≡ drop (length (flattened xs)) keep
    → kept_in keep (flattened (xs ++ x ∷ [])) ≡ kept_in keep (flattened xs) ++ (kept_bids (first_list rest) x.blocks ++ kept_in (drop 1 rest) x.subs)
kept-more keep rest xs x is =
    let f : Pair → List Bid = λ pair. kept_bids pair.0 pair.1 in
    ap (flat_map f) (paired-more keep rest xs x is) ∙ flat-append f (paired keep (flattened xs)) ((first_list rest, x.blocks) ∷ paired (drop 1 rest) x.subs)

-- what is left of the list
pub rest-more : (keep rest others left : Keep) (xs : List Sub) (x : Sub) (n : ℕ) → rest ≡ drop (length (flattened xs)) keep → others ≡ drop 1 rest → n ≡ length x.subs → left ≡ drop n others
    → left ≡ drop (length (flattened (xs ++ x ∷ []))) keep
rest-more keep rest others left xs x n is behind count tail =
    let size = ap length (flattened-more xs x) ∙ length-append (flattened xs) (own x ∷ map one_deeper x.subs) in
    let deep = length-map x.subs one_deeper in
    let all : length (flattened xs) + 1 + n ≡ length (flattened (xs ++ x ∷ [])) = omega arith in
    tail ∙ ap (drop n) (behind ∙ ap (drop 1) is ∙ drop-drop 1 (length (flattened xs)) keep) ∙ drop-drop n (length (flattened xs) + 1) keep ∙ ap (λ (m : ℕ). drop m keep) all

-- ---- nothing kept

pub length-nothing : (n : ℕ) → length (nothing n) ≡ n
length-nothing zero = refl
length-nothing (suc n) = ap suc (length-nothing n)

pub nothing-append : (m n : ℕ) → nothing m ++ nothing n ≡ nothing (m + n)
nothing-append zero n = let e : 0 + n ≡ n = omega arith in ap nothing (sym e)
nothing-append (suc m) n =
    let e : suc (m + n) ≡ suc m + n = omega arith in
    ap (λ (l : Keep). [] ∷ l) (nothing-append m n) ∙ ap nothing e

pub nothing-more : (out below made : Keep) (xs : List Sub) (x : Sub) → out ≡ nothing (length (flattened xs)) → below ≡ nothing (length x.subs) → made ≡ (out ++ [] ∷ []) ++ below
    → made ≡ nothing (length (flattened (xs ++ x ∷ [])))
nothing-more out below made xs x is deeper all =
    let size = ap length (flattened-more xs x) ∙ length-append (flattened xs) (own x ∷ map one_deeper x.subs) in
    let deep = length-map x.subs one_deeper in
    let one : Keep = [] ∷ [] in
    let n = length (flattened xs) in
    let m = length x.subs in
    let whole : n + 1 + m ≡ length (flattened (xs ++ x ∷ [])) = omega arith in
    all ∙ ap (λ (l : Keep). (l ++ one) ++ below) is ∙ ap (λ (l : Keep). (nothing n ++ one) ++ l) deeper ∙ ap (λ (l : Keep). l ++ nothing m) (nothing-append n 1) ∙ nothing-append (n + 1) m
    ∙ ap nothing whole

paired-nothing : (n : ℕ) (flats : List Flat) → paired (nothing n) flats ≡ paired [] flats
paired-nothing n [] = refl
paired-nothing zero (f ∷ flats) = refl
paired-nothing (suc n) (f ∷ flats) = ap (λ (l : List Pair). ([], f.blocks) ∷ l) (paired-nothing n flats)

pub nothing-paired : (n : ℕ) (flats : List Flat) → paired (nothing n) flats ≡ paired [] flats
nothing-paired n flats = paired-nothing n flats

unkept-paired : (flats : List Flat) → flat_map (λ (pair : Pair). unkept pair.0 pair.1) (paired [] flats) ≡ data_in flats
unkept-paired [] = refl
unkept-paired (f ∷ flats) = ap (λ (l : List (List ℕ)). l ++ unkept_in [] flats) (unkept-none f.blocks) ∙ ap (λ (l : List (List ℕ)). f.blocks ++ l) (unkept-paired flats)

pub unkept-nothing : (n : ℕ) (flats : List Flat) → unkept_in (nothing n) flats ≡ data_in flats
unkept-nothing n flats = ap (flat_map (λ (pair : Pair). unkept pair.0 pair.1)) (paired-nothing n flats) ∙ unkept-paired flats

none-kept : (bs : List (List ℕ)) → kept_bids [] bs ≡ []
none-kept [] = refl
none-kept (b ∷ bs) = refl

kept-paired : (flats : List Flat) → flat_map (λ (pair : Pair). kept_bids pair.0 pair.1) (paired [] flats) ≡ []
kept-paired [] = refl
kept-paired (f ∷ flats) = ap (λ (l : List Bid). l ++ kept_in [] flats) (none-kept f.blocks) ∙ kept-paired flats

pub kept-nothing : (n : ℕ) (flats : List Flat) → kept_in (nothing n) flats ≡ []
kept-nothing n flats = ap (flat_map (λ (pair : Pair). kept_bids pair.0 pair.1)) (paired-nothing n flats) ∙ kept-paired flats

pub may-nothing : (next n : ℕ) → Each (MayKeep next) (nothing n)
may-nothing next zero = tt
may-nothing next (suc n) = (tt, may-nothing next n)

-- ---- ids that may be kept

pub may-above : (low next : ℕ) (keep : List (Option Bid)) → low ≤ next → MayKeep low keep → MayKeep next keep
may-above low next [] h may = tt
may-above low next (Some bid ∷ keep) h may = let under = may.2 in (may.0, may.1, omega arith, may-above low next keep h may.3)
may-above low next (None ∷ keep) h may = may-above low next keep h may

pub all-may : (low next : ℕ) (keep : Keep) → low ≤ next → Each (MayKeep low) keep → Each (MayKeep next) keep
all-may low next [] h may = tt
all-may low next (own ∷ keep) h may = (may-above low next own h may.0, all-may low next keep h may.1)

pub first-may : (next : ℕ) (rest : Keep) → Each (MayKeep next) rest → MayKeep next (first_list rest)
first-may next [] may = tt
first-may next (own ∷ rest) may = may.0

pub may-rest : (next n : ℕ) (keep rest : Keep) → rest ≡ drop n keep → Each (MayKeep next) keep → Each (MayKeep next) rest
may-rest next n keep rest is may = subst (λ (k : Keep). Each (MayKeep next) k) (sym is) (each-drop (MayKeep next) n keep may)

-- the list has what is kept of a subnode and of those below it
pub room-left : (keep rest : Keep) (xs : List Sub) (i : ℕ) (d : Sub) → i < length xs → length (flattened xs) ≤ length keep → rest ≡ drop (length (flattened (take i xs))) keep
    → 1 + length (get_or xs i d).subs ≤ length rest
room-left keep rest xs i d h long is =
    let x = get_or xs i d in
    let front = flattened (take i xs) in
    let below = map one_deeper x.subs in
    let behind = flattened (drop (i + 1) xs) in
    let whole = ap length (split-at xs i d h) in
    let one = length-append front ((own x ∷ below) ++ behind) in
    let two = length-append (own x ∷ below) behind in
    let three = length-map x.subs one_deeper in
    let left = ap length is ∙ length-drop (length front) keep in
    omega arith
