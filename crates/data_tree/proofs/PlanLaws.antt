-- A tree that is planned reads as its data.
use Rattle.std.proofs.Common.{Bool, true, false, not, ◌≡◌, ℕ, suc, ◌+◌, ◌*◌, ◌/◌, ◌%◌, ◌^◌, ◌<◌, ◌≤◌, ◌⊎◌, inl, inr, eqb, leb, ltb, ◌&&◌, if◌then◌else◌, List, [], ◌∷◌, ◌++◌, length, map, drop, Option, Some, Result, Ok, Err, refl, sym, ap, subst, ◌∙◌, arith, length-append, append_assoc, append-nil}
use Rattle.std.proofs.lemmas.Bool.{and_from, le-leb, lt-ltb, le-ltb, eq-eqb, ne_eqb, cases_lt, cases_Bool}
use Rattle.std.proofs.lemmas.List.{length-map, map-append}
use Rattle.byteorder.specs.Endian.{little_bytes}
use Rattle.byteorder.specs.Numbers.{little_number-reads_back}
use Rattle.pst_base.specs.declared.ids.Bid.{Bid}
use Rattle.pst_base.specs.Fields.{number_at}
use Rattle.pst_base.specs.Ids.{key_of}
use Rattle.pst_base.proofs.Numbers.{number_at-first}
use Rattle.data_tree.specs.declared.source.TreeStop.{TreeStop}
use Rattle.data_tree.specs.declared.source.TreeStop.TheVariants.{Long}
use Rattle.data_tree.specs.Tree.{and_then, named, ids, is_listing, names_of, is_internal, are_data, leaves, below, all_below, listed, bids_of, blocks_from, blocks_of}
use Rattle.data_tree.specs.Plan.{IsFound, ReadsAs, Rise, above, bids_in, bytes_in, contents, cut, last_id, listing, numbered, plain, planned, spelled, xblock, xblocks, xxblock}
use Rattle.data_tree.proofs.BlockSteps.{below-leaves, listed-leaves}
use Rattle.data_tree.proofs.PieceLaws.{Each, each-from_all, each-left, each-right, joined, cut-one, length-cut, joined-cut, cut-short, cut-each}

-- ---- blocks with ids

pub contents-numbered : (mark next : ℕ) (bs : List (List ℕ)) → contents (numbered mark next bs) ≡ bs
contents-numbered mark next [] = refl
contents-numbered mark next (b ∷ bs) = ap (λ (rest : List (List ℕ)). b ∷ rest) (contents-numbered mark (next + 4) bs)

pub length-numbered : (mark next : ℕ) (bs : List (List ℕ)) → length (numbered mark next bs) ≡ length bs
length-numbered mark next [] = refl
length-numbered mark next (b ∷ bs) = ap suc (length-numbered mark (next + 4) bs)

-- the id fits its bytes, and names a data block
abbrev pub IsData : Bid × List ℕ → Type 0
IsData block = ((block.0).bits / 2 % 2 ≡ 0) × ((block.0).bits < 2 ^ 64)

pub data-numbered : (next : ℕ) (bs : List (List ℕ)) → next % 4 ≡ 0 → next + 4 * length bs ≤ 2 ^ 64 → Each IsData (numbered 0 next bs)
data-numbered next [] apart room = tt
data-numbered next (b ∷ bs) apart room = ((omega arith, omega arith), data-numbered (next + 4) bs (omega arith) (omega arith))

abbrev pub Fits64 : Bid → Type 0
Fits64 bid = bid.bits < 2 ^ 64

pub fit-data : (blocks : List (Bid × List ℕ)) → Each IsData blocks → Each Fits64 (bids_in blocks)
fit-data [] all = tt
fit-data (block ∷ blocks) all = (all.0.1, fit-data blocks all.1)

pub fit-numbered : (mark next : ℕ) (bs : List (List ℕ)) → next + 4 * length bs + mark ≤ 2 ^ 64 → Each Fits64 (bids_in (numbered mark next bs))
fit-numbered mark next [] room = tt
fit-numbered mark next (b ∷ bs) room = (omega arith, fit-numbered mark (next + 4) bs (omega arith))

are_data-data : (blocks : List (Bid × List ℕ)) → Each IsData blocks → are_data (bids_in blocks) ≡ true
are_data-data [] all = refl
are_data-data (block ∷ blocks) all =
    let apart = all.0.0 in
    let e : ((block.0).bits / 2 % 2 ≡ 1 → ⊥) = λ h. omega arith in
    let plain : is_internal block.0 ≡ false = ne_eqb ((block.0).bits / 2 % 2) 1 e in
    ap (λ (t : Bool). not t && are_data (bids_in blocks)) plain ∙ are_data-data blocks all.1

pub rise-numbered : (mark next : ℕ) (bs : List (List ℕ)) → (mark ≡ 0) ⊎ (mark ≡ 2) → Rise next (numbered mark next bs)
rise-numbered mark next [] is = tt
rise-numbered mark next (b ∷ bs) (inl none) = (inl (omega arith), rise-numbered mark (next + 4) bs (inl none))
rise-numbered mark next (b ∷ bs) (inr two) = (inr (omega arith), rise-numbered mark (next + 4) bs (inr two))

pub rise-append : (next : ℕ) (xs ys : List (Bid × List ℕ)) → Rise next xs → Rise (next + 4 * length xs) ys → Rise next (xs ++ ys)
rise-append next [] ys first later = let e : next + 4 * 0 ≡ next = omega arith in subst (λ (n : ℕ). Rise n ys) e later
rise-append next (x ∷ xs) ys first later =
    let e : next + 4 * suc (length xs) ≡ next + 4 + 4 * length xs = omega arith in
    (first.0, rise-append (next + 4) xs ys first.1 (subst (λ (n : ℕ). Rise n ys) e later))

pub last-append : (xs : List (Bid × List ℕ)) (y : Bid × List ℕ) (ys : List (Bid × List ℕ)) → last_id (xs ++ y ∷ ys) ≡ last_id (y ∷ ys)
last-append [] y ys = refl
last-append (x ∷ []) y ys = refl
last-append (x ∷ (z ∷ zs)) y ys = last-append (z ∷ zs) y ys

-- ---- blocks that name others

pub length-spelled : (bids : List Bid) → length (spelled bids) ≡ 8 * length bids
length-spelled [] = refl
length-spelled (bid ∷ bids) = let rest = length-spelled bids in omega arith

ids-spelled : (bids : List Bid) → Each Fits64 bids → ids (length bids) (spelled bids) ≡ bids
ids-spelled [] all = refl
ids-spelled (bid ∷ bids) all =
    ap (λ (n : ℕ). record { bits = n } ∷ ids (length bids) (spelled bids)) (number_at-first 8 bid.bits (spelled bids) all.0)
    ∙ ap (λ (rest : List Bid). bid ∷ rest) (ids-spelled bids all.1)

pub length-listing : (level total : ℕ) (bids : List Bid) → length (listing level total bids) ≡ 8 + 8 * length bids
unfolding listing
length-listing level total bids = let e = length-spelled bids in omega arith

kind-listing : (level total : ℕ) (bids : List Bid) → number_at 1 0 (listing level total bids) ≡ 1
unfolding listing number_at
kind-listing level total bids = refl

level-listing : (level total : ℕ) (bids : List Bid) → number_at 1 1 (listing level total bids) ≡ level
unfolding listing number_at
level-listing level total bids = omega arith

count-listing : (level total : ℕ) (bids : List Bid) → length bids ≤ 1021 → number_at 2 2 (listing level total bids) ≡ length bids
unfolding listing number_at
count-listing level total bids few = little_number-reads_back 2 (length bids) (little_bytes 4 total ++ spelled bids) (omega arith)

tail-listing : (level total : ℕ) (bids : List Bid) → drop 8 (listing level total bids) ≡ spelled bids
unfolding listing
tail-listing level total bids = refl

pub is_listing-listing : (level total : ℕ) (bids : List Bid) → length bids ≤ 1021 → is_listing level (listing level total bids) ≡ true
unfolding is_listing
is_listing-listing level total bids few =
    let b = listing level total bids in
    let n = length bids in
    let size = length-listing level total bids in
    let count = count-listing level total bids few in
    and_from _ _ (le-leb 8 (length b) (omega arith))
    (and_from _ _ (eq-eqb (number_at 1 0 b) 1 (kind-listing level total bids))
    (and_from _ _ (eq-eqb (number_at 1 1 b) level (level-listing level total bids))
    (and_from _ _ (le-leb (number_at 2 2 b) 1021 (omega arith)) (eq-eqb (length b) (8 + 8 * number_at 2 2 b) (omega arith)))))

pub is_listing-other : (total : ℕ) (bids : List Bid) → is_listing 1 (listing 2 total bids) ≡ false
unfolding is_listing
is_listing-other total bids =
    let b = listing 2 total bids in
    let size = length-listing 2 total bids in
    let begins : leb 8 (length b) ≡ true = le-leb 8 (length b) (omega arith) in
    let kind = kind-listing 2 total bids in
    let level = level-listing 2 total bids in
    rw (begins, kind, level) refl

pub names_of-listing : (level total : ℕ) (bids : List Bid) → length bids ≤ 1021 → Each Fits64 bids → names_of (listing level total bids) ≡ bids
unfolding names_of
names_of-listing level total bids few all =
    let b = listing level total bids in
    ap (λ (n : ℕ). ids n (drop 8 b)) (count-listing level total bids few)
    ∙ ap (ids (length bids)) (tail-listing level total bids) ∙ ids-spelled bids all

-- ---- reading them

leaves-xblock : (bid : Bid) (blocks : List (Bid × List ℕ)) → length blocks ≤ 1021 → Each IsData blocks → leaves bid (xblock blocks) ≡ Ok (bids_in blocks)
unfolding leaves
leaves-xblock bid blocks few all =
    let count = length-map blocks (λ (block : Bid × List ℕ). block.0) in
    let names : names_of (xblock blocks) ≡ bids_in blocks = names_of-listing 1 (bytes_in (contents blocks)) (bids_in blocks) (omega arith) (fit-data blocks all) in
    let plain = are_data-data blocks all in
    rw (names, plain) refl

pub xblock-listing : (blocks : List (Bid × List ℕ)) → length blocks ≤ 1021 → is_listing 1 (xblock blocks) ≡ true
xblock-listing blocks few =
    let count = length-map blocks (λ (block : Bid × List ℕ). block.0) in
    is_listing-listing 1 (bytes_in (contents blocks)) (bids_in blocks) (omega arith)

-- the id of a block that names others
pub marked : (next : ℕ) → next % 4 ≡ 0 → is_internal (record { bits = next + 2 }) ≡ true
marked next apart = eq-eqb ((next + 2) / 2 % 2) 1 (omega arith)

below-numbered : (find : ℕ → Option (List ℕ)) (parent : Bid) (parts : List (List (Bid × List ℕ))) (next : ℕ) → next % 4 ≡ 0
    → Each (λ (part : List (Bid × List ℕ)). length part ≤ 1021) parts → Each (Each IsData) parts → Each (IsFound find) (numbered 2 next (map xblock parts))
    → all_below find parent (bids_in (numbered 2 next (map xblock parts))) ≡ Ok (bids_in (joined parts))
below-numbered find parent [] next apart short plain found = refl
below-numbered find parent (part ∷ parts) next apart short plain found =
    let bid : Bid = record { bits = next + 2 } in
    let here : below find parent bid ≡ Ok (bids_in part) =
    below-leaves find parent bid (xblock part) (marked next apart) (ap (named bid) found.0) (xblock-listing part short.0) ∙ leaves-xblock bid part short.0 plain.0 in
    let more = below-numbered find parent parts (next + 4) (omega arith) short.1 plain.1 found.1 in
    let ids_of = λ (block : Bid × List ℕ). block.0 in
    ap (λ (r : Result (List Bid) TreeStop). and_then r (λ here. and_then (all_below find parent (bids_in (numbered 2 (next + 4) (map xblock parts)))) (λ more. Ok (here ++ more)))) here
    ∙ ap (λ (r : Result (List Bid) TreeStop). and_then r (λ more. Ok (bids_in part ++ more))) more
    ∙ ap Ok (sym (map-append ids_of part (joined parts)))

-- the data of blocks that are found
pub blocks-found : (find : ℕ → Option (List ℕ)) (eof before : ℕ) (blocks : List (Bid × List ℕ)) → Each (IsFound find) blocks → before + bytes_in (contents blocks) ≤ eof
    → blocks_from find eof before (bids_in blocks) ≡ Ok (contents blocks)
blocks-found find eof before [] found room = refl
blocks-found find eof before (block ∷ blocks) found room =
    let within : ltb eof (before + length block.1) ≡ false = le-ltb eof (before + length block.1) (omega arith) in
    let rest = blocks-found find eof (before + length block.1) blocks found.1 (omega arith) in
    ap (λ (r : Result (List ℕ) TreeStop). and_then r (λ b. if ltb eof (before + length b) then Err Long else and_then (blocks_from find eof (before + length b) (bids_in blocks)) (λ more. Ok (b ∷ more)))) (ap (named block.0) found.0)
    ∙ ap (λ (t : Bool). if t then Err Long else and_then (blocks_from find eof (before + length block.1) (bids_in blocks)) (λ more. Ok (block.1 ∷ more))) within
    ∙ ap (λ (r : Result (List (List ℕ)) TreeStop). and_then r (λ more. Ok (block.1 ∷ more))) rest

-- ---- the blocks above

-- none above two blocks or more can be missing
pub xblocks-some : (next : ℕ) (blocks : List (Bid × List ℕ)) → 1 < length blocks → xblocks next blocks ≡ numbered 2 next (map xblock (cut 1021 blocks))
unfolding xblocks
xblocks-some next blocks some = rw (lt-ltb 1 (length blocks) some) refl

pub xblocks-none : (next : ℕ) (blocks : List (Bid × List ℕ)) → length blocks ≤ 1 → xblocks next blocks ≡ []
unfolding xblocks
xblocks-none next blocks few = rw (le-ltb 1 (length blocks) few) refl

pub xxblock-some : (next total : ℕ) (xs : List (Bid × List ℕ)) → 1 < length xs → xxblock next total xs ≡ numbered 2 next (listing 2 total (bids_in xs) ∷ [])
unfolding xxblock
xxblock-some next total xs some = rw (lt-ltb 1 (length xs) some) refl

pub xxblock-none : (next total : ℕ) (xs : List (Bid × List ℕ)) → length xs ≤ 1 → xxblock next total xs ≡ []
unfolding xxblock
xxblock-none next total xs few = rw (le-ltb 1 (length xs) few) refl

pub length-map_cut : (blocks : List (Bid × List ℕ)) → length (map xblock (cut 1021 blocks)) ≡ (length blocks + 1020) / 1021
length-map_cut blocks = length-map (cut 1021 blocks) xblock ∙ length-cut 1021 blocks

-- how many blocks of level 1 there are
pub length-xblocks : (next : ℕ) (blocks : List (Bid × List ℕ)) → 1 < length blocks → length (xblocks next blocks) ≡ (length blocks + 1020) / 1021
length-xblocks next blocks some = ap length (xblocks-some next blocks some) ∙ length-numbered 2 next (map xblock (cut 1021 blocks)) ∙ length-map_cut blocks

pub few-xblocks : (next : ℕ) (blocks : List (Bid × List ℕ)) → length blocks ≤ 1042441 → length (xblocks next blocks) ≤ 1021
few-xblocks next blocks few = elim (cases_lt 1 (length blocks)) [
  | inl some ↦ let e = length-xblocks next blocks some in omega arith
  | inr none ↦ let e = ap length (xblocks-none next blocks none) in omega arith
]

pub few-xxblock : (next total : ℕ) (xs : List (Bid × List ℕ)) → length (xxblock next total xs) ≤ 1
few-xxblock next total xs = elim (cases_lt 1 (length xs)) [
  | inl some ↦ let e = ap length (xxblock-some next total xs some) in omega arith
  | inr none ↦ let e = ap length (xxblock-none next total xs none) in omega arith
]

pub few-above : (next : ℕ) (blocks : List (Bid × List ℕ)) → length blocks ≤ 1042441 → length (above next blocks) ≤ 1022
unfolding above
few-above next blocks few =
    let xs = xblocks next blocks in
    let total = bytes_in (contents blocks) in
    let both = length-append xs (xxblock (next + 4 * length xs) total xs) in
    let a = few-xblocks next blocks few in
    let b = few-xxblock (next + 4 * length xs) total xs in
    omega arith

rise-xblocks : (next : ℕ) (blocks : List (Bid × List ℕ)) → Rise next (xblocks next blocks)
rise-xblocks next blocks = elim (cases_lt 1 (length blocks)) [
  | inl some ↦ rw (xblocks-some next blocks some) (rise-numbered 2 next (map xblock (cut 1021 blocks)) (inr refl))
  | inr none ↦ rw (xblocks-none next blocks none) tt
]

rise-xxblock : (next total : ℕ) (xs : List (Bid × List ℕ)) → Rise next (xxblock next total xs)
rise-xxblock next total xs = elim (cases_lt 1 (length xs)) [
  | inl some ↦ rw (xxblock-some next total xs some) (rise-numbered 2 next (listing 2 total (bids_in xs) ∷ []) (inr refl))
  | inr none ↦ rw (xxblock-none next total xs none) tt
]

pub rise-above : (next : ℕ) (blocks : List (Bid × List ℕ)) → Rise next (above next blocks)
unfolding above
rise-above next blocks =
    let xs = xblocks next blocks in
    let total = bytes_in (contents blocks) in
    rise-append next xs (xxblock (next + 4 * length xs) total xs) (rise-xblocks next blocks) (rise-xxblock (next + 4 * length xs) total xs)

-- ---- the root

pub not_zero : (n : ℕ) → 0 < n → eqb n 0 ≡ false
not_zero n h = ne_eqb n 0 (λ e. omega arith)

bids_of-marked : (find : ℕ → Option (List ℕ)) (next : ℕ) (b : List ℕ) → next % 4 ≡ 0 → find (key_of (next + 2)) ≡ Some b
    → bids_of find (record { bits = next + 2 }) ≡ listed find (record { bits = next + 2 }) b
unfolding bids_of
bids_of-marked find next b apart found =
    let some : eqb (next + 2) 0 ≡ false = not_zero (next + 2) (omega arith) in
    let mark = marked next apart in
    rw (some, mark, found) refl

-- one block of level 1 leads to all
one-root : (find : ℕ → Option (List ℕ)) (next : ℕ) (blocks : List (Bid × List ℕ)) → next % 4 ≡ 0 → length blocks ≤ 1021 → Each IsData blocks
    → find (key_of (next + 2)) ≡ Some (xblock blocks) → bids_of find (record { bits = next + 2 }) ≡ Ok (bids_in blocks)
one-root find next blocks apart few plain found =
    let bid : Bid = record { bits = next + 2 } in
    bids_of-marked find next (xblock blocks) apart found ∙ listed-leaves find bid (xblock blocks) (xblock-listing blocks few) ∙ leaves-xblock bid blocks few plain

listed-many : (find : ℕ → Option (List ℕ)) (bid : Bid) (b : List ℕ) → is_listing 1 b ≡ false → is_listing 2 b ≡ true → listed find bid b ≡ all_below find bid (names_of b)
unfolding listed
listed-many find bid b first second = rw (first, second) refl

-- a block of level 2 leads to all below those that it names
many-root : (find : ℕ → Option (List ℕ)) (next low total : ℕ) (blocks : List (Bid × List ℕ)) → next % 4 ≡ 0 → low % 4 ≡ 0 → low + 4 * length blocks + 4086 ≤ 2 ^ 64 → length blocks ≤ 1042441
    → Each IsData blocks → Each (IsFound find) (numbered 2 low (map xblock (cut 1021 blocks)))
    → find (key_of (next + 2)) ≡ Some (listing 2 total (bids_in (numbered 2 low (map xblock (cut 1021 blocks)))))
    → bids_of find (record { bits = next + 2 }) ≡ Ok (bids_in blocks)
many-root find next low total blocks apart below_apart room few plain found root =
    let bid : Bid = record { bits = next + 2 } in
    let xs = numbered 2 low (map xblock (cut 1021 blocks)) in
    let names = bids_in xs in
    let count : length names ≡ (length blocks + 1020) / 1021 = length-map xs (λ (block : Bid × List ℕ). block.0) ∙ length-numbered 2 low (map xblock (cut 1021 blocks)) ∙ length-map_cut blocks in
    let made = length-map_cut blocks in
    let short : length names ≤ 1021 = omega arith in
    let fit = fit-numbered 2 low (map xblock (cut 1021 blocks)) (omega arith) in
    bids_of-marked find next (listing 2 total names) apart root
    ∙ listed-many find bid (listing 2 total names) (is_listing-other total names) (is_listing-listing 2 total names short)
    ∙ ap (all_below find bid) (names_of-listing 2 total names short fit)
    ∙ below-numbered find bid (cut 1021 blocks) low below_apart (cut-short 1021 blocks) (cut-each IsData 1021 blocks plain) found
    ∙ ap (λ (all : List (Bid × List ℕ)). Ok (bids_in all)) (joined-cut 1021 blocks (omega arith))

-- the last of the blocks above two data blocks or more
pub above-root : (find : ℕ → Option (List ℕ)) (next : ℕ) (before blocks : List (Bid × List ℕ)) → next % 4 ≡ 0 → next + 4 * length blocks + 8192 ≤ 2 ^ 64 → 1 < length blocks → length blocks ≤ 1042441
    → Each IsData blocks → Each (IsFound find) (above next blocks) → bids_of find (record { bits = last_id (before ++ above next blocks) }) ≡ Ok (bids_in blocks)
unfolding above
above-root find next before blocks apart room some few plain found =
    let xs = numbered 2 next (map xblock (cut 1021 blocks)) in
    let is_xs : xblocks next blocks ≡ xs = xblocks-some next blocks some in
    let total = bytes_in (contents blocks) in
    let top = next + 4 * length xs in
    let count : length xs ≡ (length blocks + 1020) / 1021 = length-numbered 2 next (map xblock (cut 1021 blocks)) ∙ length-map_cut blocks in
    let made : xblocks next blocks ++ xxblock (next + 4 * length (xblocks next blocks)) total (xblocks next blocks) ≡ xs ++ xxblock top total xs =
    ap (λ (ys : List (Bid × List ℕ)). ys ++ xxblock (next + 4 * length ys) total ys) is_xs in
    let here : Each (IsFound find) (xs ++ xxblock top total xs) = subst (λ (ys : List (Bid × List ℕ)). Each (IsFound find) ys) made found in
    ap (λ (ys : List (Bid × List ℕ)). bids_of find (record { bits = last_id (before ++ ys) })) made
    ∙ elim (cases_lt 1 (length xs)) [
      | inl more ↦
          let is_top : xxblock top total xs ≡ (record { bits = top + 2 }, listing 2 total (bids_in xs)) ∷ [] = xxblock-some top total xs more in
          let all : Each (IsFound find) (xs ++ (record { bits = top + 2 }, listing 2 total (bids_in xs)) ∷ []) =
          subst (λ (ys : List (Bid × List ℕ)). Each (IsFound find) (xs ++ ys)) is_top here in
          let last : last_id (before ++ (xs ++ (record { bits = top + 2 }, listing 2 total (bids_in xs)) ∷ [])) ≡ top + 2 =
          ap last_id (sym (append_assoc before xs ((record { bits = top + 2 }, listing 2 total (bids_in xs)) ∷ []))) ∙ last-append (before ++ xs) (record { bits = top + 2 }, listing 2 total (bids_in xs)) [] in
          ap (λ (ys : List (Bid × List ℕ)). bids_of find (record { bits = last_id (before ++ (xs ++ ys)) })) is_top
          ∙ ap (λ (n : ℕ). bids_of find (record { bits = n })) last
          ∙ many-root find top next total blocks (omega arith) apart (omega arith) few plain (each-left (IsFound find) xs ((record { bits = top + 2 }, listing 2 total (bids_in xs)) ∷ []) all)
          (each-right (IsFound find) xs ((record { bits = top + 2 }, listing 2 total (bids_in xs)) ∷ []) all).0
      | inr one ↦
          let short : length blocks ≤ 1021 = omega arith in
          let is_cut : cut 1021 blocks ≡ blocks ∷ [] = cut-one 1021 blocks (omega arith) short in
          let is_one : xs ++ xxblock top total xs ≡ (record { bits = next + 2 }, xblock blocks) ∷ [] =
          ap (λ (ys : List (Bid × List ℕ)). xs ++ ys) (xxblock-none top total xs one) ∙ append-nil xs ∙ ap (λ (parts : List (List (Bid × List ℕ))). numbered 2 next (map xblock parts)) is_cut in
          let all : Each (IsFound find) ((record { bits = next + 2 }, xblock blocks) ∷ []) = subst (λ (ys : List (Bid × List ℕ)). Each (IsFound find) ys) is_one here in
          ap (λ (ys : List (Bid × List ℕ)). bids_of find (record { bits = last_id (before ++ ys) })) is_one
          ∙ ap (λ (n : ℕ). bids_of find (record { bits = n })) (last-append before (record { bits = next + 2 }, xblock blocks) [])
          ∙ one-root find next blocks apart short plain all.0
    ]

pub above-none : (next : ℕ) (blocks : List (Bid × List ℕ)) → length blocks ≤ 1 → above next blocks ≡ []
unfolding above
above-none next blocks few =
    let none : xblocks next blocks ≡ [] = xblocks-none next blocks few in
    ap (λ (xs : List (Bid × List ℕ)). xs ++ xxblock (next + 4 * length xs) (bytes_in (contents blocks)) xs) none ∙ xxblock-none (next + 4 * 0) (bytes_in (contents blocks)) [] (omega arith)

-- ---- the tree

pub few-planned : (next : ℕ) (bs : List (List ℕ)) → length bs ≤ 1042441 → length (planned next bs) ≤ length bs + 1022
unfolding planned
few-planned next bs few =
    let blocks = numbered 0 next bs in
    let count = length-numbered 0 next bs in
    let both = length-append blocks (above (next + 4 * length bs) blocks) in
    let over = few-above (next + 4 * length bs) blocks (omega arith) in
    omega arith

pub rise-planned : (next : ℕ) (bs : List (List ℕ)) → Rise next (planned next bs)
unfolding planned
rise-planned next bs =
    let blocks = numbered 0 next bs in
    let count : length blocks ≡ length bs = length-numbered 0 next bs in
    rise-append next blocks (above (next + 4 * length bs) blocks) (rise-numbered 0 next bs (inl refl))
    (subst (λ (n : ℕ). Rise (next + 4 * n) (above (next + 4 * length bs) blocks)) (sym count) (rise-above (next + 4 * length bs) blocks))

-- from the ids to the data
reads-from : (find : ℕ → Option (List ℕ)) (eof root next : ℕ) (bs : List (List ℕ)) → bids_of find (record { bits = root }) ≡ Ok (bids_in (numbered 0 next bs))
    → Each (IsFound find) (numbered 0 next bs) → bytes_in bs ≤ eof → blocks_of find eof (record { bits = root }) ≡ Ok bs
unfolding blocks_of
reads-from find eof root next bs ids found room =
    let same = contents-numbered 0 next bs in
    let within : 0 + bytes_in (contents (numbered 0 next bs)) ≤ eof = rw same (omega arith) in
    ap (λ (r : Result (List Bid) TreeStop). and_then r (blocks_from find eof 0)) ids ∙ blocks-found find eof 0 (numbered 0 next bs) found within ∙ ap Ok same

planned-none : (next : ℕ) → planned next [] ≡ []
unfolding planned above
planned-none next =
    let none : xblocks (next + 4 * 0) [] ≡ [] = xblocks-none (next + 4 * 0) [] (omega arith) in
    ap (λ (xs : List (Bid × List ℕ)). xs ++ xxblock (next + 4 * 0 + 4 * length xs) 0 xs) none ∙ xxblock-none (next + 4 * 0 + 4 * 0) 0 [] (omega arith)

planned-one : (next : ℕ) (b : List ℕ) → planned next (b ∷ []) ≡ (record { bits = next + 0 }, b) ∷ []
unfolding planned above
planned-one next b =
    let at = next + 4 * 1 in
    let one : List (Bid × List ℕ) = (record { bits = next + 0 }, b) ∷ [] in
    let none : xblocks at one ≡ [] = xblocks-none at one (omega arith) in
    ap (λ (xs : List (Bid × List ℕ)). one ++ (xs ++ xxblock (at + 4 * length xs) (bytes_in (contents one)) xs)) none
    ∙ ap (λ (xs : List (Bid × List ℕ)). one ++ xs) (xxblock-none (at + 4 * 0) (bytes_in (contents one)) [] (omega arith))

bids_of-one : (find : ℕ → Option (List ℕ)) (bits : ℕ) → 0 < bits → bits % 4 ≡ 0 → bids_of find (record { bits = bits }) ≡ Ok (record { bits = bits } ∷ [])
unfolding bids_of
bids_of-one find bits low apart =
    let some : eqb bits 0 ≡ false = not_zero bits low in
    let plain : eqb (bits / 2 % 2) 1 ≡ false = ne_eqb (bits / 2 % 2) 1 (λ h. omega arith) in
    rw (some, plain) refl

bids_of-none : (find : ℕ → Option (List ℕ)) → bids_of find (record { bits = 0 }) ≡ Ok []
unfolding bids_of
bids_of-none find = refl

many-reads : (next : ℕ) (bs : List (List ℕ)) → 1 < length bs → length bs ≤ 1042441 → next ≤ 2 ^ 63 → next % 4 ≡ 0 → (find : ℕ → Option (List ℕ)) → Each (IsFound find) (planned next bs)
    → (eof : ℕ) → bytes_in bs ≤ eof → blocks_of find eof (record { bits = last_id (planned next bs) }) ≡ Ok bs
unfolding planned
many-reads next bs some few high apart find found eof room =
    let blocks = numbered 0 next bs in
    let at = next + 4 * length bs in
    let count = length-numbered 0 next bs in
    let plain = data-numbered next bs apart (omega arith) in
    reads-from find eof (last_id (blocks ++ above at blocks)) next bs
    (above-root find at blocks blocks (omega arith) (omega arith) (omega arith) (omega arith) plain (each-right (IsFound find) blocks (above at blocks) found))
    (each-left (IsFound find) blocks (above at blocks) found) room

each-reads : (next : ℕ) (bs : List (List ℕ)) → length bs ≤ 1042441 → 4 ≤ next → next ≤ 2 ^ 63 → next % 4 ≡ 0 → (find : ℕ → Option (List ℕ)) → Each (IsFound find) (planned next bs)
    → (eof : ℕ) → bytes_in bs ≤ eof → blocks_of find eof (record { bits = last_id (planned next bs) }) ≡ Ok bs
each-reads next [] few low high apart find found eof room =
    ap (λ (blocks : List (Bid × List ℕ)). blocks_of find eof (record { bits = last_id blocks })) (planned-none next)
    ∙ reads-from find eof 0 next [] (bids_of-none find) tt room
each-reads next (b ∷ []) few low high apart find found eof room =
    let made = planned-one next b in
    let here : Each (IsFound find) ((record { bits = next + 0 }, b) ∷ []) = subst (λ (ys : List (Bid × List ℕ)). Each (IsFound find) ys) made found in
    ap (λ (blocks : List (Bid × List ℕ)). blocks_of find eof (record { bits = last_id blocks })) made
    ∙ reads-from find eof (next + 0) next (b ∷ []) (bids_of-one find (next + 0) (omega arith) (omega arith)) here room
each-reads next (b ∷ (c ∷ bs)) few low high apart find found eof room = many-reads next (b ∷ (c ∷ bs)) (omega arith) few high apart find found eof room

pub planned-reads : (next : ℕ) (bs : List (List ℕ)) (blocks : List (Bid × List ℕ)) (bid : Bid) → blocks ≡ planned next bs → bid.bits ≡ last_id blocks → length bs ≤ 1042441 → 4 ≤ next → next ≤ 2 ^ 63 → next % 4 ≡ 0
    → ReadsAs blocks bid bs
planned-reads next bs blocks bid made root few low high apart = λ find found eof room.
    ap (blocks_of find eof) (ap (λ (n : ℕ). record { bits = n }) (root ∙ ap last_id made))
    ∙ each-reads next bs few low high apart find (subst (λ (ys : List (Bid × List ℕ)). Each (IsFound find) ys) made (each-from_all (IsFound find) blocks found)) eof room

-- ---- the marks

pub plain-append : (xs ys : List (Bid × List ℕ)) → plain (xs ++ ys) ≡ plain xs ++ plain ys
plain-append [] ys = refl
plain-append (x ∷ xs) ys = elim (cases_Bool (is_internal x.0)) [
  | inl mark ↦ rw (mark) (plain-append xs ys)
  | inr none ↦ rw (none) (ap (λ (rest : List (List ℕ)). x.1 ∷ rest) (plain-append xs ys))
]

pub plain-data : (next : ℕ) (bs : List (List ℕ)) → next % 4 ≡ 0 → plain (numbered 0 next bs) ≡ bs
plain-data next [] apart = refl
plain-data next (b ∷ bs) apart =
    let e : ((next + 0) / 2 % 2 ≡ 1 → ⊥) = λ h. omega arith in
    let none : is_internal (record { bits = next + 0 }) ≡ false = ne_eqb ((next + 0) / 2 % 2) 1 e in
    ap (λ (t : Bool). if t then plain (numbered 0 (next + 4) bs) else b ∷ plain (numbered 0 (next + 4) bs)) none
    ∙ ap (λ (rest : List (List ℕ)). b ∷ rest) (plain-data (next + 4) bs (omega arith))

pub plain-marked : (next : ℕ) (bs : List (List ℕ)) → next % 4 ≡ 0 → plain (numbered 2 next bs) ≡ []
plain-marked next [] apart = refl
plain-marked next (b ∷ bs) apart =
    ap (λ (t : Bool). if t then plain (numbered 2 (next + 4) bs) else b ∷ plain (numbered 2 (next + 4) bs)) (marked next apart) ∙ plain-marked (next + 4) bs (omega arith)

plain-xblocks : (next : ℕ) (blocks : List (Bid × List ℕ)) → next % 4 ≡ 0 → plain (xblocks next blocks) ≡ []
plain-xblocks next blocks apart = elim (cases_lt 1 (length blocks)) [
  | inl some ↦ rw (xblocks-some next blocks some) (plain-marked next (map xblock (cut 1021 blocks)) apart)
  | inr none ↦ rw (xblocks-none next blocks none) refl
]

plain-xxblock : (next total : ℕ) (xs : List (Bid × List ℕ)) → next % 4 ≡ 0 → plain (xxblock next total xs) ≡ []
plain-xxblock next total xs apart = elim (cases_lt 1 (length xs)) [
  | inl some ↦ rw (xxblock-some next total xs some) (plain-marked next (listing 2 total (bids_in xs) ∷ []) apart)
  | inr none ↦ rw (xxblock-none next total xs none) refl
]

pub plain-above : (next : ℕ) (blocks : List (Bid × List ℕ)) → next % 4 ≡ 0 → plain (above next blocks) ≡ []
unfolding above
plain-above next blocks apart =
    let xs = xblocks next blocks in
    let total = bytes_in (contents blocks) in
    let top = next + 4 * length xs in
    plain-append xs (xxblock top total xs) ∙ ap (λ (first : List (List ℕ)). first ++ plain (xxblock top total xs)) (plain-xblocks next blocks apart)
    ∙ plain-xxblock top total xs (omega arith)

pub plain-planned : (next : ℕ) (bs : List (List ℕ)) → next % 4 ≡ 0 → plain (planned next bs) ≡ bs
unfolding planned
plain-planned next bs apart =
    let blocks = numbered 0 next bs in
    let over = above (next + 4 * length bs) blocks in
    plain-append blocks over ∙ ap (λ (first : List (List ℕ)). first ++ plain over) (plain-data next bs apart)
    ∙ ap (λ (rest : List (List ℕ)). bs ++ rest) (plain-above (next + 4 * length bs) blocks (omega arith)) ∙ append-nil bs
