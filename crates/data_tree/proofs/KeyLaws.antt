-- The keys that a planned tree reaches, counted.
use Rattle.std.proofs.Common.{true, false, ◌≡◌, ℕ, ◌+◌, ◌*◌, ◌/◌, ◌%◌, ◌^◌, ◌<◌, ◌≤◌, inl, inr, eqb, List, [], ◌∷◌, ◌++◌, length, map, Option, Some, refl, sym, ap, subst, ◌∙◌, arith, append_assoc, append-nil}
use Rattle.std.proofs.lemmas.Bool.{cases_lt, ne_eqb}
use Rattle.std.proofs.lemmas.List.{length-map, map-append}
use Rattle.pst_base.specs.declared.ids.Bid.{Bid}
use Rattle.pst_base.specs.Ids.{key_of}
use Rattle.data_tree.specs.Keys.{count_of, data_keys, keys_of, led_from, named_in, under}
use Rattle.data_tree.specs.Tree.{is_listing, names_of}
use Rattle.data_tree.specs.Plan.{IsFound, above, bids_in, bytes_in, contents, cut, last_id, listing, numbered, xblock, xblocks, xxblock}
use Rattle.data_tree.proofs.PieceLaws.{Each, each-left, each-right, joined, cut-one, cut-short, cut-each, joined-cut}
use Rattle.data_tree.proofs.PlanLaws.{IsData, fit-data, fit-numbered, is_listing-listing, is_listing-other, last-append, length-map_cut, length-numbered, marked, names_of-listing, not_zero, xblock-listing, xblocks-some, xxblock-none, xxblock-some}

pub count-append : (key : ℕ) (xs ys : List ℕ) → count_of key (xs ++ ys) ≡ count_of key xs + count_of key ys
count-append key [] ys = omega arith
count-append key (x ∷ xs) ys = let rest = count-append key xs ys in omega arith

pub keys-append : (xs ys : List Bid) → keys_of (xs ++ ys) ≡ keys_of xs ++ keys_of ys
keys-append xs ys = map-append (λ (bid : Bid). key_of bid.bits) xs ys

pub bids-append : (xs ys : List (Bid × List ℕ)) → bids_in (xs ++ ys) ≡ bids_in xs ++ bids_in ys
bids-append xs ys = map-append (λ (block : Bid × List ℕ). block.0) xs ys

-- the keys of blocks in two parts
pub count-blocks : (key : ℕ) (xs ys : List (Bid × List ℕ)) → count_of key (keys_of (bids_in (xs ++ ys))) ≡ count_of key (keys_of (bids_in xs)) + count_of key (keys_of (bids_in ys))
count-blocks key xs ys =
    ap (λ (bids : List Bid). count_of key (keys_of bids)) (bids-append xs ys) ∙ ap (count_of key) (keys-append (bids_in xs) (bids_in ys)) ∙ count-append key (keys_of (bids_in xs)) (keys_of (bids_in ys))

xblock-names : (blocks : List (Bid × List ℕ)) → length blocks ≤ 1021 → Each IsData blocks → names_of (xblock blocks) ≡ bids_in blocks
xblock-names blocks few plain =
    let count = length-map blocks (λ (block : Bid × List ℕ). block.0) in
    names_of-listing 1 (bytes_in (contents blocks)) (bids_in blocks) (omega arith) (fit-data blocks plain)

marked-keys : (find : ℕ → Option (List ℕ)) (next : ℕ) (b : List ℕ) → next % 4 ≡ 0 → find (key_of (next + 2)) ≡ Some b
    → data_keys find (record { bits = next + 2 }) ≡ key_of (next + 2) ∷ led_from find (Some b)
unfolding data_keys
marked-keys find next b apart found =
    let some : eqb (next + 2) 0 ≡ false = not_zero (next + 2) (omega arith) in
    let mark = marked next apart in
    rw (some, mark, found) refl

led-list : (find : ℕ → Option (List ℕ)) (b : List ℕ) (bids : List Bid) → is_listing 1 b ≡ true → names_of b ≡ bids → led_from find (Some b) ≡ keys_of bids
led-list find b bids listing names = rw (listing, names) refl

led-lists : (find : ℕ → Option (List ℕ)) (b : List ℕ) (bids : List Bid) → is_listing 1 b ≡ false → is_listing 2 b ≡ true → names_of b ≡ bids → led_from find (Some b) ≡ under find bids
led-lists find b bids first second names = rw (first, second, names) refl

-- blocks of level 1, and those that they name
under-count : (find : ℕ → Option (List ℕ)) (key : ℕ) (parts : List (List (Bid × List ℕ))) (next : ℕ)
    → Each (λ (part : List (Bid × List ℕ)). length part ≤ 1021) parts → Each (Each IsData) parts → Each (IsFound find) (numbered 2 next (map xblock parts))
    → count_of key (under find (bids_in (numbered 2 next (map xblock parts)))) ≡ count_of key (keys_of (bids_in (joined parts))) + count_of key (keys_of (bids_in (numbered 2 next (map xblock parts))))
under-count find key [] next short plain found = omega arith
under-count find key (part ∷ parts) next short plain found =
    let xs = numbered 2 (next + 4) (map xblock parts) in
    let first = key_of (next + 2) in
    let named : named_in (find first) ≡ keys_of (bids_in part) = ap named_in found.0 ∙ ap keys_of (xblock-names part short.0 plain.0) in
    let whole = ap (λ (ks : List ℕ). count_of key (ks ++ under find (bids_in xs))) named in
    let both = count-append key (keys_of (bids_in part)) (under find (bids_in xs)) in
    let more = under-count find key parts (next + 4) short.1 plain.1 found.1 in
    let all = count-blocks key part (joined parts) in
    omega arith

-- what the last of the blocks above two data blocks or more reaches
pub above-keys : (find : ℕ → Option (List ℕ)) (key next : ℕ) (before blocks : List (Bid × List ℕ)) → next % 4 ≡ 0 → next + 4 * length blocks + 8192 ≤ 2 ^ 64 → 1 < length blocks → length blocks ≤ 1042441
    → Each IsData blocks → Each (IsFound find) (above next blocks)
    → count_of key (data_keys find (record { bits = last_id (before ++ above next blocks) })) ≡ count_of key (keys_of (bids_in blocks)) + count_of key (keys_of (bids_in (above next blocks)))
unfolding above
above-keys find key next before blocks apart room some few plain found =
    let xs = numbered 2 next (map xblock (cut 1021 blocks)) in
    let is_xs : xblocks next blocks ≡ xs = xblocks-some next blocks some in
    let total = bytes_in (contents blocks) in
    let top = next + 4 * length xs in
    let count : length xs ≡ (length blocks + 1020) / 1021 = length-numbered 2 next (map xblock (cut 1021 blocks)) ∙ length-map_cut blocks in
    let made : xblocks next blocks ++ xxblock (next + 4 * length (xblocks next blocks)) total (xblocks next blocks) ≡ xs ++ xxblock top total xs =
    ap (λ (ys : List (Bid × List ℕ)). ys ++ xxblock (next + 4 * length ys) total ys) is_xs in
    let here : Each (IsFound find) (xs ++ xxblock top total xs) = subst (λ (ys : List (Bid × List ℕ)). Each (IsFound find) ys) made found in
    let P : List (Bid × List ℕ) → Type 0 = λ ys. count_of key (data_keys find (record { bits = last_id (before ++ ys) })) ≡ count_of key (keys_of (bids_in blocks)) + count_of key (keys_of (bids_in ys)) in
    subst P (sym made) (elim (cases_lt 1 (length xs)) [
      | inl more ↦
          let names = bids_in xs in
          let block : Bid × List ℕ = (record { bits = top + 2 }, listing 2 total names) in
          let is_top : xxblock top total xs ≡ block ∷ [] = xxblock-some top total xs more in
          let all : Each (IsFound find) (xs ++ block ∷ []) = subst (λ (ys : List (Bid × List ℕ)). Each (IsFound find) (xs ++ ys)) is_top here in
          let last : last_id (before ++ (xs ++ block ∷ [])) ≡ top + 2 = ap last_id (sym (append_assoc before xs (block ∷ []))) ∙ last-append (before ++ xs) block [] in
          let width : length names ≡ length xs = length-map xs (λ (block : Bid × List ℕ). block.0) in
          let short : length names ≤ 1021 = omega arith in
          let fit = fit-numbered 2 next (map xblock (cut 1021 blocks)) (let wide = length-map_cut blocks in omega arith) in
          let root : data_keys find (record { bits = top + 2 }) ≡ key_of (top + 2) ∷ under find names =
          marked-keys find top (listing 2 total names) (omega arith) (each-right (IsFound find) xs (block ∷ []) all).0
          ∙ ap (λ (ks : List ℕ). key_of (top + 2) ∷ ks) (led-lists find (listing 2 total names) names (is_listing-other total names) (is_listing-listing 2 total names short) (names_of-listing 2 total names short fit)) in
          let keys = ap (λ (n : ℕ). count_of key (data_keys find (record { bits = n }))) last ∙ ap (count_of key) root in
          let inner = under-count find key (cut 1021 blocks) next (cut-short 1021 blocks) (cut-each IsData 1021 blocks plain) (each-left (IsFound find) xs (block ∷ []) all) in
          let whole = ap (λ (ys : List (Bid × List ℕ)). count_of key (keys_of (bids_in ys))) (joined-cut 1021 blocks (omega arith)) in
          let tops = count-blocks key xs (block ∷ []) in
          subst (λ (ys : List (Bid × List ℕ)). P (xs ++ ys)) (sym is_top) (omega (arith, keys, inner, whole, tops))
      | inr one ↦
          let block : Bid × List ℕ = (record { bits = next + 2 }, xblock blocks) in
          let short : length blocks ≤ 1021 = omega arith in
          let is_cut : cut 1021 blocks ≡ blocks ∷ [] = cut-one 1021 blocks (omega arith) short in
          let is_one : xs ++ xxblock top total xs ≡ block ∷ [] =
          ap (λ (ys : List (Bid × List ℕ)). xs ++ ys) (xxblock-none top total xs one) ∙ append-nil xs ∙ ap (λ (parts : List (List (Bid × List ℕ))). numbered 2 next (map xblock parts)) is_cut in
          let all : Each (IsFound find) (block ∷ []) = subst (λ (ys : List (Bid × List ℕ)). Each (IsFound find) ys) is_one here in
          let root : data_keys find (record { bits = next + 2 }) ≡ key_of (next + 2) ∷ keys_of (bids_in blocks) =
          marked-keys find next (xblock blocks) apart all.0 ∙ ap (λ (ks : List ℕ). key_of (next + 2) ∷ ks) (led-list find (xblock blocks) (bids_in blocks) (xblock-listing blocks short) (xblock-names blocks short plain)) in
          let keys = ap (λ (n : ℕ). count_of key (data_keys find (record { bits = n }))) (last-append before block []) ∙ ap (count_of key) root in
          subst P (sym is_one) (omega (arith, keys))
    ])

-- a single data block
pub data-keys : (find : ℕ → Option (List ℕ)) (bid : Bid) → 2 ≤ bid.bits → bid.bits / 2 % 2 ≡ 0 → data_keys find bid ≡ key_of bid.bits ∷ []
unfolding data_keys
data-keys find bid low plain =
    let a : (bid.bits ≡ 0 → ⊥) = λ h. omega arith in
    let b : (bid.bits / 2 % 2 ≡ 1 → ⊥) = λ h. omega arith in
    rw (ne_eqb bid.bits 0 a, ne_eqb (bid.bits / 2 % 2) 1 b) refl

pub data-keys-none : (find : ℕ → Option (List ℕ)) → data_keys find (record { bits = 0 }) ≡ []
unfolding data_keys
data-keys-none find = refl
