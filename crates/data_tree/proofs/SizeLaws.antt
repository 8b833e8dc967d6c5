-- How many blocks a plan has, and how large they are.
use Rattle.std.proofs.Common.{ℕ, ◌+◌, ◌*◌, ◌≤◌, inl, inr, List, [], ◌∷◌, length, map, ap, arith, length-append}
use Rattle.std.proofs.lemmas.Bool.{cases_lt}
use Rattle.std.proofs.lemmas.List.{length-map}
use Rattle.pst_base.specs.declared.ids.Bid.{Bid}
use Rattle.data_tree.specs.Plan.{IsContent, AreSmall, above, bids_in, bytes_in, contents, cut, listing, numbered, planned, xblock, xblocks, xxblock}
use Rattle.data_tree.proofs.PieceLaws.{Each, all_from-each, each-append, each-from_all, cut-short}
use Rattle.data_tree.proofs.PlanLaws.{few-xxblock, few-xblocks, length-listing, length-numbered, length-xblocks, xblocks-none, xblocks-some, xxblock-none, xxblock-some}

abbrev pub Short : List ℕ → Type 0
Short b = length b ≤ 8176

abbrev pub Small : Bid × List ℕ → Type 0
Small block = length block.1 ≤ 8176

pub small-numbered : (mark next : ℕ) (bs : List (List ℕ)) → Each Short bs → Each Small (numbered mark next bs)
small-numbered mark next [] all = tt
small-numbered mark next (b ∷ bs) all = (all.0, small-numbered mark (next + 4) bs all.1)

small-listing : (level total : ℕ) (blocks : List (Bid × List ℕ)) → length blocks ≤ 1021 → Short (listing level total (bids_in blocks))
small-listing level total blocks few =
    let count = length-map blocks (λ (block : Bid × List ℕ). block.0) in
    let size = length-listing level total (bids_in blocks) in
    omega arith

small-lists : (parts : List (List (Bid × List ℕ))) → Each (λ (part : List (Bid × List ℕ)). length part ≤ 1021) parts → Each Short (map xblock parts)
small-lists [] all = tt
small-lists (part ∷ parts) all = (small-listing 1 (bytes_in (contents part)) part all.0, small-lists parts all.1)

small-xblocks : (next : ℕ) (blocks : List (Bid × List ℕ)) → Each Small (xblocks next blocks)
small-xblocks next blocks = elim (cases_lt 1 (length blocks)) [
  | inl some ↦ rw (xblocks-some next blocks some) (small-numbered 2 next (map xblock (cut 1021 blocks)) (small-lists (cut 1021 blocks) (cut-short 1021 blocks)))
  | inr none ↦ rw (xblocks-none next blocks none) tt
]

small-xxblock : (next total : ℕ) (xs : List (Bid × List ℕ)) → length xs ≤ 1021 → Each Small (xxblock next total xs)
small-xxblock next total xs few = elim (cases_lt 1 (length xs)) [
  | inl some ↦ rw (xxblock-some next total xs some) (small-numbered 2 next (listing 2 total (bids_in xs) ∷ []) (small-listing 2 total xs few, tt))
  | inr none ↦ rw (xxblock-none next total xs none) tt
]

pub small-above : (next : ℕ) (blocks : List (Bid × List ℕ)) → length blocks ≤ 1042441 → Each Small (above next blocks)
unfolding above
small-above next blocks few =
    let xs = xblocks next blocks in
    let total = bytes_in (contents blocks) in
    each-append Small xs (xxblock (next + 4 * length xs) total xs) (small-xblocks next blocks) (small-xxblock (next + 4 * length xs) total xs (few-xblocks next blocks few))

-- at most one for each two data blocks
pub half-above : (next : ℕ) (blocks : List (Bid × List ℕ)) → 2 * length (above next blocks) ≤ length blocks
unfolding above
half-above next blocks =
    let xs = xblocks next blocks in
    let total = bytes_in (contents blocks) in
    let at = next + 4 * length xs in
    let both = length-append xs (xxblock at total xs) in
    elim (cases_lt 1 (length blocks)) [
      | inl some ↦
          let count = length-xblocks next blocks some in
          elim (cases_lt 1 (length xs)) [
            | inl more ↦ let top = few-xxblock at total xs in omega arith
            | inr one ↦ let top = ap length (xxblock-none at total xs one) in omega arith
          ]
      | inr none ↦
          let count = ap length (xblocks-none next blocks none) in
          let top = ap length (xxblock-none at total xs (omega arith)) in
          omega arith
    ]

pub small-planned : (next : ℕ) (bs : List (List ℕ)) → IsContent bs → AreSmall (planned next bs)
unfolding planned
small-planned next bs content =
    let blocks = numbered 0 next bs in
    let count = length-numbered 0 next bs in
    let few = content.few in
    all_from-each Small (planned next bs)
    (each-append Small blocks (above (next + 4 * length bs) blocks) (small-numbered 0 next bs (each-from_all Short bs content.small)) (small-above (next + 4 * length bs) blocks (omega arith)))

pub most-planned : (next : ℕ) (bs : List (List ℕ)) → 2 * length (planned next bs) ≤ 3 * length bs
unfolding planned
most-planned next bs =
    let blocks = numbered 0 next bs in
    let count = length-numbered 0 next bs in
    let both = length-append blocks (above (next + 4 * length bs) blocks) in
    let half = half-above (next + 4 * length bs) blocks in
    omega arith
