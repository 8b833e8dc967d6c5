-- The readings of lists of ids, at one id more.
use Rattle.std.proofs.Common.{Bool, true, ◌≡◌, ℕ, ◌+◌, ◌-◌, ◌<◌, ◌≤◌, ltb, if◌then◌else◌, List, [], ◌∷◌, ◌++◌, length, drop, get_or, Option, Some, None, Result, Ok, Err, refl, ap, ◌∙◌, arith}
use Rattle.std.proofs.lemmas.Bool.{le-ltb}
use Rattle.std.proofs.lemmas.List.Sums.{sum_by-append}
use Rattle.pst_base.specs.declared.ids.Bid.{Bid}
use Rattle.data_tree.specs.declared.source.TreeStop.{TreeStop}
use Rattle.data_tree.specs.declared.source.TreeStop.TheVariants.{Long}
use Rattle.pst_base.specs.Ids.{key_of}
use Rattle.data_tree.specs.Measure.{bytes_in}
use Rattle.data_tree.specs.Source.{length_if, size_in}
use Rattle.data_tree.specs.Tree.{and_then, named, fetched, is_internal, is_listing, leaves, below, all_below, listed, blocks_from}
use Rattle.data_tree.proofs.ListingLaws.{drop-here}
use Rattle.data_tree.proofs.Steps.{before}

abbrev Finder : Type 0
Finder = ℕ → Option (List ℕ)

pub below-leaves : (find : Finder) (parent bid : Bid) (b : List ℕ) → is_internal bid ≡ true → fetched find bid ≡ Ok b → is_listing 1 b ≡ true → below find parent bid ≡ leaves bid b
unfolding below
below-leaves find parent bid b marked e listing = rw (marked, e, listing) refl

pub listed-leaves : (find : Finder) (bid : Bid) (b : List ℕ) → is_listing 1 b ≡ true → listed find bid b ≡ leaves bid b
unfolding listed
listed-leaves find bid b listing = rw listing refl

pub below-stop : (find : Finder) (parent : Bid) (bids : List Bid) (i : ℕ) (d : Bid) (fault : TreeStop) → i < length bids → below find parent (get_or bids i d) ≡ Err fault
    → all_below find parent (drop i bids) ≡ Err fault
below-stop find parent bids i d fault h e =
    ap (all_below find parent) (drop-here bids i d h)
    ∙ ap (λ (r : Result (List Bid) TreeStop). and_then r (λ here. and_then (all_below find parent (drop (i + 1) bids)) (λ more. Ok (here ++ more)))) e

-- the data after bids i, of which so many bytes may still come
abbrev pub blocks_left : Finder → ℕ → ℕ → List Bid → Result (List (List ℕ)) TreeStop
blocks_left find eof left bids = blocks_from find eof (eof - left) bids

-- what comes of the first block
first_block : Finder → ℕ → ℕ → List Bid → Result (List ℕ) TreeStop → Result (List (List ℕ)) TreeStop
first_block find eof total rest r =
    and_then r (λ b. if ltb eof (total + length b) then Err Long else and_then (blocks_from find eof (total + length b) rest) (λ more. Ok (b ∷ more)))

first-is : (find : Finder) (eof total : ℕ) (bids : List Bid) (i : ℕ) (d : Bid) → i < length bids
    → blocks_from find eof total (drop i bids) ≡ first_block find eof total (drop (i + 1) bids) (fetched find (get_or bids i d))
unfolding first_block
first-is find eof total bids i d h = ap (blocks_from find eof total) (drop-here bids i d h)

pub blocks-next : (find : Finder) (eof left : ℕ) (bids : List Bid) (i : ℕ) (d : Bid) (b : List ℕ) → i < length bids → left ≤ eof → length b ≤ left
    → fetched find (get_or bids i d) ≡ Ok b
    → blocks_left find eof left (drop i bids) ≡ before (b ∷ []) (blocks_left find eof (left - length b) (drop (i + 1) bids))
unfolding first_block
blocks-next find eof left bids i d b h room fit e =
    let within : eof - left + length b ≤ eof = omega arith in
    let same : eof - left + length b ≡ eof - (left - length b) = omega arith in
    first-is find eof (eof - left) bids i d h
    ∙ ap (first_block find eof (eof - left) (drop (i + 1) bids)) e
    ∙ ap (λ (t : Bool). if t then Err Long else and_then (blocks_from find eof (eof - left + length b) (drop (i + 1) bids)) (λ more. Ok (b ∷ more))) (le-ltb eof (eof - left + length b) within)
    ∙ ap (λ (n : ℕ). and_then (blocks_from find eof n (drop (i + 1) bids)) (λ more. Ok (b ∷ more))) same

-- ---- sizes alone

length_if-some : (o : Option (List ℕ)) (n : ℕ) → length_if o ≡ Some n → (b : List ℕ) × (o ≡ Some b) × (length b ≡ n)
length_if-some None n e = absurd cc
length_if-some (Some b) n e = (b, refl, cc)

-- the block that has a size, and the fault of one that has none
pub size-some : (find : Finder) (bid : Bid) (n : ℕ) → size_in find bid ≡ Some n → (b : List ℕ) × (fetched find bid ≡ Ok b) × (length b ≡ n)
size-some find bid n e =
    let block = length_if-some (find (key_of bid.bits)) n e in
    (block.0, ap (named bid) block.1, block.2)

-- one block more, of which the size is known
pub sizes-next : (find : Finder) (eof left : ℕ) (bids : List Bid) (i : ℕ) (d : Bid) (n : ℕ) → i < length bids → left ≤ eof → n ≤ left
    → size_in find (get_or bids i d) ≡ Some n
    → (here : List (List ℕ)) × (bytes_in here ≡ n) × (blocks_left find eof left (drop i bids) ≡ before here (blocks_left find eof (left - n) (drop (i + 1) bids)))
sizes-next find eof left bids i d n h room fit e =
    let block = size-some find (get_or bids i d) n e in
    let len = block.2 in
    let fits : length block.0 ≤ left = omega (arith, len, fit) in
    let all : bytes_in (block.0 ∷ []) ≡ n = omega (arith, len) in (
      block.0 ∷ [],
      all,
      blocks-next find eof left bids i d block.0 h room fits block.1
          ∙ ap (λ (k : ℕ). before (block.0 ∷ []) (blocks_left find eof (left - k) (drop (i + 1) bids))) len,
    )

pub bytes-sum : (xs ys : List (List ℕ)) → bytes_in (xs ++ ys) ≡ bytes_in xs + bytes_in ys
bytes-sum xs ys = sum_by-append length xs ys
