-- The keys that a data tree reaches, one id more.
use Rattle.std.proofs.Common.{Bool, true, false, ◌≡◌, ℕ, ◌+◌, ◌<◌, inl, inr, if◌then◌else◌, List, [], ◌∷◌, ◌++◌, length, drop, get_or, Option, Some, None, Result, Ok, Err, refl, ap, ◌∙◌}
use Rattle.std.proofs.lemmas.Bool.{ne_eqb, cases_Bool}
use Rattle.pst_base.specs.declared.ids.Bid.{Bid}
use Rattle.pst_base.specs.Ids.{key_of}
use Rattle.data_tree.specs.declared.source.TreeStop.{TreeStop}
use Rattle.data_tree.specs.declared.source.TreeStop.TheVariants.{Form}
use Rattle.data_tree.specs.Keys.{below_keys, data_keys, data_keys_read, keys_of, leaf_keys, led_from, led_keys, marked_keys, named_in, under, under_keys}
use Rattle.data_tree.specs.Tree.{all_below, and_then, are_data, below, bids_of, is_internal, is_listing, leaves, listed, named, names_of}
use Rattle.data_tree.proofs.ListingLaws.{drop-here}
use Rattle.data_tree.proofs.Steps.{before}

abbrev Finder : Type 0
Finder = ℕ → Option (List ℕ)

-- ---- what a reading says of its blocks

leaves-ok : (bid : Bid) (b : List ℕ) (here : List Bid) → leaves bid b ≡ Ok here → names_of b ≡ here
unfolding leaves
leaves-ok bid b here e = elim (cases_Bool (are_data (names_of b))) [
  | inl is_so ↦ let same = rw is_so at e in cc
  | inr isnt ↦ let same = rw isnt at e in absurd cc
]

pub fetched-ok : (find : Finder) (bid : Bid) (r : Option (List ℕ)) (b : List ℕ) → named bid r ≡ Ok b → r ≡ Some b
fetched-ok find bid None b e = absurd cc
fetched-ok find bid (Some x) b e = let same : x ≡ b = cc in ap Some same

names-at : (parent bid : Bid) (o : Option (List ℕ)) (here : List Bid) → and_then (named bid o) (λ b. if is_listing 1 b then leaves bid b else Err (Form parent)) ≡ Ok here → named_in o ≡ keys_of here
names-at parent bid None here e = absurd cc
names-at parent bid (Some b) here e = elim (cases_Bool (is_listing 1 b)) [
  | inl is_so ↦ let same = rw is_so at e in ap keys_of (leaves-ok bid b here same)
  | inr isnt ↦ let same = rw isnt at e in absurd cc
]

below-names : (find : Finder) (parent bid : Bid) (here : List Bid) → below find parent bid ≡ Ok here → named_in (find (key_of bid.bits)) ≡ keys_of here
unfolding below
below-names find parent bid here e = elim (cases_Bool (is_internal bid)) [
  | inl is_so ↦ let same = rw is_so at e in names-at parent bid (find (key_of bid.bits)) here same
  | inr isnt ↦ let same = rw isnt at e in absurd cc
]

-- ---- the blocks that one of level 2 names

-- one of them, and then the others
under-parts : (find : Finder) (parent bid : Bid) (bids : List Bid) (r : Result (List Bid) TreeStop) (s : Result (List Bid) TreeStop) → ((here : List Bid) → r ≡ Ok here → named_in (find (key_of bid.bits)) ≡ keys_of here)
    → and_then (and_then r (λ here. and_then s (λ more. Ok (here ++ more)))) (λ all. Ok (key_of bid.bits ∷ (named_in (find (key_of bid.bits)) ++ under find bids)))
    ≡ and_then (and_then r (λ here. Ok (key_of bid.bits ∷ keys_of here))) (λ here. and_then (and_then s (λ all. Ok (under find bids))) (λ more. Ok (here ++ more)))
under-parts find parent bid bids (Err fault) s names = refl
under-parts find parent bid bids (Ok here) (Err fault) names = refl
under-parts find parent bid bids (Ok here) (Ok more) names = ap (λ (ks : List ℕ). Ok (key_of bid.bits ∷ (ks ++ under find bids))) (names here refl)

under-first : (find : Finder) (parent bid : Bid) (bids : List Bid)
    → under_keys find parent (bid ∷ bids) ≡ and_then (below_keys find parent bid) (λ here. and_then (under_keys find parent bids) (λ more. Ok (here ++ more)))
under-first find parent bid bids = under-parts find parent bid bids (below find parent bid) (all_below find parent bids) (below-names find parent bid)

after-first : Finder → Bid → List Bid → Result (List ℕ) TreeStop → Result (List ℕ) TreeStop
after-first find parent bids r = and_then r (λ here. and_then (under_keys find parent bids) (λ more. Ok (here ++ more)))

pub under-next : (find : Finder) (parent : Bid) (bids : List Bid) (here : List ℕ) (i : ℕ) (d : Bid) → i < length bids → below_keys find parent (get_or bids i d) ≡ Ok here
    → under_keys find parent (drop i bids) ≡ before here (under_keys find parent (drop (i + 1) bids))
unfolding after-first
under-next find parent bids here i d h e =
    ap (under_keys find parent) (drop-here bids i d h) ∙ under-first find parent (get_or bids i d) (drop (i + 1) bids) ∙ ap (after-first find parent (drop (i + 1) bids)) e

pub under-stop : (find : Finder) (parent : Bid) (bids : List Bid) (i : ℕ) (d : Bid) (fault : TreeStop) → i < length bids → below_keys find parent (get_or bids i d) ≡ Err fault
    → under_keys find parent (drop i bids) ≡ Err fault
unfolding after-first
under-stop find parent bids i d fault h e =
    ap (under_keys find parent) (drop-here bids i d h) ∙ under-first find parent (get_or bids i d) (drop (i + 1) bids) ∙ ap (after-first find parent (drop (i + 1) bids)) e

-- ---- a block of level 1 or 2

leaves-keys : (find : Finder) (b : List ℕ) (r : Result (List Bid) TreeStop) → is_listing 1 b ≡ true → ((here : List Bid) → r ≡ Ok here → names_of b ≡ here)
    → and_then r (λ here. Ok (led_from find (Some b))) ≡ and_then r (λ here. Ok (keys_of here))
leaves-keys find b (Err fault) listing names = refl
leaves-keys find b (Ok here) listing names = rw (listing, names here refl) refl

pub led-leaves : (find : Finder) (bid : Bid) (b : List ℕ) → is_listing 1 b ≡ true → led_keys find bid b ≡ leaf_keys bid b
unfolding led_keys listed
led-leaves find bid b listing =
    ap (λ (t : Bool). and_then (if t then leaves bid b else (if is_listing 2 b then all_below find bid (names_of b) else Err (Form bid))) (λ here. Ok (led_from find (Some b)))) listing
    ∙ leaves-keys find b (leaves bid b) listing (leaves-ok bid b)

pub led-under : (find : Finder) (bid : Bid) (b : List ℕ) → is_listing 1 b ≡ false → is_listing 2 b ≡ true → led_keys find bid b ≡ under_keys find bid (names_of b)
unfolding led_keys listed
led-under find bid b first second = rw (first, second) refl

pub led-form : (find : Finder) (bid : Bid) (b : List ℕ) → is_listing 1 b ≡ false → is_listing 2 b ≡ false → led_keys find bid b ≡ Err (Form bid)
unfolding led_keys listed
led-form find bid b first second = rw (first, second) refl

-- ---- the whole tree

pub keys-none : (find : Finder) (bid : Bid) → bid.bits ≡ 0 → data_keys_read find bid ≡ Ok []
unfolding data_keys bids_of
keys-none find bid none = rw none refl

pub keys-plain : (find : Finder) (bid : Bid) → (bid.bits ≡ 0 → ⊥) → is_internal bid ≡ false → data_keys_read find bid ≡ Ok (key_of bid.bits ∷ [])
unfolding data_keys bids_of
keys-plain find bid some plain = rw (ne_eqb bid.bits 0 some, plain) refl

marked-parts : (find : Finder) (bid : Bid) (o : Option (List ℕ))
    → and_then (and_then (named bid o) (listed find bid)) (λ bids. Ok (key_of bid.bits ∷ led_from find o)) ≡ and_then (named bid o) (λ b. and_then (led_keys find bid b) (λ more. Ok (key_of bid.bits ∷ more)))
unfolding led_keys
marked-parts find bid None = refl
marked-parts find bid (Some b) = both (listed find bid b)
  where
    both : (r : Result (List Bid) TreeStop) → and_then r (λ bids. Ok (key_of bid.bits ∷ led_from find (Some b))) ≡ and_then (and_then r (λ here. Ok (led_from find (Some b)))) (λ more. Ok (key_of bid.bits ∷ more))
    both (Ok here) = refl
    both (Err fault) = refl

pub keys-marked : (find : Finder) (bid : Bid) → (bid.bits ≡ 0 → ⊥) → is_internal bid ≡ true → data_keys_read find bid ≡ marked_keys find bid
unfolding data_keys bids_of
keys-marked find bid some mark = rw (ne_eqb bid.bits 0 some, mark) (marked-parts find bid (find (key_of bid.bits)))
