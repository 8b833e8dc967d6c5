-- A data tree reads the same where more blocks are found and the file is longer.
use Rattle.std.proofs.Common.{Bool, true, false, ◌≡◌, ◌∙◌, ℕ, ◌+◌, ◌<◌, ◌≤◌, eqb, ltb, List, [], ◌∷◌, ◌++◌, length, Option, Some, None, Result, Ok, Err, sym, ap, refl, arith, ⊎_elim, if◌then◌else◌}
use Rattle.std.proofs.lemmas.Bool.{cases_lt, lt-ltb, le-ltb}
use Rattle.pst_base.specs.declared.ids.Bid.{Bid}
use Rattle.pst_base.specs.Ids.{key_of}
use Rattle.data_tree.specs.declared.source.TreeStop.{TreeStop}
use Rattle.data_tree.specs.declared.source.TreeStop.TheVariants.{Form, Long}
use Rattle.data_tree.specs.Grown.{FindsAll, Gives}
use Rattle.data_tree.specs.Tree.{and_then, named, fetched, is_internal, is_listing, names_of, leaves, below, all_below, listed, bids_of, blocks_from, blocks_of}

-- ---- readings

pub same_gives : {Y : Type 0} (r : Result Y TreeStop) → Gives r r
same_gives r = λ y e. e

pub and_then_gives : {X Y : Type 0} (r s : Result X TreeStop) (f g : X → Result Y TreeStop) → Gives r s → ((x : X) → Gives (f x) (g x)) → Gives (and_then r f) (and_then s g)
and_then_gives (Ok x) s f g first later = λ y e. ap (λ t. and_then t g) (first x refl) ∙ later x y e
and_then_gives (Err fault) s f g first later = λ y e. absurd (cc)

pub if_gives : {Y : Type 0} (b : Bool) (r s t u : Result Y TreeStop) → Gives r t → Gives s u → Gives (if b then r else s) (if b then t else u)
if_gives true r s t u first second = first
if_gives false r s t u first second = second

pub within_gives : {Y : Type 0} (eof more n : ℕ) (r s : Result Y TreeStop) → eof ≤ more → Gives r s → Gives (if ltb eof n then Err Long else r) (if ltb more n then Err Long else s)
within_gives {Y} eof more n r s longer gives = ⊎_elim
    (λ (past : eof < n). λ y e. absurd (impossible y (sym (ap (λ (b : Bool). if b then Err Long else r) (lt-ltb eof n past)) ∙ e)))
    (λ (within : n ≤ eof). λ y e.
    ap (λ (b : Bool). if b then Err Long else s) (le-ltb more n (omega (arith, within, longer)))
    ∙ gives y (sym (ap (λ (b : Bool). if b then Err Long else r) (le-ltb eof n within)) ∙ e))
    (cases_lt eof n)
  where
    impossible : (y : Y) → ◌≡◌ {A = Result Y TreeStop} (Err Long) (Ok y) → ⊥
    impossible y e = cc

-- ---- data

module _ (find found : ℕ → Option (List ℕ)) (more : FindsAll find found) where
  named_gives : (bid : Bid) (o p : Option (List ℕ)) → ((b : List ℕ) → o ≡ Some b → p ≡ Some b) → Gives (named bid o) (named bid p)
  named_gives bid None p same = λ y e. absurd (cc)
  named_gives bid (Some b) p same = λ y e. ap (named bid) (same b refl) ∙ e

  pub fetched_gives : (bid : Bid) → Gives (fetched find bid) (fetched found bid)
  fetched_gives bid = named_gives bid (find (key_of bid.bits)) (found (key_of bid.bits)) (more (key_of bid.bits))

  below_gives : (parent bid : Bid) → Gives (below find parent bid) (below found parent bid)
  unfolding below
  below_gives parent bid =
      if_gives (is_internal bid) _ _ _ _
      (and_then_gives (fetched find bid) (fetched found bid) _ _ (fetched_gives bid) (λ b. same_gives (if is_listing 1 b then leaves bid b else Err (Form parent))))
      (same_gives (Err (Form parent)))

  all_below_gives : (parent : Bid) (bids : List Bid) → Gives (all_below find parent bids) (all_below found parent bids)
  all_below_gives parent [] = same_gives (Ok [])
  all_below_gives parent (bid ∷ bids) =
      and_then_gives (below find parent bid) (below found parent bid) _ _ (below_gives parent bid)
      (λ here. and_then_gives (all_below find parent bids) (all_below found parent bids) _ _ (all_below_gives parent bids) (λ rest. same_gives (Ok (here ++ rest))))

  listed_gives : (bid : Bid) (b : List ℕ) → Gives (listed find bid b) (listed found bid b)
  unfolding listed
  listed_gives bid b =
      if_gives (is_listing 1 b) _ _ _ _ (same_gives (leaves bid b)) (if_gives (is_listing 2 b) _ _ _ _ (all_below_gives bid (names_of b)) (same_gives (Err (Form bid))))

  pub bids_gives : (bid : Bid) → Gives (bids_of find bid) (bids_of found bid)
  unfolding bids_of
  bids_gives bid =
      if_gives (eqb bid.bits 0) _ _ _ _ (same_gives (Ok []))
      (if_gives (is_internal bid) _ _ _ _ (and_then_gives (fetched find bid) (fetched found bid) _ _ (fetched_gives bid) (listed_gives bid)) (same_gives (Ok (bid ∷ []))))

  blocks_from_gives : (eof longer : ℕ) → eof ≤ longer → (before : ℕ) (bids : List Bid) → Gives (blocks_from find eof before bids) (blocks_from found longer before bids)
  blocks_from_gives eof longer grows before [] = same_gives (Ok [])
  blocks_from_gives eof longer grows before (bid ∷ bids) =
      and_then_gives (fetched find bid) (fetched found bid) _ _ (fetched_gives bid)
      (λ b. within_gives eof longer (before + length b) _ _ grows
      (and_then_gives (blocks_from find eof (before + length b) bids) (blocks_from found longer (before + length b) bids) _ _ (blocks_from_gives eof longer grows (before + length b) bids)
      (λ rest. same_gives (Ok (b ∷ rest)))))

  pub blocks_gives : (eof longer : ℕ) → eof ≤ longer → (bid : Bid) → Gives (blocks_of find eof bid) (blocks_of found longer bid)
  unfolding blocks_of
  blocks_gives eof longer grows bid = and_then_gives (bids_of find bid) (bids_of found bid) _ _ (bids_gives bid) (blocks_from_gives eof longer grows 0)
