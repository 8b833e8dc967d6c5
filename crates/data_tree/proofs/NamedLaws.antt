-- The ids of a tree's data blocks lead to its data.
use Rattle.std.proofs.Common.{◌≡◌, ◌∙◌, ℕ, suc, ◌+◌, inl, inr, ltb, List, [], ◌∷◌, length, map, Option, Some, Result, Ok, Err, refl, sym, ap, subst, if◌then◌else◌}
use Rattle.std.proofs.lemmas.Bool.{cases_Bool}
use Rattle.pst_base.specs.declared.ids.Bid.{Bid}
use Rattle.pst_base.specs.Ids.{key_of}
use Rattle.data_tree.specs.declared.source.TreeStop.{TreeStop}
use Rattle.data_tree.specs.declared.source.TreeStop.TheVariants.{Long}
use Rattle.data_tree.specs.Plan.{AreFound}
use Rattle.data_tree.specs.Tree.{and_then, bids_of, blocks_from, blocks_of, fetched}
use Rattle.data_tree.proofs.KeySteps.{fetched-ok}

pub then-ok : {X Y : Type 0} (r : Result X TreeStop) (f : X → Result Y TreeStop) (y : Y) → and_then r f ≡ Ok y → (x : X) × (r ≡ Ok x) × (f x ≡ Ok y)
then-ok (Ok x) f y e = (x, refl, e)
then-ok (Err fault) f y e = absurd cc

record Named (find : ℕ → Option (List ℕ)) (bids : List Bid) (bs : List (List ℕ)) : Type 0 where
  found : AreFound find (map Some bids) bs
  count : length bids ≡ length bs

named-from : (find : ℕ → Option (List ℕ)) (eof before : ℕ) (bids : List Bid) (bs : List (List ℕ)) → blocks_from find eof before bids ≡ Ok bs → Named find bids bs
named-from find eof before [] bs e =
    let P : List (List ℕ) → Type 0 = λ l. Named find [] l in
    let empty : [] ≡ bs = cc in
    subst P empty (record { found = tt; count = refl })
named-from find eof before (bid ∷ bids) bs e =
    let first = then-ok (fetched find bid) (λ b. if ltb eof (before + length b) then Err Long else and_then (blocks_from find eof (before + length b) bids) (λ more. Ok (b ∷ more))) bs e in
    let b = first.0 in
    let here : find (key_of bid.bits) ≡ Some b = fetched-ok find bid (find (key_of bid.bits)) b first.1 in
    elim (cases_Bool (ltb eof (before + length b))) [
      | inl past ↦ let stops = rw past at first.2 in absurd cc
      | inr within ↦
          let goes = rw within at first.2 in
          let next = then-ok (blocks_from find eof (before + length b) bids) (λ more. Ok (b ∷ more)) bs goes in
          let rest = named-from find eof (before + length b) bids next.0 next.1 in
          let whole : b ∷ next.0 ≡ bs = let last = next.2 in cc in
          let P : List (List ℕ) → Type 0 = λ l. Named find (bid ∷ bids) l in
          subst P whole (record { found = (here, rest.found); count = ap suc rest.count })
    ]

pub bids-name : (find : ℕ → Option (List ℕ)) (eof : ℕ) (bid : Bid) (bids : List Bid) (bs : List (List ℕ)) → bids_of find bid ≡ Ok bids → blocks_of find eof bid ≡ Ok bs
    → AreFound find (map Some bids) bs × (length bids ≡ length bs)
unfolding blocks_of
bids-name find eof bid bids bs ids data_is =
    let all = sym (ap (λ (r : Result (List Bid) TreeStop). and_then r (blocks_from find eof 0)) ids) ∙ data_is in
    let named = named-from find eof 0 bids bs all in
    (named.found, named.count)
