-- One data block of a tree is that block of its data.
use Rattle.std.proofs.Common.{◌≡◌, ℕ, ◌+◌, zero, suc, Bool, true, false, nat_lt, if◌then◌else◌, length, slice_get, List, [], ◌∷◌, Option, Some, Result, Ok, Err, refl, ap, ◌∙◌, subst}
use Rattle.pst_base.specs.declared.ids.Bid.{Bid}
use Rattle.data_tree.specs.declared.source.TreeStop.{TreeStop}
use Rattle.data_tree.specs.declared.source.TreeStop.TheVariants.{Long}
use Rattle.data_tree.specs.Single.{fetched_if, single_among, single_of}
use Rattle.data_tree.specs.Tree.{and_then, bids_of, blocks_from, blocks_of, fetched}

-- as many blocks as ids, each the data of its id
record AreOf (find : ℕ → Option (List ℕ)) (bids : List Bid) (blocks : List (List ℕ)) : Type 0 where
  count : length bids ≡ length blocks
  each : (p : ℕ) → fetched_if find (slice_get bids p) ≡ Ok (slice_get blocks p)

ok-same : {Y : Type 0} (x y : Y) → ◌≡◌ {A = Result Y TreeStop} (Ok x) (Ok y) → x ≡ y
ok-same x y h = cc

with-first : (find : ℕ → Option (List ℕ)) (bid : Bid) (bids : List Bid) (b : List ℕ) (more : List (List ℕ)) → fetched find bid ≡ Ok b → AreOf find bids more → AreOf find (bid ∷ bids) (b ∷ more)
with-first find bid bids b more is are = record { count = ap suc are.count; each = at }
  where
    at : (p : ℕ) → fetched_if find (slice_get (bid ∷ bids) p) ≡ Ok (slice_get (b ∷ more) p)
    at zero = ap (λ r. and_then r (λ x. Ok (Some x))) is
    at (suc p) = are.each p

none-of : (find : ℕ → Option (List ℕ)) → AreOf find [] []
none-of find = record { count = refl; each = λ p. refl }

-- the data of one more id and of those behind it
more-of : (find : ℕ → Option (List ℕ)) (bid : Bid) (bids : List Bid) (b : List ℕ) (blocks : List (List ℕ)) (rest : Result (List (List ℕ)) TreeStop) → fetched find bid ≡ Ok b
    → ((more : List (List ℕ)) → rest ≡ Ok more → AreOf find bids more) → and_then rest (λ more. Ok (b ∷ more)) ≡ Ok blocks → AreOf find (bid ∷ bids) blocks
more-of find bid bids b blocks (Ok more) here next is = subst (AreOf find (bid ∷ bids)) (ok-same (b ∷ more) blocks is) (with-first find bid bids b more here (next more refl))
more-of find bid bids b blocks (Err fault) here next is = absurd (cc)

-- the same where the data may pass the file's end
test-of : (find : ℕ → Option (List ℕ)) (bid : Bid) (bids : List Bid) (b : List ℕ) (blocks : List (List ℕ)) (rest : Result (List (List ℕ)) TreeStop) (long : Bool) → fetched find bid ≡ Ok b
    → ((more : List (List ℕ)) → rest ≡ Ok more → AreOf find bids more) → (if long then Err Long else and_then rest (λ more. Ok (b ∷ more))) ≡ Ok blocks → AreOf find (bid ∷ bids) blocks
test-of find bid bids b blocks rest true here next is = absurd (cc)
test-of find bid bids b blocks rest false here next is = more-of find bid bids b blocks rest here next is

block-of : (find : ℕ → Option (List ℕ)) (eof before : ℕ) (bid : Bid) (bids : List Bid) (blocks : List (List ℕ)) (r : Result (List ℕ) TreeStop) → fetched find bid ≡ r
    → ((b : List ℕ) (more : List (List ℕ)) → blocks_from find eof (before + length b) bids ≡ Ok more → AreOf find bids more)
    → and_then r (λ b. if nat_lt eof (before + length b) then Err Long else and_then (blocks_from find eof (before + length b) bids) (λ more. Ok (b ∷ more))) ≡ Ok blocks → AreOf find (bid ∷ bids) blocks
block-of find eof before bid bids blocks (Ok b) here next is = test-of find bid bids b blocks (blocks_from find eof (before + length b) bids) (nat_lt eof (before + length b)) here (next b) is
block-of find eof before bid bids blocks (Err fault) here next is = absurd (cc)

are-of : (find : ℕ → Option (List ℕ)) (eof before : ℕ) (bids : List Bid) (blocks : List (List ℕ)) → blocks_from find eof before bids ≡ Ok blocks → AreOf find bids blocks
are-of find eof before [] blocks is = subst (AreOf find []) (ok-same [] blocks is) (none-of find)
are-of find eof before (bid ∷ bids) blocks is = block-of find eof before bid bids blocks (fetched find bid) refl (λ b more rest. are-of find eof (before + length b) bids more rest) is

-- where a tree reads as its data, one of its blocks reads as that of the data
pub single-is : (find : ℕ → Option (List ℕ)) (eof : ℕ) (bid : Bid) (position : ℕ) (blocks : List (List ℕ)) → blocks_of find eof bid ≡ Ok blocks → single_of find position bid ≡ Ok (length blocks, slice_get blocks position)
unfolding blocks_of single_of
single-is find eof bid position blocks is = by_bids (bids_of find bid) is
  where
    by_bids : (r : Result (List Bid) TreeStop) → and_then r (blocks_from find eof 0) ≡ Ok blocks → and_then r (single_among find position) ≡ Ok (length blocks, slice_get blocks position)
    by_bids (Ok bids) is =
        let are = are-of find eof 0 bids blocks is in
        ap (λ r. and_then r (λ b. Ok (length bids, b))) (are.each position) ∙ ap (λ n. Ok (n, slice_get blocks position)) are.count
    by_bids (Err fault) is = absurd (cc)
