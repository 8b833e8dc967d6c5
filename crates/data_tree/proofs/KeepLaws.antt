-- A tree of which some data blocks are kept reads as its data.
use Rattle.std.proofs.Common.{◌≡◌, ℕ, suc, ◌+◌, ◌*◌, ◌/◌, ◌%◌, ◌^◌, ◌≤◌, inl, List, [], ◌∷◌, ◌++◌, length, Option, Some, None, Ok, refl, sym, ap, subst, ◌∙◌, arith, length-append, append-nil}
use Rattle.std.proofs.lemmas.Bool.{ne_eqb}
use Rattle.pst_base.specs.declared.ids.Bid.{Bid}
use Rattle.data_tree.specs.Keys.{count_of, data_keys, keys_of}
use Rattle.data_tree.specs.Tree.{bids_of, blocks_of}
use Rattle.data_tree.specs.Plan.{AreSmall, IsContent, IsFound, MayKeep, AreFound, NamesKept, Reaches, ReadsKept, Rise, above, above_kept, bids_in, bytes_in, contents, fresh, kept_bids, last_id, numbered, placed, plain, planned, root_kept, unkept}
use Rattle.data_tree.proofs.PieceLaws.{Each, all_from-each, each-append, each-from_all, each-left, each-right}
use Rattle.data_tree.proofs.PlanLaws.{IsData, above-none, above-root, blocks-found, length-numbered, plain-above, plain-append, plain-data, rise-above, rise-append, rise-numbered}
use Rattle.data_tree.proofs.KeyLaws.{above-keys, count-append, count-blocks, data-keys, data-keys-none}
use Rattle.data_tree.proofs.SizeLaws.{Short, Small, half-above, small-above, small-numbered}

pub contents-placed : (next : ℕ) (keep : List (Option Bid)) (bs : List (List ℕ)) → contents (placed next keep bs) ≡ bs
contents-placed next keep [] = refl
contents-placed next [] (b ∷ bs) = ap (λ (l : List (List ℕ)). b ∷ l) (contents-placed (next + 4) [] bs)
contents-placed next (Some bid ∷ keep) (b ∷ bs) = ap (λ (l : List (List ℕ)). b ∷ l) (contents-placed next keep bs)
contents-placed next (None ∷ keep) (b ∷ bs) = ap (λ (l : List (List ℕ)). b ∷ l) (contents-placed (next + 4) keep bs)

pub length-placed : (next : ℕ) (keep : List (Option Bid)) (bs : List (List ℕ)) → length (placed next keep bs) ≡ length bs
length-placed next keep [] = refl
length-placed next [] (b ∷ bs) = ap suc (length-placed (next + 4) [] bs)
length-placed next (Some bid ∷ keep) (b ∷ bs) = ap suc (length-placed next keep bs)
length-placed next (None ∷ keep) (b ∷ bs) = ap suc (length-placed (next + 4) keep bs)

pub few-unkept : (keep : List (Option Bid)) (bs : List (List ℕ)) → length (unkept keep bs) ≤ length bs
few-unkept keep [] = omega arith
few-unkept [] (b ∷ bs) = omega arith
few-unkept (Some bid ∷ keep) (b ∷ bs) = let h = few-unkept keep bs in omega arith
few-unkept (None ∷ keep) (b ∷ bs) = let h = few-unkept keep bs in omega arith

each-unkept : (P : List ℕ → Type 0) (keep : List (Option Bid)) (bs : List (List ℕ)) → Each P bs → Each P (unkept keep bs)
each-unkept P keep [] all = tt
each-unkept P [] (b ∷ bs) all = all
each-unkept P (Some bid ∷ keep) (b ∷ bs) all = each-unkept P keep bs all.1
each-unkept P (None ∷ keep) (b ∷ bs) all = (all.0, each-unkept P keep bs all.1)

pub unkept-none : (bs : List (List ℕ)) → unkept [] bs ≡ bs
unkept-none [] = refl
unkept-none (b ∷ bs) = refl

data-placed : (next limit : ℕ) (keep : List (Option Bid)) (bs : List (List ℕ)) → next % 4 ≡ 0 → next + 4 * length bs ≤ 2 ^ 64 → limit ≤ 2 ^ 64 → MayKeep limit keep → Each IsData (placed next keep bs)
data-placed next limit keep [] apart room top may = tt
data-placed next limit [] (b ∷ bs) apart room top may = ((omega arith, omega arith), data-placed (next + 4) limit [] bs (omega arith) (omega arith) top tt)
data-placed next limit (Some bid ∷ keep) (b ∷ bs) apart room top may = let h = may.2 in ((may.0, omega arith), data-placed next limit keep bs apart (omega arith) top may.3)
data-placed next limit (None ∷ keep) (b ∷ bs) apart room top may = ((omega arith, omega arith), data-placed (next + 4) limit keep bs (omega arith) (omega arith) top may)

-- the first of some new blocks
pub new-block : (next : ℕ) (b : List ℕ) → ◌≡◌ {A = Bid × List ℕ} (record { bits = next + 0 }, b) (record { bits = next }, b)
new-block next b = let e : next + 0 ≡ next = omega arith in ap (λ (n : ℕ). (record { bits = n }, b)) e

pub placed-none : (next : ℕ) (bs : List (List ℕ)) → placed next [] bs ≡ numbered 0 next bs
placed-none next [] = refl
placed-none next (b ∷ bs) =
    ap (λ (rest : List (Bid × List ℕ)). (record { bits = next }, b) ∷ rest) (placed-none (next + 4) bs)
    ∙ ap (λ (first : Bid × List ℕ). first ∷ numbered 0 (next + 4) bs) (sym (new-block next b))

found-new : (find : ℕ → Option (List ℕ)) (next : ℕ) (b : List ℕ) → IsFound find (record { bits = next + 0 }, b) → IsFound find (record { bits = next }, b)
found-new find next b found = subst (λ (block : Bid × List ℕ). IsFound find block) (new-block next b) found

nothing-kept : (find : ℕ → Option (List ℕ)) (bs : List (List ℕ)) → AreFound find [] bs
nothing-kept find [] = tt
nothing-kept find (b ∷ bs) = tt

found-placed : (find : ℕ → Option (List ℕ)) (next : ℕ) (keep : List (Option Bid)) (bs : List (List ℕ)) → Each (IsFound find) (fresh next keep bs) → AreFound find keep bs → Each (IsFound find) (placed next keep bs)
found-placed find next keep [] new old = tt
found-placed find next [] (b ∷ bs) new old =
    (found-new find next b new.0, found-placed find (next + 4) [] bs (subst (λ (l : List (List ℕ)). Each (IsFound find) (numbered 0 (next + 4) l)) (sym (unkept-none bs)) new.1) (nothing-kept find bs))
found-placed find next (Some bid ∷ keep) (b ∷ bs) new old = (old.0, found-placed find next keep bs new old.1)
found-placed find next (None ∷ keep) (b ∷ bs) new old = (found-new find next b new.0, found-placed find (next + 4) keep bs new.1 old)

-- the kept and the new ones are all
count-placed : (key next : ℕ) (keep : List (Option Bid)) (bs : List (List ℕ))
    → count_of key (keys_of (bids_in (placed next keep bs))) ≡ count_of key (keys_of (kept_bids keep bs)) + count_of key (keys_of (bids_in (fresh next keep bs)))
count-placed key next keep [] = omega arith
count-placed key next [] (b ∷ bs) = let e = ap (λ (l : List (Bid × List ℕ)). count_of key (keys_of (bids_in l))) (placed-none next (b ∷ bs)) in omega (arith, e)
count-placed key next (Some bid ∷ keep) (b ∷ bs) = let h = count-placed key next keep bs in omega (arith, h)
count-placed key next (None ∷ keep) (b ∷ bs) =
    let h = count-placed key (next + 4) keep bs in
    let e = ap (λ (block : Bid × List ℕ). count_of key (keys_of (bids_in (block ∷ [])))) (new-block next b) in
    omega (arith, h, e)

reads-blocks : (find : ℕ → Option (List ℕ)) (eof root : ℕ) (blocks : List (Bid × List ℕ)) (bs : List (List ℕ)) → contents blocks ≡ bs → bids_of find (record { bits = root }) ≡ Ok (bids_in blocks)
    → Each (IsFound find) blocks → bytes_in bs ≤ eof → blocks_of find eof (record { bits = root }) ≡ Ok bs
unfolding blocks_of
reads-blocks find eof root blocks bs are ids found room =
    let fit : 0 + bytes_in (contents blocks) ≤ eof = let e = ap bytes_in are in omega arith in
    rw (ids, blocks-found find eof 0 blocks found fit) (ap Ok are)

bids_of-data : (find : ℕ → Option (List ℕ)) (bid : Bid) → 2 ≤ bid.bits → bid.bits / 2 % 2 ≡ 0 → bids_of find bid ≡ Ok (bid ∷ [])
unfolding bids_of
bids_of-data find bid low plain =
    let a : (bid.bits ≡ 0 → ⊥) = λ h. omega arith in
    let b : (bid.bits / 2 % 2 ≡ 1 → ⊥) = λ h. omega arith in
    rw (ne_eqb bid.bits 0 a, ne_eqb (bid.bits / 2 % 2) 1 b) refl

bids_of-nothing : (find : ℕ → Option (List ℕ)) → bids_of find (record { bits = 0 }) ≡ Ok []
unfolding bids_of
bids_of-nothing find = refl

-- what stands under the root of some placed blocks: their ids in order, and the keys of all
record Rooted (find : ℕ → Option (List ℕ)) (root : ℕ) (blocks over : List (Bid × List ℕ)) : Type 0 where
  ids : bids_of find (record { bits = root }) ≡ Ok (bids_in blocks)
  keys : (key : ℕ) → count_of key (data_keys find (record { bits = root })) ≡ count_of key (keys_of (bids_in blocks)) + count_of key (keys_of (bids_in over))

one-rooted : (find : ℕ → Option (List ℕ)) (bid : Bid) (b : List ℕ) → 2 ≤ bid.bits → bid.bits / 2 % 2 ≡ 0 → Rooted find bid.bits ((bid, b) ∷ []) []
one-rooted find bid b low plain = record {
  ids = bids_of-data find bid low plain;
  keys = λ key. let e = ap (count_of key) (data-keys find bid low plain) in omega (arith, e);
}

-- a single block is its own root
one-kept : (find : ℕ → Option (List ℕ)) (next limit : ℕ) (keep : List (Option Bid)) (b : List ℕ) → next % 4 ≡ 0 → 4 ≤ next → MayKeep limit keep
    → Rooted find (last_id (placed next keep (b ∷ []))) (placed next keep (b ∷ [])) []
one-kept find next limit [] b apart low may = one-rooted find (record { bits = next }) b (omega arith) (omega arith)
one-kept find next limit (Some bid ∷ keep) b apart low may = one-rooted find bid b may.1 may.0
one-kept find next limit (None ∷ keep) b apart low may = one-rooted find (record { bits = next }) b (omega arith) (omega arith)

rooted : (find : ℕ → Option (List ℕ)) (next at : ℕ) (keep : List (Option Bid)) (bs : List (List ℕ)) → next % 4 ≡ 0 → 4 ≤ next → at % 4 ≡ 0 → at + 4 * length bs + 8192 ≤ 2 ^ 64 → length bs ≤ 1042441 → MayKeep next keep
    → Each IsData (placed next keep bs) → Each (IsFound find) (above at (placed next keep bs))
    → Rooted find (last_id (placed next keep bs ++ above at (placed next keep bs))) (placed next keep bs) (above at (placed next keep bs))
rooted find next at keep [] apart low at_apart room few may plain found =
    subst (λ (l : List (Bid × List ℕ)). Rooted find (last_id l) [] l) (sym (above-none at [] (omega arith)))
    (record { ids = bids_of-nothing find; keys = λ key. let e = ap (count_of key) (data-keys-none find) in omega (arith, e) })
rooted find next at keep (b ∷ []) apart low at_apart room few may plain found =
    let all : List (Bid × List ℕ) = placed next keep (b ∷ []) in
    let count = length-placed next keep (b ∷ []) in
    let alone : Rooted find (last_id (all ++ [])) all [] =
    subst (λ (l : List (Bid × List ℕ)). Rooted find (last_id l) all []) (sym (append-nil all)) (one-kept find next next keep b apart low may) in
    subst (λ (l : List (Bid × List ℕ)). Rooted find (last_id (all ++ l)) all l) (sym (above-none at all (omega arith))) alone
rooted find next at keep (b ∷ (c ∷ bs)) apart low at_apart room few may plain found =
    let all : List (Bid × List ℕ) = placed next keep (b ∷ (c ∷ bs)) in
    let count = length-placed next keep (b ∷ (c ∷ bs)) in
    record {
      ids = above-root find at all all at_apart (omega arith) (omega arith) (omega arith) plain found;
      keys = λ key. above-keys find key at all all at_apart (omega arith) (omega arith) (omega arith) plain found;
    }

-- the new blocks of some data
pub record KeptPlan (next : ℕ) (keep : List (Option Bid)) (bs : List (List ℕ)) (blocks : List (Bid × List ℕ)) (bid : Bid) : Type 0 where
  pub few : length bs ≤ 1042441
  pub low : 4 ≤ next
  pub high : next ≤ 2 ^ 63
  pub apart : next % 4 ≡ 0
  pub may : MayKeep next keep
  pub laid : blocks ≡ fresh next keep bs ++ above_kept next keep bs
  pub root : bid.bits ≡ root_kept next keep bs

kept-rooted : (next : ℕ) (keep : List (Option Bid)) (bs : List (List ℕ)) (blocks : List (Bid × List ℕ)) (bid : Bid) → KeptPlan next keep bs blocks bid → (find : ℕ → Option (List ℕ)) → Each (IsFound find) blocks
    → Rooted find bid.bits (placed next keep bs) (above_kept next keep bs)
unfolding above_kept
kept-rooted next keep bs blocks bid plan find found =
    let at : ℕ = next + 4 * length (fresh next keep bs) in
    let all : List (Bid × List ℕ) = placed next keep bs in
    let few = plan.few in
    let low = plan.low in
    let high = plan.high in
    let apart = plan.apart in
    let here : Each (IsFound find) (fresh next keep bs ++ above at all) = subst (λ (l : List (Bid × List ℕ)). Each (IsFound find) l) plan.laid found in
    let tops = each-right (IsFound find) (fresh next keep bs) (above at all) here in
    let count_new = few-unkept keep bs in
    let made = length-numbered 0 next (unkept keep bs) in
    let plain = data-placed next next keep bs apart (omega arith) (omega arith) plan.may in
    subst (λ (n : ℕ). Rooted find n all (above at all)) (sym plan.root) (rooted find next at keep bs apart low (omega arith) (omega arith) few plan.may plain tops)

pub kept-names : (next : ℕ) (keep : List (Option Bid)) (bs : List (List ℕ)) (blocks : List (Bid × List ℕ)) (bid : Bid) → KeptPlan next keep bs blocks bid → NamesKept blocks next keep bid bs
kept-names next keep bs blocks bid plan = λ find found. (kept-rooted next keep bs blocks bid plan find (each-from_all (IsFound find) blocks found)).ids

pub kept-reads : (next : ℕ) (keep : List (Option Bid)) (bs : List (List ℕ)) (blocks : List (Bid × List ℕ)) (bid : Bid) → KeptPlan next keep bs blocks bid → ReadsKept blocks keep bid bs
kept-reads next keep bs blocks bid plan = λ find found kept eof room.
    let each = each-from_all (IsFound find) blocks found in
    let here : Each (IsFound find) (fresh next keep bs ++ above_kept next keep bs) = subst (λ (l : List (Bid × List ℕ)). Each (IsFound find) l) plan.laid each in
    let placed_found = found-placed find next keep bs (each-left (IsFound find) (fresh next keep bs) (above_kept next keep bs) here) kept in
    reads-blocks find eof bid.bits (placed next keep bs) bs (contents-placed next keep bs) (kept-rooted next keep bs blocks bid plan find each).ids placed_found room

pub kept-keys : (next : ℕ) (keep : List (Option Bid)) (bs : List (List ℕ)) (blocks : List (Bid × List ℕ)) (bid : Bid) → KeptPlan next keep bs blocks bid → Reaches blocks (kept_bids keep bs) bid
kept-keys next keep bs blocks bid plan = λ find found key.
    let each = each-from_all (IsFound find) blocks found in
    let keys = (kept-rooted next keep bs blocks bid plan find each).keys key in
    let all = count-placed key next keep bs in
    let both = count-blocks key (fresh next keep bs) (above_kept next keep bs) in
    let made = ap (λ (l : List (Bid × List ℕ)). count_of key (keys_of (bids_in l))) plan.laid in
    let sum = count-append key (keys_of (kept_bids keep bs)) (keys_of (bids_in blocks)) in
    omega (arith, keys, all, both, made, sum)

pub kept-rise : (next : ℕ) (keep : List (Option Bid)) (bs : List (List ℕ)) → Rise next (fresh next keep bs ++ above_kept next keep bs)
unfolding above_kept
kept-rise next keep bs =
    let at : ℕ = next + 4 * length (fresh next keep bs) in
    rise-append next (fresh next keep bs) (above at (placed next keep bs)) (rise-numbered 0 next (unkept keep bs) (inl refl)) (rise-above at (placed next keep bs))

pub kept-marks : (next : ℕ) (keep : List (Option Bid)) (bs : List (List ℕ)) → next % 4 ≡ 0 → plain (fresh next keep bs ++ above_kept next keep bs) ≡ unkept keep bs
unfolding above_kept
kept-marks next keep bs apart =
    let at : ℕ = next + 4 * length (fresh next keep bs) in
    plain-append (fresh next keep bs) (above at (placed next keep bs)) ∙ ap (λ (l : List (List ℕ)). l ++ plain (above at (placed next keep bs))) (plain-data next (unkept keep bs) apart)
    ∙ ap (λ (l : List (List ℕ)). unkept keep bs ++ l) (plain-above at (placed next keep bs) (omega arith)) ∙ append-nil (unkept keep bs)

pub kept-small : (next : ℕ) (keep : List (Option Bid)) (bs : List (List ℕ)) → IsContent bs → AreSmall (fresh next keep bs ++ above_kept next keep bs)
unfolding above_kept
kept-small next keep bs content =
    let at : ℕ = next + 4 * length (fresh next keep bs) in
    let few = content.few in
    let count = length-placed next keep bs in
    all_from-each Small (fresh next keep bs ++ above at (placed next keep bs))
    (each-append Small (fresh next keep bs) (above at (placed next keep bs)) (small-numbered 0 next (unkept keep bs) (each-unkept Short keep bs (each-from_all Short bs content.small)))
    (small-above at (placed next keep bs) (omega arith)))

pub kept-most : (next : ℕ) (keep : List (Option Bid)) (bs : List (List ℕ)) → 2 * length (fresh next keep bs ++ above_kept next keep bs) ≤ 2 * length (unkept keep bs) + length bs
unfolding above_kept
kept-most next keep bs =
    let at : ℕ = next + 4 * length (fresh next keep bs) in
    let made = length-numbered 0 next (unkept keep bs) in
    let both = length-append (fresh next keep bs) (above at (placed next keep bs)) in
    let half = half-above at (placed next keep bs) in
    let count = length-placed next keep bs in
    omega arith

pub above-at : (next at : ℕ) (keep : List (Option Bid)) (bs : List (List ℕ)) (all new : List (Bid × List ℕ)) → at ≡ next + 4 * length new → new ≡ fresh next keep bs → all ≡ placed next keep bs → above at all ≡ above_kept next keep bs
unfolding above_kept
above-at next at keep bs all new is made are = ap (λ (n : ℕ). above n all) (is ∙ ap (λ (l : List (Bid × List ℕ)). next + 4 * length l) made) ∙ ap (above (next + 4 * length (fresh next keep bs))) are

-- where none is kept
pub planned-kept : (next : ℕ) (bs : List (List ℕ)) → planned next bs ≡ fresh next [] bs ++ above_kept next [] bs
unfolding planned above_kept
planned-kept next bs =
    let new : fresh next [] bs ≡ numbered 0 next bs = ap (numbered 0 next) (unkept-none bs) in
    let count : length (fresh next [] bs) ≡ length bs = ap length new ∙ length-numbered 0 next bs in
    ap (λ (l : List (Bid × List ℕ)). l ++ above (next + 4 * length bs) (numbered 0 next bs)) (sym new)
    ∙ ap (λ (n : ℕ). fresh next [] bs ++ above (next + 4 * n) (numbered 0 next bs)) (sym count)
    ∙ ap (λ (l : List (Bid × List ℕ)). fresh next [] bs ++ above (next + 4 * length (fresh next [] bs)) l) (sym (placed-none next bs))

root-none : (next : ℕ) (bs : List (List ℕ)) → last_id (planned next bs) ≡ root_kept next [] bs
root-none next bs =
    let new : fresh next [] bs ≡ placed next [] bs = ap (numbered 0 next) (unkept-none bs) ∙ sym (placed-none next bs) in
    ap last_id (planned-kept next bs) ∙ ap (λ (l : List (Bid × List ℕ)). last_id (l ++ above_kept next [] bs)) new

kept-none : (bs : List (List ℕ)) → kept_bids [] bs ≡ []
kept-none [] = refl
kept-none (b ∷ bs) = refl

pub none-keys : (next : ℕ) (bs : List (List ℕ)) (blocks : List (Bid × List ℕ)) (bid : Bid) → blocks ≡ planned next bs → bid.bits ≡ last_id blocks → length bs ≤ 1042441 → 4 ≤ next → next ≤ 2 ^ 63 → next % 4 ≡ 0
    → Reaches blocks [] bid
none-keys next bs blocks bid made root few low high apart =
    let P : List Bid → Type 0 = λ kept. Reaches blocks kept bid in
    subst P (kept-none bs) (kept-keys next [] bs blocks bid (record {
      few = few;
      low = low;
      high = high;
      apart = apart;
      may = tt;
      laid = made ∙ planned-kept next bs;
      root = root ∙ ap last_id made ∙ root-none next bs;
    }))
