-- Data of which some blocks stay is no longer than the file.
use Rattle.std.proofs.Common.{◌≡◌, inl, inr, ℕ, ◌+◌, ◌%◌, ◌<◌, ◌≤◌, List, [], ◌∷◌, ◌++◌, length, drop, Option, Some, None, refl, sym, ap, subst, arith}
use Rattle.std.proofs.lemmas.Bool.{cases_eq, cases_lt, eq-eqb, ne_eqb}
use Rattle.pst_base.specs.declared.ids.Bid.{Bid}
use Rattle.pst_base.specs.Flat.{Flat}
use Rattle.pst_base.specs.Ids.{key_of}
use Rattle.data_tree.specs.Keys.{count_of, keys_of}
use Rattle.data_tree.specs.Plan.{AreFound, IsFound, MayKeep, Rise, above_kept, bids_in, bytes_in, fresh, kept_bids, numbered, placed, unkept}
use Rattle.data_tree.proofs.KeepLaws.{contents-placed, new-block, placed-none, unkept-none}
use Rattle.data_tree.proofs.KeyLaws.{count-append, keys-append}
use Rattle.data_tree.proofs.PieceLaws.{Each, all_from-each, each-left, each-right}
use Rattle.data_tree.proofs.PlanLaws.{rise-numbered}
use Rattle.node_layout.specs.Joined.{kept_keys}
use Rattle.subnode_tree.specs.Plan.{first_list, kept_in, paired}
use Rattle.subnode_tree.proofs.PairLaws.{Keep, Pair}
use Rattle.subnode_tree.proofs.SubPlanLaws.{PairAmong, PairFound}
use Rattle.content_plan.specs.Keep.{Keeps, all_kept_keys}
use Rattle.content_plan.specs.Plan.{Bounds}

-- ---- ids that rise have different keys

pub rise-below : (key next : ℕ) (blocks : List (Bid × List ℕ)) → next % 4 ≡ 0 → key < next → Rise next blocks → count_of key (keys_of (bids_in blocks)) ≡ 0
rise-below key next [] apart low rise = refl
rise-below key next (block ∷ blocks) apart low rise =
    let rest = rise-below key (next + 4) blocks (omega (arith, apart)) (omega (arith, low)) rise.1 in
    let other : key_of (block.0).bits ≡ key → ⊥ = λ e. elim rise.0 [ inl one ↦ absurd (omega (arith, one, e, low, apart)) | inr two ↦ absurd (omega (arith, two, e, low, apart)) ] in
    rw (ne_eqb (key_of (block.0).bits) key other) (omega (arith, rest))

pub rise-once : (key next : ℕ) (blocks : List (Bid × List ℕ)) → next % 4 ≡ 0 → Rise next blocks → count_of key (keys_of (bids_in blocks)) ≤ 1
rise-once key next [] apart rise = omega arith
rise-once key next (block ∷ blocks) apart rise = elim (cases_eq (key_of (block.0).bits) key) [
  | inl same ↦
      let low : key < next + 4 = elim rise.0 [ inl one ↦ omega (arith, one, same, apart) | inr two ↦ omega (arith, two, same, apart) ] in
      let rest = rise-below key (next + 4) blocks (omega (arith, apart)) low rise.1 in
      rw (eq-eqb (key_of (block.0).bits) key same) (omega (arith, rest))
  | inr other ↦
      let rest = rise-once key (next + 4) blocks (omega (arith, apart)) rise.1 in
      rw (ne_eqb (key_of (block.0).bits) key other) (omega (arith, rest))
]

-- ---- the blocks of some data, kept and new

found-new : (find : ℕ → Option (List ℕ)) (next : ℕ) (b : List ℕ) → IsFound find (record { bits = next + 0 }, b) → IsFound find (record { bits = next }, b)
found-new find next b found = subst (λ (block : Bid × List ℕ). IsFound find block) (new-block next b) found

nothing-found : (find : ℕ → Option (List ℕ)) (bs : List (List ℕ)) → AreFound find [] bs
nothing-found find [] = tt
nothing-found find (b ∷ bs) = tt

found-placed : (find : ℕ → Option (List ℕ)) (next : ℕ) (keep : List (Option Bid)) (bs : List (List ℕ)) → Each (IsFound find) (fresh next keep bs) → AreFound find keep bs → Each (IsFound find) (placed next keep bs)
found-placed find next keep [] new old = tt
found-placed find next [] (b ∷ bs) new old =
    (found-new find next b new.0, found-placed find (next + 4) [] bs (subst (λ (l : List (List ℕ)). Each (IsFound find) (numbered 0 (next + 4) l)) (sym (unkept-none bs)) new.1) (nothing-found find bs))
found-placed find next (Some bid ∷ keep) (b ∷ bs) new old = (old.0, found-placed find next keep bs new old.1)
found-placed find next (None ∷ keep) (b ∷ bs) new old = (found-new find next b new.0, found-placed find (next + 4) keep bs new.1 old)

count-placed : (key next : ℕ) (keep : List (Option Bid)) (bs : List (List ℕ))
    → count_of key (keys_of (bids_in (placed next keep bs))) ≡ count_of key (keys_of (kept_bids keep bs)) + count_of key (keys_of (bids_in (fresh next keep bs)))
count-placed key next keep [] = omega arith
count-placed key next [] (b ∷ bs) = let e = ap (λ (l : List (Bid × List ℕ)). count_of key (keys_of (bids_in l))) (placed-none next (b ∷ bs)) in omega (arith, e)
count-placed key next (Some bid ∷ keep) (b ∷ bs) = let h = count-placed key next keep bs in omega (arith, h)
count-placed key next (None ∷ keep) (b ∷ bs) =
    let h = count-placed key (next + 4) keep bs in
    let e = ap (λ (block : Bid × List ℕ). count_of key (keys_of (bids_in (block ∷ [])))) (new-block next b) in
    omega (arith, h, e)

-- the keys that stay are those of all ids, where none is behind the data's end
pub kept-all : (keep : List (Option Bid)) (bs : List (List ℕ)) → length keep ≤ length bs → keys_of (kept_bids keep bs) ≡ kept_keys keep
kept-all [] [] short = refl
kept-all [] (b ∷ bs) short = refl
kept-all (o ∷ keep) [] short = absurd (omega (arith, short))
kept-all (Some bid ∷ keep) (b ∷ bs) short = ap (λ (ks : List ℕ). key_of bid.bits ∷ ks) (kept-all keep bs (omega (arith, short)))
kept-all (None ∷ keep) (b ∷ bs) short = kept-all keep bs (omega (arith, short))

kept-low : (key next : ℕ) (keep : List (Option Bid)) → MayKeep next keep → next ≤ key → count_of key (kept_keys keep) ≡ 0
kept-low key next [] may high = refl
kept-low key next (None ∷ keep) may high = kept-low key next keep may high
kept-low key next (Some bid ∷ keep) may high =
    let rest = kept-low key next keep may.3 high in
    let below = may.2 in
    rw (ne_eqb (key_of bid.bits) key (λ e. absurd (omega (arith, e, below, high)))) (omega (arith, rest))

-- data of which some blocks stay is no longer than the file
pub data-fits : (after : ℕ → Option (List ℕ)) (eof next first : ℕ) (keep : List (Option Bid)) (bs : List (List ℕ)) → first % 4 ≡ 0 → next ≤ first → Keeps next keep bs → Each (IsFound after) (fresh first keep bs) → AreFound after keep bs → Bounds after eof
    → bytes_in bs ≤ eof
data-fits after eof next first keep bs apart behind keeps new old bounds =
    let all = placed first keep bs in
    let few : (key : ℕ) → count_of key (keys_of (bids_in all)) ≤ 1 = λ key.
    let parts = count-placed key first keep bs in
    let same = ap (count_of key) (kept-all keep bs keeps.short) in
    let one = keeps.once key in
    let rise = rise-numbered 0 first (unkept keep bs) (inl refl) in
    let two = rise-once key first (fresh first keep bs) apart rise in
    elim (cases_lt key first) [
      | inl low ↦ let none = rise-below key first (fresh first keep bs) apart low rise in omega (arith, parts, same, one, none)
      | inr high ↦ let none = kept-low key next keep keeps.may (omega (arith, high, behind)) in omega (arith, parts, same, two, none)
    ] in
    let fits = bounds all (all_from-each (IsFound after) all (found-placed after first keep bs new old)) few in
    let is = ap bytes_in (contents-placed first keep bs) in
    omega (arith, fits, is)

-- ---- of subnodes

among-found : (after : ℕ → Option (List ℕ)) (eof next at : ℕ) (blocks : List (Bid × List ℕ)) (pair : Pair) → next ≤ at → at % 4 ≡ 0 → Each (IsFound after) blocks → Bounds after eof → PairAmong at blocks pair → Keeps next pair.0 pair.1 → AreFound after pair.0 pair.1
    → bytes_in pair.1 ≤ eof
among-found after eof next at blocks pair behind apart found bounds among keeps kept =
    let here = fresh among.first pair.0 pair.1 in
    let over = above_kept among.first pair.0 pair.1 in
    let start = among.at in
    let all : Each (IsFound after) (among.before ++ ((here ++ over) ++ among.after)) = subst (λ (l : List (Bid × List ℕ)). Each (IsFound after) l) among.parts found in
    let new = each-left (IsFound after) here over (each-left (IsFound after) (here ++ over) among.after (each-right (IsFound after) among.before ((here ++ over) ++ among.after) all)) in
    data-fits after eof next among.first pair.0 pair.1 (omega (arith, start, apart)) (omega (arith, start, behind)) keeps new kept bounds

pub all-fit : (after : ℕ → Option (List ℕ)) (eof next at : ℕ) (blocks : List (Bid × List ℕ)) (keep : Keep) (flats : List Flat) → next ≤ at → at % 4 ≡ 0 → Each (IsFound after) blocks → Bounds after eof
    → Each (PairAmong at blocks) (paired keep flats) → Each (λ (pair : Pair). Keeps next pair.0 pair.1) (paired keep flats) → Each (PairFound after) (paired keep flats) → Each (λ (f : Flat). bytes_in f.blocks ≤ eof) flats
all-fit after eof next at blocks keep [] behind apart found bounds among keeps kept = tt
all-fit after eof next at blocks keep (f ∷ flats) behind apart found bounds among keeps kept = (
  among-found after eof next at blocks (first_list keep, f.blocks) behind apart found bounds among.0 keeps.0 kept.0,
  all-fit after eof next at blocks (drop 1 keep) flats behind apart found bounds among.1 keeps.1 kept.1,
)

-- all ids that stay of subnodes
pub kept-subs : (key : ℕ) (next : ℕ) (keep : Keep) (flats : List Flat) → length keep ≡ length flats → Each (λ (pair : Pair). Keeps next pair.0 pair.1) (paired keep flats) → count_of key (keys_of (kept_in keep flats)) ≡ count_of key (all_kept_keys keep)
kept-subs key next [] [] same keeps = refl
kept-subs key next [] (f ∷ flats) same keeps = absurd (omega (arith, same))
kept-subs key next (own ∷ keep) [] same keeps = absurd (omega (arith, same))
kept-subs key next (own ∷ keep) (f ∷ flats) same keeps =
    let parts = ap (count_of key) (keys-append (kept_bids own f.blocks) (kept_in keep flats)) in
    let sum = count-append key (keys_of (kept_bids own f.blocks)) (keys_of (kept_in keep flats)) in
    let first = ap (count_of key) (kept-all own f.blocks (keeps.0).short) in
    let rest = kept-subs key next keep flats (omega (arith, same)) keeps.1 in
    let whole = count-append key (kept_keys own) (all_kept_keys keep) in
    omega (arith, parts, sum, first, rest, whole)

-- each list of ids is one that may be kept
pub subs-may : (next : ℕ) (keep : Keep) (flats : List Flat) → length keep ≡ length flats → Each (λ (pair : Pair). Keeps next pair.0 pair.1) (paired keep flats) → Each (MayKeep next) keep
subs-may next [] flats same keeps = tt
subs-may next (own ∷ keep) [] same keeps = absurd (omega (arith, same))
subs-may next (own ∷ keep) (f ∷ flats) same keeps = ((keeps.0).may, subs-may next keep flats (omega (arith, same)) keeps.1)
