-- The steps of a plan's making in which blocks are kept.
use Rattle.std.proofs.Common.{Bool, true, false, not, ◌≡◌, ℕ, ◌+◌, ◌<◌, ◌≤◌, List, [], ◌∷◌, ◌++◌, length, drop, get_or, Option, Some, None, refl, sym, ap, ◌∙◌, arith, append_assoc, append-nil}
use Rattle.std.specs.Option.{is_some}
use Rattle.std.proofs.lemmas.List.{drop-drop}
use Rattle.pst_base.specs.declared.ids.Bid.{Bid}
use Rattle.data_tree.specs.Plan.{first_kept, fresh, last_id, numbered, placed, unkept}
use Rattle.data_tree.proofs.KeepLaws.{new-block, unkept-none}
use Rattle.data_tree.proofs.ListingLaws.{drop-here}
use Rattle.data_tree.proofs.PlanLaws.{last-append}

pub none-from : (o : Option Bid) (b : Bool) → is_some o ≡ not b → b ≡ true → o ≡ None
none-from None b is e = refl
none-from (Some bid) true is e = absurd cc
none-from (Some bid) false is e = absurd cc

pub some-from : (o : Option Bid) (b : Bool) → is_some o ≡ not b → b ≡ false → (bid : Bid) × (o ≡ Some bid)
some-from None true is e = absurd cc
some-from None false is e = absurd cc
some-from (Some bid) b is e = (bid, refl)

-- ---- the first of some blocks

placed-kept : (next : ℕ) (keep : List (Option Bid)) (b : List ℕ) (bs : List (List ℕ)) (bid : Bid) → first_kept keep ≡ Some bid → placed next keep (b ∷ bs) ≡ (bid, b) ∷ placed next (drop 1 keep) bs
placed-kept next [] b bs bid e = absurd cc
placed-kept next (Some own ∷ keep) b bs bid e = let same : own ≡ bid = cc in ap (λ (x : Bid). (x, b) ∷ placed next keep bs) same
placed-kept next (None ∷ keep) b bs bid e = absurd cc

placed-new : (next : ℕ) (keep : List (Option Bid)) (b : List ℕ) (bs : List (List ℕ)) → first_kept keep ≡ None → placed next keep (b ∷ bs) ≡ (record { bits = next }, b) ∷ placed (next + 4) (drop 1 keep) bs
placed-new next [] b bs e = refl
placed-new next (Some own ∷ keep) b bs e = absurd cc
placed-new next (None ∷ keep) b bs e = refl

unkept-kept : (keep : List (Option Bid)) (b : List ℕ) (bs : List (List ℕ)) (bid : Bid) → first_kept keep ≡ Some bid → unkept keep (b ∷ bs) ≡ unkept (drop 1 keep) bs
unkept-kept [] b bs bid e = absurd cc
unkept-kept (Some own ∷ keep) b bs bid e = refl
unkept-kept (None ∷ keep) b bs bid e = absurd cc

unkept-new : (keep : List (Option Bid)) (b : List ℕ) (bs : List (List ℕ)) → first_kept keep ≡ None → unkept keep (b ∷ bs) ≡ b ∷ unkept (drop 1 keep) bs
unkept-new [] b bs e = ap (λ (l : List (List ℕ)). b ∷ l) (sym (unkept-none bs))
unkept-new (Some own ∷ keep) b bs e = absurd cc
unkept-new (None ∷ keep) b bs e = refl

-- ---- one block more

pub placed-step-kept : (next i : ℕ) (keep : List (Option Bid)) (bs : List (List ℕ)) (d data_here : List ℕ) (bid : Bid) (out whole : List (Bid × List ℕ)) → i < length bs
    → first_kept (drop i keep) ≡ Some bid → data_here ≡ get_or bs i d → out ++ placed next (drop i keep) (drop i bs) ≡ whole
    → (out ++ (bid, data_here) ∷ []) ++ placed next (drop (i + 1) keep) (drop (i + 1) bs) ≡ whole
placed-step-kept next i keep bs d data_here bid out whole h kept is so_far =
    append_assoc out ((bid, data_here) ∷ []) (placed next (drop (i + 1) keep) (drop (i + 1) bs))
    ∙ ap (λ (b : List ℕ). out ++ (bid, b) ∷ placed next (drop (i + 1) keep) (drop (i + 1) bs)) is
    ∙ ap (λ (k : List (Option Bid)). out ++ (bid, get_or bs i d) ∷ placed next k (drop (i + 1) bs)) (sym (drop-drop 1 i keep))
    ∙ ap (λ (l : List (Bid × List ℕ)). out ++ l) (sym (placed-kept next (drop i keep) (get_or bs i d) (drop (i + 1) bs) bid kept))
    ∙ ap (λ (l : List (List ℕ)). out ++ placed next (drop i keep) l) (sym (drop-here bs i d h)) ∙ so_far

pub placed-step-new : (next i : ℕ) (keep : List (Option Bid)) (bs : List (List ℕ)) (d data_here : List ℕ) (out whole : List (Bid × List ℕ)) → i < length bs
    → first_kept (drop i keep) ≡ None → data_here ≡ get_or bs i d → out ++ placed next (drop i keep) (drop i bs) ≡ whole
    → (out ++ (record { bits = next }, data_here) ∷ []) ++ placed (next + 4) (drop (i + 1) keep) (drop (i + 1) bs) ≡ whole
placed-step-new next i keep bs d data_here out whole h kept is so_far =
    let bid : Bid = record { bits = next } in
    append_assoc out ((bid, data_here) ∷ []) (placed (next + 4) (drop (i + 1) keep) (drop (i + 1) bs))
    ∙ ap (λ (b : List ℕ). out ++ (bid, b) ∷ placed (next + 4) (drop (i + 1) keep) (drop (i + 1) bs)) is
    ∙ ap (λ (k : List (Option Bid)). out ++ (bid, get_or bs i d) ∷ placed (next + 4) k (drop (i + 1) bs)) (sym (drop-drop 1 i keep))
    ∙ ap (λ (l : List (Bid × List ℕ)). out ++ l) (sym (placed-new next (drop i keep) (get_or bs i d) (drop (i + 1) bs) kept))
    ∙ ap (λ (l : List (List ℕ)). out ++ placed next (drop i keep) l) (sym (drop-here bs i d h)) ∙ so_far

unkept-here : (i : ℕ) (keep : List (Option Bid)) (bs : List (List ℕ)) (d : List ℕ) (bid : Bid) → i < length bs → first_kept (drop i keep) ≡ Some bid → unkept (drop i keep) (drop i bs) ≡ unkept (drop (i + 1) keep) (drop (i + 1) bs)
unkept-here i keep bs d bid h kept =
    ap (unkept (drop i keep)) (drop-here bs i d h) ∙ unkept-kept (drop i keep) (get_or bs i d) (drop (i + 1) bs) bid kept
    ∙ ap (λ (k : List (Option Bid)). unkept k (drop (i + 1) bs)) (drop-drop 1 i keep)

pub fresh-step-kept : (next i : ℕ) (keep : List (Option Bid)) (bs : List (List ℕ)) (d : List ℕ) (bid : Bid) (out whole : List (Bid × List ℕ)) → i < length bs
    → first_kept (drop i keep) ≡ Some bid → out ++ fresh next (drop i keep) (drop i bs) ≡ whole → out ++ fresh next (drop (i + 1) keep) (drop (i + 1) bs) ≡ whole
fresh-step-kept next i keep bs d bid out whole h kept so_far =
    ap (λ (l : List (List ℕ)). out ++ numbered 0 next l) (sym (unkept-here i keep bs d bid h kept)) ∙ so_far

pub fresh-step-new : (next i : ℕ) (keep : List (Option Bid)) (bs : List (List ℕ)) (d data_here : List ℕ) (out whole : List (Bid × List ℕ)) → i < length bs
    → first_kept (drop i keep) ≡ None → data_here ≡ get_or bs i d → out ++ fresh next (drop i keep) (drop i bs) ≡ whole
    → (out ++ (record { bits = next }, data_here) ∷ []) ++ fresh (next + 4) (drop (i + 1) keep) (drop (i + 1) bs) ≡ whole
fresh-step-new next i keep bs d data_here out whole h kept is so_far =
    let rest = unkept (drop (i + 1) keep) (drop (i + 1) bs) in
    let here : unkept (drop i keep) (drop i bs) ≡ get_or bs i d ∷ rest =
    ap (unkept (drop i keep)) (drop-here bs i d h) ∙ unkept-new (drop i keep) (get_or bs i d) (drop (i + 1) bs) kept
    ∙ ap (λ (k : List (Option Bid)). get_or bs i d ∷ unkept k (drop (i + 1) bs)) (drop-drop 1 i keep) in
    append_assoc out ((record { bits = next }, data_here) ∷ []) (numbered 0 (next + 4) rest)
    ∙ ap (λ (b : List ℕ). out ++ (record { bits = next }, b) ∷ numbered 0 (next + 4) rest) is
    ∙ ap (λ (block : Bid × List ℕ). out ++ block ∷ numbered 0 (next + 4) rest) (sym (new-block next (get_or bs i d)))
    ∙ ap (λ (l : List (List ℕ)). out ++ numbered 0 next l) (sym here) ∙ so_far

-- ---- the root

pub root-above : (xs ys : List (Bid × List ℕ)) → 0 < length ys → last_id (xs ++ ys) ≡ last_id ys
root-above xs [] some = absurd (omega arith)
root-above xs (y ∷ ys) some = last-append xs y ys

pub root-alone : (xs ys : List (Bid × List ℕ)) → length ys ≤ 0 → last_id (xs ++ ys) ≡ last_id xs
root-alone xs [] none = ap last_id (append-nil xs)
root-alone xs (y ∷ ys) none = absurd (omega arith)
