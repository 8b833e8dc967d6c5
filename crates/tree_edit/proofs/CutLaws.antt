-- Edits, cut at a key.
use Rattle.std.proofs.Common.{ℕ, zero, suc, ◌+◌, ◌≤◌, ◌<◌, List, [], ◌∷◌, length, take, drop, get_or, arith, Option}
use Rattle.tree_edit.specs.Edits.{AreEdits}

-- the first edits have keys up to this one
abbrev pub AreUpTo : {E : Type 0} → ℕ → ℕ → List (ℕ × Option E) → Type 0
AreUpTo {E} high n ds = (i : ℕ) (d : ℕ × Option E) → i < n → (get_or ds i d).0 ≤ high

pub edits-front : {E : Type 0} (key : E → ℕ) (low end high n : ℕ) (ds : List (ℕ × Option E)) → n ≤ length ds → AreUpTo high n ds → AreEdits key low end ds → AreEdits key low (high + 1) (take n ds)
edits-front key low end high zero ds le u a = tt
edits-front key low end high (suc n) [] le u a = tt
edits-front key low end high (suc n) (d ∷ ds) le u a =
    let first : d.0 ≤ high = u 0 d (omega arith) in
    (a.0, omega arith, a.2, edits-front key (d.0 + 1) end high n ds (omega arith) (λ i e less. u (suc i) e (omega arith)) a.3)

edits-raise : {E : Type 0} (key : E → ℕ) (low low' end : ℕ) (ds : List (ℕ × Option E)) (d : ℕ × Option E) → (0 < length ds → low' ≤ (get_or ds 0 d).0) → AreEdits key low end ds → AreEdits key low' end ds
edits-raise key low low' end [] d h a = tt
edits-raise key low low' end (x ∷ ds) d h a = (h (omega arith), a.1, a.2, a.3)

pub edits-back : {E : Type 0} (key : E → ℕ) (low end high n : ℕ) (ds : List (ℕ × Option E)) (d : ℕ × Option E) → (n < length ds → high < (get_or ds n d).0) → AreEdits key low end ds → AreEdits key (high + 1) end (drop n ds)
edits-back key low end high zero ds d h a = edits-raise key low (high + 1) end ds d (λ less. let x = h less in omega arith) a
edits-back key low end high (suc n) [] d h a = tt
edits-back key low end high (suc n) (x ∷ ds) d h a = edits-back key (x.0 + 1) end high n ds d (λ less. h (omega arith)) a.3
