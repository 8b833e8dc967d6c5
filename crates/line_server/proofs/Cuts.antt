-- How the pieces of bytes begin.
use Rattle.std.proofs.Common.{◌≡◌, ◌≢◌, ◌∙◌, ℕ, suc, ◌+◌, ◌<◌, ◌≤◌, ap, sym, arith, Bool, true, false, List, [], ◌∷◌, ◌++◌, length, append_assoc, length-append, refl, cond, eqb}
use Rattle.std.proofs.lemmas.List.{append-nil}
use Rattle.std.proofs.lemmas.Bool.{ne_eqb, eq-eqb}
use Rattle.line_server.specs.Lines.{cut, ending, full, last, NoFeedBelow, LINE_LIMIT}

step_feed : (e long : Bool) (front bytes : List ℕ) → cut e long front (10 ∷ bytes) ≡ ending long front ∷ cut e false [] bytes
unfolding cut
step_feed e long front bytes = refl

step_on : (e long : Bool) (front : List ℕ) (b : ℕ) (bytes : List ℕ) → b ≢ 10 → length front < LINE_LIMIT → cut e long front (b ∷ bytes) ≡ cut e long (front ++ b ∷ []) bytes
unfolding cut
step_on e long front b bytes other room =
    let f : eqb b 10 ≡ false = ne_eqb _ _ other in
    let g : eqb (length front) LINE_LIMIT ≡ false = ne_eqb _ _ (λ is. omega arith) in
    rw (f, g) refl

step_full : (e long : Bool) (front : List ℕ) (b : ℕ) (bytes : List ℕ) → b ≢ 10 → length front ≡ LINE_LIMIT → cut e long front (b ∷ bytes) ≡ full long ∷ cut e true (b ∷ []) bytes
unfolding cut
step_full e long front b bytes other is =
    let f : eqb b 10 ≡ false = ne_eqb _ _ other in
    let g : eqb (length front) LINE_LIMIT ≡ true = eq-eqb _ _ is in
    rw (f, g) refl

step_end : (e long : Bool) (front : List ℕ) → cut e long front [] ≡ cond e (last long front) []
unfolding cut
step_end e long front = refl

one_longer : (front : List ℕ) (b : ℕ) → length (front ++ b ∷ []) ≡ length front + 1
one_longer front b = simp length-append

-- a line, and then the pieces of what follows its LF
pub cut-feed : (e long : Bool) (front xs ys : List ℕ) → NoFeedBelow (length xs) xs → length front + length xs ≤ LINE_LIMIT → cut e long front (xs ++ 10 ∷ ys) ≡ ending long (front ++ xs) ∷ cut e false [] ys
cut-feed e long front [] ys clean room = step_feed e long front ys ∙ ap (λ f. ending long f ∷ cut e false [] ys) (sym (append-nil front))
cut-feed e long front (x ∷ xs) ys clean room =
    step_on e long front x (xs ++ 10 ∷ ys) (clean 0 (omega arith)) (omega arith)
    ∙ cut-feed e long (front ++ x ∷ []) xs ys (λ k low. clean (suc k) (omega arith)) (omega (arith, one_longer front x))
    ∙ ap (λ f. ending long f ∷ cut e false [] ys) (append_assoc front (x ∷ []) xs)

-- a piece that is full, and then the pieces from its next byte on
pub cut-overlong : (e long : Bool) (front xs : List ℕ) (b : ℕ) (ys : List ℕ) → NoFeedBelow (length xs) xs → length front + length xs ≡ LINE_LIMIT → b ≢ 10
    → cut e long front (xs ++ b ∷ ys) ≡ full long ∷ cut e true [] (b ∷ ys)
cut-overlong e long front [] b ys clean is other =
    step_full e long front b ys other (omega arith) ∙ ap (λ c. full long ∷ c) (sym (step_on e true [] b ys other (omega arith)))
cut-overlong e long front (x ∷ xs) b ys clean is other =
    step_on e long front x (xs ++ b ∷ ys) (clean 0 (omega arith)) (omega arith)
    ∙ cut-overlong e long (front ++ x ∷ []) xs b ys (λ k low. clean (suc k) (omega arith)) (omega (arith, one_longer front x)) other

-- no line ends here: what there is counts only at the end of the input
pub cut-open : (e long : Bool) (front xs : List ℕ) → NoFeedBelow (length xs) xs → length front + length xs ≤ LINE_LIMIT → cut e long front xs ≡ cond e (last long (front ++ xs)) []
cut-open e long front [] clean room = step_end e long front ∙ ap (λ f. cond e (last long f) []) (sym (append-nil front))
cut-open e long front (x ∷ xs) clean room =
    step_on e long front x xs (clean 0 (omega arith)) (omega arith)
    ∙ cut-open e long (front ++ x ∷ []) xs (λ k low. clean (suc k) (omega arith)) (omega (arith, one_longer front x))
    ∙ ap (λ f. cond e (last long f) []) (append_assoc front (x ∷ []) xs)
