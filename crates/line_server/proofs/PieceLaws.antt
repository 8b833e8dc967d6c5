-- The pieces at the front of what a session holds.
use Rattle.std.proofs.Common.{◌≡◌, ◌∙◌, ℕ, ◌+◌, ◌<◌, ◌≤◌, ap, sym, arith, Bool, true, false, List, [], ◌∷◌, ◌++◌, length, get_or, take, drop, append_assoc, refl, add-one, drop-cons}
use Rattle.std.proofs.lemmas.List.{take-append-drop, get_or-take, length-take-le}
use Rattle.line_server.specs.Lines.{cut, ending, full, last, last_piece, NoFeedBelow, LINE_LIMIT}
use Rattle.line_server.proofs.Cuts.{cut-feed, cut-overlong, cut-open}

-- the bytes before a place, the one at it, and those behind it
pub around : (n : ℕ) (bytes : List ℕ) → n < length bytes → bytes ≡ take n bytes ++ get_or bytes n 0 ∷ drop (n + 1) bytes
around n bytes low = sym (take-append-drop n bytes) ∙ ap (λ x. take n bytes ++ x) (rw (add-one, drop-cons bytes n 0) refl)

clean_front : (n : ℕ) (bytes : List ℕ) → n ≤ length bytes → NoFeedBelow n bytes → NoFeedBelow (length (take n bytes)) (take n bytes)
clean_front n bytes low clean k below is =
    let size = length-take-le n bytes low in
    let within : k < n = omega (arith, size) in
    clean k within (sym (get_or-take n bytes k 0 within) ∙ is)

pub feed_cuts : (all long : Bool) (held more : List ℕ) (feed : ℕ) → length held ≤ 1048577 → feed < length held → get_or held feed 0 ≡ 10 → NoFeedBelow feed held
    → cut all long [] (held ++ more) ≡ ending long (take feed held) ∷ cut all false [] (drop (feed + 1) held ++ more)
feed_cuts all long held more feed few low at clean =
    let front = take feed held in
    let rest = drop (feed + 1) held in
    let split : held ++ more ≡ front ++ 10 ∷ (rest ++ more) = ap (λ x. x ++ more) (around feed held low ∙ ap (λ b. front ++ b ∷ rest) at) ∙ append_assoc front (10 ∷ rest) more in
    let size = length-take-le feed held (omega arith) in
    ap (λ x. cut all long [] x) split ∙ cut-feed all long [] front (rest ++ more) (clean_front feed held (omega arith) clean) (omega (arith, size))

pub overlong_cuts : (n : ℕ) (all long : Bool) (held more : List ℕ) → n ≡ LINE_LIMIT → length held ≡ n + 1 → NoFeedBelow (length held) held
    → cut all long [] (held ++ more) ≡ full long ∷ cut all true [] (drop n held ++ more)
overlong_cuts n all long held more limit size clean =
    let front = take n held in
    let b = get_or held n 0 in
    let rest = drop (n + 1) held in
    let low : n < length held = omega arith in
    let split : held ++ more ≡ front ++ b ∷ (rest ++ more) = ap (λ x. x ++ more) (around n held low) ∙ append_assoc front (b ∷ rest) more in
    let behind : drop n held ≡ b ∷ rest = rw (add-one, drop-cons held n 0) refl in
    let taken = length-take-le n held (omega arith) in
    let fits : NoFeedBelow n held = λ k below. clean k (omega arith) in
    ap (λ x. cut all long [] x) split
    ∙ cut-overlong all long [] front b (rest ++ more) (clean_front n held (omega arith) fits) (omega (arith, taken, limit)) (clean n low)
    ∙ ap (λ x. full long ∷ cut all true [] (x ++ more)) (sym behind)

last-some : (long : Bool) (held : List ℕ) → 0 < length held → last long held ≡ last_piece long held ∷ []
last-some long [] some = absurd (omega arith)
last-some long (b ∷ held) some = refl

pub last_cuts : (long : Bool) (held : List ℕ) → length held ≤ LINE_LIMIT → NoFeedBelow (length held) held → 0 < length held → cut true long [] held ≡ last_piece long held ∷ []
last_cuts long held few clean some = cut-open true long [] held clean (omega arith) ∙ last-some long held some

pub nothing_cuts : (all long : Bool) → cut all long [] [] ≡ []
nothing_cuts true long = cut-open true long [] [] (λ k low. absurd (omega arith)) (omega arith)
nothing_cuts false long = cut-open false long [] [] (λ k low. absurd (omega arith)) (omega arith)

-- what is open and doesn't count as a line
pub broken_cuts : (long : Bool) (held : List ℕ) → length held ≤ LINE_LIMIT → NoFeedBelow (length held) held → cut false long [] held ≡ []
broken_cuts long held few clean = cut-open false long [] held clean (omega arith)
