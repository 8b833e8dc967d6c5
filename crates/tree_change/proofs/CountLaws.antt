-- How many pages a whole plan has.
use Rattle.std.proofs.Common.{⊎_elim, ◌≡◌, ◌⊎◌, ◌∙◌, inl, inr, ℕ, zero, suc, ◌+◌, ◌-◌, ◌*◌, ◌≤◌, ap, arith}
use Rattle.std.proofs.lemmas.Bool.{cases_lt}
use Rattle.tree_edit.specs.Steps.{weigh, AreFew, IsSpare, AreSpare}
use Rattle.tree_edit.proofs.CountLaws.{plus-times}

pub weigh-least : (n u : ℕ) → u ≤ weigh n u
weigh-least zero u = omega arith
weigh-least (suc n) u = omega arith

pub weigh-is : (n u : ℕ) → weigh n u ≡ (n + 1) * u
weigh-is zero u = let one : (0 + 1) * u ≡ u = omega arith in omega (arith, one)
weigh-is (suc n) u =
    let h = weigh-is n u in
    let more : suc n + 1 ≡ (n + 1) + 1 = omega arith in
    let parts : (suc n + 1) * u ≡ (n + 1) * u + 1 * u = ap (λ (m : ℕ). m * u) more ∙ plus-times (n + 1) 1 u in
    omega (arith, h, parts)

-- ---- in all

pub lift-step : (fn_pages fn_cs pages cs e r : ℕ) → 2 ≤ cs → 2 * r ≤ cs → (cs ≤ 20 + e → r ≤ 1 + e) → fn_cs ≤ 20 + e → ((pages ≡ fn_pages) × (cs ≡ fn_cs)) ⊎ (pages + cs ≤ fn_pages + 2 + 2 * e)
    → (((pages + r) ≡ fn_pages) × (r ≡ fn_cs)) ⊎ ((pages + r) + r ≤ fn_pages + 2 + 2 * e)
lift-step fn_pages fn_cs pages cs e r two half few le so_far =
    ⊎_elim (λ (a : (pages ≡ fn_pages) × (cs ≡ fn_cs)). let x = a.0 in let y = a.1 in let z : r ≤ 1 + e = few (omega arith) in inr (omega arith)) (λ (a : pages + cs ≤ fn_pages + 2 + 2 * e). inr (omega arith)) so_far

pub lift-end : (fn_pages fn_cs pages cs e : ℕ) → (1 ≤ fn_cs → 1 ≤ cs) → (fn_cs ≤ 1 → pages ≤ fn_pages) → ((pages ≡ fn_pages) × (cs ≡ fn_cs)) ⊎ (pages + cs ≤ fn_pages + 2 + 2 * e) → pages ≤ fn_pages + 1 + 2 * e
lift-end fn_pages fn_cs pages cs e some alone so_far =
    ⊎_elim (λ (a : (pages ≡ fn_pages) × (cs ≡ fn_cs)). let x = a.0 in let r : pages ≤ fn_pages + 1 + 2 * e = omega arith in r)
    (λ (a : pages + cs ≤ fn_pages + 2 + 2 * e).
    let r : pages ≤ fn_pages + 1 + 2 * e = elim (cases_lt 0 fn_cs) [ inl h ↦ let s = some h in omega (arith, a, s) | inr h ↦ let s = alone (omega (arith, h)) in omega (arith, s) ] in r) so_far

pub whole-count : (level e one two three cs ds : ℕ) → 1 ≤ e → AreFew level e 0 one cs → two + ds ≤ one + cs → (1 ≤ cs → 1 ≤ ds) → ((k : ℕ) → cs ≤ 20 + k → two ≤ one + 1 + 2 * k) → three + ds ≤ two + 1 → three ≤ (2 * (level + 2)) * e
whole-count level e one two three cs ds some few plain left grown top =
    let w : 2 * (level + 2) ≡ 2 * level + 4 = omega arith in
    let f : (2 * (level + 2)) * e ≡ (2 * level) * e + 4 * e = ap (λ (n : ℕ). n * e) w ∙ plus-times (2 * level) 4 e in
    let g : three ≤ (2 * level) * e + 4 * e =
    ⊎_elim (λ (a : (cs ≤ 1 + e) × (one ≡ 0 + cs)).
    let x = a.0 in
    let y = a.1 in
    let r : three ≤ (2 * level) * e + 4 * e = elim (cases_lt 0 cs) [ inl h ↦ let z = left h in omega (arith, x, y, z, plain, top, some) | inr h ↦ omega (arith, x, y, h, plain, top, some) ] in r)
    (λ (a : (1 ≤ level) × (cs ≤ 20 + e) × (one ≤ 0 + (2 * level) * e)).
    let x = a.1 in
    let y = a.2 in
    let v = grown e x in
    let r : three ≤ (2 * level) * e + 4 * e = elim (cases_lt 0 cs) [ inl h ↦ let z = left h in omega (arith, y, z, v, top, some) | inr h ↦ omega (arith, y, h, plain, top, some) ] in r)
    few in
    omega (arith, f, g)

-- ---- beside those that are freed

-- Pages and pieces of a whole plan: the root's page is freed, below it all was replaced, the pieces were lifted, and a root was made.
pub spare-whole : (n u one two three freed gone cs ds : ℕ) → AreSpare n u 0 one freed gone cs → freed ≡ 1 → two + ds ≤ one + cs → (1 ≤ cs → 1 ≤ ds) → ((e : ℕ) → cs ≤ 20 + e → two ≤ one + 1 + 2 * e) → three + ds ≤ two + 1
    → three ≤ gone + (n + 3) * u
spare-whole n u one two three freed gone cs ds spare is plain some lifted root =
    let w = weigh-is n u in
    let t : (n + 3) * u ≡ (n + 1) * u + 2 * u = ap (λ (m : ℕ). m * u) (let e : n + 3 ≡ (n + 1) + 2 = omega arith in e) ∙ plus-times (n + 1) 2 u in
    let least = weigh-least n u in
    let all : three ≤ gone + weigh n u + 2 * u = ⊎_elim
    (λ (a : (cs ≤ 1 + u) × (one ≡ 0 + cs) × (gone ≡ freed)).
    let x = a.0 in
    let y = a.1 in
    let z = a.2 in
    let r : three ≤ gone + weigh n u + 2 * u = elim (cases_lt 1 cs) [ inl many ↦ let l = lifted (u - 19) (omega (arith, x)) in let s = some (omega (arith, many)) in omega (arith, x, y, z, is, many, l, s, root, least) | inr few ↦ elim (cases_lt 0 cs) [ inl h ↦ let s = some h in omega (arith, x, y, z, is, few, s, plain, root) | inr h ↦ omega (arith, y, z, is, h, plain, root) ] ] in r)
    (λ (a : IsSpare n 20 u 0 one freed gone cs).
    let x = a.few in
    let y = a.spare in
    let r : three ≤ gone + weigh n u + 2 * u = elim (cases_lt 0 cs) [ inl h ↦ let l = lifted u x in let s = some h in omega (arith, y, is, l, s, root) | inr h ↦ omega (arith, y, is, h, plain, root) ] in r)
    spare in
    omega (arith, w, t, all)
