-- How many pages what is held will take: enough are kept in reserve for it, within what edits may cost.
use Rattle.std.proofs.Common.{◌≡◌, ◌⊎◌, inl, inr, ⊎_elim, ℕ, ◌+◌, ◌-◌, ◌*◌, ◌≤◌, ◌<◌, ap, ◌∙◌, arith}
use Rattle.std.proofs.lemmas.Bool.{cases_lt}
use Rattle.std.proofs.lemmas.Nat.{mul-le}
use Rattle.tree_edit.specs.Steps.{weigh, IsSpare}
use Rattle.tree_edit.proofs.CountLaws.{times-plus, times-one, plus-times}
use Rattle.tree_edit.proofs.SpareLaws.{weigh-plus, weigh-zero}

-- ---- beside the pages that are freed

-- In place of k children of level n are so many pieces, and so many entries or children are held for more of them, where u entries were put that weren't there: the lengths of the lists of new pages and of freed pages, before and now.
pub record IsReserve (n most k u size pieces old new freed gone : ℕ) : Type 0 where
  pub reserve : ℕ
  pub fits : size ≤ reserve * most
  pub few : pieces + reserve ≤ k + u
  pub spare : new + freed + reserve ≤ old + gone + weigh n u

pub reserve-start : (n most size pieces pages freed : ℕ) → size ≡ 0 → pieces ≡ 0 → IsReserve n most 0 0 size pieces pages pages freed freed
reserve-start n most size pieces pages freed a b = record { reserve = 0; fits = let z : 0 * most ≡ 0 = omega arith in omega (arith, a, z); few = omega (arith, b); spare = omega arith }

pub reserve-kept : (n most k u size pieces old new freed gone cs all made last : ℕ) → IsReserve n most k u size pieces old new freed gone → ((r : ℕ) → size ≤ r * most → cs ≤ r) → made ≡ 0 → all ≡ pieces + cs + 1 → last ≡ new + cs
    → IsReserve n most (k + 1) u made all old last freed gone
reserve-kept n most k u size pieces old new freed gone cs all made last r few none is grown =
    let a = few r.reserve r.fits in
    let b = r.few in
    let c = r.spare in
    record { reserve = 0; fits = let z : 0 * most ≡ 0 = omega arith in omega (arith, none, z); few = omega (arith, a, b, is); spare = omega (arith, a, c, grown) }

-- what a child comes to, where v entries were put
pub reserve-join : (n most k u v size more pieces old new next freed gone last made : ℕ) → 1 ≤ most → IsReserve n most k u size pieces old new freed gone → more ≤ most + v → next + gone + 1 + v ≤ new + last + weigh n v → made ≡ size + more
    → IsReserve n most (k + 1) (u + v) made pieces old next freed last
reserve-join n most k u v size more pieces old new next freed gone last made some r few spare is =
    let a = r.fits in
    let b = r.few in
    let c = r.spare in
    let w = weigh-plus n u v in
    let d : (r.reserve + (1 + v)) * most ≡ r.reserve * most + (1 + v) * most = plus-times r.reserve (1 + v) most in
    let e : (1 + v) * most ≡ 1 * most + v * most = plus-times 1 v most in
    let f = times-one v most some in
    record { reserve = r.reserve + (1 + v); fits = omega (arith, a, d, e, f, few, is); few = omega (arith, b); spare = omega (arith, c, w, spare) }

-- the same, where what was held is packed
pub reserve-next : (n most k u v size more pieces old new next freed gone last cs all final made : ℕ) → 1 ≤ most → IsReserve n most k u size pieces old new freed gone → more ≤ most + v → next + gone + 1 + v ≤ new + last + weigh n v
    → ((r : ℕ) → size ≤ r * most → cs ≤ r) → all ≡ pieces + cs → final ≡ next + cs → made ≡ more → IsReserve n most (k + 1) (u + v) made all old final freed last
reserve-next n most k u v size more pieces old new next freed gone last cs all final made some r few spare small is grown same =
    let a = small r.reserve r.fits in
    let b = r.few in
    let c = r.spare in
    let w = weigh-plus n u v in
    let e : (1 + v) * most ≡ 1 * most + v * most = plus-times 1 v most in
    let f = times-one v most some in
    record { reserve = 1 + v; fits = omega (arith, e, f, few, same); few = omega (arith, a, b, is); spare = omega (arith, a, c, w, spare, grown) }

-- what the child that stayed comes to
pub reserve-front : (n most k u size more before pieces old new next freed gone last made : ℕ) → IsReserve n most k u size before old new freed gone → more ≤ most + 0 → next + gone + 1 + 0 ≤ new + last + weigh n 0 → before ≡ pieces + 1 → made ≡ more + size
    → IsReserve n most k u made pieces old next freed last
reserve-front n most k u size more before pieces old new next freed gone last made r few spare was is =
    let a = r.fits in
    let b = r.few in
    let c = r.spare in
    let w = weigh-zero n in
    let d : (r.reserve + 1) * most ≡ r.reserve * most + 1 * most = plus-times r.reserve 1 most in
    record { reserve = r.reserve + 1; fits = omega (arith, a, d, few, is); few = omega (arith, b, was); spare = omega (arith, c, w, spare) }

pub reserve-end : (n most k u size pieces old new freed gone cs all last : ℕ) → IsReserve n most k u size pieces old new freed gone → ((r : ℕ) → size ≤ r * most → cs ≤ r) → all ≡ pieces + cs → last ≡ new + cs → IsSpare n k u old last freed gone all
reserve-end n most k u size pieces old new freed gone cs all last r few is grown =
    let a = few r.reserve r.fits in
    let b = r.few in
    let c = r.spare in
    record { few = omega (arith, a, b, is); spare = omega (arith, a, c, grown) }

-- ---- by the edits alone

-- In place of k children below a page of this level are so many pieces, and so many entries or children are held for more of them, after e edits: the lengths of the list of new pages, before and now.
pub record IsAmple (level most k e size pieces old new : ℕ) : Type 0 where
  pub reserve : ℕ
  pub fits : size ≤ reserve * most
  pub two : 1 ≤ size → 2 ≤ reserve
  pub few : pieces + reserve ≤ k + e
  pub grows : new + reserve ≤ old + (2 * level) * e

pub ample-start : (level most size pieces pages : ℕ) → size ≡ 0 → pieces ≡ 0 → IsAmple level most 0 0 size pieces pages pages
ample-start level most size pieces pages a b = record { reserve = 0; fits = let z : 0 * most ≡ 0 = omega arith in omega (arith, a, z); two = λ h. absurd (omega (arith, h, a)); few = omega (arith, b); grows = omega arith }

pub ample-kept : (level most k e size pieces old new cs all made last : ℕ) → IsAmple level most k e size pieces old new → ((r : ℕ) → size ≤ r * most → cs ≤ r) → made ≡ 0 → all ≡ pieces + cs + 1 → last ≡ new + cs
    → IsAmple level most (k + 1) e made all old last
ample-kept level most k e size pieces old new cs all made last r few none is grown =
    let a = few r.reserve r.fits in
    let b = r.few in
    let c = r.grows in
    record { reserve = 0; fits = let z : 0 * most ≡ 0 = omega arith in omega (arith, none, z); two = λ h. absurd (omega (arith, h, none)); few = omega (arith, a, b, is); grows = omega (arith, a, c, grown) }

-- what d edits cost at a page and below it
costs : (level d : ℕ) → 1 ≤ level → (2 * level) * d ≡ (2 * (level - 1)) * d + 2 * d
costs level d some = ap (λ (n : ℕ). n * d) (let e : 2 * level ≡ 2 * (level - 1) + 2 = omega (arith, some) in e) ∙ plus-times (2 * (level - 1)) 2 d

pub ample-join : (level most least k e d size more pieces old new next made : ℕ) → 1 ≤ level → 1 ≤ most → least ≤ most → IsAmple level most k e size pieces old new → more ≤ most + d → next ≤ new + (2 * (level - 1)) * d
    → (1 ≤ d) ⊎ ((1 ≤ size) × (size < least)) → (size < least) ⊎ (more < least) → made ≡ size + more → IsAmple level most (k + 1) (e + d) made pieces old next
ample-join level most least k e d size more pieces old new next made low some le r few grown reads small is =
    let a = r.fits in
    let b = r.few in
    let c = r.grows in
    let w = costs level d low in
    let t : (2 * level) * (e + d) ≡ (2 * level) * e + (2 * level) * d = times-plus (2 * level) e d in
    let f = times-one d most some in
    elim (cases_lt 0 size) [
      | inl full ↦
          let two = r.two (omega (arith, full)) in
          let g : (r.reserve + d) * most ≡ r.reserve * most + d * most = plus-times r.reserve d most in
          let h : 2 * most ≤ r.reserve * most = mul-le 2 most r.reserve most two (omega arith) in
          let fits : size + more ≤ (r.reserve + d) * most = ⊎_elim
          (λ (x : size < least). let z : size + more ≤ (r.reserve + d) * most = omega (arith, x, le, few, f, g, h) in z)
          (λ (x : more < least). elim (cases_lt 0 d) [
            | inl y ↦ let m : 1 * most ≤ d * most = mul-le 1 most d most (omega (arith, y)) (omega arith) in omega (arith, x, le, a, g, m)
            | inr y ↦ let v : size < least = ⊎_elim (λ (p : 1 ≤ d). absurd (omega (arith, p, y))) (λ (p : (1 ≤ size) × (size < least)). p.1) reads in omega (arith, v, le, few, f, g, h)
          ]) small in
          record { reserve = r.reserve + d; fits = omega (arith, fits, is); two = λ h. omega (arith, two); few = omega (arith, b); grows = omega (arith, c, w, t, grown) }
      | inr none ↦
          let d_some : 1 ≤ d = ⊎_elim (λ (p : 1 ≤ d). p) (λ (p : (1 ≤ size) × (size < least)). let q = p.0 in absurd (omega (arith, q, none))) reads in
          let g : (1 + d) * most ≡ 1 * most + d * most = plus-times 1 d most in
          record { reserve = 1 + d; fits = omega (arith, none, few, f, g, is); two = λ h. omega (arith, d_some); few = omega (arith, b); grows = omega (arith, c, w, t, grown, d_some) }
    ]

pub ample-next : (level most least k e d size more pieces old new next cs all last made : ℕ) → 1 ≤ level → 1 ≤ most → IsAmple level most k e size pieces old new → more ≤ most + d → next ≤ new + (2 * (level - 1)) * d
    → (1 ≤ d) ⊎ ((1 ≤ size) × (size < least)) → least ≤ size → ((r : ℕ) → size ≤ r * most → cs ≤ r) → all ≡ pieces + cs → last ≡ next + cs → made ≡ more → IsAmple level most (k + 1) (e + d) made all old last
ample-next level most least k e d size more pieces old new next cs all last made low some r few grown reads large small is more_pages same =
    let a = small r.reserve r.fits in
    let b = r.few in
    let c = r.grows in
    let w = costs level d low in
    let t : (2 * level) * (e + d) ≡ (2 * level) * e + (2 * level) * d = times-plus (2 * level) e d in
    let f = times-one d most some in
    let d_some : 1 ≤ d = ⊎_elim (λ (p : 1 ≤ d). p) (λ (p : (1 ≤ size) × (size < least)). let q = p.1 in absurd (omega (arith, q, large))) reads in
    let g : (1 + d) * most ≡ 1 * most + d * most = plus-times 1 d most in
    record { reserve = 1 + d; fits = omega (arith, few, f, g, same); two = λ h. omega (arith, d_some); few = omega (arith, a, b, is); grows = omega (arith, a, c, w, t, grown, d_some, more_pages) }

pub ample-front : (level most least k e size more before pieces old new next made : ℕ) → least ≤ most → IsAmple level most k e size before old new → more ≤ most + 0 → next ≤ new + (2 * (level - 1)) * 0 → 1 ≤ size → size < least → before ≡ pieces + 1 → made ≡ more + size
    → IsAmple level most k e made pieces old next
ample-front level most least k e size more before pieces old new next made le r few grown some small was is =
    let b = r.few in
    let c = r.grows in
    let two = r.two some in
    let h : 2 * most ≤ r.reserve * most = mul-le 2 most r.reserve most two (omega arith) in
    let z : (2 * (level - 1)) * 0 ≡ 0 = omega arith in
    record { reserve = r.reserve; fits = omega (arith, few, small, le, h, is); two = λ h. two; few = omega (arith, b, was); grows = omega (arith, c, grown, z) }

pub ample-end : (level most k e size pieces old new cs all last : ℕ) → IsAmple level most k e size pieces old new → ((r : ℕ) → size ≤ r * most → cs ≤ r) → all ≡ pieces + cs → last ≡ new + cs → (all ≤ k + e) × (last ≤ old + (2 * level) * e)
ample-end level most k e size pieces old new cs all last r few is grown =
    let a = few r.reserve r.fits in
    let b = r.few in
    let c = r.grows in
    (omega (arith, a, b, is), omega (arith, a, c, grown))
