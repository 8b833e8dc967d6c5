-- Pairs of an inner item that cover records, part by part, below a bound that need not be the highest.
use Rattle.std.proofs.Common.{◌≡◌, ◌≤◌, ◌<◌, ◌^◌, ℕ, suc, true, List, [], ◌∷◌, ◌++◌, length, Option, Some, refl, sym, ap, ◌∙◌, subst, append_assoc, length-append, arith}
use Rattle.std.proofs.lemmas.List.{append-nil}
use Rattle.byteorder.specs.Endian.{little_number}
use Rattle.bth_tree.specs.Records.{within}
use Rattle.bth_tree.specs.Tree.{end_of, gather}
use Rattle.bth_tree.proofs.MakeLaws.{within-high}
use Rattle.bth_tree.proofs.OptionLaws.{some-injective}
use Rattle.bth_tree.proofs.WholeLaws.{AreSome, first-within, gather-parts, some-within, within-append, within-first, within-lower}

-- the first key, or a bound where there is none
abbrev pub end_from : ℕ → List (ℕ × List ℕ) → ℕ
end_from high [] = high
end_from high (p ∷ ps) = p.0

abbrev pub Covers : (ℕ → Option (List (ℕ × List ℕ))) → ℕ → List (ℕ × List ℕ) → List (ℕ × List ℕ) → Type 0
Covers child high [] rs = rs ≡ []
Covers child high (p ∷ ps) rs =
    (part : List (ℕ × List ℕ)) × (rest : List (ℕ × List ℕ)) × (rs ≡ part ++ rest) × (0 < length part) × (child (little_number 4 p.1) ≡ Some part)
    × (within p.0 (end_from high ps) part ≡ true) × Covers child high ps rest

pub end-same : (ps : List (ℕ × List ℕ)) → end_from (2 ^ 32) ps ≡ end_of ps
end-same [] = refl
end-same (p ∷ ps) = refl

pub end-append : (high : ℕ) (ps qs : List (ℕ × List ℕ)) → end_from high (ps ++ qs) ≡ end_from (end_from high qs) ps
end-append high [] qs = refl
end-append high (p ∷ ps) qs = refl

pub from-gather : (child : ℕ → Option (List (ℕ × List ℕ))) → AreSome child → (ps rs : List (ℕ × List ℕ)) → gather child ps ≡ Some rs → Covers child (2 ^ 32) ps rs
from-gather child some [] rs h = sym (some-injective [] rs h)
from-gather child some (p ∷ ps) rs h =
    let g = gather-parts child p ps rs h in
    (g.0, g.1, sym g.5, some (little_number 4 p.1) g.0 g.2, g.2, ap (λ (n : ℕ). within p.0 n g.0) (end-same ps) ∙ g.4, from-gather child some ps g.1 g.3)

gather-cons : (child : ℕ → Option (List (ℕ × List ℕ))) (p : ℕ × List ℕ) (ps first others : List (ℕ × List ℕ)) → child (little_number 4 p.1) ≡ Some first → gather child ps ≡ Some others
    → within p.0 (end_of ps) first ≡ true → gather child (p ∷ ps) ≡ Some (first ++ others)
gather-cons child p ps first others a b t = rw (a, b, t) refl

pub to-gather : (child : ℕ → Option (List (ℕ × List ℕ))) (ps rs : List (ℕ × List ℕ)) → Covers child (2 ^ 32) ps rs → gather child ps ≡ Some rs
to-gather child [] rs h = ap Some (sym h)
to-gather child (p ∷ ps) rs h =
    gather-cons child p ps h.0 h.1 h.4 (to-gather child ps h.1 h.6) (ap (λ (n : ℕ). within p.0 n h.0) (sym (end-same ps)) ∙ h.5) ∙ ap Some (sym h.2)

pub cover-split : (child : ℕ → Option (List (ℕ × List ℕ))) (high : ℕ) (ps qs rs : List (ℕ × List ℕ)) → Covers child high (ps ++ qs) rs
    → (a : List (ℕ × List ℕ)) × (b : List (ℕ × List ℕ)) × (rs ≡ a ++ b) × Covers child (end_from high qs) ps a × Covers child high qs b
cover-split child high [] qs rs h = ([], rs, refl, refl, h)
cover-split child high (p ∷ ps) qs rs h =
    let s = cover-split child high ps qs h.1 h.6 in (
      h.0 ++ s.0,
      s.1,
      h.2 ∙ ap (λ (w : List (ℕ × List ℕ)). h.0 ++ w) s.2 ∙ sym (append_assoc h.0 s.0 s.1),
      (h.0, s.0, refl, h.3, h.4, ap (λ (n : ℕ). within p.0 n h.0) (sym (end-append high ps qs)) ∙ h.5, s.3),
      s.4,
    )

pub cover-append : (child : ℕ → Option (List (ℕ × List ℕ))) (high : ℕ) (ps qs a b : List (ℕ × List ℕ)) → Covers child (end_from high qs) ps a → Covers child high qs b → Covers child high (ps ++ qs) (a ++ b)
cover-append child high [] qs a b h g = subst (λ (w : List (ℕ × List ℕ)). Covers child high qs (w ++ b)) (sym h) g
cover-append child high (p ∷ ps) qs a b h g = (
  h.0,
  h.1 ++ b,
  ap (λ (w : List (ℕ × List ℕ)). w ++ b) h.2 ∙ append_assoc h.0 h.1 b,
  h.3,
  h.4,
  ap (λ (n : ℕ). within p.0 n h.0) (end-append high ps qs) ∙ h.5,
  cover-append child high ps qs h.1 b h.6 g,
)

pub cover-kept : (old new : ℕ → Option (List (ℕ × List ℕ))) (high : ℕ) (ps rs : List (ℕ × List ℕ)) → ((hid : ℕ) (ws : List (ℕ × List ℕ)) → old hid ≡ Some ws → new hid ≡ Some ws)
    → Covers old high ps rs → Covers new high ps rs
cover-kept old new high [] rs keeps h = h
cover-kept old new high (p ∷ ps) rs keeps h = (h.0, h.1, h.2, h.3, keeps (little_number 4 p.1) h.0 h.4, h.5, cover-kept old new high ps h.1 keeps h.6)

pub cover-within : (child : ℕ → Option (List (ℕ × List ℕ))) (high : ℕ) (ps rs : List (ℕ × List ℕ)) → Covers child high ps rs → (end_from high ps ≤ high) × (within (end_from high ps) high rs ≡ true)
cover-within child high [] rs h = (omega arith, ap (within high high) h)
cover-within child high (p ∷ ps) rs h =
    let next = cover-within child high ps h.1 h.6 in
    let first = some-within p.0 (end_from high ps) h.0 h.3 h.5 in
    (omega (arith, next.0, first), ap (within p.0 high) h.2 ∙ within-append p.0 (end_from high ps) high h.0 h.1 (omega (arith, first)) next.0 h.5 next.1)

within-left : (low high less most : ℕ) (xs ys : List (ℕ × List ℕ)) → within low high (xs ++ ys) ≡ true → within less most xs ≡ true → within less high xs ≡ true
within-left low high less most [] ys h w = refl
within-left low high less most (x ∷ xs) ys h w =
    let f = first-within low high x (xs ++ ys) h in
    let g = first-within less most x xs w in
    within-first less high x xs g.0 f.1 (within-left (suc x.0) high (suc x.0) most xs ys f.2 g.2)

pub within-right : (low high : ℕ) (xs ys : List (ℕ × List ℕ)) → within low high (xs ++ ys) ≡ true → within low high ys ≡ true
within-right low high [] ys h = h
within-right low high (x ∷ xs) ys h =
    let f = first-within low high x (xs ++ ys) h in
    within-lower (suc x.0) low high ys (omega (arith, f.0)) (within-right (suc x.0) high xs ys f.2)

-- records that stand below a lower bound
pub cover-narrow : (child : ℕ → Option (List (ℕ × List ℕ))) (most low high : ℕ) (ps rs : List (ℕ × List ℕ)) → Covers child most ps rs → within low high rs ≡ true → Covers child high ps rs
cover-narrow child most low high [] rs h w = h
cover-narrow child most low high (p ∷ []) rs h w =
    let all = ap (within low high) (sym h.2) ∙ w in
    (h.0, h.1, h.2, h.3, h.4, within-left low high p.0 most h.0 h.1 all h.5, h.6)
cover-narrow child most low high (p ∷ (q ∷ ps)) rs h w =
    let all = ap (within low high) (sym h.2) ∙ w in
    (h.0, h.1, h.2, h.3, h.4, h.5, cover-narrow child most low high (q ∷ ps) h.1 h.6 (within-right low high h.0 h.1 all))

pub cover-widen : (child : ℕ → Option (List (ℕ × List ℕ))) (high most : ℕ) (ps rs : List (ℕ × List ℕ)) → high ≤ most → Covers child high ps rs → Covers child most ps rs
cover-widen child high most [] rs le h = h
cover-widen child high most (p ∷ []) rs le h = (h.0, h.1, h.2, h.3, h.4, within-high p.0 high most h.0 h.5 le, h.6)
cover-widen child high most (p ∷ (q ∷ ps)) rs le h = (h.0, h.1, h.2, h.3, h.4, h.5, cover-widen child high most (q ∷ ps) h.1 le h.6)

from-first : (low high : ℕ) (part : List (ℕ × List ℕ)) → within low high part ≡ true → 0 < length part → within (end_of part) high part ≡ true
from-first low high [] h some = absurd (omega arith)
from-first low high (r ∷ part) h some = let f = first-within low high r part h in within-first r.0 high r part (omega arith) f.1 f.2

low-first : (low high : ℕ) (part rest : List (ℕ × List ℕ)) → within low high (part ++ rest) ≡ true → 0 < length rest → low ≤ end_of rest
low-first low high [] [] h some = absurd (omega arith)
low-first low high [] (q ∷ qs) h some = (first-within low high q qs h).0
low-first low high (p ∷ ps) rest h some = let f = first-within low high p (ps ++ rest) h in omega (arith, f.0, low-first (suc p.0) high ps rest f.2 some)

below-rest : (low high : ℕ) (part rest : List (ℕ × List ℕ)) → within low high (part ++ rest) ≡ true → 0 < length rest → within low (end_of rest) part ≡ true
below-rest low high [] rest h some = refl
below-rest low high (r ∷ part) rest h some =
    let f = first-within low high r (part ++ rest) h in
    within-first low (end_of rest) r part f.0 (low-first (suc r.0) high part rest f.2 some) (below-rest (suc r.0) high part rest f.2 some)

-- one leaf of all records
pub one-leaf : (child : ℕ → Option (List (ℕ × List ℕ))) (p : ℕ × List ℕ) (rs : List (ℕ × List ℕ)) → within 0 (2 ^ 32) rs ≡ true → 0 < length rs → p.0 ≡ end_of rs → child (little_number 4 p.1) ≡ Some rs
    → gather child (p ∷ []) ≡ Some rs
one-leaf child p rs w some first here =
    to-gather child (p ∷ []) rs (rs, [], sym (append-nil rs), some, here, ap (λ (n : ℕ). within n (2 ^ 32) rs) first ∙ from-first 0 (2 ^ 32) rs w some, refl)

-- two leaves, one behind the other
pub two-leaves : (child : ℕ → Option (List (ℕ × List ℕ))) (p q : ℕ × List ℕ) (xs ys : List (ℕ × List ℕ)) → within 0 (2 ^ 32) (xs ++ ys) ≡ true → 0 < length xs → 0 < length ys
    → p.0 ≡ end_of xs → q.0 ≡ end_of ys → child (little_number 4 p.1) ≡ Some xs → child (little_number 4 q.1) ≡ Some ys → gather child (p ∷ q ∷ []) ≡ Some (xs ++ ys)
two-leaves child p q xs ys w a b first second here there =
    let left = from-first 0 (end_of ys) xs (below-rest 0 (2 ^ 32) xs ys w b) a in
    let right = from-first 0 (2 ^ 32) ys (within-right 0 (2 ^ 32) xs ys w) b in
    let back : Covers child (2 ^ 32) (q ∷ []) ys = (ys, [], sym (append-nil ys), b, there, ap (λ (n : ℕ). within n (2 ^ 32) ys) second ∙ right, refl) in
    to-gather child (p ∷ q ∷ []) (xs ++ ys)
    (xs, ys, refl, a, here, ap (λ (n : ℕ). within n q.0 xs) first ∙ ap (λ (n : ℕ). within (end_of xs) n xs) second ∙ left, back)

pub covers-none : (child : ℕ → Option (List (ℕ × List ℕ))) (high : ℕ) (ps rs : List (ℕ × List ℕ)) → ps ≡ [] → Covers child high ps rs → rs ≡ []
covers-none child high [] rs e h = h
covers-none child high (p ∷ ps) rs e h = absurd (omega (arith, ap length e))

pub covers-some : (child : ℕ → Option (List (ℕ × List ℕ))) (high : ℕ) (ps rs : List (ℕ × List ℕ)) → Covers child high ps rs → 0 < length ps → 0 < length rs
covers-some child high [] rs h n = absurd (omega (arith, n))
covers-some child high (p ∷ ps) rs h n = omega (arith, ap length h.2, length-append h.0 h.1, h.3)

pub end-left : (xs ys : List (ℕ × List ℕ)) → 0 < length xs → end_of (xs ++ ys) ≡ end_of xs
end-left [] ys n = absurd (omega (arith, n))
end-left (x ∷ xs) ys n = refl

pub within-front : (low high : ℕ) (xs ys : List (ℕ × List ℕ)) → within low high (xs ++ ys) ≡ true → within low high xs ≡ true
within-front low high [] ys h = refl
within-front low high (x ∷ xs) ys h =
    let f = first-within low high x (xs ++ ys) h in
    within-first low high x xs f.0 f.1 (within-front (suc x.0) high xs ys f.2)
