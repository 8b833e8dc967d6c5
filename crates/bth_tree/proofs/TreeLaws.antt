-- The children of an inner item, one after the other.
use Rattle.std.proofs.Common.{◌≡◌, ◌≤◌, ◌<◌, ◌+◌, ◌-◌, ◌^◌, if◌then◌else◌, inl, inr, ℕ, zero, suc, true, false, List, [], ◌∷◌, ◌++◌, length, take, drop, Option, Some, None, refl, sym, ap, ◌∙◌, arith}
use Rattle.std.proofs.lemmas.Bool.{cases_lt, le-ltb, lt-ltb}
use Rattle.std.proofs.lemmas.List.{nil_from_length}
use Rattle.std.specs.Option.{option_and_then}
use Rattle.byteorder.specs.Endian.{little_number}
use Rattle.bth_tree.specs.Records.{front, ordered, record_of, whole, within}
use Rattle.bth_tree.specs.Tree.{children, end_of, filled, gather, leaf, tree}
use Rattle.bth_tree.proofs.OptionLaws.{before, before-more, before-none, bind-some, none-some, some-injective}
use Rattle.bth_tree.proofs.RecordLaws.{whole-none, whole-short, whole-step}

pub tree-none : (get : ℕ → Option (List ℕ)) (k e n hid : ℕ) → get hid ≡ None → tree get k e n hid ≡ None
unfolding tree leaf
tree-none get k e zero hid h = rw h refl
tree-none get k e (suc n) hid h = rw h refl

tree-zero : (get : ℕ → Option (List ℕ)) (k e hid : ℕ) (x : List ℕ) → get hid ≡ Some x → tree get k e 0 hid ≡ option_and_then filled (ordered k e 0 (2 ^ 32) x)
unfolding tree leaf
tree-zero get k e hid x h = rw h refl

pub tree-leaf : (get : ℕ → Option (List ℕ)) (k e n hid : ℕ) (x : List ℕ) → get hid ≡ Some x → n ≡ 0 → tree get k e n hid ≡ option_and_then filled (ordered k e 0 (2 ^ 32) x)
tree-leaf get k e n hid x h z = ap (λ (m : ℕ). tree get k e m hid) z ∙ tree-zero get k e hid x h

pub tree-suc : (get : ℕ → Option (List ℕ)) (k e n hid : ℕ) (x : List ℕ) → get hid ≡ Some x → tree get k e (suc n) hid ≡ option_and_then filled (children (tree get k e n) k x)
unfolding tree
tree-suc get k e n hid x h = rw h refl

pub tree-inner : (get : ℕ → Option (List ℕ)) (k e n hid : ℕ) (x : List ℕ) → get hid ≡ Some x → 0 < n → tree get k e n hid ≡ option_and_then filled (children (tree get k e (n - 1)) k x)
tree-inner get k e n hid x h low =
    let up : n ≡ suc (n - 1) = omega arith in
    ap (λ (m : ℕ). tree get k e m hid) up ∙ tree-suc get k e (n - 1) hid x h

pub children-none : (child : ℕ → Option (List (ℕ × List ℕ))) (k : ℕ) → 0 < k → children child k [] ≡ Some []
unfolding children
children-none child k low = rw (whole-none k 4 low) refl

pub children-short : (child : ℕ → Option (List (ℕ × List ℕ))) (k : ℕ) (x : List ℕ) → 0 < length x → length x < k + 4 → children child k x ≡ None
unfolding children
children-short child k x a b = rw (whole-short k 4 x a b) refl

-- the key of the next pair
front-end : (k : ℕ) (y : List ℕ) (ps : List (ℕ × List ℕ)) → 0 < k → whole k 4 y ≡ Some ps → front k y ≡ end_of ps
front-end k y ps low h = elim (cases_lt (length y) (k + 4)) [
  | inl short ↦ rw (lt-ltb (length y) (k + 4) short) (elim (cases_lt 0 (length y)) [
    | inl some ↦ absurd (none-some ps (sym (whole-short k 4 y some short) ∙ h))
    | inr none ↦
        let e : y ≡ [] = nil_from_length y (omega arith) in
        ap end_of (some-injective [] ps (sym (whole-none k 4 low) ∙ ap (whole k 4) (sym e) ∙ h))
  ])
  | inr room ↦
      let b = bind-some (λ (rs : List (ℕ × List ℕ)). Some (record_of k (take (k + 4) y) ∷ rs)) (whole k 4 (drop (k + 4) y)) ps (sym (whole-step k 4 y low room) ∙ h) in
      rw (le-ltb (length y) (k + 4) room) (ap end_of (some-injective (record_of k (take (k + 4) y) ∷ b.0) ps b.2))
]

-- what a first child and the others come to
abbrev pub joined : ℕ → ℕ → Option (List (ℕ × List ℕ)) → Option (List (ℕ × List ℕ)) → Option (List (ℕ × List ℕ))
joined low high first others =
    option_and_then (λ (fs : List (ℕ × List ℕ)). option_and_then (λ (os : List (ℕ × List ℕ)). if within low high fs then Some (fs ++ os) else None) others) first

joined-none : (low high : ℕ) (first : Option (List (ℕ × List ℕ))) → joined low high first None ≡ None
joined-none low high None = refl
joined-none low high (Some fs) = refl

step-from : (child : ℕ → Option (List (ℕ × List ℕ))) (k : ℕ) (x : List ℕ) (o : Option (List (ℕ × List ℕ))) → 0 < k → whole k 4 (drop (k + 4) x) ≡ o
    → option_and_then (gather child) (option_and_then (λ (rs : List (ℕ × List ℕ)). Some (record_of k (take (k + 4) x) ∷ rs)) o)
    ≡ joined (little_number k (take (k + 4) x)) (front k (drop (k + 4) x)) (child (little_number 4 (drop k (take (k + 4) x)))) (option_and_then (gather child) o)
step-from child k x None low h = sym (joined-none (little_number k (take (k + 4) x)) (front k (drop (k + 4) x)) (child (little_number 4 (drop k (take (k + 4) x)))))
step-from child k x (Some ps) low h =
    ap (λ (high : ℕ). joined (little_number k (take (k + 4) x)) high (child (little_number 4 (drop k (take (k + 4) x)))) (gather child ps)) (sym (front-end k (drop (k + 4) x) ps low h))

-- an inner item's first pair, and the others
pub children-step : (child : ℕ → Option (List (ℕ × List ℕ))) (k : ℕ) (x : List ℕ) → 0 < k → k + 4 ≤ length x
    → children child k x ≡ joined (little_number k (take (k + 4) x)) (front k (drop (k + 4) x)) (child (little_number 4 (drop k (take (k + 4) x)))) (children child k (drop (k + 4) x))
unfolding children
children-step child k x low room =
    ap (option_and_then (gather child)) (whole-step k 4 x low room) ∙ step-from child k x (whole k 4 (drop (k + 4) x)) low refl

pub joined-first : (low high : ℕ) (first others : Option (List (ℕ × List ℕ))) → first ≡ None → joined low high first others ≡ None
joined-first low high first others h = rw h refl

pub joined-out : (low high : ℕ) (first others : Option (List (ℕ × List ℕ))) (fs : List (ℕ × List ℕ)) → first ≡ Some fs → within low high fs ≡ false → joined low high first others ≡ None
joined-out low high first None fs h f = rw h refl
joined-out low high first (Some os) fs h f = rw (h, f) refl

pub joined-in : (low high : ℕ) (first others : Option (List (ℕ × List ℕ))) (fs : List (ℕ × List ℕ)) → first ≡ Some fs → within low high fs ≡ true → joined low high first others ≡ before fs others
joined-in low high first None fs h t = rw h refl
joined-in low high first (Some os) fs h t = rw (h, t) refl

-- the rest of an inner item has no children to read, so there are none at all
pub inner-none : (get : ℕ → Option (List ℕ)) (k e n hid : ℕ) (x rest : List ℕ) (out out0 : List (ℕ × List ℕ)) → get hid ≡ Some x → 0 < n
    → before out (children (tree get k e (n - 1)) k rest) ≡ before out0 (children (tree get k e (n - 1)) k x)
    → children (tree get k e (n - 1)) k rest ≡ None → tree get k e n hid ≡ None
inner-none get k e n hid x rest out out0 h low so_far none =
    tree-inner get k e n hid x h low
    ∙ ap (option_and_then filled) (before-none out0 (children (tree get k e (n - 1)) k x) (sym so_far ∙ ap (before out) none))

pub child-none : (child : ℕ → Option (List (ℕ × List ℕ))) (k hid : ℕ) (rest : List ℕ) → 0 < k → k + 4 ≤ length rest → hid ≡ little_number 4 (drop k (take (k + 4) rest))
    → child hid ≡ None → children child k rest ≡ None
child-none child k hid rest low room is none =
    children-step child k rest low room
    ∙ joined-first (little_number k (take (k + 4) rest)) (front k (drop (k + 4) rest)) (child (little_number 4 (drop k (take (k + 4) rest)))) (children child k (drop (k + 4) rest)) (ap child (sym is) ∙ none)

pub child-out : (child : ℕ → Option (List (ℕ × List ℕ))) (k hid key end : ℕ) (rest : List ℕ) (fs : List (ℕ × List ℕ)) → 0 < k → k + 4 ≤ length rest
    → hid ≡ little_number 4 (drop k (take (k + 4) rest)) → key ≡ little_number k (take (k + 4) rest) → end ≡ front k (drop (k + 4) rest)
    → child hid ≡ Some fs → within key end fs ≡ false → children child k rest ≡ None
child-out child k hid key end rest fs low room is key_is end_is some out =
    children-step child k rest low room
    ∙ joined-out (little_number k (take (k + 4) rest)) (front k (drop (k + 4) rest)) (child (little_number 4 (drop k (take (k + 4) rest)))) (children child k (drop (k + 4) rest)) fs
    (ap child (sym is) ∙ some) (ap (λ (a : ℕ). within a (front k (drop (k + 4) rest)) fs) (sym key_is) ∙ ap (λ (b : ℕ). within key b fs) (sym end_is) ∙ out)

pub child-in : (child : ℕ → Option (List (ℕ × List ℕ))) (k hid key end : ℕ) (rest : List ℕ) (fs out : List (ℕ × List ℕ)) → 0 < k → k + 4 ≤ length rest
    → hid ≡ little_number 4 (drop k (take (k + 4) rest)) → key ≡ little_number k (take (k + 4) rest) → end ≡ front k (drop (k + 4) rest)
    → child hid ≡ Some fs → within key end fs ≡ true → before (out ++ fs) (children child k (drop (k + 4) rest)) ≡ before out (children child k rest)
child-in child k hid key end rest fs out low room is key_is end_is some inside =
    before-more out fs (children child k (drop (k + 4) rest))
    ∙ ap (before out) (sym (children-step child k rest low room
    ∙ joined-in (little_number k (take (k + 4) rest)) (front k (drop (k + 4) rest)) (child (little_number 4 (drop k (take (k + 4) rest)))) (children child k (drop (k + 4) rest)) fs
    (ap child (sym is) ∙ some) (ap (λ (a : ℕ). within a (front k (drop (k + 4) rest)) fs) (sym key_is) ∙ ap (λ (b : ℕ). within key b fs) (sym end_is) ∙ inside)))
