-- What an id names.
use Rattle.std.proofs.Common.{◌≡◌, ℕ, ◌%◌, ◌==◌, List, [], Option, Some, None, refl, inl, inr, arith}
use Rattle.std.proofs.lemmas.Bool.{cases_Bool, eq-eqb, ne_eqb}
use Rattle.std.specs.List.{concat}
use Rattle.std.specs.Option.{option_map}
use Rattle.node_values.specs.Named.{KeepsData, named}

map-some : {X Y : Type 0} (f : X → Y) (o : Option X) (y : Y) → option_map f o ≡ Some y → (x : X) × (o ≡ Some x) × (option_map f (Some x) ≡ Some y)
map-some f None y h = absurd (absent y h)
  where
    absent : {Y : Type 0} (y : Y) → None ≡ Some y → ⊥
    absent y e = cc
map-some f (Some x) y h = (x, refl, h)

-- ---- the three cases

pub named-zero : (get : ℕ → Option (List ℕ)) (sub : ℕ → Option (List (List ℕ))) → named get sub 0 ≡ Some []
unfolding named
named-zero get sub = refl

pub named-item : (get : ℕ → Option (List ℕ)) (sub : ℕ → Option (List (List ℕ))) (id : ℕ) → (id ≡ 0 → ⊥) → id % 32 ≡ 0 → named get sub id ≡ get id
unfolding named
named-item get sub id some low = rw (ne_eqb id 0 some, eq-eqb (id % 32) 0 low) refl

pub named-sub : (get : ℕ → Option (List ℕ)) (sub : ℕ → Option (List (List ℕ))) (id : ℕ) → id % 32 ≡ 31 → named get sub id ≡ option_map concat (sub id)
unfolding named
named-sub get sub id kind = rw (ne_eqb id 0 (λ e. omega arith), ne_eqb (id % 32) 0 (λ e. omega arith)) refl

-- what was named is named still, where the items and the subnodes stay
pub named-kept : (get get2 : ℕ → Option (List ℕ)) (sub sub2 : ℕ → Option (List (List ℕ))) → ((hid : ℕ) (x : List ℕ) → get hid ≡ Some x → get2 hid ≡ Some x) → KeepsData sub sub2
    → (n : ℕ) (x : List ℕ) → named get sub n ≡ Some x → named get2 sub2 n ≡ Some x
unfolding named
named-kept get get2 sub sub2 keeps holds n x h = elim (cases_Bool (n == 0)) [
  | inl z ↦ let e : Some [] ≡ Some x = rw z at h in rw z e
  | inr f ↦ elim (cases_Bool (n % 32 == 0)) [
    | inl t ↦ let e : get n ≡ Some x = rw (f, t) at h in rw (f, t) (keeps n x e)
    | inr u ↦
        let a = map-some concat (sub n) x (rw (f, u) at h) in
        rw (f, u, holds n a.0 a.1) a.2
  ]
]
