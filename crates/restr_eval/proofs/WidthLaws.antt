-- The lengths of values of a kind.
use Rattle.std.proofs.Common.{◌≡◌, ◌≤◌, ℕ, true, inl, inr, refl, arith, nat_eq}
use Rattle.std.proofs.lemmas.Bool.{cases_Bool, eqb-true}
use Rattle.mapi_values.specs.Columns.{in_cell}
use Rattle.mapi_values.specs.Values.{in_field}
use Rattle.restr_codec.specs.Kinds.{has_width, value_width}
use Rattle.restr_eval.specs.Orders.{fixed_width}

-- the kinds that restrictions compare have the same width there
pub narrower : (kind n : ℕ) → has_width (fixed_width kind) n ≡ true → has_width (value_width kind) n ≡ true
unfolding fixed_width value_width in_cell in_field
narrower kind n h = elim (cases_Bool (nat_eq kind 0x0002)) [
  | inl y ↦ let e = eqb-true kind 0x0002 y in let h' = rw e at h in rw e h'
  | inr no1 ↦ elim (cases_Bool (nat_eq kind 0x0003)) [
    | inl y ↦ let e = eqb-true kind 0x0003 y in let h' = rw e at h in rw e h'
    | inr no2 ↦ elim (cases_Bool (nat_eq kind 0x000B)) [
      | inl y ↦ let e = eqb-true kind 0x000B y in let h' = rw e at h in rw e h'
      | inr no3 ↦ elim (cases_Bool (nat_eq kind 0x0014)) [
        | inl y ↦ let e = eqb-true kind 0x0014 y in let h' = rw e at h in rw e h'
        | inr no4 ↦ elim (cases_Bool (nat_eq kind 0x0040)) [
          | inl y ↦ let e = eqb-true kind 0x0040 y in let h' = rw e at h in rw e h'
          | inr no5 ↦ elim (cases_Bool (nat_eq kind 0x0048)) [
            | inl y ↦ let e = eqb-true kind 0x0048 y in let h' = rw e at h in rw e h'
            | inr no6 ↦ rw (no1, no2, no3, no4, no5, no6) refl
          ]
        ]
      ]
    ]
  ]
]

four : (kind n : ℕ) → kind ≡ 0x0003 → has_width (fixed_width kind) n ≡ true → n ≡ 4
unfolding fixed_width in_cell in_field
four kind n e h = eqb-true n 4 (rw e at h)

-- a number of 32 bits has four bytes
pub four_bytes : (kind n : ℕ) → has_width (fixed_width kind) n ≡ true → kind ≡ 0x0003 → 4 ≤ n
four_bytes kind n h e = omega (arith, four kind n e h)
