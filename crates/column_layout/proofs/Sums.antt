-- How many columns pass a test, and how wide their cells are together.
use Rattle.std.proofs.Common.{◌≡◌, ℕ, ◌+◌, ◌*◌, ◌≤◌, ◌<◌, Bool, true, false, List, [], ◌∷◌, length, get_or, drop, zero, suc, arith, refl, ap, subst, inl, inr, ◌||◌}
use Rattle.std.proofs.lemmas.Bool.{cases_Bool, false≢true}
use Rattle.mapi_values.specs.declared.column.Column.{Column}
use Rattle.mapi_values.specs.Columns.{cell_width, in_cell, has_column, is_column}
use Rattle.mapi_values.specs.Values.{in_field}
use Rattle.column_layout.specs.Layout.{IsOneOf, count_where, width_of, widths_where}

-- all that pass one test pass another
pub record Implies (p q : Column → Bool) : Type 0 where
  pub implies : (c : Column) → p c ≡ true → q c ≡ true

pub count-le : (p q : Column → Bool) (cs : List Column) → Implies p q → count_where p cs ≤ count_where q cs
count-le p q [] h = omega arith
count-le p q (c ∷ cs) h = let rest = count-le p q cs h in elim (cases_Bool (p c)) [
  | inl t ↦ rw (t, h.implies c t) (omega arith)
  | inr f ↦ rw f (omega arith)
]

pub widths-le : (p q : Column → Bool) (cs : List Column) → Implies p q → widths_where p cs ≤ widths_where q cs
widths-le p q [] h = omega arith
widths-le p q (c ∷ cs) h = let rest = widths-le p q cs h in elim (cases_Bool (p c)) [
  | inl t ↦ rw (t, h.implies c t) (omega arith)
  | inr f ↦ rw f (omega arith)
]

-- one column more passes the other test
pub count-grow : (p q : Column → Bool) (c : Column) (cs : List Column) → Implies p q → IsOneOf cs c → p c ≡ false → q c ≡ true → count_where p cs + 1 ≤ count_where q cs
count-grow p q c [] h one fails passes = absurd one
count-grow p q c (d ∷ ds) h one fails passes = elim one [
  | inl same ↦
      let rest = count-le p q ds h in
      let fails' : p d ≡ false = subst (λ x. p x ≡ false) same fails in
      let passes' : q d ≡ true = subst (λ x. q x ≡ true) same passes in
      rw (fails', passes') (omega arith)
  | inr later ↦
      let rest = count-grow p q c ds h later fails passes in
      elim (cases_Bool (p d)) [
        | inl t ↦ rw (t, h.implies d t) (omega arith)
        | inr f ↦ rw f (omega arith)
      ]
]

pub widths-grow : (p q : Column → Bool) (c : Column) (cs : List Column) → Implies p q → IsOneOf cs c → p c ≡ false → q c ≡ true → widths_where p cs + width_of c ≤ widths_where q cs
widths-grow p q c [] h one fails passes = absurd one
widths-grow p q c (d ∷ ds) h one fails passes = elim one [
  | inl same ↦
      let rest = widths-le p q ds h in
      let fails' : p d ≡ false = subst (λ x. p x ≡ false) same fails in
      let passes' : q d ≡ true = subst (λ x. q x ≡ true) same passes in
      let width : width_of c ≡ width_of d = ap width_of same in
      rw (fails', passes', width) (omega arith)
  | inr later ↦
      let rest = widths-grow p q c ds h later fails passes in
      elim (cases_Bool (p d)) [
        | inl t ↦ rw (t, h.implies d t) (omega arith)
        | inr f ↦ rw f (omega arith)
      ]
]

-- two tests that fails column passes both, and a column that passes neither
pub count-both : (p q : Column → Bool) (c : Column) (cs : List Column) → ((d : Column) → p d ≡ true → q d ≡ false) → IsOneOf cs c → p c ≡ false → q c ≡ false → count_where p cs + count_where q cs + 1 ≤ length cs
count-both p q c [] apart one fails fails' = absurd one
count-both p q c (d ∷ ds) apart one fails fails' = elim one [
  | inl same ↦
      let rest = count-few p q ds apart in
      let p_no : p d ≡ false = subst (λ x. p x ≡ false) same fails in
      let q_no : q d ≡ false = subst (λ x. q x ≡ false) same fails' in
      rw (p_no, q_no) (omega arith)
  | inr later ↦
      let rest = count-both p q c ds apart later fails fails' in
      elim (cases_Bool (p d)) [
        | inl t ↦ rw (t, apart d t) (omega arith)
        | inr f ↦ rw f (elim (cases_Bool (q d)) [ inl t ↦ rw t (omega arith) | inr g ↦ rw g (omega arith) ])
      ]
]
  where
    count-few : (p q : Column → Bool) (cs : List Column) → ((d : Column) → p d ≡ true → q d ≡ false) → count_where p cs + count_where q cs ≤ length cs
    count-few p q [] apart = omega arith
    count-few p q (d ∷ ds) apart = let rest = count-few p q ds apart in elim (cases_Bool (p d)) [
      | inl t ↦ rw (t, apart d t) (omega arith)
      | inr f ↦ rw f (elim (cases_Bool (q d)) [ inl t ↦ rw t (omega arith) | inr g ↦ rw g (omega arith) ])
    ]

-- not more than there are
pub count-small : (p : Column → Bool) (cs : List Column) → count_where p cs ≤ length cs
count-small p [] = omega arith
count-small p (c ∷ cs) = let rest = count-small p cs in elim (cases_Bool (p c)) [ inl t ↦ rw t (omega arith) | inr f ↦ rw f (omega arith) ]

-- a column that is there passes the test
pub count-has : (p : Column → Bool) (id kind : ℕ) (cs : List Column) → has_column cs id kind ≡ true → ((c : Column) → is_column id kind c ≡ true → p c ≡ true) → 1 ≤ count_where p cs
count-has p id kind [] has passes = absurd (false≢true has)
count-has p id kind (c ∷ cs) has passes = elim (cases_Bool (is_column id kind c)) [
  | inl t ↦ rw (passes c t) (omega arith)
  | inr f ↦ let rest = count-has p id kind cs (subst (λ b. (b || has_column cs id kind) ≡ true) f has) passes in elim (cases_Bool (p c)) [ inl t ↦ rw t (omega arith) | inr g ↦ rw g (omega arith) ]
]

-- the column that stands for none
abbrev pub blank : Column
blank = record { tag = record { id = 0; kind = 0 }; at = 0; width = 0; bit = 0 }

-- one that passes is among those from its index on
pub count-some : (p : Column → Bool) (cs : List Column) (i : ℕ) (d : Column) → i < length cs → p (get_or cs i d) ≡ true → 1 ≤ count_where p (drop i cs)
count-some p [] i d less passes = absurd (omega arith)
count-some p (c ∷ cs) zero d less passes = rw passes (omega arith)
count-some p (c ∷ cs) (suc i) d less passes = count-some p cs i d (omega arith) passes

pub widths-some : (p : Column → Bool) (cs : List Column) (i : ℕ) (d : Column) → i < length cs → p (get_or cs i d) ≡ true → width_of (get_or cs i d) ≤ widths_where p (drop i cs)
widths-some p [] i d less passes = absurd (omega arith)
widths-some p (c ∷ cs) zero d less passes = rw passes (omega arith)
widths-some p (c ∷ cs) (suc i) d less passes = widths-some p cs i d (omega arith) passes

-- a cell has 1 to 8 bytes
pub cell-small : (kind : ℕ) → cell_width kind ≤ 8
unfolding cell_width in_cell in_field
cell-small kind = grind arith

pub width-small : (c : Column) → width_of c ≤ 8
width-small c = cell-small c.tag.kind

pub widths-small : (p : Column → Bool) (cs : List Column) → widths_where p cs ≤ 8 * length cs
widths-small p [] = omega arith
widths-small p (c ∷ cs) = let rest = widths-small p cs in let here = width-small c in elim (cases_Bool (p c)) [ inl t ↦ rw t (omega arith) | inr f ↦ rw f (omega arith) ]

-- a column that is there
pub one-has : (id kind : ℕ) (c : Column) (cs : List Column) → IsOneOf cs c → is_column id kind c ≡ true → has_column cs id kind ≡ true
one-has id kind c [] one is = absurd one
one-has id kind c (d ∷ ds) one is = elim one [
  | inl same ↦ let is' : is_column id kind d ≡ true = subst (λ x. is_column id kind x ≡ true) same is in rw is' refl
  | inr later ↦ let rest = one-has id kind c ds later is in elim (cases_Bool (is_column id kind d)) [ inl t ↦ rw t refl | inr f ↦ rw f rest ]
]
