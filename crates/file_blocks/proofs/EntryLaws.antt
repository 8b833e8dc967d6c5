-- Entries by their keys.
use Rattle.std.proofs.Common.{Bool, true, false, ◌≡◌, ℕ, zero, suc, ◌+◌, ◌<◌, ◌≤◌, leb, eqb, List, [], ◌∷◌, length, get_or, Option, Some, None, refl, sym, ap, subst, ◌∙◌, arith, inl, inr}
use Rattle.std.proofs.lemmas.List.{get_or_default}
use Rattle.std.proofs.lemmas.Bool.{cases_lt, and_parts, leb-true, eq-eqb, ne_eqb}
use Rattle.btree_pages.specs.declared.entry.BlockEntry.{BlockEntry}
use Rattle.file_blocks.specs.Blocks.{entry_key, rise_from, entry_with, AllStand, Stands}

-- each key is one from low on
pub from-low : (low : ℕ) (es : List BlockEntry) (i : ℕ) (d : BlockEntry) → rise_from low es ≡ true → i < length es → low ≤ entry_key (get_or es i d)
from-low low [] i d rise within = absurd (not-below i within)
  where
    not-below : (n : ℕ) → n < 0 → ⊥
    not-below n h = omega (arith, h)
from-low low (e ∷ es) zero d rise within = leb-true low (entry_key e) (and_parts (leb low (entry_key e)) (rise_from (entry_key e + 1) es) rise).0
from-low low (e ∷ es) (suc i) d rise within =
    let parts = and_parts (leb low (entry_key e)) (rise_from (entry_key e + 1) es) rise in
    let first : low ≤ entry_key e = leb-true low (entry_key e) parts.0 in
    let later : entry_key e + 1 ≤ entry_key (get_or es i d) = from-low (entry_key e + 1) es i d parts.1 (omega (arith, within)) in
    omega (arith, first, later)

-- the entry at a place is that of its key
pub with-key : (low : ℕ) (es : List BlockEntry) (i : ℕ) (d : BlockEntry) → rise_from low es ≡ true → i < length es → entry_with (entry_key (get_or es i d)) es ≡ Some (get_or es i d)
with-key low [] i d rise within = absurd (not-below i within)
  where
    not-below : (n : ℕ) → n < 0 → ⊥
    not-below n h = omega (arith, h)
with-key low (e ∷ es) zero d rise within = rw (eq-eqb (entry_key e) (entry_key e) refl) refl
with-key low (e ∷ es) (suc i) d rise within =
    let parts = and_parts (leb low (entry_key e)) (rise_from (entry_key e + 1) es) rise in
    let later : entry_key e + 1 ≤ entry_key (get_or es i d) = from-low (entry_key e + 1) es i d parts.1 (omega (arith, within)) in
    rw (ne_eqb (entry_key e) (entry_key (get_or es i d)) (λ same. omega (arith, later, same)))
    (with-key (entry_key e + 1) es i d parts.1 (omega (arith, within)))

-- ---- halving

-- where a key stands, if anywhere: at or above low and below high
abbrev pub Between : List BlockEntry → ℕ → ℕ → ℕ → Type 0
Between es key low high = (i : ℕ) (d : BlockEntry) → i < length es → entry_key (get_or es i d) ≡ key → (low ≤ i) × (i < high)

-- a key stands after those that are below it
pub order : (low : ℕ) (es : List BlockEntry) (i j : ℕ) (d : BlockEntry) → rise_from low es ≡ true → i < j → j < length es → entry_key (get_or es i d) < entry_key (get_or es j d)
order low [] i j d rise less within = absurd (not-below j within)
  where
    not-below : (n : ℕ) → n < 0 → ⊥
    not-below n h = omega (arith, h)
order low (e ∷ es) i zero d rise less within = absurd (not-below i less)
  where
    not-below : (n : ℕ) → n < 0 → ⊥
    not-below n h = omega (arith, h)
order low (e ∷ es) zero (suc j) d rise less within =
    let parts = and_parts (leb low (entry_key e)) (rise_from (entry_key e + 1) es) rise in
    let later : entry_key e + 1 ≤ entry_key (get_or es j d) = from-low (entry_key e + 1) es j d parts.1 (omega (arith, within)) in
    omega (arith, later)
order low (e ∷ es) (suc i) (suc j) d rise less within =
    order (entry_key e + 1) es i j d (and_parts (leb low (entry_key e)) (rise_from (entry_key e + 1) es) rise).1 (omega (arith, less)) (omega (arith, within))

-- no entry of a key, where none stands
pub none-with : (es : List BlockEntry) (key : ℕ) → ((i : ℕ) (d : BlockEntry) → i < length es → entry_key (get_or es i d) ≡ key → ⊥) → entry_with key es ≡ None
none-with [] key none = refl
none-with (e ∷ es) key none =
    rw (ne_eqb (entry_key e) key (λ same. none 0 e (omega arith) same))
    (none-with es key (λ i d within same. none (suc i) d (omega (arith, within)) same))

-- ---- entries that stand

some_same : (e f : BlockEntry) → ◌≡◌ {A = Option BlockEntry} (Some f) (Some e) → f ≡ e
some_same e f h = cc

pub stands-with : (file : List ℕ) (eof key : ℕ) (es : List BlockEntry) (e : BlockEntry) → AllStand file eof es → entry_with key es ≡ Some e → Stands file eof e
stands-with file eof key [] e all is = absurd (none-some is)
  where
    none-some : ◌≡◌ {A = Option BlockEntry} None (Some e) → ⊥
    none-some h = cc
stands-with file eof key (f ∷ es) e all is = by_test (eqb (entry_key f) key) refl (λ other. stands-with file eof key es e all.1 other)
  where
    by_test : (t : Bool) → eqb (entry_key f) key ≡ t → (entry_with key es ≡ Some e → Stands file eof e) → Stands file eof e
    by_test true here later = subst (Stands file eof) (some_same e f (sym (rw here refl) ∙ is)) all.0
    by_test false other later = later (sym (rw other refl) ∙ is)

-- ---- halving, step by step

-- keys don't fall
at-most : (es : List BlockEntry) (i j : ℕ) (d : BlockEntry) → rise_from 0 es ≡ true → i ≤ j → j < length es → entry_key (get_or es i d) ≤ entry_key (get_or es j d)
at-most es i j d rise le within = elim (cases_lt i j) [
  | inl less ↦ let h : entry_key (get_or es i d) < entry_key (get_or es j d) = order 0 es i j d rise less within in omega (arith, h)
  | inr more ↦ let same : i ≡ j = omega (arith, le, more) in let e : entry_key (get_or es i d) ≡ entry_key (get_or es j d) = ap (λ (k : ℕ). entry_key (get_or es k d)) same in omega (arith, e)
]

pub go-up : (es : List BlockEntry) (key low high middle : ℕ) (d0 : BlockEntry) → rise_from 0 es ≡ true → Between es key low high → middle < length es
    → entry_key (get_or es middle d0) < key → Between es key (middle + 1) high
go-up es key low high middle d0 rise between within below i d there same =
    let old : (low ≤ i) × (i < high) = between i d there same in
    let here : entry_key (get_or es i d0) ≡ key = ap entry_key (get_or_default es i d0 d there) ∙ same in (
      elim (cases_lt middle i) [
        | inl after ↦ let h : middle + 1 ≤ i = omega (arith, after) in h
        | inr before ↦ let h : entry_key (get_or es i d0) ≤ entry_key (get_or es middle d0) = at-most es i middle d0 rise before within in omega (arith, h, here, below)
      ],
      old.1,
    )

pub go-down : (es : List BlockEntry) (key low high middle : ℕ) (d0 : BlockEntry) → rise_from 0 es ≡ true → Between es key low high → middle < length es
    → key < entry_key (get_or es middle d0) → Between es key low middle
go-down es key low high middle d0 rise between within above i d there same =
    let old : (low ≤ i) × (i < high) = between i d there same in
    let here : entry_key (get_or es i d0) ≡ key = ap entry_key (get_or_default es i d0 d there) ∙ same in (
      old.0,
      elim (cases_lt i middle) [
        | inl before ↦ before
        | inr after ↦ let h : entry_key (get_or es middle d0) ≤ entry_key (get_or es i d0) = at-most es middle i d0 rise after there in omega (arith, h, here, above)
      ],
    )
