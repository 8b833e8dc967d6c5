-- What a record of fixed fields reads back, and what writing over it leaves.
use Rattle.std.proofs.Common.{◌≡◌, ℕ, ◌+◌, ◌-◌, ◌^◌, ◌<◌, ◌≤◌, ◌⊎◌, inl, inr, true, eqb, leb, ◌&&◌, List, [], ◌∷◌, ◌++◌, length, get_or, take, drop, refl, ap, ◌∙◌, arith}
use Rattle.std.proofs.lemmas.Bool.{cases_Bool, and_parts, or_cases, eqb-true, leb-true}
use Rattle.std.proofs.lemmas.List.{drop_at, get_or-take, get_or-drop, get_or_append_left, get_or-append_right, length-take-le, length-drop, length-append}
use Rattle.byteorder.specs.Endian.{little_bytes, little_number}
use Rattle.byteorder.specs.Numbers.{length-bytes_low_first, little_number-reads_back}
use Rattle.pst_base.specs.Cells.{Cell, written, is_beside, is_apart, value_at, Fit}
use Rattle.pst_base.specs.Fields.{number_at, replaced}
use Rattle.pst_base.proofs.Numbers.{number_at-same}

-- ---- one write

pub length-replaced : (at : ℕ) (bs b : List ℕ) → at + length bs ≤ length b → length (replaced at bs b) ≡ length b
unfolding replaced
length-replaced at bs b within =
    let front = length-take-le at b (omega arith) in
    let back = length-drop (at + length bs) b in
    let inner = length-append bs (drop (at + length bs) b) in
    let whole = length-append (take at b) (bs ++ drop (at + length bs) b) in
    omega (arith, front, back, inner, whole)

pub get_or-replaced_below : (at : ℕ) (bs b : List ℕ) (i : ℕ) → at + length bs ≤ length b → i < at → get_or (replaced at bs b) i 0 ≡ get_or b i 0
unfolding replaced
get_or-replaced_below at bs b i within low =
    let front = length-take-le at b (omega arith) in
    get_or_append_left (take at b) (bs ++ drop (at + length bs) b) 0 i (omega arith) ∙ get_or-take at b i 0 low

pub get_or-replaced_same : (at : ℕ) (bs b : List ℕ) (i : ℕ) → at + length bs ≤ length b → i < length bs → get_or (replaced at bs b) (at + i) 0 ≡ get_or bs i 0
unfolding replaced
get_or-replaced_same at bs b i within low =
    let front : length (take at b) ≡ at = length-take-le at b (omega arith) in
    let e : at + i - at ≡ i = omega arith in
    get_or-append_right (take at b) (bs ++ drop (at + length bs) b) at (at + i) 0 front (omega arith)
    ∙ ap (λ (k : ℕ). get_or (bs ++ drop (at + length bs) b) k 0) e
    ∙ get_or_append_left bs (drop (at + length bs) b) 0 i low

pub get_or-replaced_above : (at : ℕ) (bs b : List ℕ) (i : ℕ) → at + length bs ≤ length b → at + length bs ≤ i → get_or (replaced at bs b) i 0 ≡ get_or b i 0
unfolding replaced
get_or-replaced_above at bs b i within high =
    let front : length (take at b) ≡ at = length-take-le at b (omega arith) in
    let e : at + length bs + (i - at - length bs) ≡ i = omega arith in
    get_or-append_right (take at b) (bs ++ drop (at + length bs) b) at i 0 front (omega arith)
    ∙ get_or-append_right bs (drop (at + length bs) b) (length bs) (i - at) 0 refl (omega arith)
    ∙ get_or-drop (at + length bs) b (i - at - length bs) 0
    ∙ ap (λ (k : ℕ). get_or b k 0) e

-- ---- one cell, of n bytes

len_of : (n x : ℕ) → length (little_bytes n x) ≡ n
len_of n x = length-bytes_low_first 0 n x

number_in : (n at x : ℕ) (b : List ℕ) → at + n ≤ length b → x < 256 ^ n → number_at n at (replaced at (little_bytes n x) b) ≡ x
unfolding number_at replaced
number_in n at x b within fit =
    let rest = drop (at + length (little_bytes n x)) b in
    ap (little_number n) (drop_at (take at b) (little_bytes n x ++ rest) at (length-take-le at b (omega arith)))
    ∙ little_number-reads_back n x rest fit

number_beside : (n p k at x : ℕ) (b : List ℕ) → at + k ≤ length b → (p + n ≤ at) ⊎ (at + k ≤ p)
    → number_at n p (replaced at (little_bytes k x) b) ≡ number_at n p b
number_beside n p k at x b within (inl below) =
    let len = len_of k x in
    number_at-same n p p (replaced at (little_bytes k x) b) b (λ i h. get_or-replaced_below at (little_bytes k x) b (p + i) (omega arith) (omega arith))
number_beside n p k at x b within (inr above) =
    let len = len_of k x in
    number_at-same n p p (replaced at (little_bytes k x) b) b (λ i h. get_or-replaced_above at (little_bytes k x) b (p + i) (omega arith) (omega arith))

-- ---- all cells

pub length-written : (cs : List Cell) (b : List ℕ) → Fit (length b) cs → length (written cs b) ≡ length b
unfolding written
length-written [] b fit = refl
length-written (c ∷ cs) b fit =
    let same = length-written cs b fit.2 in
    let len = len_of c.size c.value in
    let within = fit.0 in
    length-replaced c.at (little_bytes c.size c.value) (written cs b) (omega arith) ∙ same

-- a field reads the value of its cell, and what no cell has stays
pub number_at-written : (n at : ℕ) (cs : List Cell) (b : List ℕ) → Fit (length b) cs → is_apart n at cs ≡ true
    → number_at n at (written cs b) ≡ value_at n at cs (number_at n at b)
unfolding written is_apart value_at
number_at-written n at [] b fit apart = refl
number_at-written n at (c ∷ cs) b fit apart = elim (cases_Bool (eqb c.at at && eqb c.size n)) [
  | inl same ↦
      let both = and_parts (eqb c.at at) (eqb c.size n) same in
      let place : c.at ≡ at = eqb-true c.at at both.0 in
      let size : c.size ≡ n = eqb-true c.size n both.1 in
      let len = length-written cs b fit.2 in
      let within = fit.0 in
      rw (same, ← place, ← size) (number_in c.size c.at c.value (written cs b) (omega arith) fit.1)
  | inr other ↦
      let rest : is_beside n at c && is_apart n at cs ≡ true = rw other at apart in
      let both = and_parts (is_beside n at c) (is_apart n at cs) rest in
      let len = length-written cs b fit.2 in
      let within = fit.0 in
      let side : (at + n ≤ c.at) ⊎ (c.at + c.size ≤ at) = elim (or_cases (leb (at + n) c.at) (leb (c.at + c.size) at) both.0) [
        | inl below ↦ inl (leb-true (at + n) c.at below)
        | inr above ↦ inr (leb-true (c.at + c.size) at above)
      ] in
      rw other (number_beside n at c.size c.at c.value (written cs b) (omega arith) side ∙ number_at-written n at cs b fit.2 both.1)
]
