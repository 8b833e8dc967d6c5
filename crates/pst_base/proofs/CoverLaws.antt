-- Which bytes the cells of a record own: the others stay, and all its numbers put back what was there.
use Rattle.std.proofs.Common.{Bool, ◌≡◌, ℕ, zero, suc, ◌+◌, ◌*◌, ◌-◌, ◌/◌, ◌%◌, ◌^◌, ◌<◌, ◌≤◌, ◌⊎◌, inl, inr, true, false, ltb, leb, ◌&&◌, List, [], ◌∷◌, length, get_or, drop, refl, sym, ap, ◌∙◌, arith, ◌++◌}
use Rattle.std.proofs.Math.Nat.{div-one, div-div-eq-div-mul, pow-succ', zero-div}
use Rattle.std.proofs.lemmas.Bool.{cases_Bool, cases_lt, and_from, or_parts, or_from, lt-ltb, le-leb, le-ltb, lt-leb, and_left, and_right, true≢false, and_parts, leb-true}
use Rattle.std.proofs.lemmas.List.{get_or-drop, ext_get_or, length-drop}
use Rattle.std.specs.Int.{byte_at, bytes_low_first}
use Rattle.byteorder.specs.Endian.{little_bytes, little_number, little_from}
use Rattle.byteorder.specs.Numbers.{length-bytes_low_first, little_from-cons}
use Rattle.pst_base.specs.Cells.{Cell, written, is_covered, Fit, AllZero}
use Rattle.pst_base.specs.Fields.{number_at, replaced}
use Rattle.pst_base.proofs.Numbers.{number_at-fits}
use Rattle.pst_base.proofs.CellLaws.{length-written, get_or-replaced_below, get_or-replaced_same, get_or-replaced_above}

-- ---- the bytes of a number

get_or-bytes : (i n x j : ℕ) → j < n → get_or (bytes_low_first i n x) j 0 ≡ byte_at (i + j) x
get_or-bytes i zero x j h = absurd (omega arith)
get_or-bytes i (suc n) x zero h = let e : i + zero ≡ i = omega arith in ap (λ (k : ℕ). byte_at k x) (sym e)
get_or-bytes i (suc n) x (suc j) h =
    let e : suc i + j ≡ i + suc j = omega arith in
    get_or-bytes (suc i) n x j (omega arith) ∙ ap (λ (k : ℕ). byte_at k x) e

byte_at-pow : (k x : ℕ) → byte_at k x ≡ x / 256 ^ k % 256
byte_at-pow zero x = ap (λ (y : ℕ). y % 256) (sym (div-one x))
byte_at-pow (suc k) x = refl

byte_of_number : (n j : ℕ) (bs : List ℕ) → j < n → n ≤ length bs → ((i : ℕ) → get_or bs i 0 < 256)
    → little_number n bs / 256 ^ j % 256 ≡ get_or bs j 0
byte_of_number zero j bs h len fit = absurd (omega arith)
byte_of_number (suc n) j [] h len fit = absurd (omega arith)
byte_of_number (suc n) zero (b ∷ bs) h len fit =
    let first : b < 256 = fit 0 in
    let e : (b + 256 * little_from 1 n (b ∷ bs)) % 256 ≡ b = omega arith in
    ap (λ (y : ℕ). y % 256) (div-one (b + 256 * little_from 1 n (b ∷ bs))) ∙ e
byte_of_number (suc n) (suc j) (b ∷ bs) h len fit =
    let first : b < 256 = fit 0 in
    let number : little_number (suc n) (b ∷ bs) ≡ b + 256 * little_number n bs = ap (λ (x : ℕ). b + 256 * x) (little_from-cons 0 n b bs) in
    let high : (b + 256 * little_number n bs) / 256 ≡ little_number n bs = omega arith in
    ap (λ (y : ℕ). y / 256 ^ suc j % 256) number
    ∙ ap (λ (m : ℕ). (b + 256 * little_number n bs) / m % 256) (pow-succ' 256 j)
    ∙ ap (λ (y : ℕ). y % 256) (sym (div-div-eq-div-mul (b + 256 * little_number n bs) 256 (256 ^ j)))
    ∙ ap (λ (y : ℕ). y / 256 ^ j % 256) high
    ∙ byte_of_number n j bs (omega arith) (omega arith) (λ i. fit (suc i))

-- a number that was read puts its bytes back
pub byte_put_back : (n at j : ℕ) (b : List ℕ) → j < n → at + n ≤ length b → ((i : ℕ) → get_or b i 0 < 256)
    → get_or (little_bytes n (number_at n at b)) j 0 ≡ get_or b (at + j) 0
unfolding number_at
byte_put_back n at j b h within fit =
    let fits : (i : ℕ) → get_or (drop at b) i 0 < 256 = λ i. let e = get_or-drop at b i 0 in let f : get_or b (at + i) 0 < 256 = fit (at + i) in omega (arith, e, f) in
    let zero_more : 0 + j ≡ j = omega arith in
    let len = length-drop at b in
    get_or-bytes 0 n (little_number n (drop at b)) j h
    ∙ ap (λ (k : ℕ). byte_at k (little_number n (drop at b))) zero_more
    ∙ byte_at-pow j (little_number n (drop at b))
    ∙ byte_of_number n j (drop at b) h (omega (arith, len)) fits
    ∙ get_or-drop at b j 0

byte_of_zero : (n j : ℕ) → j < n → get_or (little_bytes n 0) j 0 ≡ 0
byte_of_zero n j h =
    get_or-bytes 0 n 0 j h ∙ byte_at-pow (0 + j) 0 ∙ ap (λ (y : ℕ). y % 256) (zero-div (256 ^ (0 + j)))

-- ---- the bytes that cells own

-- a place lies before a cell, in it, or after it
abbrev WhereFrom : Cell → ℕ → Type 0
WhereFrom c i = (i < c.at) ⊎ (((j : ℕ) × (j < c.size) × (c.at + j ≡ i)) ⊎ (c.at + c.size ≤ i))

where_from : (c : Cell) (i : ℕ) → WhereFrom c i
where_from c i = elim (cases_lt i c.at) [
  | inl below ↦ inl below
  | inr from ↦ elim (cases_lt i (c.at + c.size)) [
    | inl inside ↦ inr (inl (i - c.at, omega arith, omega arith))
    | inr above ↦ inr (inr above)
  ]
]

owns_not_below : (c : Cell) (i : ℕ) → i < c.at → (leb c.at i && ltb i (c.at + c.size)) ≡ false
owns_not_below c i h = and_left (leb c.at i) (ltb i (c.at + c.size)) (lt-leb c.at i h)

owns_not_above : (c : Cell) (i : ℕ) → c.at + c.size ≤ i → (leb c.at i && ltb i (c.at + c.size)) ≡ false
owns_not_above c i h = and_right (leb c.at i) (ltb i (c.at + c.size)) (le-ltb i (c.at + c.size) h)

owns_inside : (c : Cell) (i j : ℕ) → j < c.size → c.at + j ≡ i → (leb c.at i && ltb i (c.at + c.size)) ≡ true
owns_inside c i j h e = and_from (leb c.at i) (ltb i (c.at + c.size)) (le-leb c.at i (omega arith)) (lt-ltb i (c.at + c.size) (omega arith))

-- the cells' values are the numbers at their places
abbrev pub Reads : List Cell → List ℕ → Type 0
Reads [] b = Unit {0}
Reads (c ∷ cs) b = (c.value ≡ number_at c.size c.at b) × Reads cs b

-- where the other bytes agree, numbers that were read from b make b
byte_put : (cs : List Cell) (a b : List ℕ) (i : ℕ) → length a ≡ length b → Fit (length a) cs → ((k : ℕ) → get_or b k 0 < 256) → Reads cs b
    → (is_covered i cs ≡ false → get_or a i 0 ≡ get_or b i 0) → get_or (written cs a) i 0 ≡ get_or b i 0
unfolding written is_covered
byte_put [] a b i len fit range reads other = other refl
byte_put (c ∷ cs) a b i len fit range reads other =
    let bs = little_bytes c.size c.value in
    let size : length bs ≡ c.size = length-bytes_low_first 0 c.size c.value in
    let same = length-written cs a fit.2 in
    let place = fit.0 in
    let within : c.at + length bs ≤ length (written cs a) = omega arith in
    elim (where_from c i) [
      | inl below ↦
          get_or-replaced_below c.at bs (written cs a) i within below
          ∙ byte_put cs a b i len fit.2 range reads.1 (λ none. other (or_from (leb c.at i && ltb i (c.at + c.size)) (is_covered i cs) (owns_not_below c i below) none))
      | inr (inl inside) ↦
          ap (λ (k : ℕ). get_or (replaced c.at bs (written cs a)) k 0) (sym inside.2)
          ∙ get_or-replaced_same c.at bs (written cs a) inside.0 within (let h = inside.1 in omega arith)
          ∙ ap (λ (v : ℕ). get_or (little_bytes c.size v) inside.0 0) reads.0
          ∙ byte_put_back c.size c.at inside.0 b inside.1 (omega arith) range
          ∙ ap (λ (k : ℕ). get_or b k 0) inside.2
      | inr (inr above) ↦
          get_or-replaced_above c.at bs (written cs a) i within (omega arith)
          ∙ byte_put cs a b i len fit.2 range reads.1 (λ none. other (or_from (leb c.at i && ltb i (c.at + c.size)) (is_covered i cs) (owns_not_above c i above) none))
    ]

pub written-back : (cs : List Cell) (a b : List ℕ) → length a ≡ length b → Fit (length a) cs → ((k : ℕ) → get_or b k 0 < 256) → Reads cs b
    → ((i : ℕ) → is_covered i cs ≡ false → get_or a i 0 ≡ get_or b i 0) → written cs a ≡ b
written-back cs a b len fit range reads other =
    ext_get_or 0 (written cs a) b (length-written cs a fit ∙ len) (λ i h. byte_put cs a b i len fit range reads (other i))

-- a byte that no cell owns stays
pub byte_uncovered : (cs : List Cell) (b : List ℕ) (i : ℕ) → Fit (length b) cs → is_covered i cs ≡ false → get_or (written cs b) i 0 ≡ get_or b i 0
unfolding written is_covered
byte_uncovered [] b i fit none = refl
byte_uncovered (c ∷ cs) b i fit none =
    let bs = little_bytes c.size c.value in
    let size : length bs ≡ c.size = length-bytes_low_first 0 c.size c.value in
    let same = length-written cs b fit.2 in
    let place = fit.0 in
    let within : c.at + length bs ≤ length (written cs b) = omega arith in
    let parts = or_parts (leb c.at i && ltb i (c.at + c.size)) (is_covered i cs) none in
    elim (where_from c i) [
      | inl below ↦ get_or-replaced_below c.at bs (written cs b) i within below ∙ byte_uncovered cs b i fit.2 parts.1
      | inr (inl inside) ↦ absurd (true≢false (sym (owns_inside c i inside.0 inside.1 inside.2) ∙ parts.0))
      | inr (inr above) ↦ get_or-replaced_above c.at bs (written cs b) i within (omega arith) ∙ byte_uncovered cs b i fit.2 parts.1
    ]

-- cells of zeros leave zeros
byte_zeroed : (zs : List Cell) (b : List ℕ) (i : ℕ) → Fit (length b) zs → AllZero zs → is_covered i zs ≡ true → get_or (written zs b) i 0 ≡ 0
unfolding written is_covered
byte_zeroed [] b i fit zeros some = absurd (true≢false (sym some))
byte_zeroed (c ∷ cs) b i fit zeros some =
    let bs = little_bytes c.size c.value in
    let size : length bs ≡ c.size = length-bytes_low_first 0 c.size c.value in
    let same = length-written cs b fit.2 in
    let place = fit.0 in
    let within : c.at + length bs ≤ length (written cs b) = omega arith in
    elim (where_from c i) [
      | inl below ↦
          let rest : is_covered i cs ≡ true = rw (owns_not_below c i below) at some in
          get_or-replaced_below c.at bs (written cs b) i within below ∙ byte_zeroed cs b i fit.2 zeros.1 rest
      | inr (inl inside) ↦
          ap (λ (k : ℕ). get_or (replaced c.at bs (written cs b)) k 0) (sym inside.2)
          ∙ get_or-replaced_same c.at bs (written cs b) inside.0 within (let h = inside.1 in omega arith)
          ∙ ap (λ (v : ℕ). get_or (little_bytes c.size v) inside.0 0) zeros.0
          ∙ byte_of_zero c.size inside.0 inside.1
      | inr (inr above) ↦
          let rest : is_covered i cs ≡ true = rw (owns_not_above c i above) at some in
          get_or-replaced_above c.at bs (written cs b) i within (omega arith) ∙ byte_zeroed cs b i fit.2 zeros.1 rest
    ]

-- zeros over the same bytes leave nothing of what was written there
pub written-over : (zs cs : List Cell) (b : List ℕ) → Fit (length b) zs → Fit (length b) cs → AllZero zs → ((i : ℕ) → is_covered i zs ≡ is_covered i cs)
    → written zs (written cs b) ≡ written zs b
written-over zs cs b fit_z fit_c zeros same =
    let len = length-written cs b fit_c in
    let fit_zc : Fit (length (written cs b)) zs = rw len fit_z in
    ext_get_or 0 (written zs (written cs b)) (written zs b) (length-written zs (written cs b) fit_zc ∙ len ∙ sym (length-written zs b fit_z))
    (λ i h. elim (cases_Bool (is_covered i zs)) [
      | inl some ↦ byte_zeroed zs (written cs b) i fit_zc zeros some ∙ sym (byte_zeroed zs b i fit_z zeros some)
      | inr none ↦ byte_uncovered zs (written cs b) i fit_zc none ∙ byte_uncovered cs b i fit_c (sym (same i) ∙ none) ∙ sym (byte_uncovered zs b i fit_z none)
    ])

-- ---- what fits

pub Fit-append : (len : ℕ) (cs ds : List Cell) → Fit len cs → Fit len ds → Fit len (cs ++ ds)
Fit-append len [] ds fit_c fit_d = fit_d
Fit-append len (c ∷ cs) ds fit_c fit_d = (fit_c.0, fit_c.1, Fit-append len cs ds fit_c.2 fit_d)

-- each cell lies among len bytes
abbrev pub are_within : ℕ → List Cell → Bool
are_within len [] = true
are_within len (c ∷ cs) = leb (c.at + c.size) len && are_within len cs

-- numbers that were read from bytes fit their cells
pub Fit-from_reads : (len : ℕ) (cs : List Cell) (b : List ℕ) → are_within len cs ≡ true → ((k : ℕ) → get_or b k 0 < 256) → Reads cs b → Fit len cs
Fit-from_reads len [] b within range reads = tt
Fit-from_reads len (c ∷ cs) b within range reads =
    let both = and_parts (leb (c.at + c.size) len) (are_within len cs) within in
    let fits : c.value < 256 ^ c.size = rw reads.0 (number_at-fits c.size c.at b range) in
    (leb-true (c.at + c.size) len both.0, fits, Fit-from_reads len cs b both.1 range reads.1)
