-- The header of a table reads back.
use Rattle.std.proofs.Common.{◌≡◌, ◌∙◌, ◌≤◌, ◌<◌, ◌==◌, ◌&&◌, ◌+◌, ◌*◌, ◌%◌, ◌^◌, ◌++◌, ◌∷◌, [], ℕ, true, List, length, get_or, refl, sym, ap, subst, arith, length-append, append_assoc}
use Rattle.std.specs.Prelude.{nat_le}
use Rattle.std.specs.List.{flat_map}
use Rattle.std.proofs.lemmas.Bool.{and_from, eq-eqb, le-leb}
use Rattle.byteorder.specs.Endian.{little_bytes}
use Rattle.pst_base.specs.Fields.{number_at}
use Rattle.pst_base.proofs.Numbers.{number_at-behind, number_at-first, number_at-next}
use Rattle.mapi_values.specs.declared.column.Column.{Column}
use Rattle.mapi_values.specs.Columns.{is_layout}
use Rattle.table_context.specs.Header.{column_at, columns_at, ends_in, names_index}
use Rattle.table_writer.specs.Writing.{AllFit, ColumnFits, EndsFit, IsHeader, column_bytes, front_of}
use Rattle.table_context.proofs.LayoutLaws.{form-in}

-- bytes behind bytes
pub more : (x y z a b : List ℕ) → y ≡ x ++ a → z ≡ y ++ b → z ≡ x ++ (a ++ b)
more x y z a b e f = f ∙ ap (λ (l : List ℕ). l ++ b) e ∙ append_assoc x a b

-- ---- columns

column-parts-same : (c : Column) (id kind at width bit : ℕ) → id ≡ c.tag.id → kind ≡ c.tag.kind → at ≡ c.at → width ≡ c.width → bit ≡ c.bit
    → record { tag = record { id = id; kind = kind }; at = at; width = width; bit = bit } ≡ c
column-parts-same c id kind at width bit a b d e f = rw (a, b, d, e, f) refl

size-column : (c : Column) → length (column_bytes c) ≡ 8
size-column c = refl

-- a column behind so many bytes
column-there : (c : Column) (pre ys : List ℕ) (at : ℕ) → length pre ≡ at → ColumnFits c → column_at at (pre ++ (column_bytes c ++ ys)) ≡ c
column-there c pre ys at len f =
    let t4 = little_bytes 1 c.bit ++ ys in
    let t3 = little_bytes 1 c.width ++ (little_bytes 1 c.bit ++ ys) in
    let t2 = little_bytes 2 c.at ++ (little_bytes 1 c.width ++ (little_bytes 1 c.bit ++ ys)) in
    let t1 = little_bytes 2 c.tag.id ++ (little_bytes 2 c.at ++ (little_bytes 1 c.width ++ (little_bytes 1 c.bit ++ ys))) in
    let t0 = little_bytes 2 c.tag.kind ++ (little_bytes 2 c.tag.id ++ (little_bytes 2 c.at ++ (little_bytes 1 c.width ++ (little_bytes 1 c.bit ++ ys)))) in
    let none : at + 0 ≡ at = omega arith in
    let kind : number_at 2 at (pre ++ t0) ≡ c.tag.kind = ap (λ (k : ℕ). number_at 2 k (pre ++ t0)) (sym none) ∙ number_at-behind 2 0 at pre t0 len ∙ number_at-first 2 c.tag.kind t1 f.kind in
    let id : number_at 2 (at + 2) (pre ++ t0) ≡ c.tag.id = number_at-behind 2 2 at pre t0 len ∙ number_at-next 2 0 2 c.tag.kind t1 ∙ number_at-first 2 c.tag.id t2 f.id in
    let place : number_at 2 (at + 4) (pre ++ t0) ≡ c.at = number_at-behind 2 4 at pre t0 len ∙ number_at-next 2 2 2 c.tag.kind t1 ∙ number_at-next 2 0 2 c.tag.id t2 ∙ number_at-first 2 c.at t3 f.at in
    let width : number_at 1 (at + 6) (pre ++ t0) ≡ c.width =
    number_at-behind 1 6 at pre t0 len ∙ number_at-next 1 4 2 c.tag.kind t1 ∙ number_at-next 1 2 2 c.tag.id t2 ∙ number_at-next 1 0 2 c.at t3 ∙ number_at-first 1 c.width t4 f.width in
    let bit : number_at 1 (at + 7) (pre ++ t0) ≡ c.bit =
    number_at-behind 1 7 at pre t0 len ∙ number_at-next 1 5 2 c.tag.kind t1 ∙ number_at-next 1 3 2 c.tag.id t2 ∙ number_at-next 1 1 2 c.at t3 ∙ number_at-next 1 0 1 c.width t4 ∙ number_at-first 1 c.bit ys f.bit in
    column-parts-same c (number_at 2 (at + 2) (pre ++ t0)) (number_at 2 at (pre ++ t0)) (number_at 2 (at + 4) (pre ++ t0)) (number_at 1 (at + 6) (pre ++ t0)) (number_at 1 (at + 7) (pre ++ t0)) id kind place width bit

-- all columns behind so many bytes
columns-there : (cs : List Column) (pre : List ℕ) (at : ℕ) → length pre ≡ at → AllFit cs → columns_at (length cs) at (pre ++ flat_map column_bytes cs) ≡ cs
columns-there [] pre at len f = refl
columns-there (c ∷ cs) pre at len f =
    let more : length (pre ++ column_bytes c) ≡ at + 8 = omega (arith, length-append pre (column_bytes c), len, size-column c) in
    let rest : columns_at (length cs) (at + 8) (pre ++ (column_bytes c ++ flat_map column_bytes cs)) ≡ cs =
    ap (columns_at (length cs) (at + 8)) (sym (append_assoc pre (column_bytes c) (flat_map column_bytes cs))) ∙ columns-there cs (pre ++ column_bytes c) (at + 8) more f.1 in
    ap (λ (d : Column). d ∷ columns_at (length cs) (at + 8) (pre ++ (column_bytes c ++ flat_map column_bytes cs))) (column-there c pre (flat_map column_bytes cs) at len f.0) ∙ ap (λ (ds : List Column). c ∷ ds) rest

size-columns : (cs : List Column) → length (flat_map column_bytes cs) ≡ 8 * length cs
size-columns [] = refl
size-columns (c ∷ cs) = omega (arith, length-append (column_bytes c) (flat_map column_bytes cs), size-column c, size-columns cs)

pub fit-push : (cs : List Column) (c : Column) → AllFit cs → ColumnFits c → AllFit (cs ++ c ∷ [])
fit-push [] c a f = (f, tt)
fit-push (d ∷ cs) c a f = (a.0, fit-push cs c a.1 f)

-- ---- the fixed fields

four : (ends : List ℕ) → length ends ≡ 4 → get_or ends 0 0 ∷ get_or ends 1 0 ∷ get_or ends 2 0 ∷ get_or ends 3 0 ∷ [] ≡ ends
four [] h = absurd (omega (arith, h))
four (a ∷ []) h = absurd (omega (arith, h))
four (a ∷ (b ∷ [])) h = absurd (omega (arith, h))
four (a ∷ (b ∷ (c ∷ []))) h = absurd (omega (arith, h))
four (a ∷ (b ∷ (c ∷ (d ∷ [])))) h = refl
four (a ∷ (b ∷ (c ∷ (d ∷ (e ∷ es))))) h = absurd (omega (arith, h))

module _ (count : ℕ) (ends : List ℕ) (index matrix : ℕ) (rest : List ℕ) (few : count < 256 ^ 1) (fit : EndsFit ends) (low : index < 256 ^ 4) (small : matrix < 256 ^ 4) where
  abbrev e0 : ℕ
  e0 = get_or ends 0 0

  abbrev e1 : ℕ
  e1 = get_or ends 1 0

  abbrev e2 : ℕ
  e2 = get_or ends 2 0

  abbrev e3 : ℕ
  e3 = get_or ends 3 0

  abbrev t8 : List ℕ
  t8 = little_bytes 4 0 ++ rest

  abbrev t7 : List ℕ
  t7 = little_bytes 4 matrix ++ t8

  abbrev t6 : List ℕ
  t6 = little_bytes 4 index ++ t7

  abbrev t5 : List ℕ
  t5 = little_bytes 2 e3 ++ t6

  abbrev t4 : List ℕ
  t4 = little_bytes 2 e2 ++ t5

  abbrev t3 : List ℕ
  t3 = little_bytes 2 e1 ++ t4

  abbrev t2 : List ℕ
  t2 = little_bytes 2 e0 ++ t3

  abbrev t1 : List ℕ
  t1 = little_bytes 1 count ++ t2

  abbrev t0 : List ℕ
  t0 = little_bytes 1 0x7C ++ t1

  front-is : front_of count ends index matrix ++ rest ≡ t0
  front-is = refl

  client-at : number_at 1 0 t0 ≡ 0x7C
  client-at = number_at-first 1 0x7C t1 (omega arith)

  count-at : number_at 1 1 t0 ≡ count
  count-at = number_at-next 1 0 1 0x7C t1 ∙ number_at-first 1 count t2 few

  first-at : number_at 2 2 t0 ≡ e0
  first-at = number_at-next 2 1 1 0x7C t1 ∙ number_at-next 2 0 1 count t2 ∙ number_at-first 2 e0 t3 fit.first

  second-at : number_at 2 4 t0 ≡ e1
  second-at = number_at-next 2 3 1 0x7C t1 ∙ number_at-next 2 2 1 count t2 ∙ number_at-next 2 0 2 e0 t3 ∙ number_at-first 2 e1 t4 fit.second

  third-at : number_at 2 6 t0 ≡ e2
  third-at = number_at-next 2 5 1 0x7C t1 ∙ number_at-next 2 4 1 count t2 ∙ number_at-next 2 2 2 e0 t3 ∙ number_at-next 2 0 2 e1 t4 ∙ number_at-first 2 e2 t5 fit.third

  fourth-at : number_at 2 8 t0 ≡ e3
  fourth-at = number_at-next 2 7 1 0x7C t1 ∙ number_at-next 2 6 1 count t2 ∙ number_at-next 2 4 2 e0 t3 ∙ number_at-next 2 2 2 e1 t4 ∙ number_at-next 2 0 2 e2 t5 ∙ number_at-first 2 e3 t6 fit.fourth

  index-at : number_at 4 10 t0 ≡ index
  index-at = number_at-next 4 9 1 0x7C t1 ∙ number_at-next 4 8 1 count t2 ∙ number_at-next 4 6 2 e0 t3 ∙ number_at-next 4 4 2 e1 t4 ∙ number_at-next 4 2 2 e2 t5 ∙ number_at-next 4 0 2 e3 t6
      ∙ number_at-first 4 index t7 low

  matrix-at : number_at 4 14 t0 ≡ matrix
  matrix-at = number_at-next 4 13 1 0x7C t1 ∙ number_at-next 4 12 1 count t2 ∙ number_at-next 4 10 2 e0 t3 ∙ number_at-next 4 8 2 e1 t4 ∙ number_at-next 4 6 2 e2 t5 ∙ number_at-next 4 4 2 e3 t6
      ∙ number_at-next 4 0 4 index t7 ∙ number_at-first 4 matrix t8 small

  ends-at : ends_in (front_of count ends index matrix ++ rest) ≡ ends
  ends-at =
      ap ends_in front-is
      ∙ ap (λ (n : ℕ). n ∷ number_at 2 4 t0 ∷ number_at 2 6 t0 ∷ number_at 2 8 t0 ∷ []) first-at
      ∙ ap (λ (n : ℕ). e0 ∷ n ∷ number_at 2 6 t0 ∷ number_at 2 8 t0 ∷ []) second-at
      ∙ ap (λ (n : ℕ). e0 ∷ e1 ∷ n ∷ number_at 2 8 t0 ∷ []) third-at
      ∙ ap (λ (n : ℕ). e0 ∷ e1 ∷ e2 ∷ n ∷ []) fourth-at
      ∙ four ends fit.count

size-front : (count : ℕ) (ends : List ℕ) (index matrix : ℕ) → length (front_of count ends index matrix) ≡ 22
size-front count ends index matrix = refl

begins : (x : List ℕ) → 22 ≤ length x → number_at 1 0 x ≡ 0x7C → names_index x ≡ true
unfolding names_index
begins x long e = and_from (nat_le 22 (length x)) (number_at 1 0 x == 0x7C) (le-leb 22 (length x) long) (eq-eqb (number_at 1 0 x) 0x7C e)

pub header-made : (x : List ℕ) (columns : List Column) (ends : List ℕ) (index matrix : ℕ) → x ≡ front_of (length columns) ends index matrix ++ flat_map column_bytes columns → EndsFit ends → AllFit columns
    → length columns ≤ 255 → index < 256 ^ 4 → matrix < 256 ^ 4 → is_layout columns ends ≡ true → 1 ≤ get_or ends 3 0 → get_or ends 3 0 ≤ 8176 → IsHeader x columns ends index matrix
header-made x columns ends index matrix e fit all few low small layout one high =
    let front = front_of (length columns) ends index matrix in
    let rest = flat_map column_bytes columns in
    let y = front_of (length columns) ends index matrix ++ flat_map column_bytes columns in
    let n : length columns < 256 ^ 1 = omega (arith, few) in
    let is = front-is (length columns) ends index matrix rest n fit low small in
    let size : length (front_of (length columns) ends index matrix ++ flat_map column_bytes columns) ≡ 22 + 8 * length columns =
    omega (arith, length-append (front_of (length columns) ends index matrix) (flat_map column_bytes columns), size-front (length columns) ends index matrix, size-columns columns) in
    let made : IsHeader (front_of (length columns) ends index matrix ++ flat_map column_bytes columns) columns ends index matrix = record {
      size = size;
      columns_are = form-in (front_of (length columns) ends index matrix ++ flat_map column_bytes columns) (length columns) columns ends
          (sym (ap (number_at 1 1) is ∙ count-at (length columns) ends index matrix rest n fit low small))
          (sym (columns-there columns (front_of (length columns) ends index matrix) 22 (size-front (length columns) ends index matrix) all))
          (sym (ends-at (length columns) ends index matrix rest n fit low small))
          (eq-eqb (length (front_of (length columns) ends index matrix ++ flat_map column_bytes columns)) (22 + 8 * length columns) size)
          (and_from (nat_le 1 (get_or ends 3 0)) (nat_le (get_or ends 3 0) 8176 && is_layout columns ends) (le-leb 1 (get_or ends 3 0) one)
          (and_from (nat_le (get_or ends 3 0) 8176) (is_layout columns ends) (le-leb (get_or ends 3 0) 8176 high) layout));
      ends_are = ends-at (length columns) ends index matrix rest n fit low small;
      index_is = ap (number_at 4 10) is ∙ index-at (length columns) ends index matrix rest n fit low small;
      matrix_is = ap (number_at 4 14) is ∙ matrix-at (length columns) ends index matrix rest n fit low small;
      start = begins (front_of (length columns) ends index matrix ++ flat_map column_bytes columns) (omega (arith, size)) (ap (number_at 1 0) is ∙ client-at (length columns) ends index matrix rest n fit low small);
    } in
    subst (λ (z : List ℕ). IsHeader z columns ends index matrix) (sym e) made

-- bytes that were written one behind the other
pub five-more : (x s1 s2 s3 s4 s5 a b c d e a2 b2 c2 d2 e2 : List ℕ) → s1 ≡ x ++ a → s2 ≡ s1 ++ b → s3 ≡ s2 ++ c → s4 ≡ s3 ++ d → s5 ≡ s4 ++ e
    → a ≡ a2 → b ≡ b2 → c ≡ c2 → d ≡ d2 → e ≡ e2 → s5 ≡ x ++ (a2 ++ (b2 ++ (c2 ++ (d2 ++ e2))))
five-more x s1 s2 s3 s4 s5 a b c d e a2 b2 c2 d2 e2 h1 h2 h3 h4 h5 f1 f2 f3 f4 f5 =
    rw (← f1, ← f2, ← f3, ← f4, ← f5)
    (more x s4 s5 (a ++ (b ++ (c ++ d))) e
    (more x s3 s4 (a ++ (b ++ c)) d (more x s2 s3 (a ++ b) c (more x s1 s2 a b h1 h2) h3 ∙ ap (λ (l : List ℕ). x ++ l) (append_assoc a b c)) h4
    ∙ ap (λ (l : List ℕ). x ++ l) (append_assoc a (b ++ c) d ∙ ap (λ (l : List ℕ). a ++ l) (append_assoc b c d))) h5
    ∙ ap (λ (l : List ℕ). x ++ l) (append_assoc a (b ++ (c ++ d)) e ∙ ap (λ (l : List ℕ). a ++ l) (append_assoc b (c ++ d) e ∙ ap (λ (l : List ℕ). b ++ l) (append_assoc c d e))))

pub four-more : (x s1 s2 s3 s4 a b c d a2 b2 c2 d2 : List ℕ) → s1 ≡ x ++ a → s2 ≡ s1 ++ b → s3 ≡ s2 ++ c → s4 ≡ s3 ++ d → a ≡ a2 → b ≡ b2 → c ≡ c2 → d ≡ d2
    → s4 ≡ x ++ (a2 ++ (b2 ++ (c2 ++ d2)))
four-more x s1 s2 s3 s4 a b c d a2 b2 c2 d2 h1 h2 h3 h4 f1 f2 f3 f4 =
    rw (← f1, ← f2, ← f3, ← f4)
    (more x s3 s4 (a ++ (b ++ c)) d (more x s2 s3 (a ++ b) c (more x s1 s2 a b h1 h2) h3 ∙ ap (λ (l : List ℕ). x ++ l) (append_assoc a b c)) h4
    ∙ ap (λ (l : List ℕ). x ++ l) (append_assoc a (b ++ c) d ∙ ap (λ (l : List ℕ). a ++ l) (append_assoc b c d)))

pub nine : (x y z a b c d e f g h i : List ℕ) → y ≡ x ++ (a ++ (b ++ (c ++ (d ++ e)))) → z ≡ y ++ (f ++ (g ++ (h ++ i))) → z ≡ x ++ (a ++ (b ++ (c ++ (d ++ (e ++ (f ++ (g ++ (h ++ i))))))))
nine x y z a b c d e f g h i p q =
    let t = f ++ (g ++ (h ++ i)) in
    more x y z (a ++ (b ++ (c ++ (d ++ e)))) t p q
    ∙ ap (λ (l : List ℕ). x ++ l) (append_assoc a (b ++ (c ++ (d ++ e))) t ∙ ap (λ (l : List ℕ). a ++ l) (append_assoc b (c ++ (d ++ e)) t ∙ ap (λ (l : List ℕ). b ++ l) (append_assoc c (d ++ e) t ∙ ap (λ (l : List ℕ). c ++ l) (append_assoc d e t))))

pub one-byte : (n : ℕ) → n < 256 → n ∷ [] ≡ little_bytes 1 n
one-byte n small = let e : n ≡ n % 256 = omega (arith, small) in ap (λ (k : ℕ). k ∷ []) e
