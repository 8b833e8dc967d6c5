-- What is written of a table stays within the room that is asked for.
use Rattle.std.proofs.Common.{◌≡◌, ◌∙◌, ◌≤◌, ◌<◌, ◌+◌, ◌-◌, ◌*◌, ◌/◌, ◌%◌, ◌∷◌, [], inl, inr, ℕ, List, length, get_or, refl, ap, arith}
use Rattle.std.proofs.lemmas.Bool.{cases_lt, le-ltb, lt-ltb}
use Rattle.std.proofs.lemmas.Nat.{div-add-mod', le-div, mod_below, mul-le}
use Rattle.bth_tree.specs.Making.{chunks}
use Rattle.heap_on_node.specs.Packing.{IsPacked, spread}
use Rattle.heap_on_node.proofs.BlockLaws.{blocks-spread}
use Rattle.mapi_values.specs.Tables.{Tab}
use Rattle.mapi_values.specs.Values.{Val}
use Rattle.node_port.specs.Stops.{subs_size}
use Rattle.pst_base.specs.Flat.{Flat}
use Rattle.pst_base.specs.Subs.{flattened}
use Rattle.pst_base.specs.declared.subs.Sub.{Sub}
use Rattle.write_limits.specs.Space.{cells_blocks, kept_space, rows_space, table_space}
use Rattle.table_writer.specs.declared.value.Made.{Made}
use Rattle.table_writer.specs.Making.{load, sub_blocks}
use Rattle.table_writer.specs.Woven.{all_woven}
use Rattle.table_writer.specs.Writing.{FillsRows, PutsHead, PutsRows, cells_short, head_load, matrix_blocks, matrix_load}
use Rattle.table_writer.proofs.MatrixLaws.{suc-times}
use Rattle.table_writer.proofs.TableLaws.{Limited, rows-count}

-- ---- the matrix: a block of it is at most as full as a block of the bound, but for a last one

-- a block with more than one row has room for 5452 bytes of rows
block-rows : (size per : ℕ) → size ≤ 4088 → 8176 < per * size + size → 5452 ≤ per * size
block-rows size per small full = elim (cases_lt per 2) [
  | inl one ↦ absurd (omega (arith, mul-le per size 1 size (omega (arith, one)) (omega arith), full, small))
  | inr two ↦ elim (cases_lt size 2726) [
    | inl low ↦ omega (arith, full, low)
    | inr high ↦ omega (arith, mul-le 2 size per size two (omega arith), high)
  ]
]

-- rows of which one fills a block
pays-one : (n size : ℕ) → 4089 ≤ size → 0 < n → 8160 * (n - 1) + 48 * chunks 447 n + 5200 ≤ 2 * (n * size)
pays-one n size big some = omega (arith, mul-le n 4089 n size (omega arith) big, some)

-- smaller rows, that fill more than one block
pays-more : (n size per q : ℕ) → 0 < q → 5452 ≤ per * size → 8177 ≤ per * size + size → n ≤ 8176 * (q + 1) → q * (per * size) + size ≤ n * size
    → 8160 * q + 48 * chunks 447 n + 5200 ≤ 2 * (n * size)
pays-more n size per q some block full few whole =
    let k = q - 1 in
    let e : q ≡ (q - 1) + 1 = omega (arith, some) in
    let split : q * (per * size) ≡ (q - 1) * (per * size) + per * size = ap (λ (j : ℕ). j * (per * size)) e ∙ next (q - 1) (per * size) in
    omega (arith, mul-le (q - 1) 5452 (q - 1) (per * size) (omega arith) block, split, full, few, whole, some)
  where
    next : (j b : ℕ) → (j + 1) * b ≡ j * b + b
    next j b = omega arith

rows-times : (q per size : ℕ) → (q * per + 1) * size ≡ q * (per * size) + size
rows-times q per size = omega arith

times-one : (q per : ℕ) → per ≡ 1 → q * per ≡ q
times-one q per e = ap (λ (k : ℕ). q * k) e ∙ omega arith

times-none : (q per : ℕ) → q < 1 → q * per ≡ 0
times-none q per low = let e : q ≡ 0 = omega (arith, low) in ap (λ (k : ℕ). k * per) e ∙ omega arith

-- what the parts of a matrix have to do with one another
pub record Matrix (n size per q : ℕ) : Type 0 where
  pub some : 0 < n
  pub per_low : 0 < per
  pub per_high : per ≤ 8176
  pub block : per * size ≤ 8176
  pub full : 8176 < per * size + size
  pub begins : q * per < n
  pub ends : n ≤ q * per + per

matrix-is : (n size : ℕ) → 1 ≤ size → size ≤ 8176 → 3580 < n * size → Matrix n size (8176 / size) ((n - 1) / (8176 / size))
matrix-is n size low high long =
    let per = 8176 / size in
    let some : 0 < n = elim (cases_lt 0 n) [
      | inl more ↦ more
      | inr none ↦ absurd (omega (arith, mul-le n size 0 size none (omega arith), long))
    ] in
    let pos : 0 < 8176 / size = le-div 1 8176 size low (omega (arith, high)) in
    let whole : 8176 / size * size + 8176 % size ≡ 8176 = div-add-mod' 8176 size in
    let rest : 8176 % size < size = mod_below 8176 size low in
    let rows : (n - 1) / (8176 / size) * (8176 / size) + (n - 1) % (8176 / size) ≡ n - 1 = div-add-mod' (n - 1) (8176 / size) in
    let last : (n - 1) % (8176 / size) < 8176 / size = mod_below (n - 1) (8176 / size) pos in
    record {
      some = some;
      per_low = pos;
      per_high = omega (arith, mul-le (8176 / size) 1 (8176 / size) size (omega arith) low, whole);
      block = omega (arith, whole);
      full = omega (arith, whole, rest);
      begins = omega (arith, rows, some);
      ends = omega (arith, rows, last);
    }

pays : (n size per q : ℕ) → 3580 < n * size → Matrix n size per q → 8160 * q + 48 * chunks 447 n + 5200 ≤ 2 * (n * size)
pays n size per q long m = elim (cases_lt q 1) [
  | inl none ↦ omega (arith, times-none q per none, m.ends, m.per_high, long, none)
  | inr more ↦ elim (cases_lt 4088 size) [
    | inr small ↦
        pays-more n size per q (omega (arith, more)) (block-rows size per small m.full) (omega (arith, m.full)) (omega (arith, m.ends, m.per_high, mul-le q per q 8176 (omega arith) m.per_high))
        (omega (arith, rows-times q per size, mul-le (q * per + 1) size n size (omega (arith, m.begins)) (omega arith)))
    | inl big ↦ elim (cases_lt 1 per) [
      | inl two ↦ absurd (omega (arith, mul-le 2 size per size (omega (arith, two)) (omega arith), m.block, big))
      | inr one ↦
          let e : per ≡ 1 = omega (arith, one, m.per_low) in
          omega (arith, pays-one n size (omega (arith, big)) m.some, times-one q per e, m.begins, m.ends, e)
    ]
  ]
]

-- ---- the sum

-- a matrix in a subnode
sum-sub : (b heap made filled subs filled_subs short n size q cols long kept : ℕ) → 8160 * b ≤ heap + 8189 → heap ≤ made + head_load n cols → cols ≤ 255 → made ≤ filled → filled ≤ 1024 + 2 * short
    → subs ≤ filled_subs + (q + 2) → filled_subs ≤ kept + long → 8160 * q + 48 * chunks 447 n + 5200 ≤ 2 * (n * size) → b + subs + 1 ≤ (4 + (short + 8 * n + n * size) / 4080 + long) + kept
sum-sub b heap made filled subs filled_subs short n size q cols long kept a c few d e f g h = omega arith

-- a matrix in the heap, or none
sum-item : (b heap made filled subs filled_subs short n size cols long kept : ℕ) → 8160 * b ≤ heap + 8189 → heap ≤ made + head_load n cols → cols ≤ 255 → made ≤ filled + (2 * (n * size) + 4) → filled ≤ 1024 + 2 * short
    → subs ≤ filled_subs + 0 → filled_subs ≤ kept + long → n ≤ 3580 → b + subs + 1 ≤ (4 + (short + 8 * n + n * size) / 4080 + long) + kept
sum-item b heap made filled subs filled_subs short n size cols long kept a c few d e f g h = omega arith

sum-all : (b heap made filled subs filled_subs short n size cols long kept : ℕ) → 8160 * b ≤ heap + 8189 → heap ≤ made + head_load n cols → cols ≤ 255 → 1 ≤ size → size ≤ 8176 → made ≤ filled + matrix_load n size
    → filled ≤ 1024 + 2 * short → subs ≤ filled_subs + matrix_blocks n size → filled_subs ≤ kept + long → b + subs + 1 ≤ (4 + (short + 8 * n + n * size) / 4080 + long) + kept
sum-all b heap made filled subs filled_subs short n size cols long kept a c few low high d e f g = elim (cases_lt 3580 (n * size)) [
  | inl big ↦
      let blocks : subs ≤ filled_subs + ((n - 1) / (8176 / size) + 2) = rw (lt-ltb 3580 (n * size) big) at f in
      let heap_same : made ≤ filled + 0 = rw (lt-ltb 3580 (n * size) big) at d in
      sum-sub b heap made filled subs filled_subs short n size ((n - 1) / (8176 / size)) cols long kept a c few (omega (arith, heap_same)) e blocks g
      (pays n size (8176 / size) ((n - 1) / (8176 / size)) big (matrix-is n size low high big))
  | inr small ↦
      let blocks : subs ≤ filled_subs + 0 = rw (le-ltb 3580 (n * size) small) at f in
      let heap_more : made ≤ filled + (2 * (n * size) + 4) = rw (le-ltb 3580 (n * size) small) at d in
      sum-item b heap made filled subs filled_subs short n size cols long kept a c few heap_more e blocks g (omega (arith, mul-le n 1 n size (omega arith) low, small))
]

-- ---- all that is written

kept-size : (fs : List Flat) → subs_size fs ≤ kept_space fs
kept-size [] = omega arith
kept-size (f ∷ fs) = omega (arith, kept-size fs)

rows-room : (size : ℕ) (rows : List (ℕ × List Val)) → rows_space size rows ≡ cells_short rows + 8 * length rows + length rows * size
rows-room size [] = let none : 0 * size ≡ 0 = omega arith in omega (arith, none)
rows-room size (r ∷ rows) = omega (arith, rows-room size rows, suc-times (length rows) size)

table-is : (t : Tab) → table_space t ≡ (4 + rows_space (get_or t.ends 3 0) t.rows / 4080 + cells_blocks t.rows) + kept_space t.kept
unfolding table_space
table-is t = refl

pub table-small : (begun filled made : Made) (t : Tab) (kept : List Sub) (bytes : List (List ℕ)) (hnid root : ℕ) (heap : List (List (List ℕ))) (blocks : List (List ℕ)) (subs : List Flat) → load begun ≡ 1024
    → all_woven begun.subs ≡ kept → flattened kept ≡ t.kept → FillsRows begun filled (get_or t.ends 2 0) (get_or t.ends 3 0) t.columns t.rows bytes → PutsRows filled made (get_or t.ends 3 0) bytes hnid
    → PutsHead made.maker heap t hnid root → IsPacked heap → length blocks ≡ length heap → subs ≡ flattened (all_woven made.subs) → Limited t → length blocks + subs_size subs + 1 ≤ table_space t
table-small begun filled made t kept bytes hnid root heap blocks subs none kept_is kept_flat f m h packed count subs_is limit =
    let size = get_or t.ends 3 0 in
    let n : length bytes ≡ length t.rows = rows-count begun filled (get_or t.ends 2 0) (get_or t.ends 3 0) t.columns t.rows bytes f in
    let start : sub_blocks begun ≤ kept_space t.kept = omega (arith, ap (λ (ss : List Sub). subs_size (flattened ss)) kept_is, ap subs_size kept_flat, kept-size t.kept) in
    let there : subs_size subs ≡ sub_blocks made = ap subs_size subs_is in
    let all = sum-all (length heap) (spread heap) (load made) (load filled) (sub_blocks made) (sub_blocks filled) (cells_short t.rows) (length t.rows) (get_or t.ends 3 0) (length t.columns) (cells_blocks t.rows) (kept_space t.kept)
    (blocks-spread heap packed) (omega (arith, h.spent)) limit.columns limit.low limit.high (rw n at m.loads) (omega (arith, f.loads, none)) (rw n at m.blocks) (omega (arith, f.blocks, start)) in
    omega (arith, all, count, there, table-is t, ap (λ (k : ℕ). k / 4080) (rows-room (get_or t.ends 3 0) t.rows))
