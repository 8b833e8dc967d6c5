-- A block takes at most one free cell, a page one place for pages, of which a free cell has sixteen.
use Rattle.std.proofs.Common.{Bool, true, false, cond, ◌≡◌, ◌∙◌, ◌⊎◌, inl, inr, ℕ, zero, suc, ◌+◌, ◌-◌, ◌*◌, ◌/◌, ◌%◌, ◌<◌, ◌≤◌, List, length, refl, sym, ap, subst, arith}
use Rattle.std.proofs.lemmas.Bool.{cases_eq, cases_lt, cases_Bool, true≢false}
use Rattle.alloc_map.specs.Slots.{AreAll, Becomes, BeginsLeast, IsRoom, IsPageRoom, regions_of, slot_of, start_of}
use Rattle.alloc_map.specs.Cells.{are_free, cell_slot, free_cells_of, page_rooms, page_slot}
use Rattle.alloc_map.proofs.CellLaws.{are_free-true, counted, more, no-fewer, AreAll-are_free}

-- ---- counts of numbers

one-or-none : (b : Bool) → ◌≤◌ (cond b 1 0) 1
one-or-none true = omega arith
one-or-none false = omega arith

-- what holds of all but one number holds at most once less often
pub lose-one : (p q : ℕ → Bool) (k n : ℕ) → ((c : ℕ) → c < n → (c ≡ k → ⊥) → p c ≡ true → q c ≡ true) → (k < n → counted p n ≤ counted q n + 1) × (n ≤ k → counted p n ≤ counted q n)
lose-one p q k zero keeps = ((λ lt. absurd (omega (arith, lt))), (λ le. omega arith))
lose-one p q k (suc n) keeps =
    let rest = lose-one p q k n (λ c lt. keeps c (omega (arith, lt))) in
    let a : counted p (suc n) ≡ counted p n + cond (p n) 1 0 = more p n in
    let b : counted q (suc n) ≡ counted q n + cond (q n) 1 0 = more q n in
    let here : (n ≡ k → ⊥) → cond (p n) 1 0 ≤ cond (q n) 1 0 = λ other. by (p n) (q n) (keeps n (omega arith) other) in (
      (λ lt. elim (cases_eq n k) [
        | inl same ↦ let c = rest.1 (omega (arith, same)) in let d = one-or-none (p n) in omega (arith, a, b, c, d)
        | inr other ↦ let c = rest.0 (lt_of n k other lt) in let d = here other in omega (arith, a, b, c, d)
      ]),
      (λ le. let c = rest.1 (omega (arith, le)) in let d = here (λ s. absurd (omega (arith, s, le))) in omega (arith, a, b, c, d)),
    )
  where
    by : (x y : Bool) → (x ≡ true → y ≡ true) → cond x 1 0 ≤ cond y 1 0
    by false y h = omega arith
    by true true h = omega arith
    by true false h = absurd (true≢false (sym (h refl)))

    lt_of : (n k : ℕ) → (n ≡ k → ⊥) → k < suc n → k < n
    lt_of n k other lt = elim (cases_lt k n) [ inl x ↦ x | inr x ↦ absurd (other (omega (arith, x, lt))) ]

pub lose-at-most : (p q : ℕ → Bool) (k n : ℕ) → ((c : ℕ) → c < n → (c ≡ k → ⊥) → p c ≡ true → q c ≡ true) → counted p n ≤ counted q n + 1
lose-at-most p q k n keeps = let h = lose-one p q k n keeps in elim (cases_lt k n) [ inl lt ↦ h.0 lt | inr le ↦ let x = h.1 le in omega (arith, x) ]

-- what is counted is there
pub some-counted : (p : ℕ → Bool) (n : ℕ) → 1 ≤ counted p n → (c : ℕ) × (c < n) × (p c ≡ true)
some-counted p zero some = absurd (omega (arith, some))
some-counted p (suc n) some =
    let a : counted p (suc n) ≡ counted p n + cond (p n) 1 0 = more p n in
    elim (cases_Bool (p n)) [
      | inl here ↦ (n, omega arith, here)
      | inr no-more ↦
          let none : ◌≡◌ {A = ℕ} (cond (p n) 1 0) 0 = ap (λ (b : Bool). cond b 1 0) no-more in
          let rest = some-counted p n (omega (arith, a, some, none)) in
          (rest.0, (let lt = rest.1 in omega (arith, lt)), rest.2)
    ]

-- ---- cells

whole-regions : (used : List Bool) (c : ℕ) → length used ≡ 3968 * regions_of used → c < 30 * regions_of used → cell_slot c + 128 ≤ length used
whole-regions used c whole lt = omega (arith, whole, lt)

-- a free cell has room for a block
pub cell-room : (used : List Bool) (n : ℕ) → length used ≡ 3968 * regions_of used → n ≤ 128 → 1 ≤ free_cells_of used → (slot : ℕ) × IsRoom used n slot
unfolding free_cells_of
cell-room used n whole short some =
    let found = some-counted (λ c. are_free used (cell_slot c) 128) (30 * regions_of used) some in
    let c : ℕ = found.0 in
    let lt = found.1 in
    let free = AreAll-are_free used (cell_slot c) 128 (whole-regions used c whole lt) found.2 in (
      cell_slot c,
      record {
        region = c / 30;
        exists = omega (arith, lt);
        inside = record { low = omega arith; high = omega (arith, short) };
        free = λ s low high. free s low (omega (arith, high, short));
      },
    )

-- slots that a change doesn't meet stay free
still-free : {old new : List Bool} {at k : ℕ} (slot n : ℕ) → Becomes old new at k true → (slot + n ≤ at) ⊎ (at + k ≤ slot) → AreAll old slot n false → AreAll new slot n false
still-free slot n becomes (inl before) free s low high = becomes.below s (omega (arith, before, high)) ∙ free s low high
still-free slot n becomes (inr behind) free s low high = becomes.above s (omega (arith, behind, low)) ∙ free s low high

cells-apart : (c d : ℕ) → c < d → cell_slot c + 128 ≤ cell_slot d
cells-apart c d lt = omega (arith, lt)

-- which cells a run of slots in a region doesn't meet
runs-apart : (r j p n c k : ℕ) → j ≤ 29 → 3968 * r + 32 + 128 * j ≤ p → p < 3968 * r + 160 + 128 * j → n ≤ 128 → (c < 30 * r + j) ⊎ (30 * r + j + 2 ≤ c) → (cell_slot c + 128 ≤ p) ⊎ (p + n ≤ cell_slot c)
runs-apart r j p n c k few low high short (inl lt) = inl (omega (arith, few, low, lt))
runs-apart r j p n c k few low high short (inr gt) = inr (omega (arith, few, high, short, gt))

-- a block at the least place meets no free cell but one
block-apart : (old : List Bool) (n at : ℕ) → length old ≡ 3968 * regions_of old → n ≤ 128 → 1 ≤ n → BeginsLeast (IsRoom old n) at
    → (k : ℕ) × ((c : ℕ) → c < 30 * regions_of old → (c ≡ k → ⊥) → are_free old (cell_slot c) 128 ≡ true → (cell_slot c + 128 ≤ slot_of at) ⊎ (slot_of at + n ≤ cell_slot c))
block-apart old n at whole short some least =
    let p : ℕ = slot_of at in
    let room : IsRoom old n p = least.holds in
    let r : ℕ = room.region in
    let low : 3968 * r + 32 ≤ p = (room.inside).low in
    let high : p + n ≤ 3968 * r + 3968 = (room.inside).high in
    let exists : r < regions_of old = room.exists in
    let j : ℕ = (p - (3968 * r + 32)) / 128 in
    let from : 3968 * r + 32 + 128 * j ≤ p = omega (arith, low) in
    let to : p < 3968 * r + 160 + 128 * j = omega (arith, low) in
    go r j p refl low high exists from to (cases_lt j 30)
  where
    go : (r j p : ℕ) → p ≡ slot_of at → 3968 * r + 32 ≤ p → p + n ≤ 3968 * r + 3968 → r < regions_of old → 3968 * r + 32 + 128 * j ≤ p → p < 3968 * r + 160 + 128 * j → ((j < 30) ⊎ (30 ≤ j))
        → (k : ℕ) × ((c : ℕ) → c < 30 * regions_of old → (c ≡ k → ⊥) → are_free old (cell_slot c) 128 ≡ true → (cell_slot c + 128 ≤ slot_of at) ⊎ (slot_of at + n ≤ cell_slot c))
    go r j p is low high exists from to (inr past) = (
      0,
      λ c lt other was. elim (cases_lt (c / 30) (r + 1)) [
        | inl before ↦ inl (omega (arith, before, from, past, is))
        | inr behind ↦ inr (omega (arith, behind, high, is))
      ],
    )
    go r j p is low high exists from to (inl few) = elim (cases_Bool (are_free old (cell_slot (30 * r + j)) 128)) [
      | inl free ↦
          let cell : cell_slot (30 * r + j) ≡ 3968 * r + 32 + 128 * j = omega (arith, few) in
          let within = whole-regions old (30 * r + j) whole (omega (arith, few, exists)) in
          let all = AreAll-are_free old (cell_slot (30 * r + j)) 128 within free in
          let first : slot_of at ≤ cell_slot (30 * r + j) = least.least (cell_slot (30 * r + j)) (record {
            region = r;
            exists = exists;
            inside = record { low = omega (arith, cell); high = omega (arith, cell, few, short) };
            free = λ s a b. all s a (omega (arith, b, short));
          }) in (
            30 * r + j,
            λ c lt other was. elim (cases_lt c (30 * r + j)) [
              | inl before ↦ inl (let a = cells-apart c (30 * r + j) before in omega (arith, a, cell, from, is))
              | inr behind ↦ inr (let a = cells-apart (30 * r + j) c (lt_of (30 * r + j) c other behind) in omega (arith, a, first, short))
            ],
          )
      | inr taken ↦ (
        30 * r + j + 1,
        λ c lt other was. elim (cases_lt c (30 * r + j)) [
          | inl before ↦ subst (λ (q : ℕ). (cell_slot c + 128 ≤ q) ⊎ (q + n ≤ cell_slot c)) is (runs-apart r j p n c 0 (omega (arith, few)) from to short (inl before))
          | inr behind ↦ elim (cases_eq c (30 * r + j)) [
            | inl same ↦ absurd (true≢false (sym was ∙ ap (λ (k : ℕ). are_free old (cell_slot k) 128) same ∙ taken))
            | inr beside ↦ subst (λ (q : ℕ). (cell_slot c + 128 ≤ q) ⊎ (q + n ≤ cell_slot c)) is (runs-apart r j p n c 0 (omega (arith, few)) from to short (inr (two_more (30 * r + j) c other beside behind)))
          ]
        ],
      )
    ]
      where
        lt_of : (d c : ℕ) → (c ≡ d → ⊥) → d ≤ c → d < c
        lt_of d c ne le = elim (cases_lt d c) [ inl a ↦ a | inr a ↦ absurd (ne (omega (arith, a, le))) ]

        two_more : (d c : ℕ) → (c ≡ d + 1 → ⊥) → (c ≡ d → ⊥) → d ≤ c → d + 2 ≤ c
        two_more d c one same le = elim (cases_lt (d + 1) c) [ inl a ↦ omega (arith, a) | inr a ↦ elim (cases_eq c d) [ inl s ↦ absurd (same s) | inr t ↦ absurd (one (step d c a le t)) ] ]
          where
            step : (d c : ℕ) → c ≤ d + 1 → d ≤ c → (c ≡ d → ⊥) → c ≡ d + 1
            step d c a le t = elim (cases_lt d c) [ inl x ↦ omega (arith, x, a) | inr x ↦ absurd (t (omega (arith, x, le))) ]

-- a block at the least place takes at most one free cell
pub block-takes : (old new : List Bool) (n at : ℕ) → length old ≡ 3968 * regions_of old → n ≤ 128 → 1 ≤ n → BeginsLeast (IsRoom old n) at → Becomes old new (slot_of at) n true → free_cells_of old ≤ free_cells_of new + 1
unfolding free_cells_of
block-takes old new n at whole short some least becomes =
    let size = becomes.size in
    let regions : regions_of new ≡ regions_of old = ap (λ (k : ℕ). k / 3968) size in
    let N : ℕ = 30 * regions_of old in
    let apart = block-apart old n at whole short some least in
    let done : counted (λ c. are_free old (cell_slot c) 128) N ≤ counted (λ c. are_free new (cell_slot c) 128) N + 1 =
    lose-at-most (λ c. are_free old (cell_slot c) 128) (λ c. are_free new (cell_slot c) 128) apart.0 N
    (λ c lt other was.
    let within = whole-regions old c whole lt in
    are_free-true new (cell_slot c) 128 (omega (arith, within, size)) (still-free (cell_slot c) 128 becomes (apart.1 c lt other was) (AreAll-are_free old (cell_slot c) 128 within was))) in
    subst (λ (m : ℕ). counted (λ c. are_free old (cell_slot c) 128) N ≤ counted (λ c. are_free new (cell_slot c) 128) m + 1) (ap (λ (k : ℕ). 30 * k) (sym regions)) done

-- ---- pages

-- a free cell has sixteen places for pages
sixteen : (p : ℕ → Bool) (n k : ℕ) → ((i : ℕ) → i < k → p (n + i) ≡ true) → counted p (n + k) ≡ counted p n + k
sixteen p n zero all = let e : n + 0 ≡ n = omega arith in ap (counted p) e ∙ sym e_back
  where
    e_back : counted p n + 0 ≡ counted p n
    e_back = omega arith
sixteen p n (suc k) all =
    let rest = sixteen p n k (λ i lt. all i (omega (arith, lt))) in
    let e : n + suc k ≡ suc (n + k) = omega arith in
    let a : counted p (suc (n + k)) ≡ counted p (n + k) + cond (p (n + k)) 1 0 = more p (n + k) in
    let b : ◌≡◌ {A = ℕ} (cond (p (n + k)) 1 0) 1 = ap (λ (x : Bool). cond x 1 0) (all k (omega arith)) in
    let c : counted p (n + suc k) ≡ counted p (suc (n + k)) = ap (counted p) e in
    omega (arith, rest, a, b, c)

cells-pages : (used : List Bool) (n : ℕ) → length used ≡ 3968 * regions_of used → n ≤ 30 * regions_of used
    → 16 * counted (λ c. are_free used (cell_slot c) 128) n ≤ counted (λ g. are_free used (page_slot g) 8) (16 * n)
cells-pages used zero whole le = omega arith
cells-pages used (suc n) whole le =
    let P : ℕ → Bool = λ g. are_free used (page_slot g) 8 in
    let C : ℕ → Bool = λ c. are_free used (cell_slot c) 128 in
    let rest : 16 * counted C n ≤ counted P (16 * n) = cells-pages used n whole (omega (arith, le)) in
    let e : 16 * suc n ≡ 16 * n + 16 = omega arith in
    let a : counted C (suc n) ≡ counted C n + cond (C n) 1 0 = more C n in
    let c : counted P (16 * suc n) ≡ counted P (16 * n + 16) = ap (counted P) e in
    elim (cases_Bool (C n)) [
      | inl free ↦
          let within = whole-regions used n whole (omega (arith, le)) in
          let all = AreAll-are_free used (cell_slot n) 128 within free in
          let b = sixteen P (16 * n) 16 (λ i lt.
          let q : (16 * n + i) / 16 ≡ n = omega (arith, lt) in
          let m : (16 * n + i) % 16 ≡ i = omega (arith, lt) in
          let slot : page_slot (16 * n + i) ≡ cell_slot n + 8 * i = rw (q, m) refl in
          ap (λ (s : ℕ). are_free used s 8) slot ∙ are_free-true used (cell_slot n + 8 * i) 8 (omega (arith, within, lt)) (λ s low high. all s (omega (arith, low)) (omega (arith, high, lt)))) in
          let d : ◌≡◌ {A = ℕ} (cond (C n) 1 0) 1 = ap (λ (x : Bool). cond x 1 0) free in
          omega (arith, rest, a, b, c, d)
      | inr taken ↦
          let b = no-fewer P (16 * n) 16 in
          let d : ◌≡◌ {A = ℕ} (cond (C n) 1 0) 0 = ap (λ (x : Bool). cond x 1 0) taken in
          omega (arith, rest, a, b, c, d)
    ]

pub sixteen-each : (used : List Bool) → length used ≡ 3968 * regions_of used → 16 * free_cells_of used ≤ page_rooms used
unfolding free_cells_of page_rooms
sixteen-each used whole = cells-pages used (30 * regions_of used) whole (omega arith)

page-within : (used : List Bool) (g : ℕ) → length used ≡ 3968 * regions_of used → g < 16 * (30 * regions_of used) → page_slot g + 8 ≤ length used
page-within used g whole lt =
    let c : g / 16 < 30 * regions_of used = omega (arith, lt) in
    let a = whole-regions used (g / 16) whole c in
    omega (arith, a)

-- such a place has room for a page
pub page-room : (used : List Bool) → length used ≡ 3968 * regions_of used → 1 ≤ page_rooms used → (slot : ℕ) × IsPageRoom used slot
unfolding page_rooms
page-room used whole some =
    let found = some-counted (λ g. are_free used (page_slot g) 8) (16 * (30 * regions_of used)) some in
    let g : ℕ = found.0 in
    let lt = found.1 in
    let free = AreAll-are_free used (page_slot g) 8 (page-within used g whole lt) found.2 in (
      page_slot g,
      record {
        room = record {
          region = g / 16 / 30;
          exists = omega (arith, lt);
          inside = record { low = omega arith; high = omega arith };
          free = free;
        };
        aligned = omega arith;
      },
    )

-- pages at two multiples of eight slots are the same or apart
pages-apart : (p q : ℕ) → p % 8 ≡ 0 → q % 8 ≡ 0 → (q ≡ p → ⊥) → (q + 8 ≤ p) ⊎ (p + 8 ≤ q)
pages-apart p q a b other = elim (cases_lt q p) [ inl lt ↦ inl (omega (arith, a, b, lt)) | inr le ↦ elim (cases_lt p q) [ inl lt ↦ inr (omega (arith, a, b, lt)) | inr ge ↦ absurd (other (omega (arith, le, ge))) ] ]

page-number : (p g : ℕ) → page_slot g ≡ p → (3968 * (g / 16 / 30) ≤ p) → g ≡ 16 * (30 * (p / 3968) + (p % 3968 - 32) / 128) + (p % 3968 - 32) % 128 / 8
page-number p g is low = omega (arith, is)

-- a page takes at most one of them
pub page-takes : (old new : List Bool) (at : ℕ) → length old ≡ 3968 * regions_of old → BeginsLeast (IsPageRoom old) at → Becomes old new (slot_of at) 8 true → page_rooms old ≤ page_rooms new + 1
unfolding page_rooms
page-takes old new at whole least becomes =
    let p : ℕ = slot_of at in
    let size = becomes.size in
    let aligned : start_of p % 512 ≡ 0 = (least.holds).aligned in
    let regions : regions_of new ≡ regions_of old = ap (λ (k : ℕ). k / 3968) size in
    let N : ℕ = 16 * (30 * regions_of old) in
    let done : counted (λ g. are_free old (page_slot g) 8) N ≤ counted (λ g. are_free new (page_slot g) 8) N + 1 =
    lose-at-most (λ g. are_free old (page_slot g) 8) (λ g. are_free new (page_slot g) 8) (16 * (30 * (p / 3968) + (p % 3968 - 32) / 128) + (p % 3968 - 32) % 128 / 8) N
    (λ g lt other was.
    let within = page-within old g whole lt in
    are_free-true new (page_slot g) 8 (omega (arith, within, size)) (still-free (page_slot g) 8 becomes
    (pages-apart p (page_slot g) (omega (arith, aligned)) (omega arith) (λ is. other (page-number p g is (omega (arith, is)))))
    (AreAll-are_free old (page_slot g) 8 within was))) in
    subst (λ (m : ℕ). counted (λ g. are_free old (page_slot g) 8) N ≤ counted (λ g. are_free new (page_slot g) 8) m + 1) (ap (λ (k : ℕ). 16 * (30 * k)) (sym regions)) done

-- ---- the numbers

-- so many blocks leave room for so many pages
pub room-suffices : (used mid : List Bool) (n m : ℕ) → length used ≡ 3968 * regions_of used → length mid ≡ length used → free_cells_of used ≤ free_cells_of mid + n → n + m / 16 + 1 ≤ free_cells_of used → m ≤ page_rooms mid
room-suffices used mid n m whole size left enough =
    let same : length mid ≡ 3968 * regions_of mid = size ∙ whole ∙ ap (λ (k : ℕ). 3968 * (k / 3968)) (sym size) in
    let rooms = sixteen-each mid same in
    omega (arith, rooms, left, enough)

pub no-block : (used : List Bool) (n : ℕ) → length used ≡ 3968 * regions_of used → n ≤ 128 → ((slot : ℕ) → IsRoom used n slot → ⊥) → free_cells_of used ≡ 0
no-block used n whole short none = elim (cases_lt 0 (free_cells_of used)) [
  | inl some ↦ let r = cell-room used n whole short (omega (arith, some)) in absurd (none r.0 r.1)
  | inr few ↦ omega (arith, few)
]

pub no-page : (used : List Bool) → length used ≡ 3968 * regions_of used → ((slot : ℕ) → IsPageRoom used slot → ⊥) → page_rooms used ≡ 0
no-page used whole none = elim (cases_lt 0 (page_rooms used)) [
  | inl some ↦ let r = page-room used whole (omega (arith, some)) in absurd (none r.0 r.1)
  | inr few ↦ omega (arith, few)
]
