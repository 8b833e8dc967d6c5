-- Cells counted one after another.
use Rattle.std.proofs.Common.{◌≡◌, ◌<◌, ◌≤◌, ◌↔◌, ◌+◌, ◌-◌, ◌*◌, ◌/◌, ◌^◌, ℕ, zero, suc, refl, Bool, true, false, not, cond, ltb, min, List, length, get_or, take, drop, sym, ap, ◌∙◌, inl, inr, arith, length-drop}
use Rattle.std.proofs.lemmas.Bool.{le-ltb, lt-ltb, cases_Bool, not-true, not_from_false, false_from_ne_true, true≢false}
use Rattle.std.proofs.lemmas.List.{map-id, length-take-le, get_or-take, get_or-drop, get_or_default}
use Rattle.std.proofs.lemmas.List.FromFn.{sum_by-map-range_with_len_more, length-range_with_len}
use Rattle.std.proofs.lemmas.List.Sums.{count_by-le-length, AllPass-from_list_all, list_all-from_AllPass}
use Rattle.std.specs.List.{count_by, range_with_len}
use Rattle.alloc_map.specs.Cells.{are_free, cell_slot, cells_from, cells_until, free_below, free_cells_of, IsCounted}
use Rattle.alloc_map.specs.Ends.{free_slots_of, is_free_below}
use Rattle.alloc_map.specs.Slots.{is_used, regions_of, start_of, AreAll, Becomes}

pub count_more : (p : ℕ → Bool) (n : ℕ) → count_by p (range_with_len 0 (n + 1)) ≡ count_by p (range_with_len 0 n) + cond (p n) 1 0
count_more p n =
    let step = sum_by-map-range_with_len_more (λ (x : ℕ). cond (p x) 1 0) (λ (x : ℕ). x) 0 n n (omega arith) in
    rw (map-id (range_with_len 0 (n + 1)), map-id (range_with_len 0 n)) at step

pub count_small : (p : ℕ → Bool) (n : ℕ) → count_by p (range_with_len 0 n) ≤ n
count_small p n = omega (arith, count_by-le-length p (range_with_len 0 n), length-range_with_len 0 n)

pub below_small : (used : List Bool) (n : ℕ) → free_below used n ≤ n
unfolding free_below
below_small used n = count_small (λ c. are_free used (cell_slot c) 128) n

module _ (used : List Bool) (slot n : ℕ) (within : slot + n ≤ length used) where
  part-length : length (take (slot + n - slot) (drop slot used)) ≡ n
  part-length = let e : slot + n - slot ≡ n = omega arith in rw e (length-take-le n (drop slot used) (omega (arith, length-drop slot used)))

  part-at : (k : ℕ) (d : Bool) → k < n → get_or (take (slot + n - slot) (drop slot used)) k d ≡ is_used used (slot + k)
  part-at k d h = get_or-take (slot + n - slot) (drop slot used) k d (omega arith) ∙ get_or-drop slot used k d ∙ get_or_default used (slot + k) d false (omega arith)

  pub are_free-true : AreAll used slot n false → are_free used slot n ≡ true
  unfolding are_free
  are_free-true h = list_all-from_AllPass not _ (λ k d below. not_from_false _ (part-at k d (omega (arith, part-length)) ∙ h (slot + k) (omega arith) (omega (arith, part-length))))

  pub AreAll-are_free : are_free used slot n ≡ true → AreAll used slot n false
  unfolding are_free
  AreAll-are_free h = λ s low high.
      let k : s ≡ slot + (s - slot) = omega arith in
      let pass = AllPass-from_list_all not _ h (s - slot) false (omega (arith, part-length)) in
      ap (is_used used) k ∙ sym (part-at (s - slot) false (omega arith)) ∙ not-true _ pass

  pub are_free-is : (clear : Bool) → ((clear ≡ true) ↔ AreAll used slot n false) → are_free used slot n ≡ clear
  are_free-is clear h = elim (cases_Bool clear) [
    | inl e ↦ are_free-true (h.0 e) ∙ sym e
    | inr e ↦ false_from_ne_true _ (λ f. true≢false (sym (h.1 (AreAll-are_free f)) ∙ e)) ∙ sym e
  ]

-- one more cell is counted
pub cell_more : (used : List Bool) (from cell byte free new : ℕ) (clear : Bool) → 8 * byte ≡ cell_slot cell → 8 * byte + 128 ≤ length used → ((clear ≡ true) ↔ AreAll used (8 * byte) 128 false) → free_below used from + free ≡ free_below used cell → new ≡ free + cond clear 1 0 → free_below used from + new ≡ free_below used (cell + 1)
unfolding free_below
cell_more used from cell byte free new clear place within h was is =
    let e : are_free used (cell_slot cell) 128 ≡ clear = rw (← place) (are_free-is used (8 * byte) 128 within clear h) in
    let step = count_more (λ c. are_free used (cell_slot c) 128) cell in
    let one : ◌≡◌ {A = ℕ} (cond (are_free used (cell_slot cell) 128) 1 0) (cond clear 1 0) = ap (λ (b : Bool). cond b 1 0) e in
    omega (arith, was, is, step, one)

-- ---- counts of numbers

abbrev pub counted : (ℕ → Bool) → ℕ → ℕ
counted p n = count_by p (range_with_len 0 n)

pub more : (p : ℕ → Bool) (n : ℕ) → counted p (suc n) ≡ counted p n + cond (p n) 1 0
more p n = let e : suc n ≡ n + 1 = omega arith in ap (counted p) e ∙ count_more p n

pub no-fewer : (p : ℕ → Bool) (n k : ℕ) → counted p n ≤ counted p (n + k)
no-fewer p n zero = let e : n + 0 ≡ n = omega arith in let a = ap (counted p) e in omega (arith, a)
no-fewer p n (suc k) =
    let rest = no-fewer p n k in
    let e : n + suc k ≡ suc (n + k) = omega arith in
    let a : counted p (suc (n + k)) ≡ counted p (n + k) + cond (p (n + k)) 1 0 = more p (n + k) in
    let c : counted p (n + suc k) ≡ counted p (suc (n + k)) = ap (counted p) e in
    omega (arith, rest, a, c)

same-count : (p q : ℕ → Bool) (n : ℕ) → ((c : ℕ) → c < n → p c ≡ q c) → counted p n ≡ counted q n
same-count p q zero same = refl
same-count p q (suc n) same =
    let rest = same-count p q n (λ c lt. same c (omega arith)) in
    let one : ◌≡◌ {A = ℕ} (cond (p n) 1 0) (cond (q n) 1 0) = ap (λ (b : Bool). cond b 1 0) (same n (omega arith)) in
    let a = more p n in
    let b = more q n in
    omega (arith, rest, one, a, b)

-- where two tests agree from a number on, they count as much there
same-beyond : (p q : ℕ → Bool) (n k : ℕ) → ((c : ℕ) → n ≤ c → c < n + k → p c ≡ q c) → counted p (n + k) + counted q n ≡ counted q (n + k) + counted p n
same-beyond p q n zero same =
    let e : n + 0 ≡ n = omega arith in
    let a = ap (counted p) e in
    let b = ap (counted q) e in
    omega (arith, a, b)
same-beyond p q n (suc k) same =
    let rest = same-beyond p q n k (λ c low lt. same c low (omega arith)) in
    let e : n + suc k ≡ suc (n + k) = omega arith in
    let one : ◌≡◌ {A = ℕ} (cond (p (n + k)) 1 0) (cond (q (n + k)) 1 0) = ap (λ (b : Bool). cond b 1 0) (same (n + k) (omega arith) (omega arith)) in
    let a : counted p (suc (n + k)) ≡ counted p (n + k) + cond (p (n + k)) 1 0 = more p (n + k) in
    let b : counted q (suc (n + k)) ≡ counted q (n + k) + cond (q (n + k)) 1 0 = more q (n + k) in
    let c : counted p (n + suc k) ≡ counted p (suc (n + k)) = ap (counted p) e in
    let d : counted q (n + suc k) ≡ counted q (suc (n + k)) = ap (counted q) e in
    omega (arith, rest, one, a, b, c, d)

-- ---- which cells a run of slots meets

until-ends : (slot c : ℕ) → c < cells_until slot → cell_slot c + 128 ≤ slot
until-ends slot c lt = omega arith

from-begins : (slot c : ℕ) → cells_from slot ≤ c → slot ≤ cell_slot c
from-begins slot c le = omega arith

pub cells-within : (slot r : ℕ) → slot ≤ 3968 * r → cells_from slot ≤ 30 * r
cells-within slot r le = omega arith

-- slots that are used in both or in none make cells that are free in both or in none
same-free : (old new : List Bool) (slot n : ℕ) → slot + n ≤ length old → slot + n ≤ length new → ((s : ℕ) → slot ≤ s → s < slot + n → is_used new s ≡ is_used old s) → are_free old slot n ≡ are_free new slot n
same-free old new slot n within there same = are_free-is old slot n within (are_free new slot n) (
  λ free s low high. sym (same s low high) ∙ AreAll-are_free new slot n there free s low high,
  λ free. are_free-true new slot n there (λ s low high. same s low high ∙ free s low high),
)

module _ (old new : List Bool) (at n : ℕ) (v : Bool) (free before after : ℕ) (was : IsCounted old free) (h : Becomes old new at n v) (within : at + n ≤ length old)
    (b : free_below old (cells_until at) + before ≡ free_below old (cells_from (at + n))) (a : free_below new (cells_until at) + after ≡ free_below new (cells_from (at + n))) where
  cell-within : (c : ℕ) → c < 30 * regions_of old → cell_slot c + 128 ≤ length old
  cell-within c lt = let whole = was.whole in omega (arith, whole, lt)

  cells : (all : ℕ) × (all ≡ 30 * regions_of old - cells_from (at + n)) × (cells_from (at + n) + all ≡ 30 * regions_of old)
  cells =
      let whole = was.whole in
      let few = cells-within (at + n) (regions_of old) (omega (arith, whole, within)) in
      (30 * regions_of old - cells_from (at + n), refl, omega (arith, few))

  below : free_below old (cells_until at) ≡ free_below new (cells_until at)
  unfolding free_below
  below = same-count (λ c. are_free old (cell_slot c) 128) (λ c. are_free new (cell_slot c) 128) (cells_until at) (λ c lt.
      let ends = until-ends at c lt in
      let size = h.size in
      same-free old new (cell_slot c) 128 (omega (arith, ends, within)) (omega (arith, ends, within, size)) (λ s low high. h.below s (omega (arith, ends, high))))

  beyond : free_cells_of old + free_below new (cells_from (at + n)) ≡ free_cells_of new + free_below old (cells_from (at + n))
  unfolding free_below free_cells_of
  beyond =
      let size = h.size in
      let regions : regions_of new ≡ regions_of old = ap (λ (k : ℕ). k / 3968) size in
      let P : ℕ → Bool = λ c. are_free old (cell_slot c) 128 in
      let Q : ℕ → Bool = λ c. are_free new (cell_slot c) 128 in
      let step = same-beyond P Q (cells_from (at + n)) cells.0 (λ c low lt.
      let begins = from-begins (at + n) c low in
      let all = cells.2 in
      let inside = cell-within c (omega (arith, all, lt)) in
      same-free old new (cell_slot c) 128 inside (omega (arith, inside, size)) (λ s here there. h.above s (omega (arith, begins, here)))) in
      let e : counted P (cells_from (at + n) + cells.0) ≡ counted P (30 * regions_of old) = ap (counted P) cells.2 in
      let f : counted Q (cells_from (at + n) + cells.0) ≡ counted Q (30 * regions_of new) = ap (counted Q) (cells.2 ∙ ap (λ (k : ℕ). 30 * k) (sym regions)) in
      omega (arith, step, e, f)

  most : free_below old (cells_from (at + n)) ≤ free
  unfolding free_below free_cells_of
  most =
      let P : ℕ → Bool = λ c. are_free old (cell_slot c) 128 in
      let fewer = no-fewer P (cells_from (at + n)) cells.0 in
      let e : counted P (cells_from (at + n) + cells.0) ≡ counted P (30 * regions_of old) = ap (counted P) cells.2 in
      let count = was.count in
      omega (arith, fewer, e, count)

  pub recounted : IsCounted new (free + after - before)
  recounted =
      let size = h.size in
      let regions : regions_of new ≡ regions_of old = ap (λ (k : ℕ). k / 3968) size in
      let one = below in
      let two = beyond in
      let whole = was.whole in
      let few = was.few in
      let count = was.count in
      record { whole = omega (arith, size, whole, regions); few = omega (arith, few, regions); count = omega (arith, one, two, count, a, b) }

  pub recount-small : (before ≤ free) × (free + after < 2 ^ 32)
  unfolding free_below free_cells_of
  recount-small =
      let m = most in
      let count = was.count in
      let few = was.few in
      let all = count_small (λ c. are_free old (cell_slot c) 128) (30 * regions_of old) in
      let some = count_small (λ c. are_free new (cell_slot c) 128) (cells_from (at + n)) in
      let bound = cells.2 in
      (omega (arith, m, b), omega (arith, count, few, all, some, bound, a))

-- ---- slots below an end

pub clear-more : (used : List Bool) (at clear new : ℕ) (value : Bool) → value ≡ is_used used at → clear ≡ counted (λ (s : ℕ). not (is_used used s)) at → new ≡ clear + cond (not value) 1 0 → new ≡ counted (λ (s : ℕ). not (is_used used s)) (at + 1)
clear-more used at clear new value is was step =
    let one : ◌≡◌ {A = ℕ} (cond (not value) 1 0) (cond (not (is_used used at)) 1 0) = ap (λ (b : Bool). cond (not b) 1 0) is in
    let a = count_more (λ (s : ℕ). not (is_used used s)) at in
    omega (arith, one, was, step, a)

none-beyond : (p : ℕ → Bool) (n k : ℕ) → ((c : ℕ) → n ≤ c → c < n + k → p c ≡ false) → counted p (n + k) ≡ counted p n
none-beyond p n zero none = let e : n + 0 ≡ n = omega arith in ap (counted p) e
none-beyond p n (suc k) none =
    let rest = none-beyond p n k (λ c low lt. none c low (omega arith)) in
    let e : n + suc k ≡ suc (n + k) = omega arith in
    let one : ◌≡◌ {A = ℕ} (cond (p (n + k)) 1 0) 0 = ap (λ (b : Bool). cond b 1 0) (none (n + k) (omega arith) (omega arith)) in
    let a : counted p (suc (n + k)) ≡ counted p (n + k) + cond (p (n + k)) 1 0 = more p (n + k) in
    let c : counted p (n + suc k) ≡ counted p (suc (n + k)) = ap (counted p) e in
    omega (arith, rest, one, a, c)

-- the free slots that begin below an end are the free ones of the first slots
pub free-slots : (used : List Bool) (eof k : ℕ) → k ≡ min ((eof - 17408 + 63) / 64) (length used) → counted (λ (s : ℕ). not (is_used used s)) k ≡ free_slots_of used eof
unfolding free_slots_of
free-slots used eof k is =
    let P : ℕ → Bool = is_free_below used eof in
    let first = same-count (λ (s : ℕ). not (is_used used s)) P k (λ c lt. let below : ltb (start_of c) eof ≡ true = lt-ltb (start_of c) eof (omega (arith, is, lt)) in rw below refl) in
    let rest = none-beyond P k (length used - k) (λ c low lt. let past : ltb (start_of c) eof ≡ false = le-ltb (start_of c) eof (omega (arith, is, low, lt)) in rw past refl) in
    let all : k + (length used - k) ≡ length used = omega (arith, is) in
    first ∙ sym rest ∙ ap (counted P) all
