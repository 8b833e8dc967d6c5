-- Places of whole slots that cover no common slot have no byte in common.
use Rattle.std.proofs.Common.{◌≡◌, ◌⊎◌, inl, inr, ℕ, ◌+◌, ◌*◌, ◌%◌, ◌<◌, ◌≤◌, arith, ⊎_elim}
use Rattle.std.proofs.lemmas.Bool.{cases_lt}
use Rattle.pst_base.specs.declared.places.Place.{Place}
use Rattle.alloc_map.specs.Slots.{slot_of, slots_in}
use Rattle.alloc_map.specs.Standing.{Covers}

-- a place of whole slots, with one at least
pub record IsWhole (p : Place) : Type 0 where
  pub above : 0x4400 ≤ p.ib
  pub start : p.ib % 64 ≡ 0
  pub whole : p.len % 64 ≡ 0
  pub some : 64 ≤ p.len

abbrev pub Apart : Place → Place → Type 0
Apart p q = (p.ib + p.len ≤ q.ib) ⊎ (q.ib + q.len ≤ p.ib)

-- two places that share no slot share no byte
pub apart_slots : (p q : Place) → IsWhole p → IsWhole q → ((slot : ℕ) → Covers p slot → Covers q slot → ⊥) → Apart p q
apart_slots p q whole_p whole_q none =
    let a = slot_of p.ib in
    let b = slot_of q.ib in
    let at_p : p.ib ≡ 0x4400 + 64 * a = omega (arith, whole_p.above, whole_p.start) in
    let at_q : q.ib ≡ 0x4400 + 64 * b = omega (arith, whole_q.above, whole_q.start) in
    let len_p : p.len ≡ 64 * slots_in p = omega (arith, whole_p.whole) in
    let len_q : q.len ≡ 64 * slots_in q = omega (arith, whole_q.whole) in
    let some_p : 1 ≤ slots_in p = omega (arith, whole_p.some, len_p) in
    let some_q : 1 ≤ slots_in q = omega (arith, whole_q.some, len_q) in
    ⊎_elim
    (λ (first : a < b). ⊎_elim
    (λ (meets : b < a + slots_in p). absurd (none b (record { begins = omega (arith, first); ends = meets }) (record { begins = omega arith; ends = omega (arith, some_q) })))
    (λ (past : a + slots_in p ≤ b). inl (omega (arith, at_p, at_q, len_p, past)))
    (cases_lt b (a + slots_in p)))
    (λ (later : b ≤ a). ⊎_elim
    (λ (meets : a < b + slots_in q). absurd (none a (record { begins = omega arith; ends = omega (arith, some_p) }) (record { begins = later; ends = meets })))
    (λ (past : b + slots_in q ≤ a). inr (omega (arith, at_p, at_q, len_q, past)))
    (cases_lt a (b + slots_in q)))
    (cases_lt a b)
