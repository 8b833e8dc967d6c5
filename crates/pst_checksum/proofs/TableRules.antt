-- The entries of the tables, each computed by the rule.
use Rattle.std.proofs.Common.{◌≡◌, ℕ, zero, suc, ◌+◌, ◌*◌, ◌-◌, ◌<◌, ◌≤◌, map, take, drop, get_or, length, refl, sym, ap, ◌∙◌, arith, List}
use Rattle.std.specs.List.{range_with_len}
use Rattle.std.proofs.lemmas.List.{get_or-drop, get_or-take, get_or-map}
use Rattle.std.proofs.lemmas.List.FromFn.{get_or-map-range_with_len}
use Rattle.pst_checksum.specs.Crc.{after_bit, after_bits}
use Rattle.pst_checksum.specs.declared.tables.TheConstants.{NEAR}
use Rattle.pst_checksum.proofs.RegisterLaws.{after_bits-add}

near_first : take 256 NEAR ≡ map (after_bits 8) (range_with_len 0 256)
unfolding after_bit after_bits
near_first = refl

near_next : drop 256 NEAR ≡ map (after_bits 8) (take 1792 NEAR)
unfolding after_bit after_bits
near_next = refl

-- an entry of a table whose rows go on by 8 bits each
row_at : (table : List ℕ) (start rows : ℕ) → length (take (256 * rows) table) ≡ 256 * rows
    → ((i : ℕ) → i < 256 → get_or table i 0 ≡ after_bits start i)
    → drop 256 table ≡ map (after_bits 8) (take (256 * rows) table)
    → (k i : ℕ) → k ≤ rows → i < 256 → get_or table (256 * k + i) 0 ≡ after_bits (start + 8 * k) i
row_at table start rows len first next zero i hk hi =
    let e : 256 * zero + i ≡ i = omega arith in
    let s : start + 8 * zero ≡ start = omega arith in
    ap (λ (j : ℕ). get_or table j 0) e ∙ first i hi ∙ ap (λ (n : ℕ). after_bits n i) (sym s)
row_at table start rows len first next (suc k) i hk hi =
    let e : 256 * suc k + i ≡ 256 + (256 * k + i) = omega arith in
    let s : start + 8 * suc k ≡ (start + 8 * k) + 8 = omega arith in
    let within : 256 * k + i < 256 * rows = omega arith in
    let inside : 256 * k + i < length (take (256 * rows) table) = omega (arith, len) in
    ap (λ (j : ℕ). get_or table j 0) e
    ∙ sym (get_or-drop 256 table (256 * k + i) 0)
    ∙ ap (λ (t : List ℕ). get_or t (256 * k + i) 0) next
    ∙ get_or-map (after_bits 8) (take (256 * rows) table) (256 * k + i) 0 0 inside
    ∙ ap (after_bits 8) (get_or-take (256 * rows) table (256 * k + i) 0 within ∙ row_at table start rows len first next k i (omega arith) hi)
    ∙ sym (after_bits-add (start + 8 * k) 8 i)
    ∙ ap (λ (n : ℕ). after_bits n i) (sym s)

near_first_at : (i : ℕ) → i < 256 → get_or NEAR i 0 ≡ after_bits 8 i
near_first_at i h =
    sym (get_or-take 256 NEAR i 0 h) ∙ ap (λ (t : List ℕ). get_or t i 0) near_first ∙ get_or-map-range_with_len (after_bits 8) 0 256 i i 0 h (omega arith)

pub near_at : (n i : ℕ) → 1 ≤ n → n ≤ 8 → i < 256 → get_or NEAR (256 * (n - 1) + i) 0 ≡ after_bits (8 * n) i
near_at n i low high h =
    let e : 8 + 8 * (n - 1) ≡ 8 * n = omega arith in
    row_at NEAR 8 7 refl near_first_at near_next (n - 1) i (omega arith) h ∙ ap (λ (m : ℕ). after_bits m i) e
