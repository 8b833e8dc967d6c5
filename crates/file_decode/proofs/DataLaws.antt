-- The data of a block once it was decoded: as long as it was, and of bytes.
use Rattle.std.proofs.Common.{◌≡◌, ◌∙◌, ℕ, zero, suc, ◌+◌, ◌%◌, ◌<◌, ◌≤◌, List, [], ◌∷◌, length, map, get_or, refl, sym, ap, subst, arith, ⊎_elim}
use Rattle.std.specs.List.{range_with_len}
use Rattle.std.proofs.lemmas.Bool.{cases_lt}
use Rattle.std.proofs.lemmas.List.{get_or_past}
use Rattle.std.proofs.lemmas.List.FromFn.{get_or-map-range_with_len}
use Rattle.block_encoding.specs.declared.decoding.Method.{Method}
use Rattle.block_encoding.specs.declared.decoding.Method.TheVariants.{Permuted, Cyclic}
use Rattle.block_encoding.specs.declared.tables.TheConstants.{BACK}
use Rattle.block_encoding.specs.Encoding.{back, decoded, first_word, turned, turned_from}

backs : map (λ b. back b % 256) (range_with_len 0 256) ≡ map back (range_with_len 0 256)
unfolding back
backs = refl

back-low : (b : ℕ) → b < 256 → back b < 256
back-low b h =
    let zero_plus : 0 + b ≡ b = omega arith in
    let same : back b % 256 ≡ back b =
    sym (get_or-map-range_with_len (λ n. back n % 256) 0 256 b b 0 h zero_plus) ∙ ap (λ (l : List ℕ). get_or l b 0) backs ∙ get_or-map-range_with_len back 0 256 b b 0 h zero_plus in
    omega (arith, same)

back-high : (b : ℕ) → 256 ≤ b → back b < 256
unfolding back
back-high b h = let none : get_or BACK b 0 ≡ 0 = get_or_past BACK b 0 h in subst (λ (n : ℕ). n < 256) (sym none) (omega arith)

back-small : (b : ℕ) → back b < 256
back-small b = ⊎_elim (back-low b) (back-high b) (cases_lt b 256)

mapped-length : (bs : List ℕ) → length (map back bs) ≡ length bs
mapped-length [] = refl
mapped-length (b ∷ bs) = ap suc (mapped-length bs)

mapped-bytes : (bs : List ℕ) (i : ℕ) → get_or (map back bs) i 0 < 256
mapped-bytes [] i = omega arith
mapped-bytes (b ∷ bs) zero = back-small b
mapped-bytes (b ∷ bs) (suc i) = mapped-bytes bs i

turned-length : (word : ℕ) (bs : List ℕ) → length (turned_from word bs) ≡ length bs
unfolding turned_from
turned-length word [] = refl
turned-length word (b ∷ bs) = ap suc (turned-length ((word + 1) % 65536) bs)

turned-small : (word b : ℕ) → turned word b < 256
unfolding turned
turned-small word b = omega arith

turned-bytes : (word : ℕ) (bs : List ℕ) (i : ℕ) → get_or (turned_from word bs) i 0 < 256
unfolding turned_from
turned-bytes word [] i = omega arith
turned-bytes word (b ∷ bs) zero = turned-small word b
turned-bytes word (b ∷ bs) (suc i) = turned-bytes ((word + 1) % 65536) bs i

pub decoded-length : (method : Method) (bid : ℕ) (bs : List ℕ) → length (decoded method bid bs) ≡ length bs
decoded-length Permuted bid bs = mapped-length bs
decoded-length Cyclic bid bs = turned-length (first_word bid) bs

pub decoded-bytes : (method : Method) (bid : ℕ) (bs : List ℕ) (i : ℕ) → get_or (decoded method bid bs) i 0 < 256
decoded-bytes Permuted bid bs i = mapped-bytes bs i
decoded-bytes Cyclic bid bs i = turned-bytes (first_word bid) bs i
