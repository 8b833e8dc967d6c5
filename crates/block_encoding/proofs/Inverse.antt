-- Decoding and encoding are inverse to each other.
use Rattle.std.proofs.Common.{◌≡◌, ◌∙◌, ℕ, suc, ◌+◌, ◌-◌, ◌<◌, ◌^◌, ◌%◌, ◌/◌, List, [], ◌∷◌, map, get_or, refl, sym, ap, subst, arith}
use Rattle.std.specs.List.{range_with_len}
use Rattle.std.proofs.lemmas.List.FromFn.{get_or-map-range_with_len, get_or-range_with_len}
use Rattle.std.proofs.lemmas.Nat.{xor_lt}
use Rattle.block_encoding.specs.declared.decoding.Method.{Method}
use Rattle.block_encoding.specs.declared.decoding.Method.TheVariants.{Permuted, Cyclic}
use Rattle.block_encoding.specs.Encoding.{back, decoded, encoded, first_word, forward, minus, plus, swapped, turned, turned_by, turned_from}

-- ---- the tables

forth_and_back : map (λ b. back (forward b)) (range_with_len 0 256) ≡ range_with_len 0 256
unfolding back forward
forth_and_back = refl

back_and_forth : map (λ b. forward (back b)) (range_with_len 0 256) ≡ range_with_len 0 256
unfolding back forward
back_and_forth = refl

twice_swapped : map (λ b. swapped (swapped b)) (range_with_len 0 256) ≡ range_with_len 0 256
unfolding swapped
twice_swapped = refl

backs_fit : map (λ b. back b % 256) (range_with_len 0 256) ≡ map back (range_with_len 0 256)
unfolding back
backs_fit = refl

forwards_fit : map (λ b. forward b % 256) (range_with_len 0 256) ≡ map forward (range_with_len 0 256)
unfolding forward
forwards_fit = refl

swaps_fit : map (λ b. swapped b % 256) (range_with_len 0 256) ≡ map swapped (range_with_len 0 256)
unfolding swapped
swaps_fit = refl

-- two rules that agree on the list of all bytes agree on each
same_at : (f g : ℕ → ℕ) → map f (range_with_len 0 256) ≡ map g (range_with_len 0 256) → (b : ℕ) → b < 256 → f b ≡ g b
same_at f g e b h =
    let zero_plus : 0 + b ≡ b = omega arith in
    sym (get_or-map-range_with_len f 0 256 b b 0 h zero_plus) ∙ ap (λ (l : List ℕ). get_or l b 0) e ∙ get_or-map-range_with_len g 0 256 b b 0 h zero_plus

itself_at : (f : ℕ → ℕ) → map f (range_with_len 0 256) ≡ range_with_len 0 256 → (b : ℕ) → b < 256 → f b ≡ b
itself_at f e b h =
    let zero_plus : 0 + b ≡ b = omega arith in
    sym (get_or-map-range_with_len f 0 256 b b 0 h zero_plus) ∙ ap (λ (l : List ℕ). get_or l b 0) e ∙ get_or-range_with_len 0 256 b 0 h ∙ zero_plus

fits_at : (f : ℕ → ℕ) → map (λ b. f b % 256) (range_with_len 0 256) ≡ map f (range_with_len 0 256) → (b : ℕ) → b < 256 → f b < 256
fits_at f e b h = let same : f b % 256 ≡ f b = same_at (λ n. f n % 256) f e b h in omega arith

pub back-forward : (b : ℕ) → b < 256 → back (forward b) ≡ b
back-forward b h = itself_at (λ n. back (forward n)) forth_and_back b h

pub forward-back : (b : ℕ) → b < 256 → forward (back b) ≡ b
forward-back b h = itself_at (λ n. forward (back n)) back_and_forth b h

swapped-swapped : (b : ℕ) → b < 256 → swapped (swapped b) ≡ b
swapped-swapped b h = itself_at (λ n. swapped (swapped n)) twice_swapped b h

back_fits : (b : ℕ) → b < 256 → back b < 256
back_fits b h = fits_at back backs_fit b h

forward_fits : (b : ℕ) → b < 256 → forward b < 256
forward_fits b h = fits_at forward forwards_fit b h

swapped_fits : (b : ℕ) → b < 256 → swapped b < 256
swapped_fits b h = fits_at swapped swaps_fit b h

-- ---- by a word

minus-plus : (a b : ℕ) → a < 256 → b < 256 → minus (plus a b) b ≡ a
minus-plus a b h k = omega arith

plus-minus : (a b : ℕ) → a < 256 → b < 256 → plus (minus a b) b ≡ a
plus-minus a b h k = omega arith

plus_fits : (a b : ℕ) → plus a b < 256
plus_fits a b = omega arith

minus_fits : (a b : ℕ) → minus a b < 256
minus_fits a b = omega arith

-- turned twice, a byte is itself
twice_turned : (low high b : ℕ) → low < 256 → high < 256 → b < 256 → turned_by low high (turned_by low high b) ≡ b
twice_turned low high b l h k =
    let f : ℕ = forward (plus b low) in
    let ff : f < 256 = forward_fits (plus b low) (plus_fits b low) in
    let s : ℕ = swapped (plus f high) in
    let sf : s < 256 = swapped_fits (plus f high) (plus_fits f high) in
    let m : ℕ = minus s high in
    let mf : m < 256 = minus_fits s high in
    let one : plus (turned_by low high b) low ≡ back m = plus-minus (back m) low (back_fits m mf) l in
    let two : forward (plus (turned_by low high b) low) ≡ m = ap forward one ∙ forward-back m mf in
    let three : plus (forward (plus (turned_by low high b) low)) high ≡ s = ap (λ (n : ℕ). plus n high) two ∙ plus-minus s high sf h in
    let four : swapped (plus (forward (plus (turned_by low high b) low)) high) ≡ plus f high = ap swapped three ∙ swapped-swapped (plus f high) (plus_fits f high) in
    let five : minus (swapped (plus (forward (plus (turned_by low high b) low)) high)) high ≡ f = ap (λ (n : ℕ). minus n high) four ∙ minus-plus f high ff h in
    ap (λ (n : ℕ). minus (back n) low) five ∙ ap (λ (n : ℕ). minus n low) (back-forward (plus b low) (plus_fits b low)) ∙ minus-plus b low k l

turned-turned : (w b : ℕ) → w < 65536 → b < 256 → turned w (turned w b) ≡ b
unfolding turned
turned-turned w b h k = twice_turned (w % 256) (w / 256) b (omega arith) (omega arith) k

-- each of these is a byte
abbrev pub AreBytes : List ℕ → Type 0
AreBytes bytes = (i : ℕ) → get_or bytes i 0 < 256

head_fits : (b : ℕ) (bs : List ℕ) → AreBytes (b ∷ bs) → b < 256
head_fits b bs h = h 0

rest_fit : (b : ℕ) (bs : List ℕ) → AreBytes (b ∷ bs) → AreBytes bs
rest_fit b bs h = λ i. h (suc i)

pub turned_from-twice : (w : ℕ) (bs : List ℕ) → w < 65536 → AreBytes bs → turned_from w (turned_from w bs) ≡ bs
unfolding turned_from
turned_from-twice w [] h k = refl
turned_from-twice w (b ∷ bs) h k =
    (λ i. (turned-turned w b h (head_fits b bs k) i) ∷ (turned_from-twice ((w + 1) % 65536) bs (omega arith) (rest_fit b bs k) i))

map-inverse : (f g : ℕ → ℕ) → ((b : ℕ) → b < 256 → f (g b) ≡ b) → (bs : List ℕ) → AreBytes bs → map f (map g bs) ≡ bs
map-inverse f g e [] k = refl
map-inverse f g e (b ∷ bs) k = (λ i. (e b (head_fits b bs k) i) ∷ (map-inverse f g e bs (rest_fit b bs k) i))

word_fits : (bid : ℕ) → first_word bid < 65536
word_fits bid = xor_lt 16 (bid / 65536 % 65536) (bid % 65536) (omega arith) (omega arith)

-- ---- a block

pub decoded-encoded : (method : Method) (bid : ℕ) (bytes : List ℕ) → AreBytes bytes → decoded method bid (encoded method bid bytes) ≡ bytes
decoded-encoded Permuted bid bytes k = map-inverse back forward back-forward bytes k
decoded-encoded Cyclic bid bytes k = turned_from-twice (first_word bid) bytes (word_fits bid) k

pub encoded-decoded : (method : Method) (bid : ℕ) (bytes : List ℕ) → AreBytes bytes → encoded method bid (decoded method bid bytes) ≡ bytes
encoded-decoded Permuted bid bytes k = map-inverse forward back forward-back bytes k
encoded-decoded Cyclic bid bytes k = turned_from-twice (first_word bid) bytes (word_fits bid) k
