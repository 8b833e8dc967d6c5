-- Bytes of a part: spans of a list that a write leaves, and where the written bytes stand.
use Rattle.std.proofs.Common.{◌≡◌, ◌⊎◌, ◌∙◌, inr, ℕ, ◌+◌, ◌-◌, ◌<◌, ◌≤◌, max, min, List, [], ◌++◌, length, take, drop, get_or, replicate, refl, sym, ap, arith, ⊎_elim, length-append, length-drop, append_assoc}
use Rattle.std.proofs.lemmas.List.{same_lists, get_or-take, get_or-drop, get_or_default, get_or_append_left, get_or-append_right, get_or-replicate, length-take, length-replicate, take_at, drop_at, take_all, drop_all, places, append-nil, take-take, drop-take, take-append-drop}
use Rattle.std.proofs.lemmas.Bool.{cases_lt}
use borrow.Rule.Slice.PartMut.{put_mid}
use Rattle.pst_outside.specs.World.{Torn, after_write}
use Rattle.pst_outside.specs.Calls.{filled}

-- two lists that have the same bytes in a span
pub same_span : (c d : List ℕ) (i m : ℕ) → i + m ≤ length c → i + m ≤ length d → ((k : ℕ) → k < m → get_or c (i + k) 0 ≡ get_or d (i + k) 0) → take m (drop i c) ≡ take m (drop i d)
same_span c d i m in_c in_d same =
    same_lists (take m (drop i c)) (take m (drop i d)) (simp (length-take, length-drop) (omega arith))
    (λ k e lt.
    let low : k < m = omega (arith, simp (length-take, length-drop) at lt) in
    get_or-take m (drop i c) k e low ∙ get_or-drop i c k e ∙ get_or_default c (i + k) e 0 (omega arith) ∙ same k low
    ∙ get_or_default d (i + k) 0 e (omega arith) ∙ sym (get_or-drop i d k e) ∙ sym (get_or-take m (drop i d) k e low))

pub torn_same : (at n : ℕ) (d : List ℕ) → Torn at n d d
torn_same at n d = record { no_shorter = omega arith; no_longer = omega arith; below = λ i h l. refl; above = λ i h l. refl }

-- a torn write leaves every span that it doesn't meet
pub torn_span : {at n : ℕ} {d c : List ℕ} → Torn at n d c → (i m : ℕ) → i + m ≤ length d → (i + m ≤ at) ⊎ (at + n ≤ i) → take m (drop i c) ≡ take m (drop i d)
torn_span {at} {n} {d} {c} torn i m within apart =
    same_span c d i m (omega (arith, torn.no_shorter)) within
    (λ k lt. ⊎_elim (λ left. torn.below (i + k) (omega arith) (omega arith)) (λ right. torn.above (i + k) (omega arith) (omega arith)) apart)

-- where the range lies within, the length stays
pub torn_length : {at n : ℕ} {d c : List ℕ} → Torn at n d c → at + n ≤ length d → length c ≡ length d
torn_length torn within = omega (arith, torn.no_shorter, torn.no_longer)

pub torn_drop : {at n : ℕ} {d c : List ℕ} → Torn at n d c → (i : ℕ) → at + n ≤ i → i ≤ length d → drop i c ≡ drop i d
torn_drop {at} {n} {d} {c} torn i high within =
    let same : length c ≡ length d = omega (arith, torn.no_shorter, torn.no_longer) in
    let rest : take (length d - i) (drop i c) ≡ take (length d - i) (drop i d) = torn_span torn i (length d - i) (omega arith) (inr high) in
    sym (take_all (length d - i) (drop i c) (simp length-drop (omega arith))) ∙ rest ∙ take_all (length d - i) (drop i d) (simp length-drop (omega arith))

module _ (old : List ℕ) (at : ℕ) (bytes : List ℕ) where
  -- within the list a write leaves three pieces
  pub after_write_within : at ≤ length old → after_write old at bytes ≡ take at old ++ bytes ++ drop (at + length bytes) old
  after_write_within within =
      let none : at - length old ≡ 0 = omega arith in
      rw none (rw append-nil refl)

  pub length-after_write : length (after_write old at bytes) ≡ max (length old) (at + length bytes)
  length-after_write = simp (length-append, length-take, length-drop, length-replicate) (omega arith)

  -- what stands before the written bytes
  abbrev pub front : List ℕ
  front = take at old ++ replicate (at - length old) 0

  pub length-front : length front ≡ at
  length-front = simp (length-append, length-take, length-replicate) (omega arith)

  pub after_write_below : (i : ℕ) → i < length old → i < at → get_or (after_write old at bytes) i 0 ≡ get_or old i 0
  after_write_below i within low =
      let rest : List ℕ = drop (at + length bytes) old in
      let zeros : List ℕ = replicate (at - length old) 0 in
      get_or_append_left (front ++ bytes) rest 0 i (omega (arith, length-append front bytes, length-front))
      ∙ get_or_append_left front bytes 0 i (omega (arith, length-front))
      ∙ get_or_append_left (take at old) zeros 0 i (omega (arith, length-take at old))
      ∙ get_or-take at old i 0 low

  pub after_write_above : (i : ℕ) → i < length old → at + length bytes ≤ i → get_or (after_write old at bytes) i 0 ≡ get_or old i 0
  after_write_above i within high =
      get_or-append_right (front ++ bytes) (drop (at + length bytes) old) (at + length bytes) i 0 (omega (arith, length-append front bytes, length-front)) high
      ∙ get_or-drop (at + length bytes) old (i - (at + length bytes)) 0
      ∙ ap (λ k. get_or old k 0) (omega arith)

  -- a write is one of the outcomes of a torn write
  pub after_write_torn : Torn at (length bytes) old (after_write old at bytes)
  after_write_torn = record {
    no_shorter = omega (arith, length-after_write);
    no_longer = omega (arith, length-after_write);
    below = after_write_below;
    above = after_write_above;
  }

  -- the bytes stand where they were written
  pub after_write_span : take (length bytes) (drop at (after_write old at bytes)) ≡ bytes
  after_write_span =
      let rest : List ℕ = drop (at + length bytes) old in
      ap (λ l. take (length bytes) (drop at l)) (append_assoc front bytes rest)
      ∙ ap (λ l. take (length bytes) l) (drop_at front (bytes ++ rest) at length-front)
      ∙ take_at bytes rest (length bytes) refl

-- a write into a list that was filled up with zeros first
module _ (old : List ℕ) (at : ℕ) (bytes : List ℕ) where
  abbrev pub zeros : List ℕ
  zeros = replicate (at + length bytes - length old) 0

  pub grown_write : take at (old ++ zeros) ++ bytes ++ drop (at + length bytes) (old ++ zeros) ≡ after_write old at bytes
  grown_write =
      let end : ℕ = at + length bytes in
      let before : take at (old ++ zeros) ≡ take at old ++ replicate (at - length old) 0 =
      same_lists _ _ (simp (length-append, length-take, length-replicate) (omega arith)) (λ k d h. grind (arith, places, get_or-replicate)) in
      let after : drop end (old ++ zeros) ≡ drop end old =
      ⊎_elim
      (λ (short : length old < end). drop_all end (old ++ zeros) (simp (length-append, length-replicate) (omega arith)) ∙ sym (drop_all end old (omega arith)))
      (λ (long : end ≤ length old). let none : end - length old ≡ 0 = omega arith in rw none (rw append-nil refl))
      (cases_lt (length old) end) in
      ap (λ l. l ++ bytes ++ drop end (old ++ zeros)) before ∙ ap (λ l. take at old ++ replicate (at - length old) 0 ++ bytes ++ l) after

-- a write into a list that was first made as long as it will be
pub resized_write : (old xs rest out bytes : List ℕ) (at grown n m : ℕ) → grown ≡ max (length old) (at + length bytes) → m ≡ length old → xs ≡ take grown old ++ replicate (grown - m) 0
    → n ≡ length xs → out ≡ take at xs ++ bytes ++ drop (at + length bytes) xs → take n (out ++ rest) ≡ after_write old at bytes
resized_write old xs rest out bytes at grown n m size was made counts written =
    let more : grown - m ≡ at + length bytes - length old = omega (arith, size, was) in
    let filled : xs ≡ old ++ zeros old at bytes = made ∙ ap (λ l. l ++ replicate (grown - m) 0) (take_all grown old (omega (arith, size))) ∙ ap (λ k. old ++ replicate k 0) more in
    let whole : out ≡ after_write old at bytes = written ∙ ap (λ l. take at l ++ bytes ++ drop (at + length bytes) l) filled ∙ grown_write old at bytes in
    let long : length xs ≡ length old + (at + length bytes - length old) = ap length filled ∙ simp (length-append, length-replicate) refl in
    take_at out rest n (ap length whole ∙ length-after_write old at bytes ∙ omega (arith, long, counts)) ∙ whole

-- a read, with zeros put where it was cut short
pub filled_read : (buf bytes zeros : List ℕ) (n m : ℕ) → m ≡ length buf → n ≤ length buf → take n buf ≡ take (length buf) bytes → zeros ≡ replicate (length buf - n) 0
    → put_mid n (length buf - n) buf zeros ≡ filled m bytes
filled_read buf bytes zeros n m size within read put =
    let L : ℕ = length buf in
    let counts : n ≡ min L (length bytes) = omega (arith, length-take n buf, length-take L bytes, ap length read) in
    let none : drop (L - n) (drop n buf) ≡ [] = drop_all (L - n) (drop n buf) (omega (arith, length-drop n buf)) in
    let shown : put_mid n (L - n) buf zeros ≡ take L bytes ++ replicate (L - n) 0 =
    ap (λ l. take n buf ++ (zeros ++ l)) none ∙ ap (λ l. take n buf ++ l) (append-nil zeros ∙ put) ∙ ap (λ l. l ++ replicate (L - n) 0) read in
    shown
    ∙ same_lists _ _ (simp (length-append, length-take, length-replicate) (omega (arith, counts))) (λ k d h. grind (arith, places, get_or-replicate, counts))
    ∙ ap (λ k. filled k bytes) (sym size)

-- a text's front, and some of the rest
pub more_said : (text : List ℕ) (done n : ℕ) → done + n ≤ length text → take done text ++ take n (take (length text - done) (drop done text)) ≡ take (done + n) text
more_said text done n within =
    ap (λ l. take done text ++ l) (take-take n (length text - done) (drop done text) (omega arith))
    ∙ ap (λ l. l ++ take n (drop done text)) (sym (take-take done (done + n) text (omega arith)))
    ∙ ap (λ l. take done (take (done + n) text) ++ l) (sym (drop-take done n text))
    ∙ take-append-drop done (take (done + n) text)
