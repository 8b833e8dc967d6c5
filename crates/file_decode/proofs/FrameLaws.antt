-- A block with other data and the checksum of that stands as it stood.
use Rattle.std.proofs.Common.{Bool, true, false, ◌≡◌, ◌∙◌, ℕ, ◌+◌, ◌-◌, ◌^◌, ◌<◌, ◌≤◌, List, [], ◌++◌, length, take, drop, get_or, if◌then◌else◌, not, eqb, Ok, Err, refl, sym, ap, arith, length-append, length-drop}
use Rattle.std.proofs.lemmas.Bool.{eq-eqb}
use Rattle.std.proofs.lemmas.List.{append-nil, get_or-append_right, get_or-drop, get_or_append_left, take_all}
use Rattle.byteorder.specs.Endian.{little_bytes}
use Rattle.pst_base.specs.declared.ids.Bref.{Bref}
use Rattle.pst_base.specs.Fields.{number_at}
use Rattle.pst_base.specs.Ids.{key_of}
use Rattle.pst_base.proofs.CellLaws.{get_or-replaced_above, get_or-replaced_below, get_or-replaced_same, length-replaced}
use Rattle.pst_base.proofs.Numbers.{number_at-first, number_at-same}
use Rattle.pst_checksum.specs.Crc.{crc_of}
use Rattle.pst_checksum.specs.Sig.{sig_of}
use Rattle.pst_outside.proofs.Bytes.{same_span}
use Rattle.block_frame.specs.declared.block.BlockFault.{BlockFault}
use Rattle.block_frame.specs.declared.block.BlockFault.TheVariants as faults
use Rattle.block_frame.specs.Block.{reading, trailer_at}
use Rattle.block_frame.specs.Size.{disk_size_of}
use Rattle.file_decode.specs.Decoding.{with_data}

-- how many bytes a number of four takes
four-bytes : (x : ℕ) → length (little_bytes 4 x) ≡ 4
four-bytes x = refl

-- four tests that were passed
passed : (p q r s : Bool) (a b c d : BlockFault) (x y : List ℕ) → (if not p then Err a else if not q then Err b else if not r then Err c else if not s then Err d else Ok x) ≡ Ok y
    → (p ≡ true) × (r ≡ true) × (s ≡ true)
passed false q r s a b c d x y h = absurd (cc)
passed true false r s a b c d x y h = absurd (cc)
passed true true false s a b c d x y h = absurd (cc)
passed true true true false a b c d x y h = absurd (cc)
passed true true true true a b c d x y h = (refl, refl, refl)

module _ (cb : ℕ) (body b : List ℕ) (size : length b ≡ disk_size_of cb) (own : length body ≡ cb) where
  abbrev front : List ℕ
  front = body ++ drop cb b

  long : length front ≡ disk_size_of cb
  long = omega (arith, length-append body (drop cb b), length-drop cb b, own, size)

  abbrev crc : List ℕ
  crc = little_bytes 4 (crc_of body)

  within : trailer_at cb + 4 + length crc ≤ length front
  within = omega (arith, long, four-bytes (crc_of body))

  pub length-with : length (with_data cb body b) ≡ disk_size_of cb
  length-with = length-replaced (trailer_at cb + 4) crc front within ∙ long

  behind : (i : ℕ) → cb ≤ i → get_or front i 0 ≡ get_or b i 0
  behind i high =
      let e : cb + (i - cb) ≡ i = omega (arith, high) in
      get_or-append_right body (drop cb b) cb i 0 own high ∙ get_or-drop cb b (i - cb) 0 ∙ ap (λ (k : ℕ). get_or b k 0) e

  before_crc : (i : ℕ) → cb ≤ i → i < trailer_at cb + 4 → get_or (with_data cb body b) i 0 ≡ get_or b i 0
  before_crc i high low = get_or-replaced_below (trailer_at cb + 4) crc front i within low ∙ behind i high

  behind_crc : (i : ℕ) → trailer_at cb + 8 ≤ i → get_or (with_data cb body b) i 0 ≡ get_or b i 0
  behind_crc i high =
      let past : trailer_at cb + 4 + length crc ≤ i = omega (arith, high, four-bytes (crc_of body)) in
      get_or-replaced_above (trailer_at cb + 4) crc front i within past ∙ behind i (omega (arith, high))

  front_now : (i : ℕ) → i < cb → get_or (with_data cb body b) i 0 ≡ get_or body i 0
  front_now i low =
      get_or-replaced_below (trailer_at cb + 4) crc front i within (omega (arith, low)) ∙ get_or_append_left body (drop cb b) 0 i (omega (arith, low, own))

  pub body-with : take cb (with_data cb body b) ≡ body
  body-with =
      same_span (with_data cb body b) body 0 cb (omega (arith, length-with)) (omega (arith, own)) (λ k low. front_now (0 + k) (omega (arith, low)))
      ∙ take_all cb body (omega (arith, own))

  crc_with : crc_of body < 2 ^ 32 → number_at 4 (trailer_at cb + 4) (with_data cb body b) ≡ crc_of body
  crc_with small =
      number_at-same 4 (trailer_at cb + 4) 0 (with_data cb body b) (crc ++ []) (λ k low.
      let e : k ≡ 0 + k = omega arith in
      get_or-replaced_same (trailer_at cb + 4) crc front k within (omega (arith, low, four-bytes (crc_of body))) ∙ ap (λ (l : List ℕ). get_or l k 0) (sym (append-nil crc)) ∙ ap (λ (n : ℕ). get_or (crc ++ []) n 0) e)
      ∙ number_at-first 4 (crc_of body) [] (omega (arith, small))

  size_with : number_at 2 (trailer_at cb) (with_data cb body b) ≡ number_at 2 (trailer_at cb) b
  size_with = number_at-same 2 (trailer_at cb) (trailer_at cb) (with_data cb body b) b (λ k low. before_crc (trailer_at cb + k) (omega arith) (omega (arith, low)))

  sig_with : number_at 2 (trailer_at cb + 2) (with_data cb body b) ≡ number_at 2 (trailer_at cb + 2) b
  sig_with = number_at-same 2 (trailer_at cb + 2) (trailer_at cb + 2) (with_data cb body b) b (λ k low. before_crc (trailer_at cb + 2 + k) (omega arith) (omega (arith, low)))

  bid_with : number_at 8 (trailer_at cb + 8) (with_data cb body b) ≡ number_at 8 (trailer_at cb + 8) b
  bid_with = number_at-same 8 (trailer_at cb + 8) (trailer_at cb + 8) (with_data cb body b) b (λ k low. behind_crc (trailer_at cb + 8 + k) (omega arith))

  -- the frame of the block holds again
  pub reads-with : crc_of body < 2 ^ 32 → (at : Bref) (content : List ℕ) → reading cb at b ≡ Ok content → reading cb at (with_data cb body b) ≡ Ok body
  unfolding reading
  reads-with small at content h =
      let id = number_at 8 (trailer_at cb + 8) b in
      let tests = passed (eqb (number_at 2 (trailer_at cb) b) cb) (eqb (number_at 4 (trailer_at cb + 4) b) (crc_of (take cb b))) (eqb (number_at 2 (trailer_at cb + 2) b) (sig_of at.ib id)) (eqb (key_of id) (key_of at.bid.bits))
      (faults.Length (number_at 2 (trailer_at cb) b) cb) (faults.Crc (number_at 4 (trailer_at cb + 4) b) (crc_of (take cb b))) (faults.Sig (number_at 2 (trailer_at cb + 2) b) (sig_of at.ib id)) (faults.Bid (key_of id) (key_of at.bid.bits)) (take cb b) content h in
      let length_holds : eqb (number_at 2 (trailer_at cb) (with_data cb body b)) cb ≡ true = ap (λ (n : ℕ). eqb n cb) size_with ∙ tests.0 in
      let crc_holds : eqb (number_at 4 (trailer_at cb + 4) (with_data cb body b)) (crc_of (take cb (with_data cb body b))) ≡ true = eq-eqb _ _ (crc_with small ∙ sym (ap crc_of body-with)) in
      let sig_holds : eqb (number_at 2 (trailer_at cb + 2) (with_data cb body b)) (sig_of at.ib (number_at 8 (trailer_at cb + 8) (with_data cb body b))) ≡ true =
      (λ i. eqb (sig_with i) (sig_of at.ib (bid_with i))) ∙ tests.1 in
      let bid_holds : eqb (key_of (number_at 8 (trailer_at cb + 8) (with_data cb body b))) (key_of at.bid.bits) ≡ true = ap (λ (n : ℕ). eqb (key_of n) (key_of at.bid.bits)) bid_with ∙ tests.2 in
      rw (length_holds, crc_holds, sig_holds, bid_holds) (ap Ok body-with)
