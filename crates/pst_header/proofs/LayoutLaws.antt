-- The header's cells: each field reads its own, and the bytes of the checksums have none of theirs.
use Rattle.std.proofs.Common.{◌≡◌, ℕ, ◌+◌, ◌*◌, ◌^◌, ◌<◌, ◌≤◌, true, false, List, ◌++◌, length, get_or, take, drop, map, refl, sym, ap, ◌∙◌, arith, rules, add-one}
use Rattle.std.specs.List.{range_with_len}
use Rattle.std.proofs.lemmas.Bool.{agree_below_at}
use Rattle.std.proofs.lemmas.List.{ext_get_or, get_or-drop, get_or-take, length-drop, length-take-le}
use Rattle.std.proofs.lemmas.List.FromFn.{fill_by_all, get_or-map-range_with_len}
use Rattle.byteorder.specs.Endian.{little_bytes}
use Rattle.pst_base.specs.Cells.{written, is_apart, value_at, is_covered, Fit, AllZero}
use Rattle.pst_checksum.specs.Crc.{crc_of}
use Rattle.pst_base.specs.Fields.{number_at, replaced}
use Rattle.pst_base.proofs.CellLaws.{length-written, number_at-written}
use Rattle.pst_base.proofs.CoverLaws.{byte_uncovered, written-over}
use Rattle.pst_header.specs.declared.header.Header.{Header}
use Rattle.pst_header.specs.Format.{all_cells, blank, blanked, crc_cells, full_of, index_cells, indexes_of, own_cells, partial_of, root_cells, with_crcs, with_fields}

-- ---- the indexes, one by one

pub indexes_none : (xs b : List ℕ) → b ≡ written (index_cells xs 0) b
unfolding index_cells written
indexes_none xs b = refl

pub fit_none : (xs : List ℕ) → Fit 564 (index_cells xs 0)
unfolding index_cells
fit_none xs = tt

pub indexes_more : (xs b : List ℕ) (k : ℕ) → replaced (44 + 4 * k) (little_bytes 4 (get_or xs k 0)) (written (index_cells xs k) b) ≡ written (index_cells xs (k + 1)) b
unfolding index_cells written
indexes_more xs b k = rw (add-one k) refl

pub fit_more : (xs : List ℕ) (k : ℕ) → k < 32 → get_or xs k 0 < 256 ^ 4 → Fit 564 (index_cells xs k) → Fit 564 (index_cells xs (k + 1))
unfolding index_cells
fit_more xs k h fits rest = rw (add-one k) (omega arith, fits, rest)

-- ---- all cells

pub whole : (p f : ℕ) (h : Header) (b : List ℕ) → with_crcs p f (with_fields h b) ≡ written (all_cells p f h) b
unfolding with_crcs with_fields written crc_cells root_cells own_cells index_cells
whole p f h b = refl

pub blank_fits : Fit 564 (all_cells 0 0 blank)
unfolding crc_cells root_cells own_cells index_cells
blank_fits = search rules

blank_zeros : AllZero (all_cells 0 0 blank)
unfolding crc_cells root_cells own_cells index_cells
blank_zeros = search rules

pub covers_same : (p f : ℕ) (h : Header) (i : ℕ) → is_covered i (all_cells 0 0 blank) ≡ is_covered i (all_cells p f h)
unfolding crc_cells root_cells own_cells index_cells is_covered
covers_same p f h i = refl

-- what fits with the checksums fits without them, and they do alone
pub crcs_fit : (p f : ℕ) (h : Header) → Fit 564 (all_cells p f h) → Fit 564 (crc_cells p f)
unfolding crc_cells
crcs_fit p f h fit = (fit.0, fit.1, (fit.2.0, fit.2.1, tt))

fields_whole : (h : Header) (b : List ℕ) → with_fields h b ≡ written (root_cells h ++ (own_cells h ++ index_cells h.indexes 32)) b
unfolding with_fields written root_cells own_cells index_cells
fields_whole h b = refl

pub length-fields : (p f : ℕ) (h : Header) (b : List ℕ) → length b ≡ 564 → Fit 564 (all_cells p f h) → length (with_fields h b) ≡ 564
unfolding crc_cells
length-fields p f h b len fit =
    let cells = root_cells h ++ (own_cells h ++ index_cells h.indexes 32) in
    let fits : Fit (length b) cells = rw len fit.2.2 in
    ap length (fields_whole h b) ∙ length-written cells b fits ∙ len

-- a number that no cell has only a part of
one : (n at p f : ℕ) (h : Header) (b : List ℕ) → length b ≡ 564 → Fit 564 (all_cells p f h) → is_apart n at (all_cells p f h) ≡ true
    → number_at n at (with_crcs p f (with_fields h b)) ≡ value_at n at (all_cells p f h) (number_at n at b)
one n at p f h b len fit apart =
    let fits : Fit (length b) (all_cells p f h) = rw len fit in
    ap (number_at n at) (whole p f h b) ∙ number_at-written n at (all_cells p f h) b fits apart

-- every index
one_index : (p f : ℕ) (h : Header) (b : List ℕ) → length b ≡ 564 → Fit 564 (all_cells p f h) → (k : ℕ) → k < 32
    → number_at 4 (44 + 4 * k) (with_crcs p f (with_fields h b)) ≡ get_or h.indexes k 0
unfolding crc_cells root_cells own_cells index_cells is_apart value_at
one_index p f h b len fit k below =
    let cells = all_cells p f h in
    let value = λ (i : ℕ). value_at 4 (44 + 4 * i) cells (number_at 4 (44 + 4 * i) b) in
    let index = λ (i : ℕ). get_or h.indexes i 0 in
    let same : map value (range_with_len 0 32) ≡ map index (range_with_len 0 32) = refl in
    let apart : is_apart 4 (44 + 4 * k) cells ≡ true = agree_below_at (λ i. is_apart 4 (44 + 4 * i) cells) (λ i. true) 32 k refl below in
    let from : 0 + k ≡ k = omega arith in
    one 4 (44 + 4 * k) p f h b len fit apart
    ∙ sym (get_or-map-range_with_len value 0 32 k k 0 below from)
    ∙ ap (λ (xs : List ℕ). get_or xs k 0) same
    ∙ get_or-map-range_with_len index 0 32 k k 0 below from

pub indexes_back : (p f : ℕ) (h : Header) (b : List ℕ) → length b ≡ 564 → Fit 564 (all_cells p f h) → length h.indexes ≡ 32
    → indexes_of (with_crcs p f (with_fields h b)) ≡ h.indexes
unfolding indexes_of
indexes_back p f h b len fit size =
    sym (fill_by_all (λ k. number_at 4 (44 + 4 * k) (with_crcs p f (with_fields h b))) h.indexes 32 0 size (λ k below. sym (one_index p f h b len fit k below)))

-- every other field
pub record FieldsBack (h : Header) (w : List ℕ) : Type 0 where
  pub wver : number_at 2 10 w ≡ h.wver
  pub crypt : number_at 1 513 w ≡ h.crypt
  pub unique : number_at 4 40 w ≡ h.unique
  pub next_block : number_at 8 516 w ≡ h.next_block
  pub next_page : number_at 8 32 w ≡ h.next_page
  pub eof : number_at 8 184 w ≡ h.eof
  pub amap_last : number_at 8 192 w ≡ h.amap_last
  pub amap_free : number_at 8 200 w ≡ h.amap_free
  pub pmap_free : number_at 8 208 w ≡ h.pmap_free
  pub nbt_bid : number_at 8 216 w ≡ h.nbt.bid.bits
  pub nbt_ib : number_at 8 224 w ≡ h.nbt.ib
  pub bbt_bid : number_at 8 232 w ≡ h.bbt.bid.bits
  pub bbt_ib : number_at 8 240 w ≡ h.bbt.ib
  pub maps : number_at 1 248 w ≡ h.maps

pub fields_back : (p f : ℕ) (h : Header) (b : List ℕ) → length b ≡ 564 → Fit 564 (all_cells p f h) → FieldsBack h (with_crcs p f (with_fields h b))
unfolding crc_cells root_cells own_cells index_cells is_apart value_at
fields_back p f h b len fit = record {
  wver = one 2 10 p f h b len fit refl;
  crypt = one 1 513 p f h b len fit refl;
  unique = one 4 40 p f h b len fit refl;
  next_block = one 8 516 p f h b len fit refl;
  next_page = one 8 32 p f h b len fit refl;
  eof = one 8 184 p f h b len fit refl;
  amap_last = one 8 192 p f h b len fit refl;
  amap_free = one 8 200 p f h b len fit refl;
  pmap_free = one 8 208 p f h b len fit refl;
  nbt_bid = one 8 216 p f h b len fit refl;
  nbt_ib = one 8 224 p f h b len fit refl;
  bbt_bid = one 8 232 p f h b len fit refl;
  bbt_ib = one 8 240 p f h b len fit refl;
  maps = one 1 248 p f h b len fit refl;
}

pub crcs_back : (p f : ℕ) (h : Header) (b : List ℕ) → length b ≡ 564 → Fit 564 (all_cells p f h)
    → (number_at 4 4 (with_crcs p f (with_fields h b)) ≡ p) × (number_at 4 524 (with_crcs p f (with_fields h b)) ≡ f)
unfolding crc_cells root_cells own_cells index_cells is_apart value_at
crcs_back p f h b len fit = (one 4 4 p f h b len fit refl, one 4 524 p f h b len fit refl)

pub magics_stay : (p f : ℕ) (h : Header) (b : List ℕ) → length b ≡ 564 → Fit 564 (all_cells p f h)
    → (number_at 4 0 (with_crcs p f (with_fields h b)) ≡ number_at 4 0 b) × (number_at 2 8 (with_crcs p f (with_fields h b)) ≡ number_at 2 8 b)
unfolding crc_cells root_cells own_cells index_cells is_apart value_at
magics_stay p f h b len fit = (one 4 0 p f h b len fit refl, one 2 8 p f h b len fit refl)

pub length-whole : (p f : ℕ) (h : Header) (b : List ℕ) → length b ≡ 564 → Fit 564 (all_cells p f h) → length (with_crcs p f (with_fields h b)) ≡ 564
length-whole p f h b len fit =
    let fits : Fit (length b) (all_cells p f h) = rw len fit in
    ap length (whole p f h b) ∙ length-written (all_cells p f h) b fits ∙ len

-- ---- blanking

pub blanked_again : (p f : ℕ) (h : Header) (b : List ℕ) → length b ≡ 564 → Fit 564 (all_cells p f h) → blanked (with_crcs p f (with_fields h b)) ≡ blanked b
unfolding blanked
blanked_again p f h b len fit =
    let fits : Fit (length b) (all_cells p f h) = rw len fit in
    let zeros : Fit (length b) (all_cells 0 0 blank) = rw len blank_fits in
    whole 0 0 blank (with_crcs p f (with_fields h b))
    ∙ ap (written (all_cells 0 0 blank)) (whole p f h b)
    ∙ written-over (all_cells 0 0 blank) (all_cells p f h) b zeros fits blank_zeros (covers_same p f h)
    ∙ sym (whole 0 0 blank b)

pub blanked_twice : (b : List ℕ) → length b ≡ 564 → blanked (blanked b) ≡ blanked b
blanked_twice b len = unfold blanked in blanked_again 0 0 blank b len blank_fits

pub magics_blanked : (b : List ℕ) → length b ≡ 564 → (number_at 4 0 (blanked b) ≡ number_at 4 0 b) × (number_at 2 8 (blanked b) ≡ number_at 2 8 b)
unfolding blanked
magics_blanked b len = magics_stay 0 0 blank b len blank_fits

pub length-blanked : (b : List ℕ) → length b ≡ 564 → length (blanked b) ≡ 564
unfolding blanked
length-blanked b len = length-whole 0 0 blank b len blank_fits

-- ---- the bytes of the checksums

outside : (p f n : ℕ) (b : List ℕ) → n ≤ 516 → length b ≡ 564 → Fit 564 (crc_cells p f) → take n (drop 8 (with_crcs p f b)) ≡ take n (drop 8 b)
unfolding with_crcs crc_cells is_covered
outside p f n b most len fit =
    let cells = crc_cells p f in
    let fits : Fit (length b) cells = rw len fit in
    let w = written cells b in
    let len_w = length-written cells b fits in
    let long_w = length-drop 8 w in
    let long_b = length-drop 8 b in
    let size_w : length (take n (drop 8 w)) ≡ n = length-take-le n (drop 8 w) (omega arith) in
    let size_b : length (take n (drop 8 b)) ≡ n = length-take-le n (drop 8 b) (omega arith) in
    ext_get_or 0 (take n (drop 8 w)) (take n (drop 8 b)) (size_w ∙ sym size_b) (λ i h.
    let below : i < n = omega arith in
    let free : is_covered (8 + i) cells ≡ false = agree_below_at (λ j. is_covered (8 + j) cells) (λ j. false) 516 i refl (omega arith) in
    get_or-take n (drop 8 w) i 0 below
    ∙ get_or-drop 8 w i 0
    ∙ byte_uncovered cells b (8 + i) fits free
    ∙ sym (get_or-take n (drop 8 b) i 0 below ∙ get_or-drop 8 b i 0))

pub partial_outside : (p f : ℕ) (b : List ℕ) → length b ≡ 564 → Fit 564 (crc_cells p f) → partial_of (with_crcs p f b) ≡ partial_of b
unfolding partial_of
partial_outside p f b len fit = ap crc_of (outside p f 471 b (omega arith) len fit)

pub full_outside : (p f : ℕ) (b : List ℕ) → length b ≡ 564 → Fit 564 (crc_cells p f) → full_of (with_crcs p f b) ≡ full_of b
unfolding full_of
full_outside p f b len fit = ap crc_of (outside p f 516 b (omega arith) len fit)
