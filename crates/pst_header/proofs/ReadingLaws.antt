-- A header's bytes read as the header, and no others do.
use Rattle.std.proofs.Common.{◌≡◌, ℕ, ◌<◌, Bool, true, false, eqb, ◌&&◌, not, if◌then◌else◌, List, length, get_or, Result, Ok, Err, refl, sym, ap, ◌∙◌, rules}
use Rattle.std.proofs.lemmas.Bool.{and_parts, eq-eqb, eqb-true}
use Rattle.pst_base.specs.Cells.{is_covered, Fit}
use Rattle.pst_base.specs.Fields.{number_at}
use Rattle.pst_base.proofs.CoverLaws.{Fit-from_reads, Reads, are_within, byte_uncovered, written-back}
use Rattle.pst_header.specs.declared.header.Header.{Header}
use Rattle.pst_header.specs.declared.header.HeaderRefusal.{HeaderRefusal}
use Rattle.pst_header.specs.declared.header.HeaderRefusal.TheVariants.{NotPst, Version, Crc, Encoded}
use Rattle.pst_header.specs.Format.{IsWritable, all_cells, blank, blanked, bytes_of, crc_cells, full_of, header_of, index_cells, indexes_of, own_cells, partial_of, reading, root_cells, with_crcs, with_fields}
use Rattle.pst_header.proofs.LayoutLaws.{FieldsBack, blank_fits, blanked_again, blanked_twice, covers_same, crcs_back, crcs_fit, fields_back, full_outside, indexes_back, length-blanked, length-fields, magics_blanked, magics_stay, partial_outside, whole}

-- ---- the tests

-- the bytes pass all tests
pub record Passes (b : List ℕ) : Type 0 where
  pub magic : number_at 4 0 b ≡ 0x4e444221
  pub client : number_at 2 8 b ≡ 0x4d53
  pub version : number_at 2 10 b ≡ 23
  pub partial : number_at 4 4 b ≡ partial_of b
  pub full : number_at 4 524 b ≡ full_of b
  pub plain : number_at 1 513 b ≡ 0

pub reading-passed : (b : List ℕ) → Passes b → reading b ≡ Ok (header_of b)
unfolding reading
reading-passed b p =
    rw (eq-eqb (number_at 4 0 b) 0x4e444221 p.magic, eq-eqb (number_at 2 8 b) 0x4d53 p.client, eq-eqb (number_at 2 10 b) 23 p.version, eq-eqb (number_at 4 4 b) (partial_of b) p.partial, eq-eqb (number_at 4 524 b) (full_of b) p.full, eq-eqb (number_at 1 513 b) 0 p.plain) refl

one_test : (t : Bool) (e : HeaderRefusal) (r : Result Header HeaderRefusal) (h : Header) → (if not t then Err e else r) ≡ Ok h → (t ≡ true) × (r ≡ Ok h)
one_test true e r h is = (refl, is)
one_test false e r h is = (cc, cc)

passed-reading : (b : List ℕ) (h : Header) → reading b ≡ Ok h → Passes b × (header_of b ≡ h)
unfolding reading
passed-reading b h is =
    let crc_full = Crc true (number_at 4 524 b) (full_of b) in
    let crc_partial = Crc false (number_at 4 4 b) (partial_of b) in
    let r5 : Result Header HeaderRefusal = if not (eqb (number_at 1 513 b) 0) then Err (Encoded (number_at 1 513 b)) else Ok (header_of b) in
    let r4 : Result Header HeaderRefusal = if not (eqb (number_at 4 524 b) (full_of b)) then Err crc_full else r5 in
    let r3 : Result Header HeaderRefusal = if not (eqb (number_at 4 4 b) (partial_of b)) then Err crc_partial else r4 in
    let r2 : Result Header HeaderRefusal = if not (eqb (number_at 2 10 b) 23) then Err (Version (number_at 2 10 b)) else r3 in
    let t1 = one_test (eqb (number_at 4 0 b) 0x4e444221 && eqb (number_at 2 8 b) 0x4d53) NotPst r2 h is in
    let magics = and_parts (eqb (number_at 4 0 b) 0x4e444221) (eqb (number_at 2 8 b) 0x4d53) t1.0 in
    let t2 = one_test (eqb (number_at 2 10 b) 23) (Version (number_at 2 10 b)) r3 h t1.1 in
    let t3 = one_test (eqb (number_at 4 4 b) (partial_of b)) crc_partial r4 h t2.1 in
    let t4 = one_test (eqb (number_at 4 524 b) (full_of b)) crc_full r5 h t3.1 in
    let t5 = one_test (eqb (number_at 1 513 b) 0) (Encoded (number_at 1 513 b)) (Ok (header_of b)) h t4.1 in
    let same : header_of b ≡ h = let e = t5.1 in cc in (
      record {
        magic = eqb-true (number_at 4 0 b) 0x4e444221 magics.0;
        client = eqb-true (number_at 2 8 b) 0x4d53 magics.1;
        version = eqb-true (number_at 2 10 b) 23 t2.0;
        partial = eqb-true (number_at 4 4 b) (partial_of b) t3.0;
        full = eqb-true (number_at 4 524 b) (full_of b) t4.0;
        plain = eqb-true (number_at 1 513 b) 0 t5.0;
      },
      same,
    )

-- what is read can be written
pub writable-passed : (b : List ℕ) → length b ≡ 564 → Passes b → IsWritable (header_of b)
unfolding header_of
writable-passed b len p =
    let magics = magics_blanked b len in
    record {
      version = p.version;
      plain = p.plain;
      magic = magics.0 ∙ p.magic;
      client = magics.1 ∙ p.client;
      blank = blanked_twice b len;
    }

-- ---- written bytes are read back

same_header : (h : Header) (w : List ℕ) → FieldsBack h w → indexes_of w ≡ h.indexes → blanked w ≡ h.kept → header_of w ≡ h
unfolding header_of
same_header h w fields indexes kept =
    rw (fields.wver, fields.crypt, fields.unique, fields.next_block, fields.next_page, indexes, fields.eof, fields.amap_last, fields.amap_free, fields.pmap_free, fields.nbt_bid, fields.nbt_ib, fields.bbt_bid, fields.bbt_ib, fields.maps, kept) refl

pub reads_back : (h : Header) → IsWritable h → length h.kept ≡ 564 → length h.indexes ≡ 32
    → Fit 564 (all_cells (partial_of (with_fields h h.kept)) (full_of (with_fields h h.kept)) h)
    → reading (bytes_of h) ≡ Ok h
unfolding bytes_of
reads_back h can len size fit =
    let b = with_fields h h.kept in
    let p = partial_of b in
    let f = full_of b in
    let w = with_crcs p f b in
    let len_b : length b ≡ 564 = length-fields p f h h.kept len fit in
    let fit_crcs : Fit 564 (crc_cells p f) = crcs_fit p f h fit in
    let fields = fields_back p f h h.kept len fit in
    let crcs = crcs_back p f h h.kept len fit in
    let magics = magics_stay p f h h.kept len fit in
    let kept : blanked w ≡ h.kept = blanked_again p f h h.kept len fit ∙ can.blank in
    let passes : Passes w = record {
      magic = magics.0 ∙ can.magic;
      client = magics.1 ∙ can.client;
      version = fields.wver ∙ can.version;
      partial = crcs.0 ∙ sym (partial_outside p f b len_b fit_crcs);
      full = crcs.1 ∙ sym (full_outside p f b len_b fit_crcs);
      plain = fields.crypt ∙ can.plain;
    } in
    reading-passed w passes ∙ ap Ok (same_header h w fields (indexes_back p f h h.kept len fit size) kept)

-- ---- no other bytes read as the header

own_reads : (b : List ℕ) → Reads (all_cells (number_at 4 4 b) (number_at 4 524 b) (header_of b)) b
unfolding crc_cells root_cells own_cells index_cells header_of indexes_of
own_reads b = search rules

own_within : (b : List ℕ) → are_within 564 (all_cells (number_at 4 4 b) (number_at 4 524 b) (header_of b)) ≡ true
unfolding crc_cells root_cells own_cells index_cells
own_within b = refl

own_fit : (b : List ℕ) → ((i : ℕ) → get_or b i 0 < 256) → Fit 564 (all_cells (number_at 4 4 b) (number_at 4 524 b) (header_of b))
own_fit b range = Fit-from_reads 564 (all_cells (number_at 4 4 b) (number_at 4 524 b) (header_of b)) b (own_within b) range (own_reads b)

byte_kept : (b : List ℕ) (i : ℕ) → length b ≡ 564 → is_covered i (all_cells 0 0 blank) ≡ false → get_or (blanked b) i 0 ≡ get_or b i 0
unfolding blanked
byte_kept b i len free =
    let zeros : Fit (length b) (all_cells 0 0 blank) = rw len blank_fits in
    ap (λ (w : List ℕ). get_or w i 0) (whole 0 0 blank b) ∙ byte_uncovered (all_cells 0 0 blank) b i zeros free

put_back : (b : List ℕ) → length b ≡ 564 → ((i : ℕ) → get_or b i 0 < 256)
    → with_crcs (number_at 4 4 b) (number_at 4 524 b) (with_fields (header_of b) (blanked b)) ≡ b
put_back b len range =
    let p = number_at 4 4 b in
    let f = number_at 4 524 b in
    let h = header_of b in
    let size = length-blanked b len in
    let fits : Fit (length (blanked b)) (all_cells p f h) = rw size (own_fit b range) in
    whole p f h (blanked b)
    ∙ written-back (all_cells p f h) (blanked b) b (size ∙ sym len) fits range (own_reads b)
    (λ i free. byte_kept b i len (covers_same p f h i ∙ free))

bytes_of_own : (b : List ℕ) → length b ≡ 564 → ((i : ℕ) → get_or b i 0 < 256) → Passes b → b ≡ bytes_of (header_of b)
unfolding bytes_of header_of
bytes_of_own b len range passes =
    let p = number_at 4 4 b in
    let f = number_at 4 524 b in
    let x = with_fields (header_of b) (blanked b) in
    let back : with_crcs p f x ≡ b = put_back b len range in
    let fit = own_fit b range in
    let len_x : length x ≡ 564 = length-fields p f (header_of b) (blanked b) (length-blanked b len) fit in
    let fit_crcs : Fit 564 (crc_cells p f) = crcs_fit p f (header_of b) fit in
    let e_p : p ≡ partial_of x = passes.partial ∙ ap partial_of (sym back) ∙ partial_outside p f x len_x fit_crcs in
    let e_f : f ≡ full_of x = passes.full ∙ ap full_of (sym back) ∙ full_outside p f x len_x fit_crcs in
    sym back ∙ ap (λ (q : ℕ). with_crcs q f x) e_p ∙ ap (λ (q : ℕ). with_crcs (partial_of x) q x) e_f

pub read_only : (b : List ℕ) (h : Header) → length b ≡ 564 → ((i : ℕ) → get_or b i 0 < 256) → reading b ≡ Ok h → b ≡ bytes_of h
read_only b h len range is =
    let parts = passed-reading b h is in
    bytes_of_own b len range parts.0 ∙ ap bytes_of parts.1
