-- A page reads as its content, and no other bytes do.
use Rattle.std.proofs.Common.{◌≡◌, ℕ, ◌+◌, ◌<◌, Bool, true, false, eqb, not, cond, List, ◌++◌, length, get_or, take, drop, replicate, Result, Ok, Err, refl, sym, ap, ◌∙◌, inl, inr, arith}
use Rattle.std.proofs.lemmas.Bool.{eq-eqb, eqb-true, eqb-false, cases_Bool, cases_lt, agree_below_at, true≢false}
use Rattle.std.proofs.lemmas.List.{append-nil, drop_all, drop_at, take_at, take-append-drop, drop-drop, length-drop, get_or-drop, get_or_past}
use borrow.Rule.Slice.PartMut.{put_mid}
use Rattle.byteorder.specs.Endian.{little_number}
use Rattle.pst_base.specs.Cells.{Fit, is_apart, is_covered, value_at, written}
use Rattle.pst_checksum.specs.Crc.{crc_of}
use Rattle.pst_base.specs.Fields.{number_at}
use Rattle.pst_base.specs.declared.ids.Bref.{Bref}
use Rattle.pst_base.specs.declared.stops.PageFault.{PageFault}
use Rattle.pst_base.specs.declared.stops.PageFault.TheVariants.{Kind, Crc, Sig, Bid}
use Rattle.pst_base.proofs.CellLaws.{number_at-written}
use Rattle.pst_base.proofs.CoverLaws.{Fit-from_reads, Reads, written-back}
use Rattle.pst_base.proofs.Numbers.{number_at-behind}
use Rattle.page_frame.specs.Page.{IsPage, page_of, reading, signature_of, stored_kind, trailer_cells, trailer_of}

-- the page passes all tests
pub record Passes (kind : ℕ) (at : Bref) (b : List ℕ) : Type 0 where
  pub first : number_at 1 496 b ≡ kind
  pub again : number_at 1 497 b ≡ kind
  pub checksum : number_at 4 500 b ≡ crc_of (take 496 b)
  pub signature : number_at 2 498 b ≡ signature_of kind at.ib (number_at 8 504 b)
  pub bid : number_at 8 504 b ≡ at.bid.bits

stored_is : (kind : ℕ) (b : List ℕ) → number_at 1 496 b ≡ kind → number_at 1 497 b ≡ kind → stored_kind kind b ≡ kind
unfolding stored_kind
stored_is kind b first again = rw (eq-eqb (number_at 1 496 b) kind first) again

kinds_are : (kind : ℕ) (b : List ℕ) → stored_kind kind b ≡ kind → (number_at 1 496 b ≡ kind) × (number_at 1 497 b ≡ kind)
unfolding stored_kind
kinds_are kind b is = elim (cases_Bool (eqb (number_at 1 496 b) kind)) [
  | inl e ↦ (eqb-true (number_at 1 496 b) kind e, rw e at is)
  | inr e ↦ absurd (eqb-false (number_at 1 496 b) kind e (rw e at is))
]

pub reading-passed : (kind : ℕ) (at : Bref) (b : List ℕ) → Passes kind at b → reading kind at b ≡ Ok (take 496 b)
unfolding reading
reading-passed kind at b p =
    rw (eq-eqb (stored_kind kind b) kind (stored_is kind b p.first p.again), eq-eqb (number_at 4 500 b) (crc_of (take 496 b)) p.checksum, eq-eqb (number_at 2 498 b) (signature_of kind at.ib (number_at 8 504 b)) p.signature, eq-eqb (number_at 8 504 b) at.bid.bits p.bid) refl

one_test : (t : Bool) (e : PageFault) (r : Result (List ℕ) PageFault) (x : List ℕ) → cond (not t) (Err e) r ≡ Ok x → (t ≡ true) × (r ≡ Ok x)
one_test true e r x is = (refl, is)
one_test false e r x is = (cc, cc)

pub passed-reading : (kind : ℕ) (at : Bref) (b x : List ℕ) → reading kind at b ≡ Ok x → Passes kind at b × (take 496 b ≡ x)
unfolding reading
passed-reading kind at b x is =
    let r1 : Result (List ℕ) PageFault = cond (not (eqb (number_at 8 504 b) at.bid.bits)) (Err (Bid (number_at 8 504 b) at.bid.bits)) (Ok (take 496 b)) in
    let signature = signature_of kind at.ib (number_at 8 504 b) in
    let r2 : Result (List ℕ) PageFault = cond (not (eqb (number_at 2 498 b) signature)) (Err (Sig (number_at 2 498 b) signature)) r1 in
    let checksum = crc_of (take 496 b) in
    let r3 : Result (List ℕ) PageFault = cond (not (eqb (number_at 4 500 b) checksum)) (Err (Crc (number_at 4 500 b) checksum)) r2 in
    let t4 = one_test (eqb (stored_kind kind b) kind) (Kind (stored_kind kind b) kind) r3 x is in
    let t3 = one_test (eqb (number_at 4 500 b) checksum) (Crc (number_at 4 500 b) checksum) r2 x t4.1 in
    let t2 = one_test (eqb (number_at 2 498 b) signature) (Sig (number_at 2 498 b) signature) r1 x t3.1 in
    let t1 = one_test (eqb (number_at 8 504 b) at.bid.bits) (Bid (number_at 8 504 b) at.bid.bits) (Ok (take 496 b)) x t2.1 in
    let kinds = kinds_are kind b (eqb-true (stored_kind kind b) kind t4.0) in (
      record {
        first = kinds.0;
        again = kinds.1;
        checksum = eqb-true (number_at 4 500 b) checksum t3.0;
        signature = eqb-true (number_at 2 498 b) signature t2.0;
        bid = eqb-true (number_at 8 504 b) at.bid.bits t1.0;
      },
      (let e = t1.1 in cc),
    )

-- a trailer's numbers
module _ (kind signature checksum bid : ℕ) (fit : Fit 16 (trailer_cells kind signature checksum bid)) where
  pub first_back : number_at 1 0 (trailer_of kind signature checksum bid) ≡ kind
  unfolding trailer_of is_apart value_at
  first_back = number_at-written 1 0 (trailer_cells kind signature checksum bid) (replicate 16 0) fit refl

  pub again_back : number_at 1 1 (trailer_of kind signature checksum bid) ≡ kind
  unfolding trailer_of is_apart value_at
  again_back = number_at-written 1 1 (trailer_cells kind signature checksum bid) (replicate 16 0) fit refl

  pub signature_back : number_at 2 2 (trailer_of kind signature checksum bid) ≡ signature
  unfolding trailer_of is_apart value_at
  signature_back = number_at-written 2 2 (trailer_cells kind signature checksum bid) (replicate 16 0) fit refl

  pub checksum_back : number_at 4 4 (trailer_of kind signature checksum bid) ≡ checksum
  unfolding trailer_of is_apart value_at
  checksum_back = number_at-written 4 4 (trailer_cells kind signature checksum bid) (replicate 16 0) fit refl

  pub bid_back : number_at 8 8 (trailer_of kind signature checksum bid) ≡ bid
  unfolding trailer_of is_apart value_at
  bid_back = number_at-written 8 8 (trailer_cells kind signature checksum bid) (replicate 16 0) fit refl

pub page_reads : (kind : ℕ) (at : Bref) (body : List ℕ) → length body ≡ 496 → Fit 16 (trailer_cells kind (signature_of kind at.ib at.bid.bits) (crc_of body) at.bid.bits) → reading kind at (page_of kind at body) ≡ Ok body
unfolding page_of
page_reads kind at body len fit =
    let signature = signature_of kind at.ib at.bid.bits in
    let trailer = trailer_of kind signature (crc_of body) at.bid.bits in
    let content : take 496 (body ++ trailer) ≡ body = take_at body trailer 496 len in
    let bid = number_at-behind 8 8 496 body trailer len ∙ bid_back kind signature (crc_of body) at.bid.bits fit in
    let passes : Passes kind at (body ++ trailer) = record {
      first = number_at-behind 1 0 496 body trailer len ∙ first_back kind signature (crc_of body) at.bid.bits fit;
      again = number_at-behind 1 1 496 body trailer len ∙ again_back kind signature (crc_of body) at.bid.bits fit;
      checksum = number_at-behind 4 4 496 body trailer len ∙ checksum_back kind signature (crc_of body) at.bid.bits fit ∙ ap crc_of (sym content);
      signature = number_at-behind 2 2 496 body trailer len ∙ signature_back kind signature (crc_of body) at.bid.bits fit ∙ ap (signature_of kind at.ib) (sym bid);
      bid = bid;
    } in
    reading-passed kind at (body ++ trailer) passes ∙ ap Ok content

-- each byte of a trailer is one of its numbers'
covered : (kind signature checksum bid i : ℕ) → i < 16 → is_covered i (trailer_cells kind signature checksum bid) ≡ true
unfolding is_covered
covered kind signature checksum bid i h = agree_below_at (λ (k : ℕ). is_covered k (trailer_cells kind signature checksum bid)) (λ (k : ℕ). true) 16 i refl h

pub page_only : (kind : ℕ) (at : Bref) (body page : List ℕ) → IsPage kind at body page → ((i : ℕ) → get_or page i 0 < 256) → page ≡ page_of kind at body
unfolding page_of trailer_of number_at
page_only kind at body page is range =
    let passed = passed-reading kind at page body is.1 in
    let p = passed.0 in
    let back = drop 496 page in
    let size : length back ≡ 16 = omega (arith, length-drop 496 page, is.0) in
    let small : (i : ℕ) → get_or back i 0 < 256 = λ i. omega (arith, get_or-drop 496 page i 0, range (496 + i)) in
    let signature = signature_of kind at.ib at.bid.bits in
    let cells = trailer_cells kind signature (crc_of body) at.bid.bits in
    let at_back : (n k : ℕ) → number_at n (496 + k) page ≡ number_at n k back = λ n k. ap (little_number n) (sym (drop-drop k 496 page)) in
    let reads : Reads cells back = (
      sym p.bid ∙ at_back 8 8,
      (
        ap crc_of (sym passed.1) ∙ sym p.checksum ∙ at_back 4 4,
        (
          ap (signature_of kind at.ib) (sym p.bid) ∙ sym p.signature ∙ at_back 2 2,
          (sym p.again ∙ at_back 1 1, (sym p.first ∙ at_back 1 0, tt)),
        ),
      ),
    ) in
    let fit : Fit 16 cells = Fit-from_reads 16 cells back refl small reads in
    let trailer : written cells (replicate 16 0) ≡ back = written-back cells (replicate 16 0) back (sym size) fit small reads
    (λ i none. elim (cases_lt i 16) [
      | inl lt ↦ absurd (true≢false (sym (covered kind signature (crc_of body) at.bid.bits i lt) ∙ none))
      | inr ge ↦ get_or_past (replicate 16 0) i 0 ge ∙ sym (get_or_past back i 0 (omega arith))
    ]) in
    sym (take-append-drop 496 page) ∙ ap (λ (xs : List ℕ). xs ++ back) passed.1 ∙ ap (λ (xs : List ℕ). body ++ xs) (sym trailer)

-- a part written over the end of a list
pub put_end : (xs zs ys : List ℕ) → length xs ≡ 496 → length zs ≡ 16 → put_mid 496 16 (xs ++ zs) ys ≡ xs ++ ys
put_end xs zs ys len size = rw (take_at xs zs 496 len, drop_at xs zs 496 len, drop_all 16 zs (omega arith), append-nil ys) refl
