-- A block that is written reads as its data.
use Rattle.std.proofs.Common.{◌≡◌, ℕ, ◌+◌, ◌-◌, List, ◌++◌, length, take, replicate, Ok, refl, sym, ap, ◌∙◌, arith}
use Rattle.std.proofs.lemmas.Bool.{eq-eqb}
use Rattle.std.proofs.lemmas.List.{length-append, length-replicate, take_at, append_assoc}
use Rattle.pst_base.specs.Cells.{Fit, is_apart, value_at}
use Rattle.pst_checksum.specs.Crc.{crc_of}
use Rattle.pst_base.specs.Fields.{number_at}
use Rattle.pst_base.specs.Ids.{key_of}
use Rattle.pst_checksum.specs.Sig.{sig_of}
use Rattle.pst_base.specs.declared.ids.Bref.{Bref}
use Rattle.pst_base.proofs.CellLaws.{number_at-written}
use Rattle.pst_base.proofs.Numbers.{number_at-behind}
use Rattle.block_frame.specs.Block.{block_of, reading, trailer_at, trailer_cells, trailer_of}

-- the block passes all tests
pub record Passes (cb : ℕ) (at : Bref) (b : List ℕ) : Type 0 where
  pub size : number_at 2 (trailer_at cb) b ≡ cb
  pub checksum : number_at 4 (trailer_at cb + 4) b ≡ crc_of (take cb b)
  pub signature : number_at 2 (trailer_at cb + 2) b ≡ sig_of at.ib (number_at 8 (trailer_at cb + 8) b)
  pub bid : number_at 8 (trailer_at cb + 8) b ≡ at.bid.bits

pub reading-passed : (cb : ℕ) (at : Bref) (b : List ℕ) → Passes cb at b → reading cb at b ≡ Ok (take cb b)
unfolding reading
reading-passed cb at b p =
    rw (eq-eqb (number_at 2 (trailer_at cb) b) cb p.size, eq-eqb (number_at 4 (trailer_at cb + 4) b) (crc_of (take cb b)) p.checksum, eq-eqb (number_at 2 (trailer_at cb + 2) b) (sig_of at.ib (number_at 8 (trailer_at cb + 8) b)) p.signature, eq-eqb (key_of (number_at 8 (trailer_at cb + 8) b)) (key_of at.bid.bits) (ap key_of p.bid)) refl

-- a trailer's numbers
module _ (cb signature checksum bid : ℕ) (fit : Fit 16 (trailer_cells cb signature checksum bid)) where
  size_back : number_at 2 0 (trailer_of cb signature checksum bid) ≡ cb
  unfolding trailer_of is_apart value_at
  size_back = number_at-written 2 0 (trailer_cells cb signature checksum bid) (replicate 16 0) fit refl

  signature_back : number_at 2 2 (trailer_of cb signature checksum bid) ≡ signature
  unfolding trailer_of is_apart value_at
  signature_back = number_at-written 2 2 (trailer_cells cb signature checksum bid) (replicate 16 0) fit refl

  checksum_back : number_at 4 4 (trailer_of cb signature checksum bid) ≡ checksum
  unfolding trailer_of is_apart value_at
  checksum_back = number_at-written 4 4 (trailer_cells cb signature checksum bid) (replicate 16 0) fit refl

  bid_back : number_at 8 8 (trailer_of cb signature checksum bid) ≡ bid
  unfolding trailer_of is_apart value_at
  bid_back = number_at-written 8 8 (trailer_cells cb signature checksum bid) (replicate 16 0) fit refl

pub block_reads : (at : Bref) (body : List ℕ) → Fit 16 (trailer_cells (length body) (sig_of at.ib at.bid.bits) (crc_of body) at.bid.bits) → reading (length body) at (block_of at body) ≡ Ok body
unfolding block_of
block_reads at body fit =
    let cb = length body in
    let signature = sig_of at.ib at.bid.bits in
    let trailer = trailer_of cb signature (crc_of body) at.bid.bits in
    let zeros : List ℕ = replicate (trailer_at cb - cb) 0 in
    let padding : length zeros ≡ trailer_at cb - cb = length-replicate {A = ℕ} (trailer_at cb - cb) 0 in
    let len : length (body ++ zeros) ≡ trailer_at cb = omega (arith, length-append body zeros) in
    let content : take cb ((body ++ zeros) ++ trailer) ≡ body = ap (take cb) (append_assoc body zeros trailer) ∙ take_at body (zeros ++ trailer) cb refl in
    let behind : (n k : ℕ) → number_at n (trailer_at cb + k) ((body ++ zeros) ++ trailer) ≡ number_at n k trailer = λ n k. number_at-behind n k (trailer_at cb) (body ++ zeros) trailer len in
    let none : trailer_at cb ≡ trailer_at cb + 0 = omega arith in
    let bid = behind 8 8 ∙ bid_back cb signature (crc_of body) at.bid.bits fit in
    let passes : Passes cb at ((body ++ zeros) ++ trailer) = record {
      size = ap (λ (p : ℕ). number_at 2 p ((body ++ zeros) ++ trailer)) none ∙ behind 2 0 ∙ size_back cb signature (crc_of body) at.bid.bits fit;
      checksum = behind 4 4 ∙ checksum_back cb signature (crc_of body) at.bid.bits fit ∙ ap crc_of (sym content);
      signature = behind 2 2 ∙ signature_back cb signature (crc_of body) at.bid.bits fit ∙ ap (sig_of at.ib) (sym bid);
      bid = bid;
    } in
    reading-passed cb at ((body ++ zeros) ++ trailer) passes ∙ ap Ok content
