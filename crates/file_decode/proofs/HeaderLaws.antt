-- The header of a decoded copy reads as the one by which the file was decoded.
use Rattle.std.proofs.Common.{◌≡◌, ◌∙◌, ℕ, ◌≤◌, List, [], ◌++◌, length, Option, Some, None, Result, Ok, Err, refl, sym, ap, arith, length-append}
use Rattle.std.proofs.lemmas.Bool.{le-ltb, ne_eqb}
use Rattle.std.proofs.lemmas.List.{length-take, take_at}
use Rattle.byteorder.specs.Endian.{little_bytes}
use Rattle.pst_base.proofs.CellLaws.{length-replaced}
use Rattle.pst_header.specs.declared.header.Header.{Header}
use Rattle.pst_header.specs.declared.header.HeaderRefusal.{HeaderRefusal}
use Rattle.pst_header.specs.declared.header.HeaderRefusal.TheVariants as headers
use Rattle.pst_header.specs.Format.{full_of, reading}
use Rattle.gate_file.specs.Effective.{effective, header_bytes}
use Rattle.block_encoding.specs.declared.decoding.Method.{Method}
use Rattle.file_blocks.proofs.FileLaws.{no_shorter}
use Rattle.file_layout.specs.declared.stops.OpenRefusal.{OpenRefusal}
use Rattle.file_layout.specs.declared.stops.OpenRefusal.TheVariants as refusals
use Rattle.file_layout.specs.Opening.{of_header, opening}
use Rattle.file_scan.proofs.OpeningLaws.{opened-long}
use Rattle.lays_kept.proofs.Opened.{front_is, opens_parts}
use Rattle.file_decode.specs.Decoding.{method_in, method_of, plain, plain_header, seen, seen_by, seen_of, unencoded}
use Rattle.file_decode.proofs.SourceLaws.{refused-long}

-- a header that was read, and the one that an opening gives
read-of : (r : Result Header HeaderRefusal) (h : Header) → of_header r ≡ Ok h → r ≡ Ok h
read-of (Ok g) h e = ap Ok (same g h e)
  where
    same : (g h : Header) → ◌≡◌ {A = Result Header OpenRefusal} (Ok g) (Ok h) → g ≡ h
    same g h e = cc
read-of (Err refusal) h e = absurd (cc)

by-method : (method : Option Method) (n : ℕ) (b : List ℕ) (h : Header) → seen_by method n b ≡ Ok h → reading (plain_header method b) ≡ Ok h
by-method None n b h e = absurd (cc)
by-method (Some method) n b h e = read-of (reading (unencoded b)) h e

by-opening : (r : Result Header OpenRefusal) (b : List ℕ) (h : Header) → seen_of b r ≡ Ok h → (r ≡ Ok h → reading b ≡ Ok h) → reading (plain_header (method_in r) b) ≡ Ok h
by-opening (Ok g) b h e own = own e
by-opening (Err refusals.Empty) b h e own = absurd (cc)
by-opening (Err (refusals.Gate len)) b h e own = absurd (cc)
by-opening (Err (refusals.Short len)) b h e own = absurd (cc)
by-opening (Err (refusals.Header headers.NotPst)) b h e own = absurd (cc)
by-opening (Err (refusals.Header (headers.Version found))) b h e own = absurd (cc)
by-opening (Err (refusals.Header (headers.Crc full stored computed))) b h e own = absurd (cc)
by-opening (Err (refusals.Header (headers.Encoded n))) b h e own = by-method (method_of n) n b h e
by-opening (Err (refusals.Truncated len eof)) b h e own = absurd (cc)
by-opening (Err (refusals.Large eof)) b h e own = absurd (cc)
by-opening (Err (refusals.Page ib fault)) b h e own = absurd (cc)
by-opening (Err (refusals.Block ib fault)) b h e own = absurd (cc)
by-opening (Err (refusals.Missing bid)) b h e own = absurd (cc)
by-opening (Err (refusals.Overlap ib)) b h e own = absurd (cc)
by-opening (Err (refusals.Node nid fault)) b h e own = absurd (cc)

-- a file that was opened so has a header's bytes at least
by-length : (r : Result Header OpenRefusal) (main side b : List ℕ) (h : Header) → opening main side ≡ r → seen_of b r ≡ Ok h → 564 ≤ length main
by-length (Ok g) main side b h is e = opened-long main side g is
by-length (Err refusals.Empty) main side b h is e = absurd (cc)
by-length (Err (refusals.Gate len)) main side b h is e = absurd (cc)
by-length (Err (refusals.Short len)) main side b h is e = absurd (cc)
by-length (Err (refusals.Header refusal)) main side b h is e = refused-long main side refusal is
by-length (Err (refusals.Truncated len eof)) main side b h is e = absurd (cc)
by-length (Err (refusals.Large eof)) main side b h is e = absurd (cc)
by-length (Err (refusals.Page ib fault)) main side b h is e = absurd (cc)
by-length (Err (refusals.Block ib fault)) main side b h is e = absurd (cc)
by-length (Err (refusals.Missing bid)) main side b h is e = absurd (cc)
by-length (Err (refusals.Overlap ib)) main side b h is e = absurd (cc)
by-length (Err (refusals.Node nid fault)) main side b h is e = absurd (cc)

plain-length : (method : Option Method) (b : List ℕ) → length b ≡ 564 → length (plain_header method b) ≡ 564
unfolding unencoded plain
plain-length None b size = size
plain-length (Some method) b size =
    let one : length (plain b) ≡ 564 = length-replaced 513 (little_bytes 1 0) b (omega (arith, size)) ∙ size in
    length-replaced 524 (little_bytes 4 (full_of (plain b))) (plain b) (omega (arith, one)) ∙ one

module _ (main side : List ℕ) (h : Header) (e : seen main side ≡ Ok h) where
  pub source-long : 564 ≤ length main
  source-long = by-length (opening main side) main side (header_bytes main side) h refl e

  size : length (header_bytes main side) ≡ 564
  size = ap length (sym (front_is main side)) ∙ omega (arith, length-take 564 (effective main side), no_shorter main side, source-long)

  pub source-size : length (plain_header (method_in (opening main side)) (header_bytes main side)) ≡ 564
  source-size = plain-length (method_in (opening main side)) (header_bytes main side) size

  pub source-reads : reading (plain_header (method_in (opening main side)) (header_bytes main side)) ≡ Ok h
  source-reads = by-opening (opening main side) (header_bytes main side) h e (λ is. let parts = opens_parts main side h is in ap reading (sym (front_is main side)) ∙ parts.2)

-- a file that begins with such a header opens with it
pub opens-behind : (header rest : List ℕ) (h : Header) → length header ≡ 564 → reading header ≡ Ok h → opening (header ++ rest) [] ≡ Ok h
unfolding opening
opens-behind header rest h size reads =
    let long : 564 ≤ length (header ++ rest) = omega (arith, length-append header rest, size) in
    rw (ne_eqb (length (header ++ rest)) 0 (λ none. omega (arith, none, long)), le-ltb (length (header ++ rest)) 564 long)
    (ap of_header (ap reading (take_at header rest 564 size) ∙ reads))
