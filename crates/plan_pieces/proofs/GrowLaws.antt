-- The pieces by which a file grows.
use Rattle.std.proofs.Common.{Bool, true, false, ◌≡◌, ◌∙◌, inl, inr, ℕ, zero, suc, ◌+◌, ◌-◌, ◌*◌, ◌%◌, ◌<◌, ◌≤◌, List, [], ◌∷◌, ◌++◌, length, replicate, refl, sym, ap, subst, arith, if◌then◌else◌, leb, eqb, length-append}
use Rattle.std.proofs.lemmas.Bool.{leb-true}
use Rattle.std.proofs.lemmas.List.{length-replicate}
use Rattle.pst_base.specs.Cells.{written}
use Rattle.pst_checksum.specs.Crc.{crc_of}
use Rattle.pst_base.specs.Fields.{replaced}
use Rattle.pst_base.specs.declared.ids.Bref.{Bref}
use Rattle.page_frame.specs.Page.{page_of, signature_of, trailer_of}
use Rattle.lays_kept.specs.declared.Piece.{Piece}
use Rattle.node_layout.specs.Growth.{AllGrow, EndsAt, Grows, region_end}
use Rattle.node_layout.specs.Lookups.{sum_of}
use Rattle.plan_pieces.specs.Growth.{fixed_pages, further_pages, growth_of, last_byte, map_page, new_pages, regions_from, regions_in}

length-trailer : (kind signature checksum bid : ℕ) → length (trailer_of kind signature checksum bid) ≡ 16
unfolding trailer_of written replaced
length-trailer kind signature checksum bid = refl

length-page_of : (kind : ℕ) (at : Bref) (body : List ℕ) → length body ≡ 496 → length (page_of kind at body) ≡ 512
unfolding page_of
length-page_of kind at body size =
    let trailer = trailer_of kind (signature_of kind at.ib at.bid.bits) (crc_of body) at.bid.bits in
    let a : length (body ++ trailer) ≡ length body + length trailer = length-append body trailer in
    let b = length-trailer kind (signature_of kind at.ib at.bid.bits) (crc_of body) at.bid.bits in
    omega (arith, a, b, size)

pub length-map_page : (kind fill at : ℕ) → length (map_page kind fill at).bytes ≡ 512
unfolding map_page
length-map_page kind fill at = length-page_of kind (record { bid = record { bits = at }; ib = at }) (replicate 496 fill) (length-replicate {A = ℕ} 496 fill)

-- ---- the loop over regions

pub region-next : (eof from r : ℕ) (old new : List Piece) → from ≤ r → old ≡ regions_from eof from (r - from) → new ≡ old ++ (new_pages eof r ++ last_byte r ∷ []) → new ≡ regions_from eof from (r + 1 - from)
unfolding regions_from
region-next eof from r old new le so_far items =
    let n : ℕ = r - from in
    let e : suc n ≡ r + 1 - from = omega (arith, le) in
    let here : r ≡ from + n = omega (arith, le) in
    let X : ℕ → List Piece = λ k. new_pages eof k ++ last_byte k ∷ [] in
    items ∙ ap (λ (l : List Piece). l ++ X r) so_far ∙ ap (λ (k : ℕ). regions_from eof from n ++ X k) here ∙ ap (regions_from eof from) e

pub region-none : (eof from r : ℕ) → r ≡ from → [] ≡ regions_from eof from (r - from)
unfolding regions_from
region-none eof from r is = let z : 0 ≡ r - from = omega (arith, is) in ap (regions_from eof from) z

pub region-last : (eof end r : ℕ) → regions_in eof ≤ regions_in end → regions_in end ≤ r → r ≤ regions_in end → regions_from eof (regions_in eof) (r - regions_in eof) ≡ growth_of eof end
unfolding growth_of
region-last eof end r low high top = let e : r - regions_in eof ≡ regions_in end - regions_in eof = omega (arith, low, high, top) in ap (regions_from eof (regions_in eof)) e

-- ---- each piece grows the file

grow-append : (eof : ℕ) (xs ys : List Piece) → AllGrow eof xs → AllGrow eof ys → AllGrow eof (xs ++ ys)
grow-append eof [] ys a b = b
grow-append eof (x ∷ xs) ys a b = (a.0, grow-append eof xs ys a.1 b)

page-grows : (eof r kind fill at : ℕ) → eof ≤ region_end r → region_end r ≤ at → at + 512 ≤ region_end r + 1536 → Grows eof (map_page kind fill at)
unfolding map_page
page-grows eof r kind fill at begins low high = let size = length-map_page kind fill at in record { region = r; past = omega (arith, begins); what = inr (begins, low, omega (arith, size, high)) }

further-grow : (eof r : ℕ) → eof ≤ region_end r → AllGrow eof (further_pages r)
further-grow eof r begins = by (eqb (r % 496) 128) (eqb (r % 8) 0)
  where
    pmap : Grows eof (map_page 0x83 0xff (region_end r + 512))
    pmap = page-grows eof r 0x83 0xff (region_end r + 512) begins (omega arith) (omega arith)

    by : (a b : Bool) → AllGrow eof (if a then map_page 0x83 0xff (region_end r + 512) ∷ (map_page 0x82 0xff (region_end r + 1024) ∷ []) else (if b then map_page 0x83 0xff (region_end r + 512) ∷ [] else []))
    by true b = (pmap, (page-grows eof r 0x82 0xff (region_end r + 1024) begins (omega arith) (omega arith), tt))
    by false true = (pmap, tt)
    by false false = tt

new-grow : (eof r : ℕ) → AllGrow eof (new_pages eof r)
new-grow eof r = by (leb eof (region_end r)) (leb-true eof (region_end r))
  where
    by : (b : Bool) → (b ≡ true → eof ≤ region_end r) → AllGrow eof (if b then fixed_pages r else [])
    by true begins = (page-grows eof r 0x84 0 (region_end r) (begins refl) (omega arith) (omega arith), further-grow eof r (begins refl))
    by false begins = tt

pub regions-grow : (eof from n : ℕ) → regions_in eof ≤ from → AllGrow eof (regions_from eof from n)
unfolding regions_from
regions-grow eof from zero le = tt
regions-grow eof from (suc n) le =
    grow-append eof (regions_from eof from n) (new_pages eof (from + n) ++ last_byte (from + n) ∷ []) (regions-grow eof from n le)
    (grow-append eof (new_pages eof (from + n)) (last_byte (from + n) ∷ []) (new-grow eof (from + n)) (record { region = from + n; past = omega (arith, le); what = inl (refl, refl) }, tt))

pub all-grow : (eof end : ℕ) → AllGrow eof (growth_of eof end)
unfolding growth_of
all-grow eof end = regions-grow eof (regions_in eof) (regions_in end - regions_in eof) (omega arith)

-- ---- the file's end

ends-later : (eof : ℕ) (xs ys : List Piece) → EndsAt eof ys → EndsAt eof (xs ++ ys)
ends-later eof [] ys e = e
ends-later eof (x ∷ xs) ys e = inr (ends-later eof xs ys e)

regions-end : (eof from n : ℕ) → EndsAt (region_end (from + n + 1)) (regions_from eof from (suc n))
unfolding regions_from
regions-end eof from n =
    let r : ℕ = from + n in
    ends-later (region_end (r + 1)) (regions_from eof from n) (new_pages eof r ++ last_byte r ∷ []) (ends-later (region_end (r + 1)) (new_pages eof r) (last_byte r ∷ []) (inl (omega arith)))

pub growth-ends : (eof end : ℕ) → 17408 < eof → end ≡ region_end (regions_in end) → eof < end → EndsAt end (growth_of eof end)
unfolding growth_of
growth-ends eof end low whole lt =
    let m : ℕ = regions_in end - regions_in eof - 1 in
    let a : suc m ≡ regions_in end - regions_in eof = omega (arith, low, whole, lt) in
    let b : regions_in eof + m + 1 ≡ regions_in end = omega (arith, low, whole, lt) in
    let e : region_end (regions_in eof + m + 1) ≡ end = ap region_end b ∙ sym whole in
    subst (λ (n : ℕ). EndsAt n (regions_from eof (regions_in eof) (regions_in end - regions_in eof))) e (subst (λ (n : ℕ). EndsAt (region_end (regions_in eof + m + 1)) (regions_from eof (regions_in eof) n)) a (regions-end eof (regions_in eof) m))

-- ---- how much is written

-- how many bytes pieces have
abbrev pub size_of : List Piece → ℕ
size_of pieces = sum_of (λ (p : Piece). length p.bytes) pieces

size-append : (xs ys : List Piece) → size_of (xs ++ ys) ≡ size_of xs + size_of ys
size-append [] ys = omega arith
size-append (x ∷ xs) ys = let e = size-append xs ys in omega (arith, e)

further-size : (r : ℕ) → size_of (further_pages r) ≤ 1024
further-size r = by (eqb (r % 496) 128) (eqb (r % 8) 0)
  where
    by : (a b : Bool) → size_of (if a then map_page 0x83 0xff (region_end r + 512) ∷ (map_page 0x82 0xff (region_end r + 1024) ∷ []) else (if b then map_page 0x83 0xff (region_end r + 512) ∷ [] else [])) ≤ 1024
    by true b = let x = length-map_page 0x83 0xff (region_end r + 512) in let y = length-map_page 0x82 0xff (region_end r + 1024) in omega (arith, x, y)
    by false true = let x = length-map_page 0x83 0xff (region_end r + 512) in omega (arith, x)
    by false false = omega arith

new-size : (eof r : ℕ) → size_of (new_pages eof r) ≤ 1536
new-size eof r = by (leb eof (region_end r))
  where
    by : (b : Bool) → size_of (if b then fixed_pages r else []) ≤ 1536
    by true = let x = length-map_page 0x84 0 (region_end r) in let y = further-size r in omega (arith, x, y)
    by false = omega arith

regions-size : (eof from n : ℕ) → size_of (regions_from eof from n) ≤ 1537 * n
unfolding regions_from
regions-size eof from zero = omega arith
regions-size eof from (suc n) =
    let r : ℕ = from + n in
    let a = size-append (regions_from eof from n) (new_pages eof r ++ last_byte r ∷ []) in
    let b = size-append (new_pages eof r) (last_byte r ∷ []) in
    let c = regions-size eof from n in
    let d = new-size eof r in
    omega (arith, a, b, c, d)

pub growth-size : (eof end : ℕ) → size_of (growth_of eof end) ≤ 1537 * (regions_in end - regions_in eof)
unfolding growth_of
growth-size eof end = regions-size eof (regions_in eof) (regions_in end - regions_in eof)
