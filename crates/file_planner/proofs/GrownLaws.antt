-- The fixed pages of new regions, in the file that has a plan's pieces.
use Rattle.std.proofs.Common.{Bool, true, false, ◌≡◌, ◌∙◌, ◌⊎◌, inl, inr, ℕ, zero, suc, ◌+◌, ◌-◌, ◌*◌, ◌/◌, ◌%◌, ◌^◌, ◌<◌, ◌≤◌, ◌&&◌, eqb, leb, List, [], ◌∷◌, ◌++◌, length, map, take, drop, Option, refl, sym, ap, subst, arith, if◌then◌else◌, append_assoc}
use Rattle.std.proofs.lemmas.Bool.{cases_lt, le-leb}
use Rattle.pst_base.specs.declared.ids.Nid.{Nid}
use Rattle.pst_base.specs.declared.places.Place.{Place}
use Rattle.pst_header.specs.declared.header.Header.{Header}
use Rattle.alloc_map.specs.Covered.{Once}
use Rattle.alloc_map.specs.Slots.{slot_of, slots_in}
use Rattle.alloc_map.specs.Standing.{SomeCovers, fixed_place, fixed_places, fixed_slots}
use Rattle.alloc_map.specs.Tally.{one_at, tally}
use Rattle.alloc_map.proofs.CoverLaws.{covers_last, fixed_slots_small, fixed_slots_some}
use Rattle.alloc_map.proofs.TallyLaws.{tally_append}
use Rattle.file_layout.specs.Nodes.{Lays, NodeMap, places_of}
use Rattle.lays_kept.specs.declared.Piece.{Piece}
use Rattle.lays_kept.specs.Kept.{Each as EachPlace, HoldsEach, IsClear, Scattered}
use Rattle.lays_kept.proofs.Beside.{IsWhole}
use Rattle.lays_kept.proofs.Renewed.{behind}
use Rattle.node_layout.specs.Growth.{region_end}
use Rattle.node_layout.specs.Lookups.{Each}
use Rattle.node_layout.specs.Pieces.{AreApart, EachStands, piece_place}
use Rattle.node_layout.proofs.PieceLaws.{pieces-beside}
use Rattle.node_port.specs.declared.node.NodeRec.{NodeRec}
use Rattle.plan_pieces.specs.Growth.{fixed_pages, further_pages, growth_of, last_byte, map_page, new_pages, regions_from, regions_in}
use Rattle.plan_pieces.proofs.GrowLaws.{length-map_page}
use Rattle.plan_drawing.specs.declared.effects.PlanEffects.{PlanEffects}
use Rattle.plan_drawing.specs.Drawn.{IsDrawn}
use Rattle.plan_placing.specs.Known.{IsKnown}
use Rattle.file_planner.specs.Holding.{IsOver}
use Rattle.file_planner.proofs.AfterLaws.{taken-free}
use Rattle.file_planner.proofs.DrawnLaws
use Rattle.file_planner.proofs.PlacedLaws.{laid-wholes}
use Rattle.file_planner.proofs.SlotLaws.{fixed-covers, fixed-here, one-covers, once-of, tally-none, tally-of}

-- ---- pieces

clear-both : (xs ys : List Piece) (at n : ℕ) → IsClear xs at n → IsClear ys at n → IsClear (xs ++ ys) at n
clear-both [] ys at n a b = b
clear-both (x ∷ xs) ys at n a b = (a.0, clear-both xs ys at n a.1 b)

clear-within : (ps : List Piece) (at n from len : ℕ) → at ≤ from → from + len ≤ at + n → IsClear ps at n → IsClear ps from len
clear-within [] at n from len low high clear = tt
clear-within (p ∷ ps) at n from len low high clear = (
  elim clear.0 [ inl a ↦ inl (omega (arith, a, high)) | inr a ↦ inr (omega (arith, a, low)) ],
  clear-within ps at n from len low high clear.1,
)

-- pieces from a place on are clear of what ends before it
clear-before : (ps : List Piece) (end at n : ℕ) → at + n ≤ end → Each (λ (p : Piece). end ≤ p.at) ps → IsClear ps at n
clear-before [] end at n le all = tt
clear-before (p ∷ ps) end at n le all = (let a = all.0 in inl (omega (arith, a, le)), clear-before ps end at n le all.1)

holds-later : (file : List ℕ) (front rest : List Piece) → HoldsEach file (front ++ rest) → HoldsEach file rest
holds-later file [] rest holds = holds
holds-later file (p ∷ front) rest holds = holds-later file front rest holds.2

-- pieces that are apart, and clear of those behind, stand once all are written
front-stand : (file : List ℕ) (ps rest : List Piece) → HoldsEach file (ps ++ rest) → AreApart ps → Each (λ (p : Piece). IsClear rest p.at (length p.bytes)) ps → EachStands file ps
front-stand file [] rest holds apart clear = tt
front-stand file (p ∷ ps) rest holds apart clear = (holds.1 (clear-both ps rest p.at (length p.bytes) apart.0 clear.0), front-stand file ps rest holds.2 apart.1 clear.1)

each-as : (P Q : Piece → Type 0) (ps : List Piece) → ((p : Piece) → P p → Q p) → Each P ps → Each Q ps
each-as P Q [] step all = tt
each-as P Q (p ∷ ps) step all = (step p all.0, each-as P Q ps step all.1)

each-join : (P : Piece → Type 0) (xs ys : List Piece) → Each P xs → Each P ys → Each P (xs ++ ys)
each-join P [] ys a b = b
each-join P (x ∷ xs) ys a b = (a.0, each-join P xs ys a.1 b)

-- ---- fixed pages

-- a piece stands within so many bytes from a region's start on
abbrev pub IsWithin : ℕ → ℕ → Piece → Type 0
IsWithin r n p = (region_end r ≤ p.at) × (p.at + length p.bytes ≤ region_end r + n)

fixed-are : (r : ℕ) → Each (IsWithin r (64 * fixed_slots r)) (fixed_pages r) × AreApart (fixed_pages r)
unfolding map_page
fixed-are r = by (eqb (r % 496) 128) (eqb (r % 8) 0)
  where
    amap : length (map_page 0x84 0 (region_end r)).bytes ≡ 512
    amap = length-map_page 0x84 0 (region_end r)

    pmap : length (map_page 0x83 0xff (region_end r + 512)).bytes ≡ 512
    pmap = length-map_page 0x83 0xff (region_end r + 512)

    fmap : length (map_page 0x82 0xff (region_end r + 1024)).bytes ≡ 512
    fmap = length-map_page 0x82 0xff (region_end r + 1024)

    by : (a b : Bool) → Each (IsWithin r (64 * (if a then 24 else (if b then 16 else 8)))) (map_page 0x84 0 (region_end r) ∷ (if a then map_page 0x83 0xff (region_end r + 512) ∷ (map_page 0x82 0xff (region_end r + 1024) ∷ []) else (if b then map_page 0x83 0xff (region_end r + 512) ∷ [] else [])))
        × AreApart (map_page 0x84 0 (region_end r) ∷ (if a then map_page 0x83 0xff (region_end r + 512) ∷ (map_page 0x82 0xff (region_end r + 1024) ∷ []) else (if b then map_page 0x83 0xff (region_end r + 512) ∷ [] else [])))
    by true b = (
      ((omega arith, omega (arith, amap)), ((omega arith, omega (arith, pmap)), ((omega arith, omega (arith, fmap)), tt))),
      ((inl (omega (arith, amap)), (inl (omega (arith, amap)), tt)), ((inl (omega (arith, pmap)), tt), (tt, tt))),
    )
    by false true = (((omega arith, omega (arith, amap)), ((omega arith, omega (arith, pmap)), tt)), ((inl (omega (arith, amap)), tt), (tt, tt)))
    by false false = (((omega arith, omega (arith, amap)), tt), (tt, tt))

-- the new pages of a region stand from its start on
new-high : (eof r : ℕ) → Each (λ (p : Piece). region_end r ≤ p.at) (new_pages eof r)
new-high eof r = by (leb eof (region_end r))
  where
    by : (b : Bool) → Each (λ (p : Piece). region_end r ≤ p.at) (if b then fixed_pages r else [])
    by true = each-as (IsWithin r (64 * fixed_slots r)) (λ (p : Piece). region_end r ≤ p.at) (fixed_pages r) (λ p is. is.0) (fixed-are r).0
    by false = tt

-- ---- the regions of a file that grows

-- the pieces of one region among those of all, with those before it and those behind, which stand from its end on
record Splits (eof from n k : ℕ) : Type 0 where
  front : List Piece
  tail : List Piece
  are : regions_from eof from n ≡ front ++ (new_pages eof (from + k) ++ (last_byte (from + k) ∷ tail))
  later : Each (λ (p : Piece). region_end (from + k + 1) ≤ p.at) tail

splits : (eof from n k : ℕ) → k < n → Splits eof from n k
unfolding regions_from
splits eof from zero k lt = absurd (omega (arith, lt))
splits eof from (suc n) k lt = elim (cases_lt k n) [
  | inl less ↦
      let s = splits eof from n k less in
      let more : List Piece = new_pages eof (from + n) ++ last_byte (from + n) ∷ [] in
      let P : Piece → Type 0 = λ (p : Piece). region_end (from + k + 1) ≤ p.at in
      record {
        front = s.front;
        tail = s.tail ++ more;
        are =
            ap (λ (l : List Piece). l ++ more) s.are
            ∙ append_assoc s.front (new_pages eof (from + k) ++ (last_byte (from + k) ∷ s.tail)) more
            ∙ ap (λ (l : List Piece). s.front ++ l) (append_assoc (new_pages eof (from + k)) (last_byte (from + k) ∷ s.tail) more);
        later = each-join P s.tail more s.later
            (each-join P (new_pages eof (from + n)) (last_byte (from + n) ∷ []) (each-as (λ (p : Piece). region_end (from + n) ≤ p.at) P (new_pages eof (from + n)) (λ p le. omega (arith, le, less)) (new-high eof (from + n))) (omega (arith, less), tt));
      }
  | inr past ↦
      let same : n ≡ k = omega (arith, past, lt) in
      record {
        front = regions_from eof from n;
        tail = [];
        are = ap (λ (i : ℕ). regions_from eof from n ++ (new_pages eof (from + i) ++ (last_byte (from + i) ∷ []))) same;
        later = tt;
      }
]

growth-splits : (eof end r : ℕ) → eof ≤ region_end r → region_end (r + 1) ≤ end → (front tail : List Piece) × (growth_of eof end ≡ front ++ (fixed_pages r ++ (last_byte r ∷ tail))) × Each (λ (p : Piece). region_end (r + 1) ≤ p.at) tail
unfolding growth_of
growth-splits eof end r begins ends =
    let from : ℕ = regions_in eof in
    let k : ℕ = r - from in
    let low : from ≤ r = omega (arith, begins) in
    let lt : k < regions_in end - from = omega (arith, begins, ends, low) in
    let here : from + k ≡ r = omega (arith, low) in
    let s = splits eof from (regions_in end - from) k lt in
    let pages : new_pages eof r ≡ fixed_pages r = rw (le-leb eof (region_end r) begins) refl in (
      s.front,
      s.tail,
      s.are ∙ ap (λ (i : ℕ). s.front ++ (new_pages eof i ++ (last_byte i ∷ s.tail))) here ∙ ap (λ (l : List Piece). s.front ++ (l ++ (last_byte r ∷ s.tail))) pages,
      subst (λ (i : ℕ). Each (λ (p : Piece). region_end (i + 1) ≤ p.at) s.tail) here s.later,
    )

-- ---- the file

module _ {header : Header} {file : List ℕ} {m : NodeMap} (is : Lays header file m) {slots all : List Bool} {counts : ℕ → ℕ} {pages block page : ℕ} {cs : List (Nid × Option NodeRec)} {pieces : List Piece} {sealed : List ℕ} {next : Header} {e : PlanEffects} (known : IsKnown is slots counts pages block page) (over : IsOver slots all) (low : block < 2 ^ 61) (d : IsDrawn is all counts pages block page cs pieces sealed next e) where
  abbrev drawn : List Piece
  drawn = DrawnLaws.drawn_pieces is known over low d

  abbrev new_places : List Place
  new_places = DrawnLaws.new_places is known over low d

  -- no new page or block meets a region's fixed pages
  fixed-clear : (r : ℕ) → r < 8192 → IsClear drawn (region_end r) (64 * fixed_slots r)
  fixed-clear r few =
      let small = fixed_slots_small r in
      let p : Place = fixed_place r in
      let taken = (DrawnLaws.own is known over low d).1 in
      let at = DrawnLaws.places-at is known over low d in
      let wholes : EachPlace IsWhole (map piece_place drawn) = subst (EachPlace IsWhole) (sym at) (laid-wholes 8192 new_places (DrawnLaws.new-laid is known over low d)) in
      let whole : IsWhole p = record { above = omega arith; start = omega arith; whole = omega arith; some = let many = fixed_slots_some r in omega (arith, many) } in
      let once : Once (map piece_place drawn ++ p ∷ []) = once-of (map piece_place drawn ++ p ∷ []) (λ slot.
      let a = tally_append slot (map piece_place drawn) (p ∷ []) in
      let b = ap (tally slot) at in
      let own = tally-of new_places taken.once slot in
      elim (cases_lt 0 (one_at slot p)) [
        | inl some ↦
            let c = one-covers p slot (omega (arith, some)) in
            let begins = c.begins in
            let ends = c.ends in
            let fixed = fixed-here r slot (omega (arith, begins)) (omega (arith, ends)) in
            let there : SomeCovers (fixed_places 8192) slot = fixed-covers 8192 slot fixed (omega (arith, ends, few, small)) in
            let none = tally-none new_places slot (λ o. taken-free (places_of is.blocks is.nodes) new_places slots (DrawnLaws.own is known over low d).0 known.size known.used taken (DrawnLaws.new-laid is known over low d) slot o (covers_last (places_of is.blocks is.nodes) (fixed_places 8192) slot there)) in
            let most = one-most p slot in
            omega (arith, a, b, none, most)
        | inr none ↦ omega (arith, a, b, own, none)
      ]) in
      let same : p.ib ≡ region_end r = omega arith in
      subst (λ (at : ℕ). IsClear drawn at (64 * fixed_slots r)) same (pieces-beside drawn (p ∷ []) wholes (whole, tt) once).0
    where
      one-most : (p : Place) (slot : ℕ) → one_at slot p ≤ 1
      one-most p slot = by (leb (slot_of p.ib) slot) (leb (suc slot) (slot_of p.ib + slots_in p))
        where
          by : (a b : Bool) → (if a && b then 1 else 0) ≤ 1
          by true true = omega arith
          by true false = omega arith
          by false b = omega arith

  module _ (mid : List ℕ) (holds : HoldsEach mid (d.growth ++ drawn)) where
    -- each region that begins at or past the old end has its fixed pages
    pub grown : (r : ℕ) → header.eof ≤ region_end r → region_end (r + 1) ≤ next.eof → EachStands (sealed ++ drop 564 mid) (fixed_pages r)
    grown r begins ends =
        let s = growth-splits header.eof next.eof r begins ends in
        let few : r < 8192 = let most = d.few in omega (arith, ends, most) in
        let rest : List Piece = last_byte r ∷ (s.1 ++ drawn) in
        let are : d.growth ++ drawn ≡ s.0 ++ (fixed_pages r ++ rest) =
        ap (λ (l : List Piece). l ++ drawn) (d.growth_is ∙ s.2) ∙ append_assoc s.0 (fixed_pages r ++ (last_byte r ∷ s.1)) drawn ∙ ap (λ (l : List Piece). s.0 ++ l) (append_assoc (fixed_pages r) (last_byte r ∷ s.1) drawn) in
        let later = holds-later mid s.0 (fixed_pages r ++ rest) (subst (HoldsEach mid) are holds) in
        let small = fixed_slots_small r in
        let fixed = fixed-are r in
        let clear : Each (λ (p : Piece). IsClear rest p.at (length p.bytes)) (fixed_pages r) = each-as (IsWithin r (64 * fixed_slots r)) (λ (p : Piece). IsClear rest p.at (length p.bytes)) (fixed_pages r)
        (λ p within.
        let high = within.1 in (
          inl (omega (arith, high, small)),
          clear-both s.1 drawn p.at (length p.bytes) (clear-before s.1 (region_end (r + 1)) p.at (length p.bytes) (omega (arith, high, small)) s.3) (clear-within drawn (region_end r) (64 * fixed_slots r) p.at (length p.bytes) within.0 within.1 (fixed-clear r few)),
        )) fixed.0 in
        stand-on (fixed_pages r) (each-as (IsWithin r (64 * fixed_slots r)) (λ (p : Piece). 564 ≤ p.at) (fixed_pages r) (λ p within. let a = within.0 in omega (arith, a)) fixed.0) (front-stand mid (fixed_pages r) rest later fixed.1 clear)
      where
        stand-on : (ps : List Piece) → Each (λ (p : Piece). 564 ≤ p.at) ps → EachStands mid ps → EachStands (sealed ++ drop 564 mid) ps
        stand-on [] high stands = tt
        stand-on (p ∷ ps) high stands = (behind sealed mid p.at (length p.bytes) d.size high.0 ∙ stands.0, stand-on ps high.1 stands.1)
