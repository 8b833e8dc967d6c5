-- What makes a file longer is clear of all that stands in it.
use Rattle.std.proofs.Common.{◌⊎◌, inl, inr, ℕ, zero, suc, ◌+◌, ◌*◌, ◌<◌, ◌≤◌, List, [], ◌∷◌, ◌++◌, length, arith}
use Rattle.pst_base.specs.declared.places.Place.{Place}
use Rattle.alloc_map.specs.Slots.{start_of}
use Rattle.alloc_map.specs.Standing.{amap_places, standing}
use Rattle.file_layout.specs.Nodes.{regions_to}
use Rattle.file_layout.specs.Trees.{IsPlace}
use Rattle.lays_kept.specs.declared.Piece.{Piece}
use Rattle.lays_kept.specs.Kept.{Each, IsClear, HoldsEach}
use Rattle.lays_kept.proofs.Places.{each_append}
use Rattle.node_layout.specs.Growth.{region_end, Grows, AllGrow, EndsAt}

-- beyond all that ends at or before eof
clear-before : (eof at n : ℕ) (growth : List Piece) → at + n ≤ eof → AllGrow eof growth → IsClear growth at n
clear-before eof at n [] le all = tt
clear-before eof at n (p ∷ ps) le all = (inl (by all.0), clear-before eof at n ps le all.1)
  where
    by : Grows eof p → at + n ≤ p.at
    by g = let past = g.past in elim g.what [ inl last ↦ let a = last.0 in omega (arith, le, past, a) | inr pages ↦ let a = pages.0 in let b = pages.1 in omega (arith, le, a, b) ]

-- and beside the AMap pages of the regions that begin before eof
clear-amap : (eof r : ℕ) (growth : List Piece) → region_end r < eof → AllGrow eof growth → IsClear growth (start_of (3968 * r)) 512
clear-amap eof r [] lt all = tt
clear-amap eof r (p ∷ ps) lt all = (by all.0, clear-amap eof r ps lt all.1)
  where
    by : Grows eof p → (start_of (3968 * r) + 512 ≤ p.at) ⊎ (p.at + length p.bytes ≤ start_of (3968 * r))
    by g = let past = g.past in elim g.what [ inl last ↦ inl (let a = last.0 in omega (arith, lt, past, a)) | inr pages ↦ inl (let a = pages.0 in let b = pages.1 in omega (arith, lt, a, b)) ]

clear-amaps : (eof n : ℕ) (growth : List Piece) → n ≤ regions_to eof → 17408 < eof → AllGrow eof growth → Each (λ p. IsClear growth p.ib p.len) (amap_places n)
unfolding amap_places
clear-amaps eof zero growth le some all = tt
clear-amaps eof (suc r) growth le some all = (clear-amap eof r growth (omega (arith, le, some)) all, clear-amaps eof r growth (omega (arith, le)) some all)

clear-places : (eof : ℕ) (growth : List Piece) (ps : List Place) → Each (IsPlace eof) ps → AllGrow eof growth → Each (λ p. IsClear growth p.ib p.len) ps
clear-places eof growth [] places all = tt
clear-places eof growth (p ∷ ps) places all = (clear-before eof p.ib p.len growth (places.0).before all, clear-places eof growth ps places.1 all)

-- growth meets nothing of the file
pub growth-beside : (eof : ℕ) (growth : List Piece) (ps : List Place) → 17408 < eof → AllGrow eof growth → Each (IsPlace eof) ps → IsClear growth 0 564 × Each (λ p. IsClear growth p.ib p.len) (standing ps (regions_to eof))
growth-beside eof growth ps some all places = (
  clear-before eof 0 564 growth (omega (arith, some)) all,
  each_append (λ p. IsClear growth p.ib p.len) ps (amap_places (regions_to eof)) (clear-places eof growth ps places all) (clear-amaps eof (regions_to eof) growth (omega arith) some all),
)

-- the file is as long as its new end, where a last byte was written there
pub grown-long : (eof : ℕ) (mid : List ℕ) (growth planned : List Piece) → EndsAt eof growth → HoldsEach mid (growth ++ planned) → eof ≤ length mid
grown-long eof mid [] planned ends holds = absurd ends
grown-long eof mid (p ∷ growth) planned (inl here) holds = let a = holds.0 in omega (arith, here, a)
grown-long eof mid (p ∷ growth) planned (inr later) holds = grown-long eof mid growth planned later holds.2
