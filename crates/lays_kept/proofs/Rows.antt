-- Places of pages are counted one by one.
use Rattle.std.proofs.Common.{◌≡◌, ℕ, List, [], ◌∷◌, ◌++◌, map, arith, ◌+◌}
use Rattle.pst_base.specs.declared.ids.Bref.{Bref}
use Rattle.alloc_map.specs.Tally.{tally}
use Rattle.file_layout.specs.Trees.{page_place}

pub pages_tally : (slot : ℕ) (xs ys : List Bref) → tally slot (map page_place (xs ++ ys)) ≡ tally slot (map page_place xs) + tally slot (map page_place ys)
pages_tally slot [] ys = omega arith
pages_tally slot (x ∷ xs) ys = let h = pages_tally slot xs ys in omega (arith, h)
