-- A region's map page is the only one.
use Rattle.std.proofs.Common.{◌≡◌, ◌<◌, ◌*◌, ℕ, Bool, List, length, get_or, take, drop, sym, ap, subst, ◌∙◌, inl, inr, arith}
use Rattle.std.proofs.lemmas.Bool.{cases_lt}
use Rattle.std.proofs.lemmas.List.{length-take-le, get_or-take, get_or_past}
use Rattle.page_frame.specs.Page.{IsPage}
use Rattle.page_frame.proofs.PageLaws.{passed-reading}
use Rattle.alloc_map.specs.Maps.{IsMapPage, map_place}
use Rattle.alloc_map.specs.Packed.{bits_of}
use Rattle.alloc_map.proofs.BitLaws.{same_from_bits_of}

pub map_body : (used : List Bool) (r : ℕ) (body page : List ℕ) → length body ≡ 496 → ((i : ℕ) → get_or body i 0 < 256) → bits_of body ≡ take 3968 (drop (3968 * r) used) → IsMapPage used r page → ((i : ℕ) → get_or page i 0 < 256) → IsPage 0x84 (map_place r) body page
map_body used r body page len small bits map range =
    let content = (passed-reading 0x84 (map_place r) page map.body map.sealed.1).1 in
    let size : length map.body ≡ 496 = ap length (sym content) ∙ length-take-le 496 page (omega (arith, map.sealed.0)) in
    let bytes : (i : ℕ) → get_or map.body i 0 < 256 = λ i. elim (cases_lt i 496) [
      | inl lt ↦ omega (arith, ap (λ (xs : List ℕ). get_or xs i 0) content, get_or-take 496 page i 0 lt, range i)
      | inr ge ↦ omega (arith, get_or_past map.body i 0 (omega arith))
    ] in
    let same : map.body ≡ body = same_from_bits_of map.body body (size ∙ sym len) bytes small (map.bits ∙ sym bits) in
    subst (λ (x : List ℕ). IsPage 0x84 (map_place r) x page) same map.sealed
