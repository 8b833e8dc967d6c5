-- A plan beside the places of a file keeps the file's nodes while it is written.
use Rattle.std.proofs.Common.{Bool, ◌≡◌, ◌∙◌, inl, inr, ℕ, ◌+◌, ◌*◌, ◌≤◌, List, length, take, drop, sym, ap, subst, arith, ⊎_elim, length-drop}
use Rattle.std.proofs.lemmas.List.{length-take}
use Rattle.pst_base.specs.declared.places.Place.{Place}
use Rattle.pst_header.specs.declared.header.Header.{Header}
use Rattle.pst_header.specs.Format.{reading}
use Rattle.alloc_map.specs.Slots.{start_of}
use Rattle.alloc_map.specs.Standing.{standing, amap_places}
use Rattle.alloc_map.specs.Maps.{IsMapPage}
use Rattle.node_port.specs.Nodes.{Nodes}
use Rattle.file_layout.specs.Nodes.{places_of, regions_to}
use Rattle.lays_kept.specs.declared.Piece.{Piece}
use Rattle.lays_kept.specs.Kept.{Each, IsClear, HoldsEach, Scattered}
use Rattle.lays_kept.proofs.Kept.{each_front, each_back, lays_kept}
use Rattle.lays_kept.proofs.Places.{lays_places, scattered_same, each_amap}
use Rattle.lays_kept.specs.Stands.{Maps, FileStands, Commits, IsPlan}

-- the map page of a region stays
page_kept : (pieces : List Piece) (old new : List ℕ) (r : ℕ) (used : List Bool) → Scattered pieces old new → IsClear pieces (start_of (3968 * r)) 512
    → IsMapPage used r (take 512 (drop (start_of (3968 * r)) old)) → IsMapPage used r (take 512 (drop (start_of (3968 * r)) new))
page_kept pieces old new r used writes clear is =
    let at : ℕ = start_of (3968 * r) in
    let size : length (take 512 (drop at old)) ≡ 512 = is.sealed.0 in
    let within : at + 512 ≤ length old = omega (arith, size, length-take 512 (drop at old), length-drop at old) in
    subst (IsMapPage used r) (sym (writes.same at 512 within clear)) is

-- the maps stay right
maps_kept : (pieces : List Piece) (header : Header) (old new : List ℕ) (places : List Place) → Scattered pieces old new
    → Each (λ p. IsClear pieces p.ib p.len) (amap_places (regions_to header.eof)) → Maps header old places → Maps header new places
maps_kept pieces header old new places writes clear is = record {
  used = is.used;
  size = is.size;
  exact = is.exact;
  pages = λ r lt. page_kept pieces old new r is.used writes (each_amap (λ p. IsClear pieces p.ib p.len) (regions_to header.eof) r lt clear) (is.pages r lt);
  free = is.free;
  last = is.last;
}

-- what stands for nodes stands for them still
pub file_kept : (found old new : List ℕ) (pieces : List Piece) (N : Nodes) (last : List ℕ) (is : FileStands found old N last) → IsClear pieces 0 564
    → Each (λ p. IsClear pieces p.ib p.len) (standing (places_of is.lays.blocks is.lays.nodes) (regions_to is.header.eof)) → Scattered pieces old new → FileStands found new N last
file_kept found old new pieces N last is front beside writes =
    let header : Header = is.header in
    let places : List Place = places_of is.lays.blocks is.lays.nodes in
    let C : Place → Type 0 = λ p. IsClear pieces p.ib p.len in
    let fixed : List Place = amap_places (regions_to header.eof) in
    let head : take 564 new ≡ take 564 old = writes.same 0 564 is.long front in
    let same = scattered_same pieces old new header.eof writes is.lays.long_enough places (lays_places header old is.m is.lays) (each_front C places fixed beside) in
    record {
      header = header;
      long = omega (arith, is.long, writes.longer);
      read = ap reading head ∙ is.read;
      m = is.m;
      those = is.those;
      counters = is.counters;
      lays = lays_kept header old new is.m is.lays (omega (arith, is.lays.long_enough, writes.longer)) same;
      maps = ⊎_elim inl (λ more. inr (⊎_elim
          (λ two. inl (two.0, maps_kept pieces header old new places writes (each_back C places fixed beside) two.1))
          (λ is_found. inr (head ∙ is_found)) more)) is.maps;
    }

-- what a plan gives is what a commit needs
pub plan_commits : {found bytes header : List ℕ} {pieces : List Piece} {N M : Nodes} {last next : List ℕ} → IsPlan found bytes pieces header N last M next → Commits found (Scattered pieces bytes) (λ new. HoldsEach new pieces) header N last M next
plan_commits {found} {bytes} {header} {pieces} {N} {M} {last} {next} plan = record {
  keeps = λ new writes. file_kept found bytes new pieces N last plan.stands plan.front plan.beside writes;
  makes = plan.makes;
}
